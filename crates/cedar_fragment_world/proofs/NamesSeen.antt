-- SPDX-License-Identifier: Apache-2.0
-- Names in a namespace by their words: full names, and references.
use Rattle.std.proofs.Common.{◌≡◌, List, [], ◌∷◌, ◌++◌, map, Option, Some, None, option_map, refl, ap}
use Rattle.std.proofs.lemmas.List.{map-append}
use Rattle.cedar_text.specs.Lists.{elements}
use Rattle.cedar_text.specs.declared.location.Loc.{Loc}
use Rattle.cedar_names.specs.Components.{components, internal_name, qualified}
use Rattle.cedar_names.specs.Identifiers.{id_word}
use Rattle.cedar_names.specs.Names.{internal_of}
use Rattle.cedar_names.specs.declared.id.Id.{Id}
use Rattle.cedar_names.specs.declared.internal_name.InternalName.{InternalName}
use Rattle.cedar_names.specs.declared.name.Name.{Name}
use Rattle.cedar_written.specs.Possibilities as held
use Rattle.cedar_written.specs.Possibilities.{conditional}
use Rattle.cedar_written.specs.declared.raw_name.RawName.{RawName}
use Rattle.cedar_written.specs.declared.reference_type.ReferenceType.{ReferenceType}
use Rattle.cedar_schema_error.specs.FullNames.{FullName}
use Rattle.cedar_schema_error.specs.NameReferences.{reference_of}
use Rattle.cedar_convert_fragment.specs.Views.{name_at, namespace_words}
use Rattle.cedar_fragment_world.specs.FragmentWorlds.{full_name, possibilities, reference}

-- the words of the name of a namespace
abbrev pub words_of : Option InternalName → Option FullName
words_of ns = option_map components ns

pub words_seen : (name : Option Name) → words_of (option_map internal_of name) ≡ namespace_words name
words_seen None = refl
words_seen (Some name) = refl

within : (ns : InternalName) (i : Id) (loc : Option Loc) → components (qualified (internal_name i [] loc) (Some ns)) ≡ components ns ++ id_word i ∷ []
within ns i loc = map-append id_word (ns.namespace ++ ns.basename ∷ []) (i ∷ [])

-- an identifier in a namespace has the full name of its word
pub named : (ns : Option InternalName) (i : Id) (loc : Option Loc) → components (qualified (internal_name i [] loc) ns) ≡ full_name (words_of ns) (id_word i)
named None i loc = refl
named (Some ns) i loc = within ns i loc

possible_in : (ns : Option InternalName) (i : Id) (ids : List Id) (loc : Option Loc)
    → map components (elements (held.possibilities ns (internal_name i ids loc))) ≡ possibilities (words_of ns) (components (internal_name i ids loc))
possible_in None i ids loc = refl
possible_in (Some ns) i [] loc = ap (λ words. words ∷ (id_word i ∷ []) ∷ []) (within ns i loc)
possible_in (Some ns) i (id ∷ []) loc = refl
possible_in (Some ns) i (id ∷ next ∷ ids) loc = refl

-- what a name may stand for is told by its words
pub possible : (ns : Option InternalName) (n : InternalName) → map components (elements (held.possibilities ns n)) ≡ possibilities (words_of ns) (components n)
possible ns n = possible_in ns n.basename n.namespace n.loc

-- so is the reference that it is
pub referred : (ns : Option InternalName) (kind : ReferenceType) (name : RawName) → reference_of (conditional ns kind name) ≡ reference (words_of ns) kind (name_at name)
referred ns kind name = ap (λ names. record { raw = components (held.written name); possibilities = names; kind = kind }) (possible ns (held.written name))
