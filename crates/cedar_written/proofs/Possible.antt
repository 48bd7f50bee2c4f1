-- SPDX-License-Identifier: Apache-2.0
-- The possibilities of a name, one by one.
use Rattle.std.proofs.Common.{◌≡◌, List, [], ◌∷◌, Option, Some, None, refl, sym, ap, ◌∙◌}
use Rattle.cedar_print.specs.of_text.declared.location.Loc.{Loc}
use Rattle.cedar_print.specs.of_text.declared.non_empty.NonEmpty.{NonEmpty}
use Rattle.cedar_print.specs.of_names.Components.{internal_name, qualified, qualified_in}
use Rattle.cedar_print.specs.of_names.declared.id.Id.{Id}
use Rattle.cedar_print.specs.of_names.declared.internal_name.InternalName.{InternalName}
use Rattle.cedar_written.specs.Possibilities.{conditional, conditional_in, ids_of, leading, possibilities, possibilities_in, reference, written}
use Rattle.cedar_written.specs.declared.raw_name.RawName.{RawName}
use Rattle.cedar_written.specs.declared.reference_type.ReferenceType.{ReferenceType}

first_of : (ns : Option InternalName) (basename : Id) (ids : List Id) (loc : Option Loc) → (possibilities ns (internal_name basename ids loc)).head ≡ qualified (internal_name basename ids loc) ns
first_of None basename ids loc = refl
first_of (Some ns) basename [] loc = refl
first_of (Some ns) basename (id ∷ ids) loc = refl

-- the first possibility is the qualified name
pub possibilities-first : (ns : Option InternalName) (n : InternalName) → (possibilities ns n).head ≡ qualified n ns
possibilities-first ns n = first_of ns n.basename n.namespace n.loc

first_in : (outer : Option (List Id)) (basename : Id) (ids : List Id) (loc : Option Loc) → (possibilities_in outer (internal_name basename ids loc)).head ≡ qualified_in (internal_name basename ids loc) outer
first_in None basename ids loc = refl
first_in (Some outer) basename [] loc = refl
first_in (Some outer) basename (id ∷ ids) loc = refl

-- the possibilities, from the first one and the others
pub possibilities-from : (outer : Option (List Id)) (n head : InternalName) (tail : List InternalName) → head ≡ qualified_in n outer → tail ≡ (possibilities_in outer n).tail
    → ◌≡◌ {A = NonEmpty InternalName} (leading head tail) (possibilities_in outer n)
possibilities-from outer n head tail first others i = leading ((first ∙ sym (first_in outer n.basename n.namespace n.loc)) i) (others i)

same_in : (ns : Option InternalName) (basename : Id) (ids : List Id) (loc : Option Loc)
    → possibilities_in (ids_of ns) (internal_name basename ids loc) ≡ possibilities ns (internal_name basename ids loc)
same_in None basename ids loc = refl
same_in (Some ns) basename [] loc = refl
same_in (Some ns) basename (id ∷ ids) loc = refl

-- in the namespace of a name, a name stands for the same as in that of the identifiers of the former
pub conditional-in : (ns : Option InternalName) (outer : Option (List Id)) (kind : ReferenceType) (raw : RawName) → outer ≡ ids_of ns → conditional_in outer kind raw ≡ conditional ns kind raw
conditional-in ns outer kind raw held =
    let n = written raw in
    ap (λ (o : Option (List Id)). conditional_in o kind raw) held ∙ ap (reference raw kind) (same_in ns n.basename n.namespace n.loc)

-- within the identifiers of a name, a name is the same as within that name
pub qualified-in : (ns : Option InternalName) (n : InternalName) → qualified_in n (ids_of ns) ≡ qualified n ns
qualified-in None n = refl
qualified-in (Some ns) n = refl

pub ruleset possible = (possibilities-first, possibilities-from, conditional-in)
