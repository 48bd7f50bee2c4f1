-- SPDX-License-Identifier: Apache-2.0
use Rattle.std.specs.Prelude.{ℕ, Bool, List, [], ◌∷◌, ◌++◌, Option, Some, None}
use Rattle.std.specs.List.{list_any}
use Rattle.cedar_names.specs.Identifiers.{id_words}
use Rattle.cedar_text.specs.Words.{is_cedar}
use Rattle.cedar_names.specs.declared.id.Id.{Id}
use Rattle.cedar_names.specs.declared.internal_name.InternalName.{InternalName}
use Rattle.cedar_text.specs.declared.location.Loc.{Loc}

-- the name of this basename in this namespace, at this place
abbrev pub internal_name : Id → List Id → Option Loc → InternalName
internal_name basename namespace loc = record { basename = basename; namespace = namespace; loc = loc }

-- the basename
abbrev pub basename_of : InternalName → Id
basename_of n = n.basename

-- the identifiers of the namespace, outermost first
abbrev pub namespace_of : InternalName → List Id
namespace_of n = n.namespace

-- the place
abbrev pub loc_of : InternalName → Option Loc
loc_of n = n.loc

-- the words of a name: those of its namespace, and then the basename
abbrev pub components : InternalName → List (List ℕ)
components n = id_words (n.namespace ++ n.basename ∷ [])

-- all identifiers of a name, outermost first, the basename last
abbrev pub all_ids : InternalName → List Id
all_ids n = n.namespace ++ n.basename ∷ []

-- some component is `__cedar`
abbrev pub has_cedar : List (List ℕ) → Bool
has_cedar ws = list_any is_cedar ws

-- the name itself where it has a namespace, else the name in this one
abbrev pub in_namespace : List Id → InternalName → List Id → InternalName
in_namespace outer n [] = internal_name n.basename outer n.loc
in_namespace outer n (id ∷ ids) = n

-- the name within the namespace that another name names, where there is one and the name has no namespace
abbrev pub qualified : InternalName → Option InternalName → InternalName
qualified n None = n
qualified n (Some ns) = in_namespace (ns.namespace ++ ns.basename ∷ []) n n.namespace

-- the name within the namespace of these identifiers, where there is one and the name has no namespace
abbrev pub qualified_in : InternalName → Option (List Id) → InternalName
qualified_in n None = n
qualified_in n (Some outer) = in_namespace outer n n.namespace
