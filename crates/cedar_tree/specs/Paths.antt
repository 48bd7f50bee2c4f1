-- SPDX-License-Identifier: Apache-2.0
use Rattle.std.specs.Prelude.{Bool, false, List, [], ◌∷◌, ◌++◌, map, Some}
use Rattle.cedar_names.specs.Components.{internal_name}
use Rattle.cedar_names.specs.Identifiers.{id_word}
use Rattle.cedar_names.specs.declared.id.Id.{Id}
use Rattle.cedar_names.specs.declared.internal_name.InternalName.{InternalName}
use Rattle.cedar_names.specs.of_text.Words.{is_cedar}
use Rattle.cedar_names.specs.of_text.declared.location.Loc.{Loc}
use Rattle.cedar_names.specs.of_text.declared.node.Node.{Node}
use Rattle.cedar_tree.specs.declared.path.Path.{Path}

-- the path of this basename in this namespace, at this place
abbrev pub path_at : Id → List Id → Loc → Path
path_at basename namespace loc = record { basename = basename; namespace = namespace; loc = loc }

-- the last identifier of a path
abbrev pub path_basename : Path → Id
path_basename p = p.basename

-- the identifiers before the last, outermost first
abbrev pub path_namespace : Path → List Id
path_namespace p = p.namespace

-- the place of a path
abbrev pub path_loc : Path → Loc
path_loc p = p.loc

-- the identifiers of a path, outermost first
abbrev pub path_ids : Path → List Id
path_ids p = p.namespace ++ p.basename ∷ []

-- identifiers, each at this place
abbrev pub ids_at : Loc → List Id → List (Node Id)
ids_at loc ids = map (λ id. record { node = id; loc = loc }) ids

-- the name that a path is, at its place
abbrev pub name_of_path : Path → InternalName
name_of_path p = internal_name p.basename p.namespace (Some p.loc)

-- whether a namespace is `__cedar` alone
abbrev pub in_cedar : List Id → Bool
in_cedar (id ∷ []) = is_cedar (id_word id)
in_cedar _ = false
