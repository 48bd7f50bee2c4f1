-- SPDX-License-Identifier: Apache-2.0
-- The namespaces of a schema: the named ones as they stand, and one of all declarations that stand in none.
use Rattle.std.specs.Prelude.{◌++◌, List, [], ◌∷◌, map, flat_map, option_map, Option, Some, None}
use Rattle.std.specs.Option.{option_cmp}
use Rattle.std.specs.declared.cmp.Ordering.{Ordering}
use Rattle.cedar_names.specs.Order.{words_cmp}
use Rattle.cedar_tree.specs.Trees.{Node, Text, Path, ByKey, Annotated, Declaration, Schema}
use Rattle.cedar_tree.specs.Meanings.{path_tree, annotations_tree, annotated_tree, node_of, decl_tree}
use Rattle.cedar_convert_faults.specs.declared.gathering.Gathered as gathered

-- declarations with their annotations
abbrev pub Declarations : Type 0
Declarations = List (Annotated (Node Declaration))

-- the declarations of a namespace with its name and annotations; those of the unnamed one have neither
pub record Gathered : Type 0 where
  pub name : Option Path
  pub annotations : ByKey
  pub decls : Declarations

-- a named namespace, as it stands
abbrev pub named : Option Path → ByKey → Declarations → List Gathered
named None annotations decls = []
named (Some path) annotations decls = record { name = Some path; annotations = annotations; decls = decls } ∷ []

-- declarations that stand in no namespace
abbrev pub loose : Option Path → Declarations → Declarations
loose None decls = decls
loose (Some path) decls = []

-- the named namespaces, in the order of the text
abbrev pub named_namespaces : Schema → List Gathered
named_namespaces s = flat_map (λ n. named n.item.name n.annotations n.item.decls) s

-- all declarations that stand in no namespace, in the order of the text
abbrev pub loose_declarations : Schema → Declarations
loose_declarations s = flat_map (λ n. loose n.item.name n.item.decls) s

-- the unnamed namespace, where it has declarations
abbrev pub unnamed : Declarations → List Gathered
unnamed [] = []
unnamed (d ∷ decls) = record { name = None; annotations = []; decls = d ∷ decls } ∷ []

-- the namespaces of a schema: the named ones in the order of the text, and then the unnamed one
abbrev pub namespaces_of : Schema → List Gathered
namespaces_of s = named_namespaces s ++ unnamed (loose_declarations s)

-- a gathered namespace, as a tree
abbrev pub gathered_tree : gathered.Gathered → Gathered
gathered_tree g = record { name = option_map path_tree g.name; annotations = annotations_tree g.annotations; decls = map (annotated_tree (node_of decl_tree)) g.decls }

-- the name of a namespace, where it has one
abbrev pub namespace_name : Gathered → Option (List Text)
namespace_name g = option_map (λ path. path.node) g.name

-- the order of the names of namespaces: the unnamed one first
abbrev pub namespace_cmp : Option (List Text) → Option (List Text) → Ordering
namespace_cmp = option_cmp words_cmp
