-- SPDX-License-Identifier: Apache-2.0
-- Fragments by words and places that may be written, but for shapes and contexts that are words of types.
use Rattle.std.specs.Prelude.{◌≡◌, ⊤, false, List, Option, None, IfSome}
use Rattle.std.specs.List.{AllByRecursion}
use Rattle.cedar_data.specs.Maps.{IsSortedMap}
use Rattle.cedar_names.specs.Order.{word_cmp}
use Rattle.cedar_tree.specs.Trees.{Text}
use Rattle.cedar_written.specs.CommonTypeIds.{is_reserved_basename}
use Rattle.cedar_convert_faults.specs.Gathering.{namespace_cmp}
use Rattle.cedar_convert_fragment.specs.Fragments.{ActionContent, Declared, Definition, EntityContent, Fragment, TypeAt, Shaped, Listed}
use Rattle.cedar_json_schema_laws.specs.Bare.{IsBare}
use Rattle.cedar_json_schema_laws.proofs.SeenTypes.{Fits}
use Rattle.cedar_json_schema_laws.proofs.DeclaredTypes.{ShapeFits}

-- what is declared by a name that may stand there, with its annotations in order
abbrev pub EntryIs : {A : Type 0} → (Text → Type 0) → (A → Type 0) → Text × Declared A → Type 0
EntryIs Key Content e = Key e.0 × Content e.1.content × IsSortedMap word_cmp e.1.annotations

-- any name
abbrev pub AnyKey : Text → Type 0
AnyKey k = ⊤

-- common types
abbrev pub FreeKey : Text → Type 0
FreeKey k = is_reserved_basename k ≡ false

abbrev pub CommonFits : TypeAt → Type 0
CommonFits = Fits 129

-- entity types
abbrev pub EntityFits : EntityContent → Type 0
EntityFits (Shaped parents shape tags) = ShapeFits shape × IfSome tags (Fits 129)
EntityFits (Listed choices) = ⊤

-- actions, which have no attributes
abbrev pub ActionFits : ActionContent → Type 0
ActionFits a = (a.attributes ≡ None) × IfSome a.applies_to (λ applies. ShapeFits applies.context)

-- a namespace
abbrev pub DefinitionFits : Definition → Type 0
DefinitionFits d =
    (IsSortedMap word_cmp d.common_types × AllByRecursion (EntryIs FreeKey CommonFits) d.common_types)
    × (IsSortedMap word_cmp d.entity_types × AllByRecursion (EntryIs AnyKey EntityFits) d.entity_types)
    × (IsSortedMap word_cmp d.actions × AllByRecursion (EntryIs AnyKey ActionFits) d.actions) × IsSortedMap word_cmp d.annotations

-- a namespace with its name
abbrev pub NamespaceFits : Option (List Text) × Definition → Type 0
NamespaceFits n = IsBare n.0 n.1.annotations × DefinitionFits n.1

-- a fragment
abbrev pub FragmentFits : Fragment → Type 0
FragmentFits F = IsSortedMap namespace_cmp F × AllByRecursion NamespaceFits F
