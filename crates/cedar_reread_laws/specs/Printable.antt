-- SPDX-License-Identifier: Apache-2.0
-- Which fragments keep what they mean where they are printed in the human syntax and read again. Nothing is asked of the order of
-- maps here: that of each fragment that is held is known (`maps_in_order`).
use Rattle.std.specs.Prelude.{◌≡◌, ◌++◌, ⊤, true, false, IsTrue, List, [], ◌∷◌, IfSome}
use Rattle.std.specs.List.{AllByRecursion}
use Rattle.cedar_text.specs.Words.{has_word, primitive_words}
use Rattle.cedar_tree.specs.Trees.{Text}
use Rattle.cedar_declared.specs.Names.{is_common, is_entity}
use Rattle.cedar_schema_error.specs.FullNames.{FullName}
use Rattle.cedar_written.specs.CommonTypeIds.{is_reserved_basename}
use Rattle.cedar_world.specs.Worlds.{own}
use Rattle.cedar_convert_fragment.specs.Fragments.{ActionContent, AppliesTo, Fragment, NameAt, TypeAt}
use Rattle.cedar_fragment_world.specs.FragmentWorlds.{world_of_fragment}
use Rattle.cedar_reread.specs.Said.{is_empty_shape}

-- principals and resources: both are listed, or neither is and the context is the closed record without attributes
abbrev pub SaysLists : List NameAt → List NameAt → TypeAt → Type 0
SaysLists [] [] context = is_empty_shape context ≡ true
SaysLists [] (resource ∷ resources) context = ⊥
SaysLists (principal ∷ principals) [] context = ⊥
SaysLists (principal ∷ principals) (resource ∷ resources) context = ⊤

abbrev pub SaysApplies : AppliesTo → Type 0
SaysApplies a = SaysLists a.principals a.resources a.context

-- an action of which no `appliesTo` is known, or one that can be said
abbrev pub SaysAction : ActionContent → Type 0
SaysAction a = IfSome a.applies_to SaysApplies

pub record IsPrintable (F : Fragment) (extensions : List Text) : Type 0 where
  -- no full name is both an entity type and a common type
  pub one_kind : (name : FullName) → IsTrue (is_entity (own (world_of_fragment F extensions)) name) → IsTrue (is_common (own (world_of_fragment F extensions)) name) → ⊥
  -- no entity type has the name of a primitive type or of an extension type
  pub no_builtin : AllByRecursion (λ n. AllByRecursion (λ e. has_word (primitive_words ++ extensions) e.0 ≡ false) n.1.entity_types) F
  -- no common type has a reserved name
  pub no_reserved : AllByRecursion (λ n. AllByRecursion (λ e. is_reserved_basename e.0 ≡ false) n.1.common_types) F
  -- each action can be said
  pub actions : AllByRecursion (λ n. AllByRecursion (λ e. SaysAction e.1.content) n.1.actions) F
