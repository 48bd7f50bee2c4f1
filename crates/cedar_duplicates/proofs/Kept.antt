-- SPDX-License-Identifier: Apache-2.0
-- The name that an error keeps is one that the definitions declare, under the same words and at the same place.
use Rattle.std.proofs.Common.{◌≡◌, ◌⊎◌, ◌++◌, Bool, List, [], ◌∷◌, fold, map, MatchOption, Option, Some, None, refl, inl, inr, sym, ap, subst}
use Rattle.std.specs.declared.cmp.Ordering.{Ordering}
use Rattle.cedar_names.specs.of_text.declared.location.Loc.{Loc}
use Rattle.cedar_data.specs.Firsts.{FirstAgain, NoneAgain}
use Rattle.cedar_definitions.specs.DeclaredNames.{actions_of, all_actions, all_types, types_of}
use Rattle.cedar_definitions.specs.declared.structures.ValidatorNamespaceDef.{ValidatorNamespaceDef}
use Rattle.cedar_names.specs.Names.{internal_of, name_of}
use Rattle.cedar_names.specs.declared.entity_uid.EntityUID.{EntityUID}
use Rattle.cedar_names.specs.declared.internal_name.InternalName.{InternalName}
use Rattle.cedar_names.specs.declared.name.EntityType as of_entity
use Rattle.cedar_schema_error.specs.FullNames.{FullName, Uid}
use Rattle.cedar_schema_error.specs.KeptDeclarations.{IsAmong, KeepsAmong, placed, placed_action}
use Rattle.cedar_schema_error.specs.declared.schema_error.SchemaError.{SchemaError}
use Rattle.cedar_written.specs.declared.ref_name.RefName as ref_name
use Rattle.cedar_duplicates.specs.Declarations.{error_of, same_by, with_declarations}
use Rattle.cedar_duplicates.specs.contracts.declaration.DeclarationOrd.TheImpl as order
use Rattle.cedar_duplicates.specs.declared.declaration.Declaration.{Declaration}
use Rattle.cedar_duplicates.specs.declared.declaration.Declaration.TheVariants.{CommonType, EntityType, Action}

-- the first that stands again is one of the list
first_among : {A : Type 0} (same : A → A → Bool) (before xs : List A) (y : A) → FirstAgain same before xs y → IsAmong xs y
first_among same before [] y f = f
first_among same before (x ∷ xs) y (inl f) = inl (sym f.1)
first_among same before (x ∷ xs) y (inr f) = inr (first_among same (before ++ x ∷ []) xs y f.1)

-- what is one of two lists in sequence is one of the first or one of the second
among_split : {A : Type 0} (xs ys : List A) (y : A) → IsAmong (xs ++ ys) y → IsAmong xs y ⊎ IsAmong ys y
among_split [] ys y a = inr a
among_split (x ∷ xs) ys y (inl is) = inl (inl is)
among_split {A} (x ∷ xs) ys y (inr a) = by (among_split xs ys y a) where
  by : IsAmong xs y ⊎ IsAmong ys y → IsAmong (x ∷ xs) y ⊎ IsAmong ys y
  by (inl b) = inl (inr b)
  by (inr b) = inr b

-- what is made of one of the first list is one of those made of both, and so of the second
made_left : {A B : Type 0} (f : A → B) (xs ys : List A) (y : B) → IsAmong (map f xs) y → IsAmong (map f (xs ++ ys)) y
made_left f (x ∷ xs) ys y (inl is) = inl is
made_left f (x ∷ xs) ys y (inr a) = inr (made_left f xs ys y a)
made_left f [] ys y a = absurd a

made_right : {A B : Type 0} (f : A → B) (xs ys : List A) (y : B) → IsAmong (map f ys) y → IsAmong (map f (xs ++ ys)) y
made_right f [] ys y a = a
made_right f (x ∷ xs) ys y a = inr (made_right f xs ys y a)

-- a declaration is one of these types or actions, at its place
abbrev Stands : List (FullName × Option Loc) → List (Uid × Option Loc) → Declaration → Type 0
Stands types actions (CommonType name) = IsAmong types (placed name)
Stands types actions (EntityType ty) = IsAmong types (placed (internal_of (name_of ty)))
Stands types actions (Action uid) = IsAmong actions (placed_action uid)

-- so it is one of more
among_more : (types more : List (FullName × Option Loc)) (actions others : List (Uid × Option Loc)) (y : Declaration)
    → ((t : FullName × Option Loc) → IsAmong types t → IsAmong more t) → ((a : Uid × Option Loc) → IsAmong actions a → IsAmong others a)
    → Stands types actions y → Stands more others y
among_more types more actions others (CommonType name) t a stands = t (placed name) stands
among_more types more actions others (EntityType ty) t a stands = t (placed (internal_of (name_of ty))) stands
among_more types more actions others (Action uid) t a stands = a (placed_action uid) stands

-- each of those that a map declares is one of its names
common_stands : {V : Type 0} (defs : List (InternalName × V)) (y : Declaration) → IsAmong (map (λ e. CommonType e.0) defs) y → Stands (map placed (map (λ e. e.0) defs)) [] y
common_stands [] y a = absurd a
common_stands (e ∷ es) y (inl is) = subst (Stands (map placed (map (λ e. e.0) (e ∷ es))) []) is (inl refl)
common_stands (e ∷ es) y (inr a) =
    let names : List (FullName × Option Loc) = map placed (map (λ e. e.0) es) in
    among_more names (placed e.0 ∷ names) [] [] y (λ t. inr) (λ a b. b) (common_stands es y a)

entity_stands : {V : Type 0} (defs : List (of_entity.EntityType × V)) (y : Declaration) → IsAmong (map (λ e. EntityType e.0) defs) y
    → Stands (map placed (map (λ e. internal_of (name_of e.0)) defs)) [] y
entity_stands [] y a = absurd a
entity_stands (e ∷ es) y (inl is) = subst (Stands (map placed (map (λ e. internal_of (name_of e.0)) (e ∷ es))) []) is (inl refl)
entity_stands (e ∷ es) y (inr a) =
    let names : List (FullName × Option Loc) = map placed (map (λ e. internal_of (name_of e.0)) es) in
    among_more names (placed (internal_of (name_of e.0)) ∷ names) [] [] y (λ t. inr) (λ a b. b) (entity_stands es y a)

action_stands : {V : Type 0} (defs : List (EntityUID × V)) (y : Declaration) → IsAmong (map (λ e. Action e.0) defs) y → Stands [] (map placed_action (map (λ e. e.0) defs)) y
action_stands [] y a = absurd a
action_stands (e ∷ es) y (inl is) = subst (Stands [] (map placed_action (map (λ e. e.0) (e ∷ es)))) is (inl refl)
action_stands (e ∷ es) y (inr a) =
    let uids : List (Uid × Option Loc) = map placed_action (map (λ e. e.0) es) in
    among_more [] [] uids (placed_action e.0 ∷ uids) y (λ t b. b) (λ a. inr) (action_stands es y a)

-- the error of a declaration that is one of these keeps one of these
keeps_one : (types : List (FullName × Option Loc)) (actions : List (Uid × Option Loc)) (y : Declaration) → Stands types actions y → KeepsAmong types actions (error_of y)
keeps_one types actions (CommonType name) stands = record { types = (stands, tt); actions = tt }
keeps_one types actions (EntityType ty) stands = record { types = (stands, tt); actions = tt }
keeps_one types actions (Action uid) stands = record { types = tt; actions = (stands, tt) }

module _ {N A : Type 0} {R : ref_name.Ghosts N} where
  -- one of these definitions declares it
  abbrev StandsIn : List (ValidatorNamespaceDef N A R) → Declaration → Type 0
  StandsIn ds y = Stands (map placed (all_types ds)) (map placed_action (all_actions ds)) y

  -- so it is declared by more definitions
  behind_one : (d : ValidatorNamespaceDef N A R) (ds : List (ValidatorNamespaceDef N A R)) (y : Declaration) → StandsIn ds y → StandsIn (d ∷ ds) y
  behind_one d ds y =
      among_more (map placed (all_types ds)) (map placed (all_types (d ∷ ds))) (map placed_action (all_actions ds)) (map placed_action (all_actions (d ∷ ds))) y
      (made_right placed (types_of d) (all_types ds)) (made_right placed_action (actions_of d) (all_actions ds))

  -- what a definition puts behind others was one of these, or is declared by it
  put_by_one : (all : List Declaration) (d : ValidatorNamespaceDef N A R) (ds : List (ValidatorNamespaceDef N A R)) (y : Declaration)
      → IsAmong (with_declarations all d) y → IsAmong all y ⊎ StandsIn (d ∷ ds) y
  put_by_one all d ds y among = of_actions (among_split ((all ++ commons) ++ entities) actions y among) where
    commons : List Declaration
    commons = map (λ e. CommonType e.0) d.common_types.defs

    entities : List Declaration
    entities = map (λ e. EntityType e.0) d.entity_types.defs

    actions : List Declaration
    actions = map (λ e. Action e.0) d.actions.actions

    common_names : List InternalName
    common_names = map (λ e. e.0) d.common_types.defs

    entity_names : List InternalName
    entity_names = map (λ e. internal_of (name_of e.0)) d.entity_types.defs

    no_action : (a : Uid × Option Loc) → IsAmong [] a → IsAmong (map placed_action (all_actions (d ∷ ds))) a
    no_action a none = absurd none

    no_type : (t : FullName × Option Loc) → IsAmong [] t → IsAmong (map placed (all_types (d ∷ ds))) t
    no_type t none = absurd none

    of_commons : IsAmong all y ⊎ IsAmong commons y → IsAmong all y ⊎ StandsIn (d ∷ ds) y
    of_commons (inl a) = inl a
    of_commons (inr a) = inr (among_more (map placed common_names) (map placed (all_types (d ∷ ds))) [] (map placed_action (all_actions (d ∷ ds))) y
        (λ t b. made_left placed (types_of d) (all_types ds) t (made_left placed common_names entity_names t b)) no_action (common_stands d.common_types.defs y a))

    of_entities : IsAmong (all ++ commons) y ⊎ IsAmong entities y → IsAmong all y ⊎ StandsIn (d ∷ ds) y
    of_entities (inl a) = of_commons (among_split all commons y a)
    of_entities (inr a) = inr (among_more (map placed entity_names) (map placed (all_types (d ∷ ds))) [] (map placed_action (all_actions (d ∷ ds))) y
        (λ t b. made_left placed (types_of d) (all_types ds) t (made_right placed common_names entity_names t b)) no_action (entity_stands d.entity_types.defs y a))

    of_actions : IsAmong ((all ++ commons) ++ entities) y ⊎ IsAmong actions y → IsAmong all y ⊎ StandsIn (d ∷ ds) y
    of_actions (inl a) = of_entities (among_split (all ++ commons) entities y a)
    of_actions (inr a) = inr (among_more [] (map placed (all_types (d ∷ ds))) (map placed_action (actions_of d)) (map placed_action (all_actions (d ∷ ds))) y
        no_type (made_left placed_action (actions_of d) (all_actions ds)) (action_stands d.actions.actions y a))

  -- what definitions put behind others was one of these, or is declared by one of them
  put_by_all : (all : List Declaration) (ds : List (ValidatorNamespaceDef N A R)) (y : Declaration) → IsAmong (fold with_declarations all ds) y → IsAmong all y ⊎ StandsIn ds y
  put_by_all all [] y a = inl a
  put_by_all all (d ∷ ds) y a = by (put_by_all (with_declarations all d) ds y a) where
    by : IsAmong (with_declarations all d) y ⊎ StandsIn ds y → IsAmong all y ⊎ StandsIn (d ∷ ds) y
    by (inl b) = put_by_one all d ds y b
    by (inr b) = inr (behind_one d ds y b)

  declared_by_all : (ds : List (ValidatorNamespaceDef N A R)) (y : Declaration) → IsAmong (fold with_declarations [] ds) y → StandsIn ds y
  declared_by_all ds y a = by (put_by_all [] ds y a) where
    by : ⊥ ⊎ StandsIn ds y → StandsIn ds y
    by (inl none) = absurd none
    by (inr b) = b

  -- the error of the first that stands again keeps a name that the definitions declare
  pub keeps_declared : (ds : List (ValidatorNamespaceDef N A R)) (all : List Declaration) (o : Option Declaration) (k : Declaration) (e : SchemaError)
      → all ≡ fold with_declarations [] ds → MatchOption o (NoneAgain (same_by order.ghosts.cmp) [] all) (λ k. FirstAgain (same_by order.ghosts.cmp) [] all k) → o ≡ Some k
      → e ≡ error_of k → KeepsAmong (map placed (all_types ds)) (map placed_action (all_actions ds)) e
  keeps_declared ds all o k e is found some gives =
      let twice : FirstAgain (same_by order.ghosts.cmp) [] all k = subst (λ o. MatchOption o (NoneAgain (same_by order.ghosts.cmp) [] all) (λ k. FirstAgain (same_by order.ghosts.cmp) [] all k)) some found in
      let among : IsAmong (fold with_declarations [] ds) k = subst (λ l. IsAmong l k) is (first_among (same_by order.ghosts.cmp) [] all k twice) in
      subst (KeepsAmong (map placed (all_types ds)) (map placed_action (all_actions ds))) (sym gives) (keeps_one (map placed (all_types ds)) (map placed_action (all_actions ds)) k (declared_by_all ds k among))
