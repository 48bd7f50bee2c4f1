-- SPDX-License-Identifier: Apache-2.0
-- What was picked is held, and so the error keeps what is held.
use Rattle.std.proofs.Common.{◌≡◌, List, [], ◌∷◌, map, Option, None, IfSome, IsTrue, true, sym, ap, ◌∙◌, subst}
use Rattle.std.specs.Option.{option_map}
use Rattle.cedar_data.specs.Firsts.{AllPass}
use Rattle.cedar_names.specs.Components.{basename_of, components, loc_of}
use Rattle.cedar_names.specs.Identifiers.{id_word}
use Rattle.cedar_names.specs.Order.{words_cmp}
use Rattle.cedar_names.specs.declared.entity_uid.EntityUID.{EntityUID}
use Rattle.cedar_names.specs.declared.id.Id.{Id}
use Rattle.cedar_names.specs.declared.internal_name.InternalName.{InternalName}
use Rattle.cedar_written.specs.declared.reference_type.ReferenceType.TheVariants.{CommonOrEntity}
use Rattle.cedar_schema_error.specs.FullNames.{basename, uid_in}
use Rattle.cedar_schema_error.specs.KeptDeclarations.{IsAmong, KeepsAmong}
use Rattle.cedar_schema_error.specs.declared.schema_error.SchemaError.{SchemaError}
use Rattle.cedar_declared.specs.Held.{names_of}
use Rattle.cedar_declared.specs.HeldPlaces.{IsHeldAction, IsHeldType, actions_at, types_at}
use Rattle.cedar_declared.specs.Names.{is_declared}
use Rattle.cedar_declared.specs.TypeNames.{place_alone}
use Rattle.cedar_declared.specs.declared.all_defs.AllDefs.{AllDefs}
use Rattle.cedar_declared.proofs.HeldPlaces.{alone_held}
use Rattle.cedar_shadowing.specs.Picking.{least_shadowing, least_shadowing_action}
use Rattle.cedar_shadowing.specs.Shadowing.{IsLeastPair, ShadowsType}
use Rattle.cedar_shadowing.proofs.LeastTypes.{and_first}
use Rattle.cedar_shadowing.proofs.Shadowers.{basename_is}

-- a loop over `names` that began with `best` and has `left` before it has picked this name: with those that are left it
-- gives the least of all, and it is held where all are
pub record PicksType (d : AllDefs) (best : Option InternalName) (names left : List InternalName) (least : Option InternalName) : Type 0 where
  pub is : least_shadowing (names_of d) (option_map components least) (map components left) ≡ least_shadowing (names_of d) (option_map components best) (map components names)
  pub held : IfSome best (IsHeldType d) → AllPass (IsHeldType d) names → IfSome least (IsHeldType d) × AllPass (IsHeldType d) left

-- so a loop over the actions
pub record PicksAction (d : AllDefs) (left : List EntityUID) (least : Option EntityUID) : Type 0 where
  pub is : least_shadowing_action (names_of d).actions (option_map uid_in least) (map uid_in left) ≡ least_shadowing_action (names_of d).actions None (names_of d).actions
  pub held : IfSome least (IsHeldAction d)
  pub left_held : AllPass (IsHeldAction d) left

module _ (d : AllDefs) where
  -- before the first
  pub PicksType-start : (best : Option InternalName) (names left : List InternalName) → left ≡ names → PicksType d best names left best
  PicksType-start best names left all = record {
    is = ap (λ (l : List InternalName). least_shadowing (names_of d) (option_map components best) (map components l)) all;
    held = λ first each. (first, subst (AllPass (IsHeldType d)) (sym all) each);
  }

  pub PicksAction-start : (left : List EntityUID) → map uid_in left ≡ (names_of d).actions → AllPass (IsHeldAction d) left → PicksAction d left None
  PicksAction-start left all each = record {
    is = ap (least_shadowing_action (names_of d).actions None) all;
    held = tt;
    left_held = each;
  }

  -- one more
  pub PicksType-next : {best least more : Option InternalName} {names left rest : List InternalName} {n : InternalName} → PicksType d best names left least → left ≡ n ∷ rest
      → option_map components more ≡ least_shadowing (names_of d) (option_map components least) (components n ∷ [])
      → (IfSome least (IsHeldType d) → IsHeldType d n → IfSome more (IsHeldType d)) → PicksType d best names rest more
  PicksType-next {least = least} {rest = rest} sofar first picked kept = record {
    is = ap (λ o. least_shadowing (names_of d) o (map components rest)) picked
        ∙ sym (ap (λ (l : List InternalName). least_shadowing (names_of d) (option_map components least) (map components l)) first) ∙ sofar.is;
    held = λ before each.
        let these = sofar.held before each in
        let split = subst (AllPass (IsHeldType d)) first these.1 in
        (kept these.0 split.0, split.1);
  }

  pub PicksAction-next : {least more : Option EntityUID} {left rest : List EntityUID} {u : EntityUID} → PicksAction d left least → left ≡ u ∷ rest
      → option_map uid_in more ≡ least_shadowing_action (names_of d).actions (option_map uid_in least) (uid_in u ∷ [])
      → (IfSome least (IsHeldAction d) → IsHeldAction d u → IfSome more (IsHeldAction d)) → PicksAction d rest more
  PicksAction-next {least = least} {rest = rest} sofar first picked kept =
      let split = subst (AllPass (IsHeldAction d)) first sofar.left_held in
      record {
        is = ap (λ o. least_shadowing_action (names_of d).actions o (map uid_in rest)) picked
            ∙ sym (ap (λ (l : List EntityUID). least_shadowing_action (names_of d).actions (option_map uid_in least) (map uid_in l)) first) ∙ sofar.is;
        held = kept sofar.held split.0;
        left_held = split.1;
      }

  -- after the last
  pub PicksType-least : {best least : Option InternalName} {names left : List InternalName} → PicksType d best names left least → left ≡ []
      → option_map components least ≡ least_shadowing (names_of d) (option_map components best) (map components names)
  PicksType-least {least = least} sofar none =
      sym (ap (λ (l : List InternalName). least_shadowing (names_of d) (option_map components least) (map components l)) none) ∙ sofar.is

  pub PicksType-held : {best least : Option InternalName} {names left : List InternalName} → PicksType d best names left least
      → IfSome best (IsHeldType d) → AllPass (IsHeldType d) names → IfSome least (IsHeldType d)
  PicksType-held sofar before each = (sofar.held before each).0

  pub PicksAction-least : {least : Option EntityUID} {left : List EntityUID} → PicksAction d left least → left ≡ []
      → option_map uid_in least ≡ least_shadowing_action (names_of d).actions None (names_of d).actions
  PicksAction-least {least = least} sofar none =
      sym (ap (λ (l : List EntityUID). least_shadowing_action (names_of d).actions (option_map uid_in least) (map uid_in l)) none) ∙ sofar.is

  pub PicksAction-held : {least : Option EntityUID} {left : List EntityUID} → PicksAction d left least → IfSome least (IsHeldAction d)
  PicksAction-held sofar = sofar.held

  -- the declared type that is the basename of a name is held
  pub basename_held : (n : InternalName) (i : Id) (a : InternalName) → i ≡ basename_of n → components a ≡ id_word i ∷ [] → loc_of a ≡ place_alone d i
      → IsTrue (is_declared (names_of d) CommonOrEntity (basename (components n) ∷ [])) → IsHeldType d a
  basename_held n i a base made place declared =
      let words : components a ≡ id_word (basename_of n) ∷ [] = made ∙ ap (λ i. id_word i ∷ []) base in
      let at : loc_of a ≡ place_alone d (basename_of n) = place ∙ ap (place_alone d) base in
      subst (IsAmong (types_at d)) (λ k. (sym words k, sym at k))
      (alone_held d (basename_of n) (subst (λ w. is_declared (names_of d) CommonOrEntity (w ∷ []) ≡ true) (basename_is n) declared))

  -- what shadows its basename in the least pair shadows a declared type
  pub keeps_pair : (n : InternalName) (e : SchemaError) → IsLeastPair words_cmp (ShadowsType (names_of d)) (basename (components n) ∷ []) (components n) → IsHeldType d n
      → (IsTrue (is_declared (names_of d) CommonOrEntity (basename (components n) ∷ [])) → IsHeldType d n → KeepsAmong (types_at d) (actions_at d) e) → KeepsAmong (types_at d) (actions_at d) e
  keeps_pair n e least held kept =
      kept (and_first (is_declared (names_of d) CommonOrEntity (basename (components n) ∷ [])) (is_declared (names_of d) CommonOrEntity (components n)) least.second.holds.both) held

  pub keeps_actions : (u : EntityUID) (e : SchemaError) → IsHeldAction d u → (IsHeldAction d u → KeepsAmong (types_at d) (actions_at d) e) → KeepsAmong (types_at d) (actions_at d) e
  keeps_actions u e held kept = kept held

pub ruleset picks_types = (PicksType-start, PicksType-next, PicksType-least, PicksType-held)

pub ruleset picks_actions = (PicksAction-start, PicksAction-next, PicksAction-least, PicksAction-held)
