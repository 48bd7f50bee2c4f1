-- SPDX-License-Identifier: Apache-2.0
-- No world is refused with an error that only a caller makes.
use Rattle.std.proofs.Common.{◌≡◌, ℕ, Bool, true, false, List, Option, Some, None, refl}
use Rattle.cedar_data.specs.Firsts.{AllPass}
use Rattle.cedar_names.specs.Components.{has_cedar}
use Rattle.cedar_sound.specs.Sound.{Cause}
use Rattle.cedar_sound.specs.of_duplicates.Duplicates.{Action, CommonType, Declared, EntityType, duplicate}
use Rattle.cedar_schema_error.specs.FullNames.{FullName}
use Rattle.cedar_schema_error.specs.NameReferences.{NameReference}
use Rattle.cedar_schema_error.specs.Refusals.{HandedIn, Refusal}
use Rattle.cedar_schema_error.specs.declared.schema_error.SchemaError.{SchemaError}
use Rattle.cedar_world.specs.of_unfold.Faults.{common_fault, either_fault, entity_fault, extension_fault, faults, of_target, open_fault, reserved_fault}
use Rattle.cedar_world.specs.of_unfold.Meanings.{is_common}
use Rattle.cedar_world.specs.of_unfold.Written.{Written}
use Rattle.cedar_world.specs.Worlds.{World, common_types, meanings, uses}
use Rattle.cedar_refusal_laws.specs.Parts.{Any}
use Rattle.cedar_refusal_laws.proofs.Causes.{Fails, cause_fails}
use Rattle.cedar_refusal_laws.proofs.EachFault.{each_fault, each_part}
use Rattle.cedar_refusal_laws.proofs.Members.{pass_each_item}

-- whether a refusal is such an error
abbrev pub is_handed_in : Refusal → Bool
is_handed_in (HandedIn e) = true
is_handed_in e = false

abbrev NotHandedIn : Refusal → Type 0
NotHandedIn = Fails is_handed_in

-- ---- faults of types

open_not : (is_open : Bool) → AllPass NotHandedIn (open_fault is_open)
open_not true = (refl, tt)
open_not false = tt

extension_not : (known : Bool) (e : List ℕ) → AllPass NotHandedIn (extension_fault known e)
extension_not true e = tt
extension_not false e = (refl, tt)

reserved_not : (b : Bool) (name : FullName) → AllPass NotHandedIn (reserved_fault b name)
reserved_not true name = (refl, tt)
reserved_not false name = tt

either_not : (b : Bool) (name : FullName) → AllPass NotHandedIn (either_fault b name)
either_not true name = tt
either_not false name = reserved_not (has_cedar name) name

common_not : (b : Bool) (name : FullName) → AllPass NotHandedIn (common_fault b name)
common_not true name = tt
common_not false name = (refl, tt)

target_not : (f : FullName → List Refusal) → ((name : FullName) → AllPass NotHandedIn (f name)) → (o : Option FullName) → AllPass NotHandedIn (of_target f o)
target_not f each None = tt
target_not f each (Some name) = each name

module _ (W : World) where
  type_not : (t : Written NameReference) → AllPass NotHandedIn (faults (meanings W) t)
  type_not t = each_fault Any Any (λ k. Any) (meanings W) NotHandedIn (record {
    of_record = λ is_open any. open_not is_open;
    of_extension = λ e any. extension_not ((meanings W).is_extension e) e;
    of_entity = λ r any. target_not entity_fault (λ name. reserved_not (has_cedar name) name) ((meanings W).target r);
    of_either = λ r any. target_not (λ name. either_fault (is_common (meanings W) name) name) (λ name. either_not (is_common (meanings W) name) name) ((meanings W).target r);
    of_common = λ r any. target_not (λ name. common_fault (is_common (meanings W) name) name) (λ name. common_not (is_common (meanings W) name) name) ((meanings W).target r);
  }) t (each_part Any Any (λ k. Any) (λ is_open. tt) (λ e. tt) (λ k r. tt) t)

  duplicate_not : (d : Declared) → NotHandedIn (duplicate d)
  duplicate_not (CommonType name) = refl
  duplicate_not (EntityType name) = refl
  duplicate_not (Action uid) = refl

  cause_not : (e : Refusal) → Cause W e → is_handed_in e ≡ false
  cause_not = cause_fails W is_handed_in (record {
    type_shadows = λ a b. refl;
    action_shadows = λ a b. refl;
    no_type = λ r rs. refl;
    no_action = λ r rs. refl;
    circular_type = λ name. refl;
    too_deep = λ place. refl;
    no_record = λ place. refl;
    circular_action = λ uid. refl;
  }) (record {
    reserved = λ name first. refl;
    twice = λ d again. duplicate_not d;
    common_faults = pass_each_item (λ c. AllPass NotHandedIn (faults (meanings W) c.1)) (λ c. type_not c.1) (common_types W);
    use_faults = pass_each_item (λ u. AllPass NotHandedIn (faults (meanings W) u.1)) (λ u. type_not u.1) (uses W);
    undeclared = λ name others is. refl;
  })

  pub never_handed_in : (e : SchemaError) → Cause W (HandedIn e) → ⊥
  never_handed_in e cause = let is : true ≡ false = cause_not (HandedIn e) cause in absurd (cc)
