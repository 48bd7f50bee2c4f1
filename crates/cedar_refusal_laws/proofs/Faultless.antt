-- SPDX-License-Identifier: Apache-2.0
-- Where the references of a world have the kinds of their places, and its declared names are free: no fault of a type is one of wrong kinds.
use Rattle.std.proofs.Common.{◌≡◌, ◌||◌, ℕ, Bool, true, false, IsTrue, List, Option, Some, None, refl, sym, ap, ◌∙◌, subst}
use Rattle.std.specs.List.{find, flat_map}
use Rattle.cedar_data.specs.Firsts.{AllPass}
use Rattle.cedar_data.specs.Sets.{contains}
use Rattle.cedar_names.specs.Order.{words_cmp}
use Rattle.cedar_written.specs.declared.reference_type.ReferenceType.TheVariants as kind
use Rattle.cedar_sound.proofs.NameOrders.{names_exact}
use Rattle.cedar_world.specs.of_declared.Names.{is_common, is_declared, is_entity, target}
use Rattle.cedar_schema_error.specs.FullNames.{FullName}
use Rattle.cedar_schema_error.specs.NameReferences.{NameReference}
use Rattle.cedar_schema_error.specs.Refusals.{Refusal}
use Rattle.cedar_world.specs.of_unfold.Faults.{common_fault, either_fault, entity_fault, extension_fault, faults, of_target, open_fault, reserved_fault}
use Rattle.cedar_world.specs.of_unfold.Meanings as meaning
use Rattle.cedar_world.specs.of_unfold.Written.{Written}
use Rattle.cedar_world.specs.Worlds.{World, all_namespaces, meanings, names, own}
use Rattle.cedar_refusal_laws.specs.Kinds.{DeclareFree, HasItsKinds, IsFree, IsOfKind}
use Rattle.cedar_refusal_laws.specs.NeverComing.{never_comes}
use Rattle.cedar_refusal_laws.specs.Parts.{Any}
use Rattle.cedar_refusal_laws.proofs.EachFault.{each_fault}
use Rattle.cedar_refusal_laws.proofs.KindsKept.{all_free}
use Rattle.cedar_refusal_laws.proofs.Members.{found_passes, keys_of_all, known_in_map, of_member}

-- a refusal of another sort
abbrev pub IsOther : Refusal → Type 0
IsOther e = never_comes e ≡ false

open_other : (is_open : Bool) → AllPass IsOther (open_fault is_open)
open_other true = (refl, tt)
open_other false = tt

module _ (W : World) (free : DeclareFree (own W)) where
  -- the target of a reference to an entity type is a declared one
  pub entity_found : (r : NameReference) (name : FullName) → r.kind ≡ kind.Entity → target (names W) r ≡ Some name → IsTrue (is_entity (names W) name)
  entity_found r name is found = found_passes (is_entity (names W)) r.possibilities name (subst (λ k. find (is_declared (names W) k) r.possibilities ≡ Some name) is found)

  -- which is free
  pub entity_free : (name : FullName) → IsTrue (is_entity (names W) name) → IsFree name
  entity_free name declared = of_member names_exact IsFree (names W).entity_types name (all_free W free).entity_types declared

  -- a declared common type has a definition
  common_known : (name : FullName) → meaning.is_common (meanings W) name ≡ is_common (names W) name
  common_known name =
      known_in_map names_exact.total name (flat_map (λ ns. ns.common_types) (all_namespaces W))
      ∙ ap (λ ks. contains words_cmp ks name) (keys_of_all (λ ns. ns.common_types) (all_namespaces W))

  none_reserved : (name : FullName) → IsFree name → AllPass IsOther (entity_fault name)
  none_reserved name is = subst (λ b. AllPass IsOther (reserved_fault b name)) (sym is) tt

  entity_right : (r : NameReference) → r.kind ≡ kind.Entity → AllPass IsOther (of_target entity_fault (target (names W) r))
  entity_right r is = by (target (names W) r) refl
    where
      by : (o : Option FullName) → target (names W) r ≡ o → AllPass IsOther (of_target entity_fault o)
      by None found = tt
      by (Some name) found = none_reserved name (entity_free name (entity_found r name is found))

  either_right : (r : NameReference) → r.kind ≡ kind.CommonOrEntity → AllPass IsOther (of_target (λ name. either_fault (meaning.is_common (meanings W) name) name) (target (names W) r))
  either_right r is = by (target (names W) r) refl
    where
      one : (name : FullName) (b : Bool) → IsTrue (b || is_entity (names W) name) → AllPass IsOther (either_fault b name)
      one name true declared = tt
      one name false declared = none_reserved name (entity_free name declared)

      by : (o : Option FullName) → target (names W) r ≡ o → AllPass IsOther (of_target (λ name. either_fault (meaning.is_common (meanings W) name) name) o)
      by None found = tt
      by (Some name) found =
          let declared : IsTrue (is_common (names W) name || is_entity (names W) name) = found_passes (is_declared (names W) kind.CommonOrEntity) r.possibilities name (subst (λ k. find (is_declared (names W) k) r.possibilities ≡ Some name) is found) in
          one name (meaning.is_common (meanings W) name) (ap (λ b. b || is_entity (names W) name) (common_known name) ∙ declared)

  common_right : (r : NameReference) → r.kind ≡ kind.Common → AllPass IsOther (of_target (λ name. common_fault (meaning.is_common (meanings W) name) name) (target (names W) r))
  common_right r is = by (target (names W) r) refl
    where
      by : (o : Option FullName) → target (names W) r ≡ o → AllPass IsOther (of_target (λ name. common_fault (meaning.is_common (meanings W) name) name) o)
      by None found = tt
      by (Some name) found =
          let declared : IsTrue (is_common (names W) name) = found_passes (is_common (names W)) r.possibilities name (subst (λ k. find (is_declared (names W) k) r.possibilities ≡ Some name) is found) in
          subst (λ b. AllPass IsOther (common_fault b name)) (sym (common_known name ∙ declared)) tt

  extension_right : (b : Bool) (e : List ℕ) → AllPass IsOther (extension_fault b e)
  extension_right true e = tt
  extension_right false e = (refl, tt)

  -- so no fault of a type whose references have the kinds of their places is one of wrong kinds
  pub type_right : (t : Written NameReference) → HasItsKinds t → AllPass IsOther (faults (meanings W) t)
  type_right = each_fault Any Any IsOfKind (meanings W) IsOther (record {
    of_record = λ is_open any. open_other is_open;
    of_extension = λ e any. extension_right ((meanings W).is_extension e) e;
    of_entity = entity_right;
    of_either = either_right;
    of_common = common_right;
  })
