-- SPDX-License-Identifier: Apache-2.0
-- What a table of finished types gives is what a type without faults unfolds to.
use Rattle.std.proofs.Common.{◌≡◌, ℕ, ◌+◌, ◌⊎◌, ⊎_elim, Bool, true, false, cond, List, [], ◌∷◌, ◌++◌, Option, Some, None, max, nat_le, refl, sym, ap, ◌∙◌, subst, arith}
use Rattle.std.proofs.lemmas.Bool.Decides.{leb_tells}
use Rattle.std.specs.Bool.{IsTrue}
use Rattle.std.specs.List.{AllByRecursion}
use Rattle.std.specs.Option.{is_some}
use Rattle.cedar_names.specs.Components.{has_cedar}
use Rattle.cedar_schema_error.specs.FullNames.{FullName}
use Rattle.cedar_unfolding.specs.Faults.{faults, attribute_faults, open_fault, extension_fault, reserved_fault, either_fault, common_fault}
use Rattle.cedar_unfold.specs.Finished.{within, set_of, record_of, with_attribute, entity_of, common_or_entity, common_of, finished, finished_each}
use Rattle.cedar_unfold.specs.Full.{IsDone}
use Rattle.cedar_unfolding.specs.Meanings.{Meanings, full_meanings, definition_of, is_common}
use Rattle.cedar_unfolding.specs.Resolved.{Resolved, ResolvedAttributes, nest, greatest_nest, deepest}
use Rattle.cedar_unfolding.specs.Resolved as resolved
use Rattle.cedar_unfolding.specs.Unfolds.{Unfolds, UnfoldsEach, boolean, long, string, extension, set, closed, entity, common, either_common, either_entity, none, each}
use Rattle.cedar_unfolding.specs.Written.{Written, WrittenAttributes, Boolean, Long, String, Extension, Set, Record, Entity, EntityOrCommon, CommonTypeRef, no_attributes, attribute, common_references, attribute_common_references}

-- a set of elements that nest no deeper than a type may, and of others
set-within : (T : Resolved) → set_of (within T) ≡ within (resolved.Set T)
set-within T = by_test (nat_le (nest T) deepest) (grind (arith, leb_tells)) where
  by_test : (a : Bool) → cond a (nat_le (nest T + 1) deepest) false ≡ nat_le (nest T + 1) deepest → set_of (cond a (Some T) None) ≡ within (resolved.Set T)
  by_test true e = refl
  by_test false e = ap (λ b. cond b (Some (resolved.Set T)) None) e

-- attributes that nest no deeper than a type may
abbrev within_each : ResolvedAttributes → Option ResolvedAttributes
within_each Ts = cond (nat_le (greatest_nest Ts) deepest) (Some Ts) None

record-within : (Ts : ResolvedAttributes) → record_of (within_each Ts) ≡ within (resolved.Record Ts false)
record-within Ts = by_test (nat_le (greatest_nest Ts) deepest) (grind (arith, leb_tells)) where
  by_test : (a : Bool) → cond a (nat_le (greatest_nest Ts + 1) deepest) false ≡ nat_le (greatest_nest Ts + 1) deepest → record_of (cond a (Some Ts) None) ≡ within (resolved.Record Ts false)
  by_test true e = refl
  by_test false e = ap (λ b. cond b (Some (resolved.Record Ts false)) None) e

attribute-within : (name : List ℕ) (required : Bool) (T : Resolved) (Ts : ResolvedAttributes) → with_attribute name required (within T) (within_each Ts) ≡ within_each (resolved.attribute name required T Ts)
attribute-within name required T Ts = by_tests (nat_le (nest T) deepest) (nat_le (greatest_nest Ts) deepest) (nat_le (max (nest T) (greatest_nest Ts)) deepest) (grind (arith, leb_tells)) where
  both : Option ResolvedAttributes
  both = Some (resolved.attribute name required T Ts)

  by_tests : (a b c : Bool) → cond a b false ≡ c → with_attribute name required (cond a (Some T) None) (cond b (Some Ts) None) ≡ cond c both None
  by_tests true true c e = ap (λ b. cond b both None) e
  by_tests true false c e = ap (λ b. cond b both None) e
  by_tests false true c e = ap (λ b. cond b both None) e
  by_tests false false c e = ap (λ b. cond b both None) e

all-left : {X : Type 0} (P : X → Type 0) (xs ys : List X) → AllByRecursion P (xs ++ ys) → AllByRecursion P xs
all-left P [] ys all = tt
all-left P (x ∷ xs) ys all = (all.0, all-left P xs ys all.1)

all-right : {X : Type 0} (P : X → Type 0) (xs ys : List X) → AllByRecursion P (xs ++ ys) → AllByRecursion P ys
all-right P [] ys all = all
all-right P (x ∷ xs) ys all = all-right P xs ys all.1

pub append-empty-left : {X : Type 0} (xs ys : List X) → xs ++ ys ≡ [] → xs ≡ []
append-empty-left [] ys e = refl
append-empty-left (x ∷ xs) ys e = absurd cc

pub append-empty-right : {X : Type 0} (xs ys : List X) → xs ++ ys ≡ [] → ys ≡ []
append-empty-right [] ys e = e
append-empty-right (x ∷ xs) ys e = absurd cc

closed_record : (is_open : Bool) → open_fault is_open ≡ [] → is_open ≡ false
closed_record true e = absurd cc
closed_record false e = refl

known_extension : (known : Bool) (e : List ℕ) → extension_fault known e ≡ [] → IsTrue known
known_extension true e known = refl
known_extension false e known = absurd cc

free_name : (reserved : Bool) (name : FullName) → reserved_fault reserved name ≡ [] → reserved ≡ false
free_name true name e = absurd cc
free_name false name e = refl

no_violation : (known : Bool) (name : FullName) → known ≡ false → common_fault known name ≡ [] → ⊥
no_violation true name is e = absurd cc
no_violation false name is e = absurd cc

no_common_fault : (known : Bool) (name : FullName) → known ≡ false → either_fault known name ≡ [] → reserved_fault (has_cedar name) name ≡ []
no_common_fault true name is e = absurd cc
no_common_fault false name is e = e

entity-free : (name : FullName) (reserved : Bool) → reserved ≡ false → cond reserved None (Some (resolved.Entity name)) ≡ within (resolved.Entity name)
entity-free name true is = absurd cc
entity-free name false is = refl

-- the type unfolds, and that is what was found of it
pub record Finishes (m : Meanings FullName) (t : Written FullName) (found : Option Resolved) : Type 0 where
  pub ty : Resolved
  pub unfolds : Unfolds m t ty
  pub is : found ≡ within ty

record FinishesEach (m : Meanings FullName) (ws : WrittenAttributes FullName) (found : Option ResolvedAttributes) : Type 0 where
  types : ResolvedAttributes
  unfolds : UnfoldsEach m ws types
  is : found ≡ within_each types

module _ (definitions : List (FullName × Written FullName)) (is_extension : List ℕ → Bool) (table : FullName → Option (Option Resolved)) where
  abbrev m : Meanings FullName
  m = full_meanings definitions is_extension

  -- the name is that of a common type that is done, or of none
  abbrev pub IsKnown : FullName → Type 0
  IsKnown name = IsDone m table name ⊎ ((definition_of m name ≡ None) × (table name ≡ None))

  finishes_entity : (name : FullName) → has_cedar name ≡ false → entity_of name ≡ within (resolved.Entity name)
  finishes_entity name free = entity-free name (has_cedar name) free

  finishes_either : (name : FullName) → either_fault (is_common m name) name ≡ [] → IsKnown name → Finishes m (EntityOrCommon name) (common_or_entity (table name) name)
  finishes_either name faultless known = ⊎_elim
      (λ done. record {
        ty = done.ty;
        unfolds = either_common (record { name = name; targeted = refl; defined = done.defined }) done.unfolds;
        is = ap (λ o. common_or_entity o name) done.is;
      })
      (λ missing.
      let free = free_name (has_cedar name) name (no_common_fault (is_common m name) name (ap is_some missing.0) faultless) in
      record {
        ty = resolved.Entity name;
        unfolds = either_entity (record { targeted = refl; no_common = missing.0; free = free });
        is = ap (λ o. common_or_entity o name) missing.1 ∙ finishes_entity name free;
      })
      known

  finishes_common : (name : FullName) → common_fault (is_common m name) name ≡ [] → IsKnown name → Finishes m (CommonTypeRef name) (common_of (table name))
  finishes_common name faultless known = ⊎_elim
      (λ done. record {
        ty = done.ty;
        unfolds = common (record { name = name; targeted = refl; defined = done.defined }) done.unfolds;
        is = ap common_of done.is;
      })
      (λ missing. absurd (no_violation (is_common m name) name (ap is_some missing.0) faultless))
      known

  mutual
    -- a type whose names are all known, and that has no fault
    pub finishes : (t : Written FullName) → faults m t ≡ [] → AllByRecursion IsKnown (common_references t) → Finishes m t (finished table t)
    finishes Boolean faultless all = record { ty = resolved.Boolean; unfolds = boolean; is = refl }
    finishes Long faultless all = record { ty = resolved.Long; unfolds = long; is = refl }
    finishes String faultless all = record { ty = resolved.String; unfolds = string; is = refl }
    finishes (Extension e) faultless all = record { ty = resolved.Extension (e ∷ []); unfolds = extension (known_extension (is_extension e) e faultless); is = refl }
    finishes (Set t) faultless all = let part = finishes t faultless all in record { ty = resolved.Set part.ty; unfolds = set part.unfolds; is = ap set_of part.is ∙ set-within part.ty }
    finishes (Record ws is_open) faultless all =
        let parts = finishes_each ws (append-empty-right (open_fault is_open) (attribute_faults m ws) faultless) all in
        let no_others = closed_record is_open (append-empty-left (open_fault is_open) (attribute_faults m ws) faultless) in
        record {
          ty = resolved.Record parts.types false;
          unfolds = subst (λ b. Unfolds m (Record ws b) (resolved.Record parts.types false)) (sym no_others) (closed parts.unfolds);
          is = ap record_of parts.is ∙ record-within parts.types;
        }
    finishes (Entity name) faultless all =
        let free = free_name (has_cedar name) name faultless in
        record { ty = resolved.Entity name; unfolds = entity refl free; is = finishes_entity name free }
    finishes (EntityOrCommon name) faultless all = finishes_either name faultless all.0
    finishes (CommonTypeRef name) faultless all = finishes_common name faultless all.0

    finishes_each : (ws : WrittenAttributes FullName) → attribute_faults m ws ≡ [] → AllByRecursion IsKnown (attribute_common_references ws) → FinishesEach m ws (finished_each table ws)
    finishes_each no_attributes faultless all = record { types = resolved.no_attributes; unfolds = none; is = refl }
    finishes_each (attribute name required t ws) faultless all =
        let part = finishes t (append-empty-left (faults m t) (attribute_faults m ws) faultless) (all-left IsKnown (common_references t) (attribute_common_references ws) all) in
        let parts = finishes_each ws (append-empty-right (faults m t) (attribute_faults m ws) faultless) (all-right IsKnown (common_references t) (attribute_common_references ws) all) in
        record {
          types = resolved.attribute name required part.ty parts.types;
          unfolds = each part.unfolds parts.unfolds;
          is = (λ i. with_attribute name required (part.is i) (parts.is i)) ∙ attribute-within name required part.ty parts.types;
        }
