-- SPDX-License-Identifier: Apache-2.0
-- A loop that reads the entities of a list in order.
use Rattle.std.proofs.Common.{◌≡◌, ℕ, ◌+◌, List, [], ◌∷◌, ◌++◌, map, decimal, refl, sym, ap, ◌∙◌, append_assoc, append-nil}
use Rattle.std.specs.declared.result.Result.TheVariants.{Ok, Err}
use Rattle.cedar_data.specs.declared.memory.Failure.{Failure}
use Rattle.cedar_names.specs.declared.entity_uid.EntityUID.{EntityUID}
use Rattle.cedar_checks.specs.of_world.Schemas.{Schema}
use Rattle.cedar_schema_error.specs.FullNames.{Uid, uid_in}
use Rattle.cedar_written.specs.Answers.{and_then}
use Rattle.serde_json.specs.View.{view, items_view}
use Rattle.serde_json.specs.declared.value.Value.{Value}
use Rattle.cedar_conform_fault.specs.declared.fault.Fault.{Fault}
use Rattle.cedar_conform.specs.Checks.{Check, Tells, under}
use Rattle.cedar_conform.specs.EntityChecks.{each_entity, entity_of}
use Rattle.cedar_conform.proofs.Told.{Tells-at, Tells-refused}

-- entities behind those read so far
abbrev pub behind_read : List Uid → Check (List Uid) → Check (List Uid)
behind_read made check = and_then check (λ us. Ok (made ++ us))

behind-none : (check : Check (List Uid)) → check ≡ behind_read [] check
behind-none (Ok us) = refl
behind-none (Err m) = refl

behind-one : (made : List Uid) (u : Uid) (check : Check (List Uid)) → behind_read made (and_then check (λ us. Ok (u ∷ us))) ≡ behind_read (made ++ u ∷ []) check
behind-one made u (Ok us) = ap Ok (sym (append_assoc made (u ∷ []) us))
behind-one made u (Err m) = refl

map-push : (us : List EntityUID) (u : EntityUID) → map uid_in (us ++ u ∷ []) ≡ map uid_in us ++ uid_in u ∷ []
map-push [] u = refl
map-push (v ∷ us) u = ap (λ l. uid_in v ∷ l) (map-push us u)

module _ (S : Schema) where
  -- a loop over `whole` that has `left` before it has read these entities
  pub record ReadsEntities (whole left : List Value) (place : ℕ) (made : List EntityUID) : Type 0 where
    pub is : each_entity S 0 (items_view whole) ≡ behind_read (map uid_in made) (each_entity S place (items_view left))

  pub ReadsEntities-start : (whole left : List Value) (place : ℕ) (made : List EntityUID) → left ≡ whole → place ≡ 0 → made ≡ [] → ReadsEntities whole left place made
  ReadsEntities-start whole left place made all zeroth none = record {
    is = ap (λ es. each_entity S 0 (items_view es)) (sym all) ∙ ap (λ n. each_entity S n (items_view left)) (sym zeroth) ∙ behind-none (each_entity S place (items_view left)) ∙ ap (λ m. behind_read (map uid_in m) (each_entity S place (items_view left))) (sym none);
  }

  -- what comes of the items that are left
  at_next : {left rest : List Value} {value : Value} (place : ℕ) → left ≡ value ∷ rest → each_entity S place (items_view left) ≡ and_then (under (decimal place) (entity_of S (view value))) (λ u. and_then (each_entity S (place + 1) (items_view rest)) (λ us. Ok (u ∷ us)))
  at_next place at_left = ap (λ es. each_entity S place (items_view es)) at_left

  pub ReadsEntities-next : {whole left rest : List Value} {place next : ℕ} {made more : List EntityUID} {value : Value} (uid : EntityUID) → ReadsEntities whole left place made → left ≡ value ∷ rest → next ≡ place + 1 → entity_of S (view value) ≡ Ok (uid_in uid) → more ≡ made ++ uid ∷ [] → ReadsEntities whole rest next more
  ReadsEntities-next {rest = rest} {place = place} {made = made} {more = more} uid sofar at_left counted passes pushed =
      let here : each_entity S 0 _ ≡ behind_read (map uid_in made ++ uid_in uid ∷ []) (each_entity S (place + 1) (items_view rest)) =
      sofar.is ∙ ap (behind_read (map uid_in made)) (at_next place at_left ∙ ap (λ c. and_then (under (decimal place) c) (λ u. and_then (each_entity S (place + 1) (items_view rest)) (λ us. Ok (u ∷ us)))) passes) ∙ behind-one (map uid_in made) (uid_in uid) (each_entity S (place + 1) (items_view rest)) in
      record {
        is = here ∙ ap (λ m. behind_read m (each_entity S (place + 1) (items_view rest))) (sym (map-push made uid)) ∙ ap (λ m. behind_read (map uid_in m) (each_entity S (place + 1) (items_view rest))) (sym pushed) ∙ ap (λ n. behind_read (map uid_in more) (each_entity S n (items_view rest))) (sym counted);
      }

  pub ReadsEntities-end : {whole left : List Value} {place : ℕ} {made : List EntityUID} → ReadsEntities whole left place made → left ≡ [] → each_entity S 0 (items_view whole) ≡ Ok (map uid_in made)
  ReadsEntities-end {place = place} {made = made} sofar none = sofar.is ∙ ap (λ es. behind_read (map uid_in made) (each_entity S place (items_view es))) none ∙ ap Ok (append-nil (map uid_in made))

  pub ReadsEntities-refused : {whole left rest : List Value} {place : ℕ} {made : List EntityUID} {value : Value} (x : Failure Fault) → ReadsEntities whole left place made → left ≡ value ∷ rest → Tells uid_in (Err x) (under (decimal place) (entity_of S (view value))) → Tells (map uid_in) (Err x) (each_entity S 0 (items_view whole))
  ReadsEntities-refused {rest = rest} {place = place} {made = made} {value = value} x sofar at_left told =
      Tells-at (map uid_in) (Err x) (sofar.is ∙ ap (behind_read (map uid_in made)) (at_next place at_left))
      (Tells-refused (map uid_in) (map uid_in) x _ (λ us. Ok (map uid_in made ++ us)) (Tells-refused uid_in (map uid_in) x (under (decimal place) (entity_of S (view value))) (λ u. and_then (each_entity S (place + 1) (items_view rest)) (λ us. Ok (u ∷ us))) told))

pub ruleset each_entity_reads = (ReadsEntities-start, ReadsEntities-next, ReadsEntities-end, ReadsEntities-refused)
