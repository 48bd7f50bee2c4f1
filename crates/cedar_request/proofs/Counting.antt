-- SPDX-License-Identifier: Apache-2.0
-- A loop that counts the environments before those of each action, and what is found among what it made.
use Rattle.std.proofs.Common.{◌≡◌, ℕ, ◌+◌, ◌-◌, ◌^◌, ◌≤◌, Bool, true, false, if◌then◌else◌, List, [], ◌∷◌, ◌++◌, map, Option, Some, None, refl, sym, ap, ◌∙◌, subst, arith, append_assoc, append-nil}
use Rattle.std.proofs.lemmas.List.Elements.{All-nil, All-push}
use Rattle.std.proofs.lemmas.Map.Entries.{All-lookup}
use Rattle.std.specs.BTreeMap.{is_at}
use Rattle.std.specs.List.{All}
use Rattle.std.specs.List.Sorted.{IsStrictlySortedBy}
use Rattle.std.specs.Map.{keys_of}
use Rattle.std.specs.Option.{IfSome, option_map, unwrap_or}
use Rattle.std.specs.declared.result.Result.TheVariants.{Ok, Err}
use Rattle.cedar_data.specs.Maps.{IsSortedMap, get}
use Rattle.cedar_data.proofs.Rebuild.{sorted_next_key}
use Rattle.cedar_names.specs.declared.entity_uid.EntityUID.{EntityUID}
use Rattle.cedar_conform.specs.of_checks.SchemaViews.{action_in, action_of, schema_in}
use Rattle.cedar_conform.specs.of_world.Schemas.{Schema, SchemaAction}
use Rattle.cedar_resolved.specs.Schemas.{action_types, uid_cmp}
use Rattle.cedar_resolved.specs.declared.action.ValidatorActionId.{ValidatorActionId}
use Rattle.cedar_resolved.specs.declared.schema.ValidatorSchema.{ValidatorSchema}
use Rattle.cedar_schema_error.specs.FullNames.{FullName, Uid, uid_in}
use Rattle.cedar_request.proofs.Actions.{action-known, action-missing}
use Rattle.cedar_request.specs.Counts.{AreCounted, HasPlaces, counted_in, counts_from}
use Rattle.cedar_request.specs.Numbers.{number, place_in, size_before, size_of}
use Rattle.cedar_request.specs.RequestChecks.{Says, action_check}
use Rattle.cedar_request.specs.RequestFlaws.{unknown_action}
use Rattle.cedar_request.specs.Requests.{in_64_bits}
use Rattle.cedar_request.specs.declared.environments.Counted.{Counted}

abbrev pub Action : Type 0
Action = EntityUID × ValidatorActionId

-- what is held of an action
abbrev pub Count : Type 0
Count = EntityUID × Counted

-- ---- keys

keys-joined : {K V : Type 0} (xs ys : List (K × V)) → keys_of (xs ++ ys) ≡ keys_of xs ++ keys_of ys
keys-joined [] ys = refl
keys-joined (x ∷ xs) ys = ap (λ ks. x.0 ∷ ks) (keys-joined xs ys)

keys-held : (cs : List Count) → keys_of (map counted_in cs) ≡ keys_of cs
keys-held [] = refl
keys-held (c ∷ cs) = ap (λ ks. c.0 ∷ ks) (keys-held cs)

keys-counted : (before : ℕ) (es : List Action) → keys_of (counts_from before es) ≡ keys_of es
keys-counted before [] = refl
keys-counted before (e ∷ es) = ap (λ ks. e.0 ∷ ks) (keys-counted (in_64_bits (before + in_64_bits (size_of (action_of e.1)))) es)

held-more : (cs : List Count) (c : Count) → map counted_in (cs ++ c ∷ []) ≡ map counted_in cs ++ counted_in c ∷ []
held-more [] c = refl
held-more (x ∷ xs) c = ap (λ cs. counted_in x ∷ cs) (held-more xs c)

-- ---- the loop

-- a loop over the actions of a schema that has `left` before it has counted those so far
pub record CountsOn (V : ValidatorSchema) (left : List Action) (counted : List Count) (before : ℕ) : Type 0 where
  pub is : map counted_in counted ++ counts_from before left ≡ counts_from 0 (action_types V)
  pub places : All (λ e. HasPlaces e.1) counted

pub CountsOn-start : (V : ValidatorSchema) (left : List Action) (counted : List Count) (before : ℕ) → left ≡ action_types V → counted ≡ [] → before ≡ 0 → CountsOn V left counted before
CountsOn-start V left counted before all none zeroth = record {
  is = ap (λ cs. map counted_in cs ++ counts_from before left) none ∙ ap (λ n. counts_from n left) zeroth ∙ ap (counts_from 0) all;
  places = subst (All (λ e. HasPlaces e.1)) (sym none) (All-nil (λ e. HasPlaces e.1));
}

module _ {V : ValidatorSchema} {left : List Action} {counted : List Count} {before : ℕ} where
  pub CountsOn-next : {rest : List Action} {more : List Count} {key name : EntityUID} (held : Counted) {action : ValidatorActionId} {next : ℕ} → CountsOn V left counted before → left ≡ (name, action) ∷ rest → more ≡ counted ++ (key, held) ∷ []
      → key ≡ name → held.action.now ≡ action → held.before ≡ before → next ≡ in_64_bits (before + in_64_bits (size_of (action_of action))) → HasPlaces held → CountsOn V rest more next
  CountsOn-next {rest} {more} {key} {name} held {action} {next} sofar at_left pushed same value stood counted_on has =
      let here : counted_in (key, held) ≡ (name, (action, before)) = λ i. (same i, (value i, stood i)) in
      record {
        is = ap (λ cs. map counted_in cs ++ counts_from next rest) pushed
            ∙ ap (λ cs. cs ++ counts_from next rest) (held-more counted (key, held))
            ∙ append_assoc (map counted_in counted) (counted_in (key, held) ∷ []) (counts_from next rest)
            ∙ ap (λ e. map counted_in counted ++ e ∷ counts_from next rest) here
            ∙ ap (λ n. map counted_in counted ++ (name, (action, before)) ∷ counts_from n rest) counted_on
            ∙ ap (λ es. map counted_in counted ++ counts_from before es) (sym at_left)
            ∙ sofar.is;
        places = subst (All (λ e. HasPlaces e.1)) (sym pushed) (All-push (λ e. HasPlaces e.1) counted (key, held) sofar.places has);
      }

  pub CountsOn-sorted : {rest : List Action} {key name : EntityUID} {action : ValidatorActionId} → CountsOn V left counted before → left ≡ (name, action) ∷ rest → key ≡ name → IsSortedMap uid_cmp (action_types V) → IsStrictlySortedBy uid_cmp (keys_of counted ++ key ∷ [])
  CountsOn-sorted {rest} {key} {name} {action} sofar at_left same sorted =
      sorted_next_key uid_cmp (keys_of counted) split (ap keys_of at_left) same sorted
    where
      split : keys_of counted ++ keys_of left ≡ keys_of (action_types V)
      split =
          ap (λ ks. ks ++ keys_of left) (sym (keys-held counted))
          ∙ ap (λ ks. keys_of (map counted_in counted) ++ ks) (sym (keys-counted before left))
          ∙ sym (keys-joined (map counted_in counted) (counts_from before left))
          ∙ ap keys_of sofar.is
          ∙ keys-counted 0 (action_types V)

  pub CountsOn-end : CountsOn V left counted before → left ≡ [] → AreCounted V counted
  CountsOn-end sofar none = record {
    counts = sym (append-nil (map counted_in counted)) ∙ ap (λ es. map counted_in counted ++ counts_from before es) (sym none) ∙ sofar.is;
    places = sofar.places;
  }

pub ruleset counts = (CountsOn-start, CountsOn-end)

-- ---- what is found

abbrev value_of : Counted → ValidatorActionId × ℕ
value_of c = (c.action.now, c.before)

chosen : (b : Bool) (c : Counted) (found : Option Counted) → (if b then Some (value_of c) else option_map value_of found) ≡ option_map value_of (if b then Some c else found)
chosen true c found = refl
chosen false c found = refl

found-held : (u : EntityUID) (cs : List Count) → get uid_cmp (map counted_in cs) u ≡ option_map value_of (get uid_cmp cs u)
found-held u [] = refl
found-held u (c ∷ cs) = ap (λ rest. if is_at (uid_cmp u) c.0 then Some (value_of c.1) else rest) (found-held u cs) ∙ chosen (is_at (uid_cmp u) c.0) c.1 (get uid_cmp cs u)

-- an action with a number
abbrev with_number : ℕ → ValidatorActionId → ValidatorActionId × ℕ
with_number n a = (a, n)

summed : (n s b : ℕ) → in_64_bits (in_64_bits (n + in_64_bits s) + b) ≡ in_64_bits (n + (s + b))
summed n s b = omega arith

by-first : (b : Bool) (e : Action) (n s : ℕ) (sum : ℕ) (rest : Option (ValidatorActionId × ℕ)) (found : Option ValidatorActionId) → n ≤ 2 ^ 64 - 1
    → rest ≡ option_map (with_number (in_64_bits (in_64_bits (n + in_64_bits s) + sum))) found
    → (if b then Some (e.1, n) else rest) ≡ option_map (with_number (in_64_bits (n + (if b then 0 else s + sum)))) (if b then Some e.1 else found)
by-first true e n s sum rest found most is = ap (λ m. Some (e.1, m)) whole
  where
    whole : n ≡ in_64_bits (n + 0)
    whole = omega (arith, most)
by-first false e n s sum rest found most is = is ∙ ap (λ m. option_map (with_number m) found) (summed n s sum)

found-counted : (n : ℕ) (es : List Action) (u : EntityUID) → n ≤ 2 ^ 64 - 1 → get uid_cmp (counts_from n es) u ≡ option_map (with_number (in_64_bits (n + size_before (map action_in es) (uid_in u)))) (get uid_cmp es u)
found-counted n [] u most = refl
found-counted n (e ∷ es) u most =
    by-first (is_at (uid_cmp u) e.0) e n (size_of (action_of e.1)) (size_before (map action_in es) (uid_in u)) (get uid_cmp (counts_from (in_64_bits (n + in_64_bits (size_of (action_of e.1)))) es) u) (get uid_cmp es u) most
    (found-counted (in_64_bits (n + in_64_bits (size_of (action_of e.1)))) es u (in-64-bits (n + in_64_bits (size_of (action_of e.1)))))
  where
    in-64-bits : (m : ℕ) → in_64_bits m ≤ 2 ^ 64 - 1
    in-64-bits m = omega arith

some-counted : (n : ℕ) (found : Option ValidatorActionId) (c : Counted) → Some (value_of c) ≡ option_map (with_number n) found → (found ≡ Some c.action.now) × (c.before ≡ n)
some-counted n None c is = absurd (cc)
some-counted n (Some a) c is =
    let held : value_of c ≡ with_number n a = ap (λ o. unwrap_or o (value_of c)) is in
    (ap Some (sym (ap (λ v. v.0) held)), ap (λ v. v.1) held)

none-counted : (n : ℕ) (found : Option ValidatorActionId) → None ≡ option_map (with_number n) found → found ≡ None
none-counted n None is = refl
none-counted n (Some a) is = absurd (cc)

module _ (V : ValidatorSchema) (counted : List Count) (are : AreCounted V counted) (u : EntityUID) where
  both : option_map value_of (get uid_cmp counted u) ≡ option_map (with_number (in_64_bits (0 + size_before (map action_in (action_types V)) (uid_in u)))) (get uid_cmp (action_types V) u)
  both = sym (found-held u counted) ∙ ap (λ es. get uid_cmp es u) are.counts ∙ found-counted 0 (action_types V) u (omega arith)

  found-of : (c : Counted) → get uid_cmp counted u ≡ Some c → (get uid_cmp (action_types V) u ≡ Some c.action.now) × (c.before ≡ in_64_bits (0 + size_before (map action_in (action_types V)) (uid_in u)))
  found-of c is = some-counted (in_64_bits (0 + size_before (map action_in (action_types V)) (uid_in u))) (get uid_cmp (action_types V) u) c (ap (option_map value_of) (sym is) ∙ both)

  pub named-known : (place : ℕ) (c : Counted) → get uid_cmp counted u ≡ Some c → action_check (schema_in V) place (uid_in u) ≡ Ok (action_of c.action.now)
  named-known place c is = action-known V place u c.action.now (found-of c is).0

  pub named-missing : (place : ℕ) → get uid_cmp counted u ≡ None → action_check (schema_in V) place (uid_in u) ≡ Err (unknown_action place (uid_in u))
  named-missing place is = action-missing V place u (none-counted (in_64_bits (0 + size_before (map action_in (action_types V)) (uid_in u))) (get uid_cmp (action_types V) u) (ap (option_map value_of) (sym is) ∙ both))

  pub named-before : (c : Counted) → get uid_cmp counted u ≡ Some c → c.before ≡ in_64_bits (size_before (map action_in (action_types V)) (uid_in u))
  named-before c is = (found-of c is).1 ∙ ap in_64_bits (from_zero (size_before (map action_in (action_types V)) (uid_in u)))
    where
      from_zero : (n : ℕ) → 0 + n ≡ n
      from_zero n = omega arith

  pub named-places : (c : Counted) → get uid_cmp counted u ≡ Some c → HasPlaces c
  named-places c is = subst (λ o. IfSome o HasPlaces) is (All-lookup HasPlaces (is_at (uid_cmp u)) counted are.places)

pub ruleset named = (named-known, named-missing, named-before, named-places)

-- ---- the number of an environment

-- where so many stand before those of the action
pub number-says : (S : Schema) (u : Uid) (action : SchemaAction) (principal resource : FullName) (before n : ℕ) → before ≡ in_64_bits (size_before S.actions u)
    → n ≡ in_64_bits (before + in_64_bits (place_in action principal resource)) → Says {T = ℕ} (λ n. n) (Ok n) (Ok (in_64_bits (number S u action principal resource)))
number-says S u action principal resource before n first is = ap Ok (sums (size_before S.actions u) (place_in action principal resource) before n first is)
  where
    sums : (s p before n : ℕ) → before ≡ in_64_bits s → n ≡ in_64_bits (before + in_64_bits p) → in_64_bits (s + p) ≡ n
    sums s p before n first is = omega (arith, first, is)

pub ruleset numbers = (number-says)
