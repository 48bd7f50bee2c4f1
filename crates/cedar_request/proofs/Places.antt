-- SPDX-License-Identifier: Apache-2.0
-- A loop that tells of each type how many stand before it, and what is found among what it made.
use Rattle.std.proofs.Common.{◌≡◌, ℕ, suc, ◌+◌, Bool, true, false, if◌then◌else◌, List, [], ◌∷◌, ◌++◌, length, map, Option, Some, refl, sym, ap, ◌∙◌, arith, append_assoc, append-nil}
use Rattle.std.proofs.lemmas.List.{length-append}
use Rattle.std.specs.BTreeMap.{is_at}
use Rattle.std.specs.List.Sorted.{IsStrictlySortedBy}
use Rattle.std.specs.Map.{keys_of}
use Rattle.std.specs.Option.{unwrap_or}
use Rattle.cedar_data.specs.Maps.{get}
use Rattle.cedar_data.proofs.Rebuild.{keys_of-append, sorted_next_key}
use Rattle.cedar_names.specs.Names.{entity_cmp, entity_words}
use Rattle.cedar_names.specs.declared.name.EntityType.{EntityType}
use Rattle.cedar_request.specs.Counts.{ArePlaces}
use Rattle.cedar_request.specs.Numbers.{place_among}

-- each type with how many stand before it, where so many stand before all
abbrev pub places_from : ℕ → List EntityType → List (EntityType × ℕ)
places_from before [] = []
places_from before (ty ∷ types) = (ty, before) ∷ places_from (suc before) types

keys-placed : (before : ℕ) (types : List EntityType) → keys_of (places_from before types) ≡ types
keys-placed before [] = refl
keys-placed before (ty ∷ types) = ap (λ ts. ty ∷ ts) (keys-placed (suc before) types)

-- ---- what is found

first_or : (b : Bool) (n : ℕ) (rest : Option ℕ) (place count : ℕ) → unwrap_or rest (suc n + count) ≡ suc n + place
    → unwrap_or (if b then Some n else rest) (n + suc count) ≡ n + (if b then 0 else suc place)
first_or true n rest place count is = omega arith
first_or false n rest place count is = ap (unwrap_or rest) (shuffle n count) ∙ is ∙ sym (shuffle n place)
  where
    shuffle : (n m : ℕ) → n + suc m ≡ suc n + m
    shuffle n m = omega arith

found-placed : (n : ℕ) (types : List EntityType) (ty : EntityType) → unwrap_or (get entity_cmp (places_from n types) ty) (n + length types) ≡ n + place_among (map entity_words types) (entity_words ty)
found-placed n [] ty = refl
found-placed n (t ∷ types) ty =
    first_or (is_at (entity_cmp ty) t) n (get entity_cmp (places_from (suc n) types) ty) (place_among (map entity_words types) (entity_words ty)) (length types) (found-placed (suc n) types ty)

are-placed : (types : List EntityType) (places : List (EntityType × ℕ)) → places ≡ places_from 0 types → ArePlaces types places
are-placed types places is ty =
    ap (λ ps. unwrap_or (get entity_cmp ps ty) (length types)) is
    ∙ ap (unwrap_or (get entity_cmp (places_from 0 types) ty)) (sym (from_zero (length types)))
    ∙ found-placed 0 types ty
    ∙ from_zero (place_among (map entity_words types) (entity_words ty))
  where
    from_zero : (n : ℕ) → 0 + n ≡ n
    from_zero n = omega arith

-- ---- the loop

-- a loop over `whole` that has `left` before it has told the places of those so far
pub record PlacesOn (whole left : List EntityType) (places : List (EntityType × ℕ)) : Type 0 where
  pub is : places ++ places_from (length places) left ≡ places_from 0 whole

pub PlacesOn-start : (whole left : List EntityType) (places : List (EntityType × ℕ)) → left ≡ whole → places ≡ [] → PlacesOn whole left places
PlacesOn-start whole left places all none = record {
  is = ap (λ ps. ps ++ places_from (length ps) left) none ∙ ap (places_from 0) all;
}

module _ {whole left : List EntityType} {places : List (EntityType × ℕ)} where
  pub PlacesOn-next : {rest : List EntityType} {more : List (EntityType × ℕ)} {key ty : EntityType} {place : ℕ} → PlacesOn whole left places → left ≡ ty ∷ rest → key ≡ ty → place ≡ length places → more ≡ places ++ (key, place) ∷ [] → PlacesOn whole rest more
  PlacesOn-next {rest} {more} {key} {ty} {place} sofar at_left same counted pushed =
      let here : more ≡ places ++ (ty, length places) ∷ [] = pushed ∙ ap (λ e. places ++ e ∷ []) (λ i. (same i, counted i)) in
      let longer : length more ≡ suc (length places) = ap length here ∙ length-append places ((ty, length places) ∷ []) ∙ one_more (length places) in
      record {
        is = ap (λ n. more ++ places_from n rest) longer
            ∙ ap (λ ps. ps ++ places_from (suc (length places)) rest) here
            ∙ append_assoc places ((ty, length places) ∷ []) (places_from (suc (length places)) rest)
            ∙ ap (λ ts. places ++ places_from (length places) ts) (sym at_left)
            ∙ sofar.is;
      }
    where
      one_more : (n : ℕ) → n + 1 ≡ suc n
      one_more n = omega arith

  pub PlacesOn-sorted : {rest : List EntityType} {key ty : EntityType} → PlacesOn whole left places → left ≡ ty ∷ rest → key ≡ ty → IsStrictlySortedBy entity_cmp whole → IsStrictlySortedBy entity_cmp (keys_of places ++ key ∷ [])
  PlacesOn-sorted sofar at_left same sorted = sorted_next_key entity_cmp (keys_of places) split at_left same sorted
    where
      split : keys_of places ++ left ≡ whole
      split =
          ap (λ ks. keys_of places ++ ks) (sym (keys-placed (length places) left))
          ∙ sym (keys_of-append places (places_from (length places) left))
          ∙ ap keys_of sofar.is
          ∙ keys-placed 0 whole

  pub PlacesOn-end : PlacesOn whole left places → left ≡ [] → ArePlaces whole places
  PlacesOn-end sofar none = are-placed whole places (sym (append-nil places) ∙ ap (λ ts. places ++ places_from (length places) ts) (sym none) ∙ sofar.is)

pub ruleset places = (PlacesOn-start, PlacesOn-end)
