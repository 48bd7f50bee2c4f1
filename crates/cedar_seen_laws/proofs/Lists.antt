-- SPDX-License-Identifier: Apache-2.0
-- What is written of items is what is written of them as they are seen.
use Rattle.std.proofs.Common.{◌≡◌, ℕ, List, [], ◌∷◌, map, Option, Some, None, option_map, refl, ap}
use Rattle.serde_json.specs.Data.{Data}
use Rattle.cedar_json_write.specs.Written.{Field, all_of, array_of, each_at, if_any, if_some, object_of}

-- items that are seen
module _ {T A : Type 0} (see : T → A) (of : T → Data) (of_seen : A → Data) (same : (t : T) → of t ≡ of_seen (see t)) where
  each_same : (ts : List T) → map of ts ≡ map of_seen (map see ts)
  each_same [] = refl
  each_same (t ∷ ts) = λ i. same t i ∷ each_same ts i

  pub all_same : (ts : List T) → all_of of ts ≡ all_of of_seen (map see ts)
  all_same ts = ap array_of (each_same ts)

  pub some_same : (k : List ℕ) (o : Option T) → if_some k of o ≡ if_some k of_seen (option_map see o)
  some_same k None = refl
  some_same k (Some t) = ap (λ d. (k, d) ∷ []) (same t)

-- values at keys that are seen
module _ {K V L W : Type 0} (see_key : K → L) (see : V → W) (key : K → List ℕ) (key_seen : L → List ℕ) (of : V → Data) (of_seen : W → Data) (named : (k : K) → key k ≡ key_seen (see_key k)) (same : (v : V) → of v ≡ of_seen (see v)) where
  abbrev seen : List (K × V) → List (L × W)
  seen es = map (λ e. (see_key e.0, see e.1)) es

  members_same : (es : List (K × V)) → map {B = Field} (λ e. (key e.0, of e.1)) es ≡ map {B = Field} (λ e. (key_seen e.0, of_seen e.1)) (seen es)
  members_same [] = refl
  members_same (e ∷ es) = λ i. (named e.0 i, same e.1 i) ∷ members_same es i

  pub map_same : (es : List (K × V)) → each_at key of es ≡ each_at key_seen of_seen (seen es)
  map_same es = ap object_of (members_same es)

-- a list that stands only where it has items
pub any_same : {T A : Type 0} (see : T → A) (k : List ℕ) (of : List T → Data) (of_seen : List A → Data) → ((ts : List T) → of ts ≡ of_seen (map see ts)) → (ts : List T) → if_any k of ts ≡ if_any k of_seen (map see ts)
any_same see k of of_seen same [] = refl
any_same see k of of_seen same (t ∷ ts) = ap (λ d. (k, d) ∷ []) (same (t ∷ ts))
