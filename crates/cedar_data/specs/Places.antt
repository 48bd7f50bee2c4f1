-- SPDX-License-Identifier: Apache-2.0
-- Where a key stands among entries in order, or else where it would be put.
use Rattle.std.specs.Prelude.{◌≡◌, ◌++◌, ℕ, length, List, [], ◌∷◌, Option, Some, None}
use Rattle.std.specs.declared.cmp.Ordering.{Ordering}
use Rattle.std.specs.declared.cmp.Ordering.TheVariants.{Less, Equal, Greater}
use Rattle.cedar_data.specs.Firsts.{AllPass}
use Rattle.cedar_data.specs.Maps.{get}

module _ {K V : Type 0} (cmp : K → K → Ordering) (entries : List (K × V)) (key : K) (at : ℕ) where
  -- the entry at the place has the key, those before it have less ones, and those behind it have greater ones
  pub record StandsAt : Type 0 where
    pub before : List (K × V)
    pub entry : K × V
    pub behind : List (K × V)
    pub split : entries ≡ before ++ entry ∷ behind
    pub place : at ≡ length before
    pub less : AllPass (λ e. cmp e.0 key ≡ Less) before
    pub equal : cmp entry.0 key ≡ Equal
    pub greater : AllPass (λ e. cmp e.0 key ≡ Greater) behind

  -- the entries before the place have less keys, and all others have greater ones
  pub record BelongsAt : Type 0 where
    pub before : List (K × V)
    pub behind : List (K × V)
    pub split : entries ≡ before ++ behind
    pub place : at ≡ length before
    pub less : AllPass (λ e. cmp e.0 key ≡ Less) before
    pub greater : AllPass (λ e. cmp e.0 key ≡ Greater) behind

-- the key stands somewhere among the entries, with this value
pub record HasValue {K V : Type 0} (cmp : K → K → Ordering) (entries : List (K × V)) (key : K) (value : V) : Type 0 where
  pub at : ℕ
  pub stands : StandsAt cmp entries key at
  pub is : get cmp entries key ≡ Some value

-- there is a last entry, and its key is less
pub record EndsBefore {K V : Type 0} (cmp : K → K → Ordering) (entries : List (K × V)) (key : K) : Type 0 where
  pub before : List (K × V)
  pub last : K × V
  pub split : entries ≡ before ++ last ∷ []
  pub less : cmp last.0 key ≡ Less

-- how the key of an entry compares, and as greater where there is none
abbrev pub compared : {K V : Type 0} → (K → K → Ordering) → K → Option (K × V) → Ordering
compared cmp key None = Greater
compared cmp key (Some entry) = cmp entry.0 key
