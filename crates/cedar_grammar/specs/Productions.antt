-- SPDX-License-Identifier: Apache-2.0
-- Productions of a grammar over tokens of a type T, and the ways to put them together.
use Rattle.std.specs.Prelude.{◌≡◌, ◌⊎◌, Bool, true, false, List, [], ◌∷◌, ◌++◌, Option, Some, None}

-- what a production says of a list of tokens
pub record Production (T A : Type 0) : Type 1 where
  -- the value is read at its front, and these tokens are left
  pub reads : List T → A → List T → Type 0
  -- it is a reading of a value or the beginning of one, with no token left over
  pub begins : List T → Type 0

-- one token, of which f makes this value
pub record IsOne {T A : Type 0} (f : T → Option A) (ts : List T) (x : A) (rest : List T) : Type 0 where
  pub token : T
  pub front : ts ≡ token ∷ rest
  pub is : f token ≡ Some x

-- a token of which f makes a value
abbrev pub class : {T A : Type 0} → (T → Option A) → Production T A
class f = record { reads = IsOne f; begins = λ ts. (ts ≡ []) ⊎ ((x : _) × IsOne f ts x []) }

-- no token at all, and the value a
abbrev pub gives : {T A : Type 0} → A → Production T A
gives a = record { reads = λ ts x rest. (x ≡ a) × (rest ≡ ts); begins = λ ts. ts ≡ [] }

-- R, and then what S says for the value of R
infixl 10 ◌>>=◌
abbrev pub ◌>>=◌ : {T A B : Type 0} → Production T A → (A → Production T B) → Production T B
R >>= S = record {
  reads = λ ts y rest. (x : _) × (mid : _) × R.reads ts x mid × (S x).reads mid y rest;
  begins = λ ts. R.begins ts ⊎ ((x : _) × (mid : _) × R.reads ts x mid × (S x).begins mid);
}

-- R, and then S
infixl 10 ◌>>◌
abbrev pub ◌>>◌ : {T A B : Type 0} → Production T A → Production T B → Production T B
R >> S = R >>= λ _. S

-- R or S
infixl 8 ◌∣◌
abbrev pub ◌∣◌ : {T A : Type 0} → Production T A → Production T A → Production T A
R ∣ S = record { reads = λ ts x rest. R.reads ts x rest ⊎ S.reads ts x rest; begins = λ ts. R.begins ts ⊎ S.begins ts }

-- readings of R one after another, as many as xs has members
pub data ReadsMany {T A : Type 0} (R : List T → A → List T → Type 0) : List T → List A → List T → Type 0 where
  none : {ts : List T} → ReadsMany R ts [] ts
  more : {ts mid rest : List T} {x : A} {xs : List A} → R ts x mid → ReadsMany R mid xs rest → ReadsMany R ts (x ∷ xs) rest

-- R any number of times
abbrev pub many : {T A : Type 0} → Production T A → Production T (List A)
many R = record { reads = ReadsMany R.reads; begins = λ ts. (ts ≡ []) ⊎ ((xs : _) × (mid : _) × ReadsMany R.reads ts xs mid × R.begins mid) }

-- readings one after another, each of what R says for the values before it
pub data ReadsEach {T A : Type 0} (R : List A → List T → A → List T → Type 0) : List T → List A → List T → Type 0 where
  none_yet : {ts : List T} → ReadsEach R ts [] ts
  then_one : {ts mid rest : List T} {x : A} {xs : List A} → ReadsEach R ts xs mid → R xs mid x rest → ReadsEach R ts (xs ++ x ∷ []) rest

-- any number of values, each as R says for those before it
abbrev pub each : {T A : Type 0} → (List A → Production T A) → Production T (List A)
each R = record {
  reads = ReadsEach (λ xs. (R xs).reads);
  begins = λ ts. (ts ≡ []) ⊎ ((xs : _) × (mid : _) × ReadsEach (λ ys. (R ys).reads) ts xs mid × (R xs).begins mid);
}

-- R or nothing, and which of the two
abbrev pub optional : {T A : Type 0} → Production T A → Production T Bool
optional R = (R >> gives true) ∣ gives false

-- R or nothing, and the value of R
abbrev pub maybe : {T A : Type 0} → Production T A → Production T (Option A)
maybe R = (R >>= λ x. gives (Some x)) ∣ gives None

-- R once or more, with a separator between
abbrev pub separated : {T S A : Type 0} → Production T S → Production T A → Production T (List A)
separated separator R = do
  x ← R
  xs ← many (separator >> R)
  gives (x ∷ xs)

-- the same, where a separator may also stand at the end
abbrev pub trailing : {T S A : Type 0} → Production T S → Production T A → Production T (List A)
trailing separator R = do
  xs ← separated separator R
  optional separator
  gives xs

-- some further tokens make the tokens a reading
abbrev pub Completable : {T A : Type 0} → Production T A → List T → Type 0
Completable R ts = (further : _) × (x : _) × R.reads (ts ++ further) x []
