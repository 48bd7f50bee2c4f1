-- SPDX-License-Identifier: Apache-2.0
-- What two maps of alike values have under a name.
use Rattle.std.proofs.Common.{◌≡◌, Bool, true, false, cond, List, [], ◌∷◌, Option, Some, None, refl, sym, ap, subst}
use Rattle.std.specs.List.{AllZip}
use Rattle.std.specs.Map.{lookup}
use Rattle.std.specs.Option.{is_some}

-- both are there, and Q holds of them, or neither is
abbrev pub BothOrNeither : {A B : Type 0} → (A → B → Type 0) → Option A → Option B → Type 0
BothOrNeither Q None None = Unit {0}
BothOrNeither Q None (Some b) = ⊥
BothOrNeither Q (Some a) None = ⊥
BothOrNeither Q (Some a) (Some b) = Q a b

module _ {A B : Type 0} (Q : A → B → Type 0) where
  front : (a : A) (b : B) (o : Option A) (o' : Option B) (t t' : Bool) → t ≡ t' → Q a b → BothOrNeither Q o o' → BothOrNeither Q (cond t (Some a) o) (cond t' (Some b) o')
  front a b o o' true true e h rest = h
  front a b o o' false false e h rest = rest
  front a b o o' true false e h rest = absurd (cc)
  front a b o o' false true e h rest = absurd (cc)

  pub same_lookups : {K : Type 0} (p : K → Bool) (es : List (K × A)) (fs : List (K × B)) → AllZip (λ e f. (f.0 ≡ e.0) × Q e.1 f.1) es fs
      → BothOrNeither Q (lookup p es) (lookup p fs)
  same_lookups p [] [] z = tt
  same_lookups p [] (f ∷ fs) z = absurd z
  same_lookups p (e ∷ es) [] z = absurd z
  same_lookups p ((k, a) ∷ es) ((k', b) ∷ fs) z = front a b (lookup p es) (lookup p fs) (p k) (p k') (ap p (sym z.0.0)) z.0.1 (same_lookups p es fs z.1)

  pub there_by : (o : Option A) (o' : Option B) (a : A) → BothOrNeither Q o o' → o ≡ Some a → (b : B) × (o' ≡ Some b) × Q a b
  there_by None o' a h e = absurd (cc)
  there_by (Some x) None a h e = absurd h
  there_by (Some x) (Some b) a h e = let same : x ≡ a = cc in (b, refl, subst (λ y. Q y b) same h)

  pub back_by : (o : Option A) (o' : Option B) (b : B) → BothOrNeither Q o o' → o' ≡ Some b → (a : A) × (o ≡ Some a) × Q a b
  back_by o None b h e = absurd (cc)
  back_by None (Some x) b h e = absurd h
  back_by (Some a) (Some x) b h e = let same : x ≡ b = cc in (a, refl, subst (λ y. Q a y) same h)

  pub none_there : (o : Option A) (o' : Option B) → BothOrNeither Q o o' → o ≡ None → o' ≡ None
  none_there None None h e = refl
  none_there None (Some b) h e = absurd h
  none_there (Some a) o' h e = absurd (cc)

  pub none_back : (o : Option A) (o' : Option B) → BothOrNeither Q o o' → o' ≡ None → o ≡ None
  none_back None None h e = refl
  none_back (Some a) None h e = absurd h
  none_back o (Some b) h e = absurd (cc)

  pub same_there : (o : Option A) (o' : Option B) → BothOrNeither Q o o' → is_some o ≡ is_some o'
  same_there None None h = refl
  same_there None (Some b) h = absurd h
  same_there (Some a) None h = absurd h
  same_there (Some a) (Some b) h = refl
