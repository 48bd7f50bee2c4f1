-- SPDX-License-Identifier: Apache-2.0
-- A walk through definitions that comes to no name a second time ends.
use Rattle.std.proofs.Common.{◌≡◌, ℕ, zero, suc, ◌+◌, ◌<◌, ◌≤◌, ◌||◌, Bool, true, false, cond, List, [], ◌∷◌, Some, inl, inr, refl, sym, ap, ◌∙◌, subst, arith}
use Rattle.std.proofs.lemmas.Option.{none-some}
use Rattle.std.specs.BTreeMap.{is_at}
use Rattle.std.specs.Bool.{IsTrue}
use Rattle.std.specs.Map.{lookup}
use Rattle.std.specs.Option.{is_some}
use Rattle.cedar_closure.specs.Chains.{Reaches, one, more}
use Rattle.cedar_closure.proofs.ChainLaws.{Reaches-push}
use Rattle.cedar_data.specs.Firsts.{AllPass, SomePasses}
use Rattle.cedar_names.specs.Order.{words_cmp}
use Rattle.cedar_schema_error.specs.FullNames.{FullName}
use Rattle.cedar_unfold.specs.Faults.{faults}
use Rattle.cedar_unfold.specs.Full.{AreFaultless, Definitions}
use Rattle.cedar_unfold.specs.Meanings.{Meanings, definition_of, full_meanings}
use Rattle.cedar_unfold.specs.UnfoldPhases.{IsCircular, Refers}
use Rattle.cedar_unfold.specs.Written.{Written, common_references, references}
use Rattle.cedar_unfold.proofs.Filling.{found-passes}
use Rattle.cedar_unfold.proofs.Positions.{same_name}
use Rattle.cedar_unfold_laws.specs.Reached.{DoesUnfold, Holds, IsFlawless, RefersTo, RefersToFlawless, RefersToNoCycle}
use Rattle.cedar_unfold_laws.proofs.OneType.{unfolds_from}

-- the names that were passed, and this one
abbrev with_name : FullName → (FullName → Bool) → FullName → Bool
with_name name passed other = passed other || is_at (words_cmp name) other

module _ {V : Type 0} where
  -- how many of the entries have names that were not passed
  abbrev left : (FullName → Bool) → List (FullName × V) → ℕ
  left passed [] = 0
  left passed (e ∷ es) = cond (passed e.0) (left passed es) (left passed es + 1)

  no_more : (passed : FullName → Bool) (name : FullName) (es : List (FullName × V)) → left (with_name name passed) es ≤ left passed es
  no_more passed name [] = omega arith
  no_more passed name (e ∷ es) = by_tests (passed e.0) (is_at (words_cmp name) e.0) (left (with_name name passed) es) (left passed es) (no_more passed name es) where
    by_tests : (a b : Bool) (n k : ℕ) → n ≤ k → cond (a || b) n (n + 1) ≤ cond a k (k + 1)
    by_tests true b n k h = h
    by_tests false true n k h = omega arith
    by_tests false false n k h = omega arith

  -- one less where a name is passed that some entry has
  one_less : (passed : FullName → Bool) (name : FullName) → passed name ≡ false → (es : List (FullName × V)) (v : V) → lookup (is_at (words_cmp name)) es ≡ Some v → left (with_name name passed) es < left passed es
  one_less passed name new [] v is = absurd (none-some v is)
  one_less passed name new (e ∷ es) v is = by_test (is_at (words_cmp name) e.0) refl is (one_less passed name new es v) where
    here : (a b : Bool) (n k : ℕ) → a ≡ false → b ≡ true → n ≤ k → cond (a || b) n (n + 1) < cond a k (k + 1)
    here true b n k x y h = absurd cc
    here false true n k x y h = omega arith
    here false false n k x y h = absurd cc

    later : (a b : Bool) (n k : ℕ) → b ≡ false → n < k → cond (a || b) n (n + 1) < cond a k (k + 1)
    later true b n k y h = h
    later false true n k y h = absurd cc
    later false false n k y h = omega arith

    by_test : (b : Bool) → is_at (words_cmp name) e.0 ≡ b → cond b (Some e.1) (lookup (is_at (words_cmp name)) es) ≡ Some v
        → (lookup (is_at (words_cmp name)) es ≡ Some v → left (with_name name passed) es < left passed es)
        → left (with_name name passed) (e ∷ es) < left passed (e ∷ es)
    by_test true at is rest =
        here (passed e.0) (is_at (words_cmp name) e.0) (left (with_name name passed) es) (left passed es) (sym (ap passed (same_name name e.0 at)) ∙ new) at (no_more passed name es)
    by_test false at is rest =
        later (passed e.0) (is_at (words_cmp name) e.0) (left (with_name name passed) es) (left passed es) at (rest is)

module _ {N : Type 0} (m : Meanings N) where
  -- each name that was passed reaches what the type names
  abbrev IsWayTo : (FullName → Bool) → Written N → Type 0
  IsWayTo passed t = (before name : FullName) → passed before ≡ true → Holds m t name → Reaches (Refers m) before name

  -- types unfold where fewer common types than this were not passed
  abbrev Walks : ℕ → Type 0
  Walks count =
      (passed : FullName → Bool) → left passed m.common_types < count → (t : Written N) → IsWayTo passed t → RefersToNoCycle m t → IsFlawless m t → RefersToFlawless m t → DoesUnfold m t

  module _ (t u : Written N) (name : FullName) (refers : SomePasses (λ r. m.target r ≡ Some name) (common_references t)) (defined : definition_of m name ≡ Some u) where
    holds : Holds m t name
    holds = record { refers = refers; common = ap is_some defined }

    refers_on : (other : FullName) → Holds m u other → Refers m name other
    refers_on other h = record { definition = u; defined = defined; refers = h.refers; common = h.common }

    -- what the definition refers to, the type does
    reaches_on : (other : FullName) → RefersTo m u other → RefersTo m t other
    reaches_on other (inl h) = inr (name, holds, one (refers_on other h))
    reaches_on other (inr (first, h, chain)) = inr (name, holds, more (refers_on first h) chain)

    way_on : (passed : FullName → Bool) → IsWayTo passed t → IsWayTo (with_name name passed) u
    way_on passed way before other is h = by_test (passed before) refl is where
      by_test : (a : Bool) → passed before ≡ a → (a || is_at (words_cmp name) before) ≡ true → Reaches (Refers m) before other
      by_test true old is = Reaches-push (way before name old holds) (refers_on other h)
      by_test false old is = subst (λ b. Reaches (Refers m) b other) (same_name name before is) (one (refers_on other h))

    goes_on : (count : ℕ) → Walks count → (passed : FullName → Bool) → left passed m.common_types < suc count → IsWayTo passed t → RefersToNoCycle m t → RefersToFlawless m t → DoesUnfold m u
    goes_on count walks passed few way acyclic reached = by_test (passed name) refl where
      by_test : (b : Bool) → passed name ≡ b → DoesUnfold m u
      by_test true old = absurd (acyclic name (inl holds) (way name name old holds))
      by_test false new =
          let less : left (with_name name passed) m.common_types < left passed m.common_types = one_less passed name new m.common_types u defined in
          walks (with_name name passed) (omega arith) u (way_on passed way) (λ other r. acyclic other (reaches_on other r)) (reached name u (inl holds) defined) (λ other d r. reached other d (reaches_on other r))

  walks : (count : ℕ) → Walks count
  walks zero passed few t way acyclic flawless reached = absurd (omega arith)
  walks (suc count) passed few t way acyclic flawless reached =
      unfolds_from m t flawless.targeted flawless.faultless (λ name u refers defined. goes_on t u name refers defined count (walks count) passed few way acyclic reached)

  pub without_cycle : (t : Written N) → RefersToNoCycle m t → IsFlawless m t → RefersToFlawless m t → DoesUnfold m t
  without_cycle t acyclic flawless reached =
      walks (left (λ name. false) m.common_types + 1) (λ name. false) (omega arith) t (λ before name is h. absurd (none is)) acyclic flawless reached
    where
      none : false ≡ true → ⊥
      none is = absurd cc

all_targeted : (rs : List FullName) → AllPass (λ r. IsTrue (is_some (Some r))) rs
all_targeted [] = tt
all_targeted (r ∷ rs) = (refl, all_targeted rs)

-- where no common type reaches itself, and no definition has a fault, types over full names unfold
pub full_names : (definitions : Definitions) (is_extension : List ℕ → Bool) (t : Written FullName)
    → ((name : FullName) → IsCircular (full_meanings definitions is_extension) name → ⊥)
    → AreFaultless (full_meanings definitions is_extension)
    → faults (full_meanings definitions is_extension) t ≡ []
    → DoesUnfold (full_meanings definitions is_extension) t
full_names definitions is_extension t acyclic all_faultless faultless =
    without_cycle (full_meanings definitions is_extension) t (λ name r. acyclic name) (flawless t faultless) (λ name u r defined. flawless u (found-passes (λ d. faults (full_meanings definitions is_extension) d ≡ []) (is_at (words_cmp name)) definitions u all_faultless defined))
  where
    flawless : (u : Written FullName) → faults (full_meanings definitions is_extension) u ≡ [] → IsFlawless (full_meanings definitions is_extension) u
    flawless u none = record { targeted = all_targeted (references u); faultless = none }
