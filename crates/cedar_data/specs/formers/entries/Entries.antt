-- SPDX-License-Identifier: Apache-2.0
-- `Entries` holds its values as a list of entries does: one run does, and several do as the list of all their entries.
use Rattle.std.specs.Prelude.{ℕ, List, [], ◌∷◌, ◌++◌, ◌≢◌, map, length}
use mathlib.Core.Path.{◌≡◌, refl, sym, ap, subst, ◌∙◌}
use mathlib.Core.Logic.{◌⊎◌, inl, inr}
use mathlib.Core.HLevel.{⊥_prop, Unit-prop, →_prop, ×_prop}
use mathlib.Core.List.{map-append}
use mathlib.Core.Former.{Former, Count, Row, this, const, pair, or, list, list_count, list_put, via, children}
use native.Mathlib.Nat.{ℕ_set}
use lib.ListN.{length-map}
use denote.RattleType.{RattleType}
use denote.HoleLaws.{Alike}
use denote.HolePlaces.{Recodes, struct_places, enum_places, eachs, laid}
use denote.Hole.Carrier.{listed}
use denote.Hole.Fix.{over}
use denote.Param.Weighed.{Weighed, most}
use denote.Model.Placed.{held, view_places}
use Rattle.std.specs.formers.vec.Vec as vec
use Rattle.std.specs.declared.alloc.Global.{Global}
use Rattle.std.specs.contracts.alloc.Global as heap
use Rattle.std.specs.contracts.impls.GlobalAllocator.TheImpl.{ghosts}
use Rattle.std.specs.declared.cmp.Ord as ord
use Rattle.std.specs.declared.cmp.Ordering.{Ordering}
use Rattle.std.specs.declared.cmp.PartialEq as eq
use Rattle.std.specs.declared.cmp.PartialOrd as partial
use Rattle.std.specs.declared.vec.Vec.{Vec}
use Rattle.std.specs.List.Sorted.{IsStrictlySortedBy, IsStrictlySortedBy-prop}
use Rattle.std_collections.specs.Map.{keys_of, values_of}
use Rattle.std_collections.specs.Layout.Former.{entry, on_value, entries_puts, values_listed, keys_on_values, entries_recoded}
use Rattle.cedar_data.specs.EntriesHeld.{entries_held, IsOrderedHeld, IsHeld}
use Rattle.cedar_data.specs.Firsts.{AllPass}
use Rattle.cedar_data.specs.Runs.{all_runs, AreRuns}
use Rattle.cedar_data.specs.declared.entries.Held.{Held}
use Rattle.cedar_data.specs.declared.entries.Held.TheVariants.{One, Several}
use Rattle.cedar_data.specs.declared.entries.Entries.TheInside.{Inside}
use Rattle.cedar_data.specs.declared.entries.Entries.TheView.{view, invariant}
use Rattle.cedar_data.specs.contracts.entries.Entries as C
use Rattle.cedar_data.specs.contracts.entries.Entries.TheInside as I
use Rattle.cedar_data.specs.contracts.entries.Held as H
use Rattle.cedar_data.specs.contracts.run.Run as R'
use Rattle.cedar_data.specs.formers.run.Run as run

abbrev pub the_former : Former {0} → Type 0 → Former {0}
the_former f K = list (entry f K)

abbrev pub the_weighed : {f : Former {0}} → Weighed f → (K : Type 0) → Weighed (the_former f K)
the_weighed weighed K = record {
  weight = λ X size es. most (weighed.weight X size) (values_of es);
  puts = λ X size es. entries_puts weighed K X size es;
}

pub the_empty : (K : Type 0) → K → List (K × ⊥)
the_empty K key = []

abbrev pub the_items : (K X : Type 0) → List (K × X) → List X
the_items K X es = values_of es

pub the_items_listed : (K X : Type 0) (es : List (K × X)) → listed _ (children (the_former this K) X es) ≡ the_items K X es
the_items_listed K X es = values_listed K X es

-- ---- one run or several
module _ {K X : Type 0} where
  abbrev split : Held K X → List (K × X) ⊎ Vec (List (K × X)) Global
  split (One r) = inl r
  split (Several rs) = inr rs

  abbrev join : List (K × X) ⊎ Vec (List (K × X)) Global → Held K X
  join (inl r) = One r
  join (inr rs) = Several rs

  join-split : (x : Held K X) → join (split x) ≡ x
  join-split (One r) = refl
  join-split (Several rs) = refl

  split-join : (x : List (K × X) ⊎ Vec (List (K × X)) Global) → split (join x) ≡ x
  split-join (inl r) = refl
  split-join (inr rs) = refl

abbrev parts : Type 0 → Former {0}
parts K = via (or (run.the_former this K) (vec.the_former (run.the_former this K) Global)) (λ X. Held K X) (λ X. split) (λ X. join) (λ X. join-split) (λ X. split-join)

abbrev fields : Type 0 → Former {0}
fields K = via (pair (const (Global × ℕ)) (parts K)) (λ X. Inside K X) (λ X inside. ((inside.alloc, inside.count), inside.held))
    (λ X v. record { alloc = v.0.0; count = v.0.1; held = v.1 }) (λ X inside. refl) (λ X v. refl)

-- ---- what the runs hold is what their entries hold
module _ (f : Former {0}) (X : Type 0) where
  abbrev laid_before : (xs : List (f.Of X)) (n : Count) → Row X n → (m : Count) × Row X m
  laid_before xs n row = (list_count f (map (f.shape X) xs) n, list_put f X xs n row)

  laid-append : (xs ys : List (f.Of X)) (n : Count) (row : Row X n) → laid_before (xs ++ ys) n row ≡ laid_before xs (laid_before ys n row).0 (laid_before ys n row).1
  laid-append [] ys n row = refl
  laid-append (x ∷ xs) ys n row = ap {B = (m : Count) × Row X m} (λ (p : (m : Count) × Row X m). (f.count (f.shape X x) p.0, f.put X x p.0 p.1)) (laid-append xs ys n row)

module _ (K X : Type 0) where
  laid-all_runs : (rs : List (List (K × X))) (n : Count) (row : Row X n)
      → laid_before (entry this K) X (all_runs rs) n row ≡ laid_before (list (entry this K)) X rs n row
  laid-all_runs [] n row = refl
  laid-all_runs (r ∷ rs) n row = laid-append (entry this K) X r (all_runs rs) n row
      ∙ ap {B = (m : Count) × Row X m} (λ (p : (m : Count) × Row X m). laid_before (entry this K) X r p.0 p.1) (laid-all_runs rs n row)

-- ---- the same runs over other values
module _ {K X Y : Type 0} (h : X → Y) where
  abbrev run_over : List (K × X) → List (K × Y)
  run_over r = map (on_value h) r

  all_runs-map : (rs : List (List (K × X))) → all_runs (map run_over rs) ≡ run_over (all_runs rs)
  all_runs-map [] = refl
  all_runs-map (r ∷ rs) = ap (λ es. run_over r ++ es) (all_runs-map rs) ∙ sym (map-append (on_value h) r (all_runs rs))

  keys-all_runs : (rs : List (List (K × X))) → keys_of (all_runs (map run_over rs)) ≡ keys_of (all_runs rs)
  keys-all_runs rs = ap keys_of (all_runs-map rs) ∙ keys_on_values h (all_runs rs)

filled_to : {A B : Type 0} (f : A → B) (xs : List A) → xs ≢ [] → map f xs ≢ []
filled_to f [] some = λ e. some refl
filled_to f (x ∷ xs) some = λ e. cc

filled_from : {A B : Type 0} (f : A → B) (xs : List A) → map f xs ≢ [] → xs ≢ []
filled_from f [] some = λ e. some refl
filled_from f (x ∷ xs) some = λ e. cc

module _ {K X Y : Type 0} (h : X → Y) where
  all_filled_to : (rs : List (List (K × X))) → AllPass (λ r. r ≢ []) rs → AllPass (λ r. r ≢ []) (map (run_over {K = K} h) rs)
  all_filled_to [] all = tt
  all_filled_to (r ∷ rs) all = (filled_to (on_value h) r all.0, all_filled_to rs all.1)

  all_filled_from : (rs : List (List (K × X))) → AllPass (λ r. r ≢ []) (map (run_over {K = K} h) rs) → AllPass (λ r. r ≢ []) rs
  all_filled_from [] all = tt
  all_filled_from (r ∷ rs) all = (filled_from (on_value h) r all.0, all_filled_from rs all.1)

  module _ (cmp : K → K → Ordering) where
    abbrev Sorted : List K → Type 0
    Sorted = IsStrictlySortedBy cmp

    runs_to : (rs : List (List (K × X))) → AreRuns cmp rs → AreRuns cmp (map (run_over h) rs)
    runs_to rs are = record {
      some = filled_to (run_over h) rs are.some;
      filled = all_filled_to rs are.filled;
      ordered = subst Sorted (sym (keys-all_runs h rs)) are.ordered;
    }

    runs_from : (rs : List (List (K × X))) → AreRuns cmp (map (run_over h) rs) → AreRuns cmp rs
    runs_from rs are = record {
      some = filled_from (run_over h) rs are.some;
      filled = all_filled_from rs are.filled;
      ordered = subst Sorted (keys-all_runs h rs) are.ordered;
    }

    abbrev held_over : Held K X → Held K Y
    held_over = (parts K).map X Y h

    entries_over : (x : Held K X) → entries_held (held_over x) ≡ run_over h (entries_held x)
    entries_over (One r) = refl
    entries_over (Several rs) = all_runs-map h rs.items

    length_over : (x : Held K X) → length (entries_held (held_over x)) ≡ length (entries_held x)
    length_over x = ap length (entries_over x) ∙ length-map (entries_held x) (on_value h)

    ordered_to : (x : Held K X) → IsOrderedHeld cmp x → IsOrderedHeld cmp (held_over x)
    ordered_to (One r) sorted = subst Sorted (sym (keys_on_values h r)) sorted
    ordered_to (Several rs) are = runs_to rs.items are

    ordered_from : (x : Held K X) → IsOrderedHeld cmp (held_over x) → IsOrderedHeld cmp x
    ordered_from (One r) sorted = subst Sorted (keys_on_values h r) sorted
    ordered_from (Several rs) are = runs_from rs.items are

    held_to : (count : ℕ) (x : Held K X) → IsHeld cmp count x → IsHeld cmp count (held_over x)
    unfolding IsHeld
    held_to count x is = record { ordered = ordered_to x is.ordered; counted = is.counted ∙ sym (length_over x) }

    held_from : (count : ℕ) (x : Held K X) → IsHeld cmp count (held_over x) → IsHeld cmp count x
    unfolding IsHeld
    held_from count x is = record { ordered = ordered_from x is.ordered; counted = is.counted ∙ length_over x }

-- ---- the invariant is a proposition
module _ {K X : Type 0} (cmp : K → K → Ordering) where
  filled-prop : (rs : List (List (K × X))) → IsProp (AllPass (λ r. r ≢ []) rs)
  filled-prop [] = Unit-prop
  filled-prop (r ∷ rs) = ×_prop (→_prop ⊥_prop) (filled-prop rs)

  AreRuns-prop : (rs : List (List (K × X))) → IsProp (AreRuns cmp rs)
  AreRuns-prop rs a b = λ i. record {
    some = →_prop ⊥_prop a.some b.some i;
    filled = filled-prop rs a.filled b.filled i;
    ordered = IsStrictlySortedBy-prop cmp (keys_of (all_runs rs)) a.ordered b.ordered i;
  }

  ordered-prop : (x : Held K X) → IsProp (IsOrderedHeld cmp x)
  ordered-prop (One r) = IsStrictlySortedBy-prop cmp (keys_of r)
  ordered-prop (Several rs) = AreRuns-prop rs.items

  IsHeld-prop : (count : ℕ) (x : Held K X) → IsProp (IsHeld cmp count x)
  unfolding IsHeld
  IsHeld-prop count x a b = λ i. record {
    ordered = ordered-prop x a.ordered b.ordered i;
    counted = ℕ_set count (length (entries_held x)) a.counted b.counted i;
  }

module _ (K X : Type 0) where
  natural : (Y : Type 0) (k : X → Y) (x : Held K X) → entries_held ((parts K).map X Y k x) ≡ (the_former this K).map X Y k (entries_held x)
  natural Y k (One r) = refl
  natural Y k (Several rs) = all_runs-map k rs.items

  keeps : (x : Held K X) → held (the_former this K) X (entries_held x) ≡ held (parts K) X x
  keeps (One r) = refl
  keeps (Several rs) = laid-all_runs K X rs.items _ _

module _ (K : RattleType) (G : ord.Ghosts K.Denot) (G' : eq.Ghosts K.Denot) (G'' : partial.Ghosts K.Denot) (R S : RattleType) (h : R.Denot → S.Denot) where
  abbrev over_h : Held K.Denot R.Denot → Held K.Denot S.Denot
  over_h = (parts K.Denot).map R.Denot S.Denot h

  variant : (x : Held K.Denot R.Denot) → H.as_values K S G G' G'' (over_h x)
      ≡ eachs (H.the_parts K R G G' G'') (H.the_parts K S G G' G'') ((run_over h, tt), ((vec.mapped (run_over h), tt), tt)) (H.as_values K R G G' G'' x)
  variant (One r) = refl
  variant (Several rs) = refl

  held_places : Alike R S h → Alike (H.the_row K R G G' G'') (H.the_row K S G G' G'') over_h
  held_places alike =
      let one = run.the_places K G G' G'' R S h alike in
      enum_places (H.enum K R G G' G'') (H.enum K S G G' G'') ((run_over h, tt), ((vec.mapped (run_over h), tt), tt)) over_h variant refl
      ((laid _ _ _ one, tt), ((laid _ _ _ (vec.the_places heap.the_row ghosts (R'.the_row K R G G' G'') (R'.the_row K S G G' G'') (run_over h) one), tt), tt))

  pub the_places : Alike R S h → Alike (C.the_row K R G G' G'') (C.the_row K S G G' G'') ((the_former this K.Denot).map R.Denot S.Denot h)
  the_places alike = view_places (fields K.Denot) (the_former this K.Denot) (λ X. view K.Denot X G G' G'')
      (λ X Y k u. natural K.Denot X Y k u.held) (λ X u. keeps K.Denot X u.held) R.Denot S.Denot h
      (C.the_row K R G G' G'').coded (C.the_row K S G G' G'').coded (invariant K.Denot R.Denot G G' G'') (invariant K.Denot S.Denot G G' G'')
      (λ u. IsHeld-prop G.cmp u.count u.held) (λ u. IsHeld-prop G.cmp u.count u.held)
      (λ u is. held_to h G.cmp u.count u.held is) (λ u is. held_from h G.cmp u.count u.held is)
      (over (I.the_row K R G G' G'')) (over (I.the_row K S G G' G''))
      (struct_places (I.the_type K R G G' G'') (I.the_type K S G G' G'') ((λ n. n), ((λ n. n), (over_h, tt))) _ (λ d. refl) refl
      ((refl, (λ n. refl, λ n. refl)), ((refl, (λ n. refl, λ n. refl)), (laid _ _ _ (held_places alike), tt))))

  pub the_codes_placed : Recodes R S h → Recodes (C.the_row K R G G' G'') (C.the_row K S G G' G'') ((the_former this K.Denot).map R.Denot S.Denot h)
  the_codes_placed recodes es = entries_recoded K R S h recodes es
