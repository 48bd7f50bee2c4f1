-- SPDX-License-Identifier: Apache-2.0
-- What is looked up in runs, and what comes of putting an entry into the run where it belongs.
use Rattle.std.proofs.Common.{◌≡◌, ◌≢◌, ℕ, suc, ◌+◌, ◌<◌, ◌≤◌, Bool, true, false, cond, List, [], ◌∷◌, ◌++◌, length, get_or, set, take, drop, Option, Some, None, refl, sym, ap, ◌∙◌, subst, append_assoc, add-one, arith}
use Rattle.std.proofs.Math.Seq.{drop-cons}
use Rattle.std.proofs.lemmas.List.{append-nil, set_split, set-get_or, drop_all, take_more_set, drop-set-lt}
use Rattle.std.proofs.lemmas.Map.Keys.{sorted_tail}
use Rattle.std.specs.BTreeMap.{is_at, insert_entry}
use Rattle.std.specs.Cmp.{IsTotalOrder}
use Rattle.std.specs.List.{insert, slice_get}
use Rattle.std.specs.List.Sorted.{IsStrictlySortedBy}
use Rattle.std.specs.Map.{keys_of, lookup}
use Rattle.std.specs.Option.{is_some}
use Rattle.std.specs.Ordering.{ordering_reverse, is_eq, is_lt, match_ordering}
use Rattle.std.specs.declared.cmp.Ordering.{Ordering}
use Rattle.std.specs.declared.cmp.Ordering.TheVariants.{Less, Equal, Greater}
use Rattle.cedar_data.proofs.Passing.{AllPass-set, AllPass-insert, AllPass-map}
use Rattle.cedar_data.proofs.RunOrder.{all_runs-append, all_runs-split, sorted_first, sorted_next_first, sorted_before}
use Rattle.cedar_data.specs.EntriesHeld.{entries_held, IsOrderedHeld, HoldsInOrder, IsHeld}
use Rattle.cedar_data.specs.Firsts.{AllPass}
use Rattle.cedar_data.specs.Maps.{get, IsSortedMap}
use Rattle.cedar_data.specs.Runs.{all_runs, first_after, AreRuns, IsRunOf}
use Rattle.cedar_data.specs.declared.entries.Held.{Held}
use Rattle.cedar_data.specs.declared.entries.Held.TheVariants.{One, Several}

pub append-some : {A : Type 0} (xs : List A) (y : A) (ys : List A) → xs ++ y ∷ ys ≢ []
append-some [] y ys h = absurd cc
append-some (x ∷ xs) y ys h = absurd cc

pub set-some : {A : Type 0} (xs : List A) (i : ℕ) (y : A) → i < length xs → set xs i y ≢ []
set-some xs i y l h = append-some (take i xs) y (drop (suc i) xs) (sym (set_split xs i y l) ∙ h)

module _ {K V : Type 0} where
  -- a look-up passes over what doesn't pass the test
  pub lookup-front : (cmp : K → Ordering) (xs ys : List (K × V)) → AllPass (λ e. cmp e.0 ≡ Greater) xs → lookup (is_at cmp) (xs ++ ys) ≡ lookup (is_at cmp) ys
  lookup-front cmp [] ys p = refl
  lookup-front cmp (x ∷ xs) ys p = ap (λ o. cond (is_eq o) (Some x.1) (lookup (is_at cmp) (xs ++ ys))) p.0 ∙ lookup-front cmp xs ys p.1

  pub lookup-less : (cmp : K → Ordering) (xs : List (K × V)) → AllPass (λ e. cmp e.0 ≡ Less) xs → lookup (is_at cmp) xs ≡ None
  lookup-less cmp [] p = refl
  lookup-less cmp (x ∷ xs) p = ap (λ o. cond (is_eq o) (Some x.1) (lookup (is_at cmp) xs)) p.0 ∙ lookup-less cmp xs p.1

  pub lookup-behind : (cmp : K → Ordering) (xs ys : List (K × V)) → AllPass (λ e. cmp e.0 ≡ Less) ys → lookup (is_at cmp) (xs ++ ys) ≡ lookup (is_at cmp) xs
  lookup-behind cmp [] ys p = lookup-less cmp ys p
  lookup-behind cmp (x ∷ xs) ys p = ap (λ r. cond (is_eq (cmp x.0)) (Some x.1) r) (lookup-behind cmp xs ys p)

  module _ (cmp : K → K → Ordering) (key : K) where
    -- an entry goes behind the lesser ones, and before the greater ones
    pub insert_entry-front : (value : V) (xs ys : List (K × V)) → AllPass (λ e. cmp key e.0 ≡ Greater) xs → insert_entry cmp (xs ++ ys) key value ≡ xs ++ insert_entry cmp ys key value
    insert_entry-front value [] ys p = refl
    insert_entry-front value (x ∷ xs) ys p =
        ap (λ o. match_ordering o ((key, value) ∷ x ∷ (xs ++ ys)) ((x.0, value) ∷ (xs ++ ys)) (x ∷ insert_entry cmp (xs ++ ys) key value)) p.0
        ∙ ap (λ es. x ∷ es) (insert_entry-front value xs ys p.1)

    pub insert_entry-behind : (value : V) (xs ys : List (K × V)) → AllPass (λ e. cmp key e.0 ≡ Less) ys → insert_entry cmp (xs ++ ys) key value ≡ insert_entry cmp xs key value ++ ys
    insert_entry-behind value [] [] p = refl
    insert_entry-behind value [] (y ∷ ys) p = ap (λ o. match_ordering o ((key, value) ∷ y ∷ ys) ((y.0, value) ∷ ys) (y ∷ insert_entry cmp ys key value)) p.0
    insert_entry-behind value (x ∷ xs) ys p =
        ap (λ es. match_ordering (cmp key x.0) ((key, value) ∷ x ∷ (xs ++ ys)) ((x.0, value) ∷ (xs ++ ys)) (x ∷ es)) (insert_entry-behind value xs ys p) ∙ by (cmp key x.0)
      where
        by : (o : Ordering) → match_ordering o ((key, value) ∷ x ∷ (xs ++ ys)) ((x.0, value) ∷ (xs ++ ys)) (x ∷ (insert_entry cmp xs key value ++ ys)) ≡ match_ordering o ((key, value) ∷ x ∷ xs) ((x.0, value) ∷ xs) (x ∷ insert_entry cmp xs key value) ++ ys
        by Less = refl
        by Equal = refl
        by Greater = refl

    pub insert_entry-some : (value : V) (es : List (K × V)) → insert_entry cmp es key value ≢ []
    insert_entry-some value [] h = absurd cc
    insert_entry-some value (e ∷ es) h = by (cmp key e.0) h
      where
        by : (o : Ordering) → match_ordering o ((key, value) ∷ e ∷ es) ((e.0, value) ∷ es) (e ∷ insert_entry cmp es key value) ≡ [] → ⊥
        by Less h = absurd cc
        by Equal h = absurd cc
        by Greater h = absurd cc

    pub AllPass-insert_entry : (P : K → Type 0) (value : V) (es : List (K × V)) → P key → AllPass (λ e. P e.0) es → AllPass (λ e. P e.0) (insert_entry cmp es key value)
    AllPass-insert_entry P value [] q p = (q, tt)
    AllPass-insert_entry P value (e ∷ es) q p = by (cmp key e.0) (AllPass-insert_entry P value es q p.1)
      where
        by : (o : Ordering) → AllPass (λ f. P f.0) (insert_entry cmp es key value) → AllPass (λ f. P f.0) (match_ordering o ((key, value) ∷ e ∷ es) ((e.0, value) ∷ es) (e ∷ insert_entry cmp es key value))
        by Less r = (q, p)
        by Equal r = p
        by Greater r = (p.0, r)

    -- the first greater entry
    pub first_after-front : (xs ys : List (K × V)) → AllPass (λ e. cmp key e.0 ≡ Greater) xs → first_after cmp key (xs ++ ys) ≡ first_after cmp key ys
    first_after-front [] ys p = refl
    first_after-front (x ∷ xs) ys p = ap (λ o. cond (is_lt o) (Some x) (first_after cmp key (xs ++ ys))) p.0 ∙ first_after-front xs ys p.1

    pub first_after-found : (e : K × V) (xs ys : List (K × V)) → first_after cmp key xs ≡ Some e → first_after cmp key (xs ++ ys) ≡ Some e
    first_after-found e [] ys h = absurd cc
    first_after-found e (x ∷ xs) ys h = by (is_lt (cmp key x.0)) (first_after-found e xs ys) h
      where
        by : (b : Bool) → (first_after cmp key xs ≡ Some e → first_after cmp key (xs ++ ys) ≡ Some e) → cond b (Some x) (first_after cmp key xs) ≡ Some e → cond b (Some x) (first_after cmp key (xs ++ ys)) ≡ Some e
        by true r h = h
        by false r h = r h

    pub first_after-none : (xs ys : List (K × V)) → first_after cmp key xs ≡ None → first_after cmp key (xs ++ ys) ≡ first_after cmp key ys
    first_after-none [] ys h = refl
    first_after-none (x ∷ xs) ys h = by (is_lt (cmp key x.0)) (first_after-none xs ys) h
      where
        by : (b : Bool) → (first_after cmp key xs ≡ None → first_after cmp key (xs ++ ys) ≡ first_after cmp key ys) → cond b (Some x) (first_after cmp key xs) ≡ None → cond b (Some x) (first_after cmp key (xs ++ ys)) ≡ first_after cmp key ys
        by true r h = absurd cc
        by false r h = r h

  module _ {cmp : K → K → Ordering} (total : IsTotalOrder cmp) where
    pub turned_less : (key : K) (xs : List (K × V)) → AllPass (λ e. cmp e.0 key ≡ Less) xs → AllPass (λ e. cmp key e.0 ≡ Greater) xs
    turned_less key xs p = AllPass-map (λ e l. total.antisymm key e.0 ∙ ap ordering_reverse l) xs p

    turned_greater : (key : K) (xs : List (K × V)) → AllPass (λ e. cmp e.0 key ≡ Greater) xs → AllPass (λ e. cmp key e.0 ≡ Less) xs
    turned_greater key xs p = AllPass-map (λ e l. total.antisymm key e.0 ∙ ap ordering_reverse l) xs p

    -- a key below the first is below all
    less_than_all : (key : K) (e : K × V) (es : List (K × V)) → IsSortedMap cmp (e ∷ es) → cmp key e.0 ≡ Less → AllPass (λ f. cmp key f.0 ≡ Less) es
    less_than_all key e es s h = AllPass-map (λ f l. total.trans key e.0 f.0 h l) es (sorted_first cmp e es s)

    -- the keys ascend still
    pub sorted-insert_entry : (key : K) (value : V) (es : List (K × V)) → IsSortedMap cmp es → IsSortedMap cmp (insert_entry cmp es key value)
    unfolding IsStrictlySortedBy
    sorted-insert_entry key value [] s = (tt, tt)
    sorted-insert_entry key value (e ∷ es) s = by (cmp key e.0) refl (sorted-insert_entry key value es s.1)
      where
        by : (o : Ordering) → cmp key e.0 ≡ o → IsSortedMap cmp (insert_entry cmp es key value) → IsSortedMap cmp (match_ordering o ((key, value) ∷ e ∷ es) ((e.0, value) ∷ es) (e ∷ insert_entry cmp es key value))
        by Less h r = sorted_next_first cmp (key, value) (e ∷ es) (h, less_than_all key e es s h) s
        by Equal h r = s
        by Greater h r = sorted_next_first cmp e (insert_entry cmp es key value) (AllPass-insert_entry cmp key (λ k. cmp e.0 k ≡ Less) value es (total.antisymm e.0 key ∙ ap ordering_reverse h) (sorted_first cmp e es s)) r

    -- one more entry, unless the key was there
    pub length-insert_entry : (key : K) (value : V) (es : List (K × V)) → IsSortedMap cmp es → length (insert_entry cmp es key value) ≡ cond (is_some (get cmp es key)) (length es) (length es + 1)
    length-insert_entry key value [] s = refl
    length-insert_entry key value (e ∷ es) s = by (cmp key e.0) refl (length-insert_entry key value es (sorted_tail cmp e.0 (keys_of es) s))
      where
        further : (b : Bool) → length (insert_entry cmp es key value) ≡ cond b (length es) (length es + 1) → length (e ∷ insert_entry cmp es key value) ≡ cond b (length (e ∷ es)) (length (e ∷ es) + 1)
        further true h = omega arith
        further false h = omega arith

        by : (o : Ordering) → cmp key e.0 ≡ o → length (insert_entry cmp es key value) ≡ cond (is_some (get cmp es key)) (length es) (length es + 1) → length (match_ordering o ((key, value) ∷ e ∷ es) ((e.0, value) ∷ es) (e ∷ insert_entry cmp es key value)) ≡ cond (is_some (cond (is_eq o) (Some e.1) (lookup (is_at (cmp key)) es))) (length (e ∷ es)) (length (e ∷ es) + 1)
        by Less h r =
            let more : length ((key, value) ∷ e ∷ es) ≡ length (e ∷ es) + 1 = omega arith in
            more ∙ ap (λ r. cond (is_some r) (length (e ∷ es)) (length (e ∷ es) + 1)) (sym (lookup-less (cmp key) es (less_than_all key e es s h)))
        by Equal h r = refl
        by Greater h r = further (is_some (lookup (is_at (cmp key)) es)) r

  -- the entries where one run is another
  pub all_runs-set : (runs : List (List (K × V))) (at : ℕ) (run : List (K × V)) → at < length runs → all_runs (set runs at run) ≡ all_runs (take at runs) ++ (run ++ all_runs (drop (at + 1) runs))
  all_runs-set runs at run l = ap all_runs (set_split runs at run l ∙ ap (λ n. take at runs ++ run ∷ drop n runs) (sym (add-one at))) ∙ all_runs-append (take at runs) (run ∷ drop (at + 1) runs)

  -- and where it is two
  pub all_runs-parted : (runs : List (List (K × V))) (at : ℕ) (run more : List (K × V)) → at < length runs → all_runs (insert (set runs at run) (at + 1) more) ≡ all_runs (set runs at (run ++ more))
  all_runs-parted runs at run more l =
      ap all_runs cut
      ∙ all_runs-append (take at runs ++ run ∷ []) (more ∷ drop (at + 1) runs)
      ∙ ap (λ es. es ++ (more ++ all_runs (drop (at + 1) runs))) (all_runs-append (take at runs) (run ∷ []))
      ∙ around (all_runs (take at runs)) run more (all_runs (drop (at + 1) runs))
      ∙ sym (all_runs-set runs at (run ++ more) l)
    where
      cut : insert (set runs at run) (at + 1) more ≡ (take at runs ++ run ∷ []) ++ more ∷ drop (at + 1) runs
      cut = ap (λ rs. rs ++ more ∷ drop (at + 1) (set runs at run)) (take_more_set runs at run l) ∙ ap (λ rs. (take at runs ++ run ∷ []) ++ more ∷ rs) (drop-set-lt (at + 1) runs at run (omega arith))

      around : (ws xs ys zs : List (K × V)) → (ws ++ (xs ++ [])) ++ (ys ++ zs) ≡ ws ++ ((xs ++ ys) ++ zs)
      around ws xs ys zs = ap (λ es. (ws ++ es) ++ (ys ++ zs)) (append-nil xs) ∙ append_assoc ws xs (ys ++ zs) ∙ ap (λ es. ws ++ es) (sym (append_assoc xs ys zs))

  -- `run` is the run of the key
  pub record IsKnownRun (cmp : K → K → Ordering) (runs : List (List (K × V))) (key : K) (at : ℕ) (run : List (K × V)) : Type 0 where
    pub inside : at < length runs
    pub of : IsRunOf cmp runs key at
    pub is : run ≡ get_or runs at run

  pub IsKnownRun-found : {cmp : K → K → Ordering} (seen runs : List (List (K × V))) (key : K) (at : ℕ) (run : List (K × V)) → seen ≡ runs → at < length seen → IsRunOf cmp seen key at → run ≡ get_or runs at run → IsKnownRun cmp runs key at run
  IsKnownRun-found {cmp} seen runs key at run same inside of is = record {
    inside = subst (λ rs. at < length rs) same inside;
    of = subst (λ rs. IsRunOf cmp rs key at) same of;
    is = is;
  }

  module _ {cmp : K → K → Ordering} (total : IsTotalOrder cmp) (key : K) (runs : List (List (K × V))) (at : ℕ) (run : List (K × V)) (known : IsKnownRun cmp runs key at run) where
    abbrev front : List (K × V)
    front = all_runs (take at runs)

    abbrev back : List (K × V)
    back = all_runs (drop (at + 1) runs)

    around_run : all_runs runs ≡ front ++ (run ++ back)
    around_run = all_runs-split runs at run known.inside ∙ ap (λ es. front ++ (es ++ back)) (sym known.is)

    less : AllPass (λ e. cmp key e.0 ≡ Greater) front
    less = turned_less total key front known.of.before

    greater : AllPass (λ e. cmp key e.0 ≡ Less) back
    greater = turned_greater total key back known.of.behind

    -- what is looked up in the run of the key
    pub get-run : get cmp run key ≡ get cmp (all_runs runs) key
    get-run = sym (ap (λ es. get cmp es key) around_run ∙ lookup-front (cmp key) front (run ++ back) less ∙ lookup-behind (cmp key) run back greater)

    after_from : first_after cmp key (all_runs runs) ≡ first_after cmp key (run ++ back)
    after_from = ap (first_after cmp key) around_run ∙ first_after-front cmp key front (run ++ back) less

    -- the first greater entry is one of it
    pub after-run : (e : K × V) → Some e ≡ first_after cmp key run → Some e ≡ first_after cmp key (all_runs runs)
    after-run e h = sym (after_from ∙ first_after-found cmp key e run back (sym h))

    -- or there is none, where it is the last run
    pub after-last : None ≡ first_after cmp key run → length runs ≤ at + 1 → None ≡ first_after cmp key (all_runs runs)
    after-last h l = sym (after_from ∙ first_after-none cmp key run back (sym h) ∙ ap (λ rs. first_after cmp key (all_runs rs)) (drop_all (at + 1) runs l))

    -- or it is the first of the next run
    pub after-next : (e : K × V) (next : List (K × V)) → None ≡ first_after cmp key run → at + 1 < length runs → next ≡ get_or runs (at + 1) next → Some e ≡ slice_get next 0 → Some e ≡ first_after cmp key (all_runs runs)
    after-next e next h l is first = sym (after_from ∙ first_after-none cmp key run back (sym h) ∙ ap (first_after cmp key) rest ∙ by next first (subst (AllPass (λ f. cmp key f.0 ≡ Less)) rest greater))
      where
        rest : all_runs (drop (at + 1) runs) ≡ next ++ all_runs (drop (suc (at + 1)) runs)
        rest = ap all_runs (drop-cons runs (at + 1) next l) ∙ ap (λ es. es ++ all_runs (drop (suc (at + 1)) runs)) (sym is)

        by : (es : List (K × V)) → Some e ≡ slice_get es 0 → AllPass (λ f. cmp key f.0 ≡ Less) (es ++ all_runs (drop (suc (at + 1)) runs)) → first_after cmp key (es ++ all_runs (drop (suc (at + 1)) runs)) ≡ Some e
        by [] f p = absurd cc
        by (x ∷ es) f p = ap (λ o. cond (is_lt o) (Some x) (first_after cmp key (es ++ all_runs (drop (suc (at + 1)) runs)))) p.0 ∙ sym f

    -- which there is, since no run is empty
    pub after-next-first : (o : Option (K × V)) (next : List (K × V)) → None ≡ first_after cmp key run → at + 1 < length runs → next ≡ get_or runs (at + 1) next → next ≢ [] → o ≡ slice_get next 0 → o ≡ first_after cmp key (all_runs runs)
    after-next-first o [] h l is some first = absurd (some refl)
    after-next-first o (e ∷ es) h l is some first = first ∙ after-next e (e ∷ es) h l is refl

    -- an entry put into the run of the key is put among all
    put_around : (value : V) → insert_entry cmp (all_runs runs) key value ≡ front ++ (insert_entry cmp run key value ++ back)
    put_around value =
        ap (λ es. insert_entry cmp es key value) around_run
        ∙ insert_entry-front cmp key value front (run ++ back) less
        ∙ ap (λ es. front ++ es) (insert_entry-behind cmp key value run back greater)

    pub put-run : (value : V) (fresh : List (K × V)) → fresh ≡ insert_entry cmp run key value → all_runs (set runs at fresh) ≡ insert_entry cmp (all_runs runs) key value
    put-run value fresh h = all_runs-set runs at fresh known.inside ∙ ap (λ es. front ++ (es ++ back)) h ∙ sym (put_around value)

  -- an entry was put among the old ones
  pub record PutsIn (cmp : K → K → Ordering) (old : List (List (K × V))) (key : K) (value : V) (new : List (List (K × V))) : Type 0 where
    pub whole : all_runs new ≡ insert_entry cmp (all_runs old) key value
    pub runs : AreRuns cmp new

  -- by putting it into the run of its key
  pub PutsIn-start : {cmp : K → K → Ordering} (total : IsTotalOrder cmp) (key : K) (value : V) (old room : List (List (K × V))) (at : ℕ) (run fresh : List (K × V)) → AreRuns cmp old → room ≡ old → IsKnownRun cmp room key at run → fresh ≡ insert_entry cmp run key value → PutsIn cmp old key value (set room at fresh)
  PutsIn-start {cmp} total key value old room at run fresh are same known put = record {
    whole = whole;
    runs = record {
      some = set-some room at fresh known.inside;
      filled = AllPass-set (λ run. run ≢ []) room at fresh known.inside (subst (λ es. es ≢ []) (sym put) (insert_entry-some cmp key value run)) (subst (AllPass (λ run. run ≢ [])) (sym same) are.filled);
      ordered = subst (IsSortedMap cmp) (sym whole) (sorted-insert_entry total key value (all_runs old) are.ordered);
    };
  }
    where
      whole : all_runs (set room at fresh) ≡ insert_entry cmp (all_runs old) key value
      whole = put-run total key room at run known value fresh put ∙ ap (λ rs. insert_entry cmp (all_runs rs) key value) same

  module _ {cmp : K → K → Ordering} {old : List (List (K × V))} {key : K} {value : V} where
    -- also where the run was looked at again
    pub PutsIn-kept : (new last : List (List (K × V))) (at : ℕ) (run same : List (K × V)) → PutsIn cmp old key value new → run ≡ get_or new at run → same ≡ run → last ≡ set new at same → PutsIn cmp old key value last
    PutsIn-kept new last at run same put is h made = subst (PutsIn cmp old key value) (sym (made ∙ ap (λ r. set new at r) (h ∙ is) ∙ set-get_or new at run)) put

    -- or became two
    pub PutsIn-parted : (new last : List (List (K × V))) (at : ℕ) (run front back : List (K × V)) → PutsIn cmp old key value new → at < length new → run ≡ get_or new at run → run ≡ front ++ back → front ≢ [] → back ≢ [] → last ≡ insert (set new at front) (at + 1) back → PutsIn cmp old key value last
    PutsIn-parted new last at run front back put inside is parts some more made = subst (PutsIn cmp old key value) (sym made) record {
      whole = sym whole ∙ put.whole;
      runs = record {
        some = append-some (take (at + 1) (set new at front)) back (drop (at + 1) (set new at front));
        filled = AllPass-insert (λ run. run ≢ []) (set new at front) (at + 1) back more (AllPass-set (λ run. run ≢ []) new at front inside some put.runs.filled);
        ordered = subst (IsSortedMap cmp) whole put.runs.ordered;
      };
    }
      where
        whole : all_runs new ≡ all_runs (insert (set new at front) (at + 1) back)
        whole = ap all_runs (sym (set-get_or new at run)) ∙ ap (λ r. all_runs (set new at r)) (sym is ∙ parts) ∙ sym (all_runs-parted new at front back inside)

  -- what is held in order, opened and closed
  pub held_opened : {cmp : K → K → Ordering} {count : ℕ} {held : Held K V} → IsHeld cmp count held → HoldsInOrder cmp count held
  unfolding IsHeld
  held_opened is = is

  pub held_closed : {cmp : K → K → Ordering} {count : ℕ} {held : Held K V} → HoldsInOrder cmp count held → IsHeld cmp count held
  unfolding IsHeld
  held_closed holds = holds

  -- what is held after an entry was put in, and its count
  pub IsHeld-put : {cmp : K → K → Ordering} (total : IsTotalOrder cmp) (key : K) (value : V) (old : List (K × V)) (count more : ℕ) (there : Option V) (new : Held K V) → IsSortedMap cmp old → count ≡ length old → there ≡ get cmp old key → entries_held new ≡ insert_entry cmp old key value → more ≡ cond (is_some there) count (count + 1) → IsOrderedHeld cmp new → IsHeld cmp more new
  unfolding IsHeld
  IsHeld-put {cmp} total key value old count more there new sorted counted found put grown ordered = record {
    ordered = ordered;
    counted = grown
        ∙ ap (λ n. cond (is_some there) n (n + 1)) counted
        ∙ ap (λ r. cond (is_some r) (length old) (length old + 1)) found
        ∙ sym (length-insert_entry total key value old sorted)
        ∙ ap length (sym put);
  }

  pub held_sorted : (cmp : K → K → Ordering) (held : Held K V) → IsOrderedHeld cmp held → IsSortedMap cmp (entries_held held)
  held_sorted cmp (One run) h = h
  held_sorted cmp (Several runs) h = h.ordered

  -- the next entry of a list in order goes behind those so far
  pub put_next : {cmp : K → K → Ordering} (total : IsTotalOrder cmp) (key : K) (value : V) (old left rest whole new : List (K × V)) → old ++ left ≡ whole → left ≡ (key, value) ∷ rest → IsSortedMap cmp whole → new ≡ insert_entry cmp old key value → new ++ rest ≡ whole
  put_next {cmp} total key value old left rest whole new sofar next sorted put =
      ap (λ es. es ++ rest) (put ∙ last) ∙ append_assoc old ((key, value) ∷ []) rest ∙ all
    where
      all : old ++ (key, value) ∷ rest ≡ whole
      all = ap (λ es. old ++ es) (sym next) ∙ sofar

      last : insert_entry cmp old key value ≡ old ++ (key, value) ∷ []
      last =
          ap (λ es. insert_entry cmp es key value) (sym (append-nil old))
          ∙ insert_entry-front cmp key value old [] (turned_less total key old (sorted_before cmp old (key, value) rest (subst (IsSortedMap cmp) (sym all) sorted)))
