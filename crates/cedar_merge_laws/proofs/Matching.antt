-- SPDX-License-Identifier: Apache-2.0
-- Entries whose keys differ are the same entries in another order where the same is found at each key.
use Rattle.std.proofs.Common.{◌≡◌, ◌++◌, Bool, true, false, cond, List, [], ◌∷◌, Some, None, refl, sym, ap, ◌∙◌, subst}
use Rattle.std.specs.BTreeMap.{is_at}
use Rattle.std.specs.Option.{is_some, option_or}
use Rattle.std.specs.Ordering.{is_eq}
use Rattle.std.specs.declared.cmp.Ordering.{Ordering}
use Rattle.std.specs.declared.cmp.Ordering.TheVariants.{Less, Equal, Greater}
use Rattle.cedar_data.proofs.Exact.{IsExact}
use Rattle.cedar_data.specs.Firsts.{AllPass}
use Rattle.cedar_data.specs.Maps.{get}
use Rattle.cedar_merge.proofs.Orders.{tied}
use Rattle.cedar_merge.proofs.Words.{is_same}
use Rattle.cedar_resolving_laws.specs.Reordered.{Reordered, same, swapped, behind, both}
use Rattle.cedar_resolving_laws.proofs.MapsReordered.{Differ, differ_turned}
use Rattle.cedar_resolving_laws.proofs.Reordering.{Each2, each2_reordered, turned}

not_equal : (o : Ordering) → (o ≡ Equal → ⊥) → is_eq o ≡ false
not_equal Less h = refl
not_equal Equal h = absurd (h refl)
not_equal Greater h = refl

-- what is less isn't equal
pub unlike : (o : Ordering) → o ≡ Less → o ≡ Equal → ⊥
unlike Less p q = cc
unlike Equal p q = cc
unlike Greater p q = cc

differs : (o : Ordering) → is_eq o ≡ false → o ≡ Equal → ⊥
differs Less apart is = cc
differs Equal apart is = cc
differs Greater apart is = cc

module _ {K V : Type 0} (cmp : K → K → Ordering) where
  -- what is found behind what is found first
  pub get-append : (xs ys : List (K × V)) (k : K) → get cmp (xs ++ ys) k ≡ option_or (get cmp xs k) (get cmp ys k)
  get-append [] ys k = refl
  get-append (x ∷ xs) ys k = by (is_at (cmp k) x.0) (get-append xs ys k)
    where
      by : (b : Bool) → get cmp (xs ++ ys) k ≡ option_or (get cmp xs k) (get cmp ys k)
          → cond b (Some x.1) (get cmp (xs ++ ys) k) ≡ option_or (cond b (Some x.1) (get cmp xs k)) (get cmp ys k)
      by true h = refl
      by false h = h

  -- where nothing is found, each key differs
  pub none_differ : (k : K) (es : List (K × V)) → is_some (get cmp es k) ≡ false → AllPass (λ e. cmp k e.0 ≡ Equal → ⊥) es
  none_differ k [] none = tt
  none_differ k (e ∷ es) none = by (is_at (cmp k) e.0) refl none (none_differ k es)
    where
      by : (b : Bool) → is_at (cmp k) e.0 ≡ b → is_some (cond b (Some e.1) (get cmp es k)) ≡ false → (is_some (get cmp es k) ≡ false → AllPass (λ e. cmp k e.0 ≡ Equal → ⊥) es)
          → (cmp k e.0 ≡ Equal → ⊥) × AllPass (λ e. cmp k e.0 ≡ Equal → ⊥) es
      by true is none rest = absurd (cc)
      by false is none rest = (differs (cmp k e.0) is, rest none)

  -- and the other way round
  pub differ_none : (k : K) (es : List (K × V)) → AllPass (λ e. cmp k e.0 ≡ Equal → ⊥) es → get cmp es k ≡ None
  differ_none k [] h = refl
  differ_none k (e ∷ es) h = ap (λ b. cond b (Some e.1) (get cmp es k)) (not_equal (cmp k e.0) h.0) ∙ differ_none k es h.1

module _ {K V : Type 0} {cmp : K → K → Ordering} (exact : IsExact cmp) where
  -- at the key of each entry something is found
  pub all_found : (es : List (K × V)) → AllPass (λ e. is_some (get cmp es e.0) ≡ true) es
  all_found es = from [] es
    where
      there : (before : List (K × V)) (e : K × V) (rest : List (K × V)) → is_some (get cmp (before ++ e ∷ rest) e.0) ≡ true
      there [] e rest = ap (λ o. is_some (cond (is_eq o) (Some e.1) (get cmp rest e.0))) (tied exact.total e.0)
      there (x ∷ before) e rest = by (is_at (cmp e.0) x.0) (there before e rest)
        where
          by : (b : Bool) → is_some (get cmp (before ++ e ∷ rest) e.0) ≡ true → is_some (cond b (Some x.1) (get cmp (before ++ e ∷ rest) e.0)) ≡ true
          by true h = refl
          by false h = h

      moved : (before : List (K × V)) (e : K × V) (rest : List (K × V)) → (before ++ e ∷ []) ++ rest ≡ before ++ e ∷ rest
      moved [] e rest = refl
      moved (x ∷ before) e rest = ap (λ l. x ∷ l) (moved before e rest)

      from : (before rest : List (K × V)) → AllPass (λ e. is_some (get cmp (before ++ rest) e.0) ≡ true) rest
      from before [] = tt
      from before (e ∷ rest) = (there before e rest, subst (λ l. AllPass (λ e. is_some (get cmp l e.0) ≡ true) rest) (moved before e rest) (from (before ++ e ∷ []) rest))

  -- an entry that is found goes to the front
  record Pulled (ys : List (K × V)) (k : K) (v : V) : Type 0 where
    pub rest : List (K × V)
    pub is : Reordered ((k, v) ∷ rest) ys
    pub others : (j : K) → is_at (cmp j) k ≡ false → get cmp ys j ≡ get cmp rest j

  pulled : (ys : List (K × V)) (k : K) (v : V) → get cmp ys k ≡ Some v → Pulled ys k v
  pulled [] k v found = absurd (cc)
  pulled (y ∷ ys) k v found = by (is_at (cmp k) y.0) refl found (pulled ys k v)
    where
      by : (b : Bool) → is_at (cmp k) y.0 ≡ b → cond b (Some y.1) (get cmp ys k) ≡ Some v → (get cmp ys k ≡ Some v → Pulled ys k v) → Pulled (y ∷ ys) k v
      by true here found rest =
          let key : k ≡ y.0 = is_same exact k y.0 here in
          let value : v ≡ y.1 = cc in
          record {
            rest = ys;
            is = subst (λ (e : K × V). Reordered (e ∷ ys) (y ∷ ys)) (λ i. (sym key i, sym value i)) same;
            others = λ j apart. ap (λ b. cond b (Some y.1) (get cmp ys j)) (ap (is_at (cmp j)) (sym key) ∙ apart);
          }
      by false here found rest =
          let p = rest found in
          record {
            rest = y ∷ p.rest;
            is = both swapped (behind p.is);
            others = λ j apart. ap (cond (is_at (cmp j) y.0) (Some y.1)) (p.others j apart);
          }

  -- the same entries
  pub matched : (xs ys : List (K × V)) → Each2 (Differ exact.total) xs → Each2 (Differ exact.total) ys → ((k : K) → get cmp xs k ≡ get cmp ys k) → Reordered xs ys
  matched [] [] hx hy alike = same
  matched [] (y ∷ ys) hx hy alike = absurd (let found : None ≡ Some y.1 = alike y.0 ∙ ap (λ o. cond (is_eq o) (Some y.1) (get cmp ys y.0)) (tied exact.total y.0) in cc)
  matched (x ∷ xs) ys hx hy alike =
      let found : get cmp ys x.0 ≡ Some x.1 = sym (alike x.0) ∙ ap (λ o. cond (is_eq o) (Some x.1) (get cmp xs x.0)) (tied exact.total x.0) in
      let p = pulled ys x.0 x.1 found in
      let apart : Each2 (Differ exact.total) ((x.0, x.1) ∷ p.rest) = each2_reordered (Differ exact.total) (differ_turned exact.total) (turned p.is) hy in
      both (behind (matched xs p.rest hx.1 apart.1 (λ k. by p k apart.0 (is_at (cmp k) x.0) refl))) p.is
    where
      by : (p : Pulled ys x.0 x.1) (k : K) → AllPass (Differ exact.total (x.0, x.1)) p.rest → (b : Bool) → is_at (cmp k) x.0 ≡ b → get cmp xs k ≡ get cmp p.rest k
      by p k apart true here =
          let key : k ≡ x.0 = is_same exact k x.0 here in
          ap (get cmp xs) key ∙ differ_none cmp x.0 xs hx.0 ∙ sym (ap (get cmp p.rest) key ∙ differ_none cmp x.0 p.rest apart)
      by p k apart false here = sym (ap (λ b. cond b (Some x.1) (get cmp xs k)) here) ∙ alike k ∙ p.others k here
