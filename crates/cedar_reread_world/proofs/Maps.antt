-- SPDX-License-Identifier: Apache-2.0
-- What the map of pairs has at a key.
use Rattle.std.proofs.Common.{◌≡◌, ◌++◌, ◌||◌, Bool, true, false, cond, List, [], ◌∷◌, fold, Option, Some, refl, sym, ap, ◌∙◌, subst}
use Rattle.std.proofs.lemmas.Cmp.{eq_by_cmp_equiv}
use Rattle.std.proofs.lemmas.List.{map-append}
use Rattle.std.specs.BTreeMap.{insert_entry, is_at}
use Rattle.std.specs.List.{flat_map}
use Rattle.std.specs.Map.{keys_of}
use Rattle.std.specs.Option.{is_some}
use Rattle.std.specs.Ordering.{is_eq, match_ordering}
use Rattle.std.specs.declared.cmp.Ordering.{Ordering}
use Rattle.std.specs.declared.cmp.Ordering.TheVariants.{Less, Equal, Greater}
use Rattle.cedar_data.proofs.Exact.{IsExact}
use Rattle.cedar_data.proofs.Puts.{get-insert_entry}
use Rattle.cedar_data.proofs.SetKeys.{is_some-lookup}
use Rattle.cedar_data.specs.Firsts.{AllPass}
use Rattle.cedar_data.specs.Maps.{get, map_of}
use Rattle.cedar_data.specs.Sets.{contains}
use Rattle.cedar_reread_world.proofs.Tests.{inside, or_false}

tied : (o : Ordering) → is_eq o ≡ true → o ≡ Equal
tied Less e = absurd (cc)
tied Equal e = refl
tied Greater e = absurd (cc)

or_turned : (a b c : Bool) → ((a || b) || c) ≡ (b || (a || c))
or_turned true true c = refl
or_turned true false c = refl
or_turned false b c = refl

some_cond : {V : Type 0} (b : Bool) (v : V) (o : Option V) → is_some (cond b (Some v) o) ≡ (b || is_some o)
some_cond true v o = refl
some_cond false v o = refl

-- the keys of what is given of each
pub keys_flat : {A K V : Type 0} (f : A → List (K × V)) (xs : List A) → keys_of (flat_map f xs) ≡ flat_map (λ x. keys_of (f x)) xs
keys_flat f [] = refl
keys_flat f (x ∷ xs) = map-append (λ e. e.0) (f x) (flat_map f xs) ∙ ap (λ l. keys_of (f x) ++ l) (keys_flat f xs)

module _ {K : Type 0} {cmp : K → K → Ordering} (exact : IsExact cmp) where
  -- keys that are tied are the same
  pub same_key : (a b : K) → is_at (cmp a) b ≡ true → a ≡ b
  same_key a b e = exact.exact a b (tied (cmp a b) e)

  pub turned : (a b : K) → is_at (cmp a) b ≡ is_at (cmp b) a
  turned a b = (eq_by_cmp_equiv exact.total).symm a b

module _ {K V : Type 0} {cmp : K → K → Ordering} (exact : IsExact cmp) where
  -- pairs put in, one after another
  abbrev pub put : List (K × V) → List (K × V) → List (K × V)
  put es pairs = fold (λ es pair. insert_entry cmp es pair.0 pair.1) es pairs

  put_some : (es pairs : List (K × V)) (k : K) → is_some (get cmp (put es pairs) k) ≡ (contains cmp (keys_of pairs) k || is_some (get cmp es k))
  put_some es [] k = refl
  put_some es (p ∷ pairs) k =
      put_some (insert_entry cmp es p.0 p.1) pairs k
      ∙ ap (λ b. contains cmp (keys_of pairs) k || b) (ap is_some (get-insert_entry exact.total es p.0 p.1 k) ∙ some_cond (is_at (cmp p.0) k) p.1 (get cmp es k) ∙ ap (λ b. b || is_some (get cmp es k)) (turned exact p.0 k))
      ∙ sym (or_turned (is_at (cmp k) p.0) (contains cmp (keys_of pairs) k) (is_some (get cmp es k)))

  -- the map has something at the keys of the pairs alone
  pub some_in_map : (pairs : List (K × V)) (k : K) → is_some (get cmp (map_of cmp pairs) k) ≡ contains cmp (keys_of pairs) k
  some_in_map pairs k = put_some [] pairs k ∙ or_false (contains cmp (keys_of pairs) k)

  pub keys_in_map : (pairs : List (K × V)) (k : K) → contains cmp (keys_of (map_of cmp pairs)) k ≡ contains cmp (keys_of pairs) k
  keys_in_map pairs k = sym (is_some-lookup (is_at (cmp k)) (map_of cmp pairs)) ∙ some_in_map pairs k

  module _ (k : K) (R : V → Type 0) where
    -- what pairs say of the key, and what a map has at it
    abbrev pub Says : List (K × V) → Type 0
    Says pairs = AllPass (λ p. is_at (cmp p.0) k ≡ true → R p.1) pairs

    abbrev pub Has : List (K × V) → Type 0
    Has es = (v : V) → get cmp es k ≡ Some v → R v

    pub has_put : (es pairs : List (K × V)) → Has es → Says pairs → Has (put es pairs)
    has_put es [] h says = h
    has_put es (p ∷ pairs) h says = has_put (insert_entry cmp es p.0 p.1) pairs
        (λ v e. by (is_at (cmp p.0) k) refl v (sym (get-insert_entry exact.total es p.0 p.1 k) ∙ e)) says.1
      where
        by : (b : Bool) → is_at (cmp p.0) k ≡ b → (v : V) → cond b (Some p.1) (get cmp es k) ≡ Some v → R v
        by true is v e = subst R (inside p.1 v e) (says.0 is)
        by false is v e = h v e

  -- what holds of each pair holds of each entry
  module _ (P : K × V → Type 0) where
    put_one : (es : List (K × V)) (k : K) (v : V) → P (k, v) → AllPass P es → AllPass P (insert_entry cmp es k v)
    put_one [] k v p all = (p, tt)
    put_one (e ∷ es) k v p all = by (cmp k e.0) refl (put_one es k v p all.1)
      where
        by : (o : Ordering) → cmp k e.0 ≡ o → AllPass P (insert_entry cmp es k v) → AllPass P (match_ordering o ((k, v) ∷ e ∷ es) ((e.0, v) ∷ es) (e ∷ insert_entry cmp es k v))
        by Less is rest = (p, all)
        by Equal is rest = (subst (λ k. P (k, v)) (exact.exact k e.0 is) p, all.1)
        by Greater is rest = (all.0, rest)

    put_each : (es pairs : List (K × V)) → AllPass P es → AllPass P pairs → AllPass P (put es pairs)
    put_each es [] all each = all
    put_each es (p ∷ pairs) all each = put_each (insert_entry cmp es p.0 p.1) pairs (put_one es p.0 p.1 each.0 all) each.1

    pub entries_pass : (pairs : List (K × V)) → AllPass P pairs → AllPass P (map_of cmp pairs)
    entries_pass pairs each = put_each [] pairs tt each

    -- of a key that stands among entries that pass, one such entry
    pub entry_of : (es : List (K × V)) (k : K) → AllPass P es → contains cmp (keys_of es) k ≡ true → (e : K × V) × (k ≡ e.0) × P e
    entry_of [] k all e = absurd (cc)
    entry_of (x ∷ es) k all e = by (is_at (cmp k) x.0) refl e (entry_of es k all.1)
      where
        by : (b : Bool) → is_at (cmp k) x.0 ≡ b → (b || contains cmp (keys_of es) k) ≡ true → (contains cmp (keys_of es) k ≡ true → (e : K × V) × (k ≡ e.0) × P e) → (e : K × V) × (k ≡ e.0) × P e
        by true is e rest = (x, same_key exact k x.0 is, all.0)
        by false is e rest = rest e
