-- SPDX-License-Identifier: Apache-2.0
-- What passes of the items of a list, of what is found in it, and of the map that pairs make.
use Rattle.std.proofs.Common.{◌≡◌, ◌++◌, ◌||◌, Bool, true, false, cond, IsTrue, List, [], ◌∷◌, fold, inl, inr, Option, Some, None, refl, sym, ap, ◌∙◌, subst}
use Rattle.std.proofs.lemmas.Cmp.{eq_by_cmp_equiv}
use Rattle.std.specs.BTreeMap.{insert_entry, is_at}
use Rattle.std.specs.BTreeSet.{insert_key}
use Rattle.std.specs.Cmp.{IsTotalOrder}
use Rattle.std.specs.List.{cons_option, filter, filter_map, find, flat_map}
use Rattle.std.specs.Map.{keys_of}
use Rattle.std.specs.Option.{is_some}
use Rattle.std.specs.Ordering.{is_eq, match_ordering}
use Rattle.std.specs.declared.cmp.Ordering.{Ordering}
use Rattle.std.specs.declared.cmp.Ordering.TheVariants.{Less, Equal, Greater}
use Rattle.cedar_data.proofs.Exact.{IsExact}
use Rattle.cedar_data.proofs.Puts.{get-insert_entry, is_some-cond-true}
use Rattle.cedar_data.proofs.Rebuild.{keys_of-append}
use Rattle.cedar_data.specs.Firsts.{AllPass, FirstRefused, IsFirst}
use Rattle.cedar_data.specs.Maps.{get, map_of}
use Rattle.cedar_data.specs.Sets.{contains, set_of}

-- what each item of a list passes, an item that it contains does
module _ {A : Type 0} {cmp : A → A → Ordering} (order : IsExact cmp) (P : A → Type 0) where
  pub of_member : (xs : List A) (x : A) → AllPass P xs → IsTrue (contains cmp xs x) → P x
  of_member [] x all is = let e : false ≡ true = is in absurd (cc)
  of_member (y ∷ ys) x all is = by (cmp x y) refl is (of_member ys x all.1)
    where
      by : (o : Ordering) → cmp x y ≡ o → IsTrue (is_eq o || contains cmp ys x) → (IsTrue (contains cmp ys x) → P x) → P x
      by Less tied is rest = rest is
      by Equal tied is rest = subst P (sym (order.exact x y tied)) all.0
      by Greater tied is rest = rest is

-- what holds of each item, each item of a list passes
pub pass_each_item : {A : Type 0} (P : A → Type 0) → ((x : A) → P x) → (xs : List A) → AllPass P xs
pass_each_item P each [] = tt
pass_each_item P each (x ∷ xs) = (each x, pass_each_item P each xs)

-- what is found passes the test
pub found_passes : {A : Type 0} (p : A → Bool) (xs : List A) (x : A) → find p xs ≡ Some x → IsTrue (p x)
found_passes p [] x is = absurd (cc)
found_passes p (y ∷ ys) x is = by (p y) refl is (found_passes p ys x)
  where
    by : (b : Bool) → p y ≡ b → cond b (Some y) (find p ys) ≡ Some x → (find p ys ≡ Some x → IsTrue (p x)) → IsTrue (p x)
    by true passes is rest = let same : y ≡ x = cc in sym (ap p same) ∙ passes
    by false fails is rest = rest is

-- what f gives of items
pub pass_filter_map : {A B : Type 0} (P : A → Type 0) (Q : B → Type 0) (f : A → Option B) → ((x : A) (y : B) → P x → f x ≡ Some y → Q y) → (xs : List A) → AllPass P xs → AllPass Q (filter_map f xs)
pass_filter_map P Q f each [] all = tt
pass_filter_map {B = B} P Q f each (x ∷ xs) all = by (f x) refl (pass_filter_map P Q f each xs all.1)
  where
    by : (o : Option B) → f x ≡ o → AllPass Q (filter_map f xs) → AllPass Q (cons_option o (filter_map f xs))
    by None is rest = rest
    by (Some y) is rest = (each x y all.0 is, rest)

-- the set of items
module _ {A : Type 0} (cmp : A → A → Ordering) (P : A → Type 0) where
  put_key : (xs : List A) (x : A) → P x → AllPass P xs → AllPass P (insert_key cmp xs x)
  put_key [] x p all = (p, tt)
  put_key (y ∷ ys) x p all = by (cmp x y) (put_key ys x p all.1)
    where
      by : (o : Ordering) → AllPass P (insert_key cmp ys x) → AllPass P (match_ordering o (x ∷ y ∷ ys) (y ∷ ys) (y ∷ insert_key cmp ys x))
      by Less rest = (p, all)
      by Equal rest = all
      by Greater rest = (all.0, rest)

  pub pass_set_of : (xs : List A) → AllPass P xs → AllPass P (set_of cmp xs)
  pass_set_of xs all = from [] xs tt all
    where
      from : (made xs : List A) → AllPass P made → AllPass P xs → AllPass P (fold (insert_key cmp) made xs)
      from made [] done all = done
      from made (x ∷ xs) done all = from (insert_key cmp made x) xs (put_key made x all.0 done) all.1

-- the keys of the map of pairs
module _ {K V : Type 0} (cmp : K → K → Ordering) (P : K → Type 0) where
  put_in : (es : List (K × V)) (k : K) (v : V) → P k → AllPass (λ e. P e.0) es → AllPass (λ e. P e.0) (insert_entry cmp es k v)
  put_in [] k v p all = (p, tt)
  put_in (e ∷ es) k v p all = by (cmp k e.0) (put_in es k v p all.1)
    where
      by : (o : Ordering) → AllPass (λ e. P e.0) (insert_entry cmp es k v) → AllPass (λ e. P e.0) (match_ordering o ((k, v) ∷ e ∷ es) ((e.0, v) ∷ es) (e ∷ insert_entry cmp es k v))
      by Less rest = (p, all)
      by Equal rest = all
      by Greater rest = (all.0, rest)

  pub pass_keys : (pairs : List (K × V)) → AllPass (λ e. P e.0) pairs → AllPass (λ e. P e.0) (map_of cmp pairs)
  pass_keys pairs all = from [] pairs tt all
    where
      from : (es pairs : List (K × V)) → AllPass (λ e. P e.0) es → AllPass (λ e. P e.0) pairs → AllPass (λ e. P e.0) (fold (λ es pair. insert_entry cmp es pair.0 pair.1) es pairs)
      from es [] done all = done
      from es (pair ∷ pairs) done all = from (insert_entry cmp es pair.0 pair.1) pairs (put_in es pair.0 pair.1 all.0 done) all.1

-- what two say of each item, both say
pub pass_both : {A : Type 0} (P Q R : A → Type 0) → ((x : A) → P x → Q x → R x) → (xs : List A) → AllPass P xs → AllPass Q xs → AllPass R xs
pass_both P Q R f [] p q = tt
pass_both P Q R f (x ∷ xs) p q = (f x p.0 q.0, pass_both P Q R f xs p.1 q.1)

-- a test that no item passes keeps none
pub none_kept : {A : Type 0} (p : A → Bool) (xs : List A) → AllPass (λ x. p x ≡ false) xs → filter p xs ≡ []
none_kept p [] all = refl
none_kept p (x ∷ xs) all = ap (λ b. cond b (x ∷ filter p xs) (filter p xs)) all.0 ∙ none_kept p xs all.1

-- what the first item that is refused is refused with
pub of_first_refused : {A E : Type 0} (Passes Q : A → Type 0) (Refuses : A → E → Type 0) (G : E → Type 0) → ((x : A) (e : E) → Q x → Refuses x e → G e)
    → (xs : List A) (e : E) → AllPass Q xs → FirstRefused Passes Refuses xs e → G e
of_first_refused Passes Q Refuses G each [] e all r = absurd r
of_first_refused Passes Q Refuses G each (x ∷ xs) e all r =
    elim r [ inl here ↦ each x e all.0 here | inr later ↦ of_first_refused Passes Q Refuses G each xs e all.1 later.1 ]

-- what each item passes, the first does
pub of_first : {A : Type 0} (P : A → Type 0) (xs : List A) (x : A) → AllPass P xs → IsFirst xs x → P x
of_first P xs x all first = let split : AllPass P (x ∷ first.0) = subst (AllPass P) first.1 all in split.0

-- the keys of lists joined
pub keys_of_all : {A K V : Type 0} (f : A → List (K × V)) (xs : List A) → keys_of (flat_map f xs) ≡ flat_map (λ x. keys_of (f x)) xs
keys_of_all f [] = refl
keys_of_all f (x ∷ xs) = keys_of-append (f x) (flat_map f xs) ∙ ap (λ ks. keys_of (f x) ++ ks) (keys_of_all f xs)

exchange : (a b c : Bool) → (cond a true b || c) ≡ (b || (a || c))
exchange true true c = refl
exchange true false c = refl
exchange false true c = refl
exchange false false c = refl

none_behind : (b : Bool) → b ≡ (b || false)
none_behind true = refl
none_behind false = refl

-- the map of pairs has the keys of the pairs
module _ {K V : Type 0} {cmp : K → K → Ordering} (total : IsTotalOrder cmp) (k : K) where
  known_from : (es pairs : List (K × V)) → is_some (get cmp (fold (λ es pair. insert_entry cmp es pair.0 pair.1) es pairs) k) ≡ (is_some (get cmp es k) || contains cmp (keys_of pairs) k)
  known_from es [] = none_behind (is_some (get cmp es k))
  known_from es (p ∷ pairs) =
      known_from (insert_entry cmp es p.0 p.1) pairs
      ∙ ap (λ o. is_some o || contains cmp (keys_of pairs) k) (get-insert_entry total es p.0 p.1 k)
      ∙ ap (λ b. b || contains cmp (keys_of pairs) k) (is_some-cond-true (is_at (cmp p.0) k) p.1 (get cmp es k))
      ∙ exchange (is_at (cmp p.0) k) (is_some (get cmp es k)) (contains cmp (keys_of pairs) k)
      ∙ ap (λ b. is_some (get cmp es k) || (b || contains cmp (keys_of pairs) k)) ((eq_by_cmp_equiv total).symm p.0 k)

  pub known_in_map : (pairs : List (K × V)) → is_some (get cmp (map_of cmp pairs) k) ≡ contains cmp (keys_of pairs) k
  known_in_map pairs = known_from [] pairs
