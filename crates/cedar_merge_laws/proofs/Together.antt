-- SPDX-License-Identifier: Apache-2.0
-- Fragments that are merged declare together what the merged one declares.
use Rattle.std.proofs.Common.{◌≡◌, ◌&&◌, ◌||◌, Bool, true, false, List, [], ◌∷◌, Option, Some, None, refl, sym, ap, ◌∙◌, subst, inl, inr}
use Rattle.std.specs.List.{flat_map, list_any}
use Rattle.std.specs.Option.{is_some, option_or}
use Rattle.std.specs.Ordering.{nat_cmp}
use Rattle.std.specs.declared.cmp.Ordering.TheVariants.{Equal}
use Rattle.cedar_data.proofs.Exact.{IsExact}
use Rattle.cedar_data.proofs.Passing.{AllPass-append, AllPass-map}
use Rattle.cedar_data.specs.Firsts.{AllPass, SomePasses}
use Rattle.cedar_data.specs.Maps.{get}
use Rattle.cedar_convert_fragment.specs.Views.{fragment_seen}
use Rattle.cedar_merge.specs.Lookups.{Declaration, Fragment, Place, declared, path_cmp}
use Rattle.cedar_merge.specs.Merged.{Merged, NoClash, place_cmp, rank}
use Rattle.cedar_merge.specs.Pairs.{some_pair}
use Rattle.cedar_merge.specs.declared.errors.DeclKind.{DeclKind}
use Rattle.cedar_merge.specs.declared.errors.DeclKind.TheVariants.{Common, Entity, Action}
use Rattle.cedar_merge.proofs.Found.{places_total}
use Rattle.cedar_merge.proofs.Orders.{paths_exact, words_exact}
use Rattle.cedar_schema_error.proofs.UidOrder.{both_equal}
use Rattle.cedar_merge_laws.specs.Together.{InOrder, all_namespaces}
use Rattle.cedar_merge_laws.proofs.Listing.{Before, Row, ascending, each2_append, found, ordered, rows, rows_of}
use Rattle.cedar_merge_laws.proofs.Matching.{all_found, get-append, matched, none_differ, unlike}
use Rattle.cedar_resolving_laws.specs.Reordered.{Reordered}
use Rattle.cedar_resolving_laws.proofs.MapsReordered.{Differ}
use Rattle.cedar_resolving_laws.proofs.Reordering.{Each2}
use Rattle.cedar_resolving_laws.proofs.Spread.{inner}

-- ---- the order of places ties what is equal alone

same_kind : (a b : DeclKind) → nat_cmp (rank a) (rank b) ≡ Equal → a ≡ b
same_kind Common Common e = refl
same_kind Common Entity e = absurd (cc)
same_kind Common Action e = absurd (cc)
same_kind Entity Common e = absurd (cc)
same_kind Entity Entity e = refl
same_kind Entity Action e = absurd (cc)
same_kind Action Common e = absurd (cc)
same_kind Action Entity e = absurd (cc)
same_kind Action Action e = refl

same_place : (p q : Place) → p.namespace ≡ q.namespace → p.kind ≡ q.kind → p.name ≡ q.name → p ≡ q
same_place p q a b c = λ i. record { namespace = a i; kind = b i; name = c i }

places_exact : IsExact place_cmp
places_exact = record {
  total = places_total;
  exact = λ p q e.
      let first = both_equal (path_cmp p.namespace q.namespace) _ e in
      let second = both_equal (nat_cmp (rank p.kind) (rank q.kind)) _ first.1 in
      same_place p q (paths_exact.exact p.namespace q.namespace first.0) (same_kind p.kind q.kind second.0) (words_exact.exact p.name q.name second.1);
}

-- ---- what fragments declare

-- what fragments declare, one behind the other
abbrev rows_all : List Fragment → List Row
rows_all L = flat_map (λ f. rows f.0) L

abbrev Ordered : Fragment → Type 0
Ordered f = InOrder (fragment_seen f)

-- at each place is found what the fragment declares there
found_one : (f : Fragment) → Ordered f → (p : Place) → get place_cmp (rows f.0) p ≡ declared p f
found_one f sorted p = found f.0 (ascending f.0 sorted.namespaces) p

-- and no two declarations have the same place
apart_one : (f : Fragment) → Ordered f → Each2 (Differ places_total) (rows f.0)
apart_one f sorted = by (rows f.0) (ordered f.0 (ascending f.0 sorted.namespaces) sorted.definitions)
  where
    differ : (a b : Row) → Before a b → Differ places_total a b
    differ a b less = unlike (place_cmp a.0 b.0) less

    by : (rs : List Row) → Each2 Before rs → Each2 (Differ places_total) rs
    by [] h = tt
    by (r ∷ rs) h = (AllPass-map (differ r) rs h.0, by rs h.1)

no_some : {A : Type 0} (a : A) (o : Option A) → option_or (Some a) o ≡ None → ⊥
no_some a o e = cc

-- what is found is declared by one of them
found_some : (L : List Fragment) → AllPass Ordered L → (p : Place) (d : Declaration) → get place_cmp (rows_all L) p ≡ Some d → SomePasses (λ f. declared p f ≡ Some d) L
found_some [] sorted p d is = cc
found_some (f ∷ L) sorted p d is =
    by (declared p f) refl (sym (get-append place_cmp (rows f.0) (rows_all L) p ∙ ap (λ o. option_or o (get place_cmp (rows_all L) p)) (found_one f sorted.0 p)) ∙ is) (found_some L sorted.1 p d)
  where
    by : (o : Option Declaration) → declared p f ≡ o → option_or (declared p f) (get place_cmp (rows_all L) p) ≡ Some d → (get place_cmp (rows_all L) p ≡ Some d → SomePasses (λ f. declared p f ≡ Some d) L) → SomePasses (λ f. declared p f ≡ Some d) (f ∷ L)
    by None e h others = inr (others (sym (ap (λ o. option_or o (get place_cmp (rows_all L) p)) e) ∙ h))
    by (Some c) e h others = inl (e ∙ sym (ap (λ o. option_or o (get place_cmp (rows_all L) p)) e) ∙ h)

-- and where nothing is found, none of them declares anything
found_none : (L : List Fragment) → AllPass Ordered L → (p : Place) (d : Declaration) → get place_cmp (rows_all L) p ≡ None → SomePasses (λ f. declared p f ≡ Some d) L → ⊥
found_none [] sorted p d is s = s
found_none (f ∷ L) sorted p d is (inl e) =
    no_some d (get place_cmp (rows_all L) p) (sym (get-append place_cmp (rows f.0) (rows_all L) p ∙ ap (λ o. option_or o (get place_cmp (rows_all L) p)) (found_one f sorted.0 p ∙ e)) ∙ is)
found_none (f ∷ L) sorted p d is (inr s) =
    found_none L sorted.1 p d (by (get place_cmp (rows f.0) p) (sym (get-append place_cmp (rows f.0) (rows_all L) p) ∙ is)) s
  where
    by : (o : Option Declaration) → option_or o (get place_cmp (rows_all L) p) ≡ None → get place_cmp (rows_all L) p ≡ None
    by None h = h
    by (Some c) h = absurd (no_some c (get place_cmp (rows_all L) p) h)

-- ---- no two fragments declare something at one place

false_of : (b : Bool) → (b ≡ true → ⊥) → b ≡ false
false_of true h = absurd (h refl)
false_of false h = refl

left_false : (a b : Bool) → (a || b) ≡ false → a ≡ false
left_false true b e = e
left_false false b e = refl

right_false : (a b : Bool) → (a || b) ≡ false → b ≡ false
right_false true b e = absurd (cc)
right_false false b e = e

other_false : (a b : Bool) → a ≡ true → (a && b) ≡ false → b ≡ false
other_false true b is e = e
other_false false b is e = absurd (cc)

abbrev Clash : Place → Fragment → Fragment → Bool
Clash p f g = is_some (declared p f) && is_some (declared p g)

-- what one declares the others don't
apart_all : (f : Fragment) (L : List Fragment) → AllPass Ordered L → (r : Row) → is_some (declared r.0 f) ≡ true → list_any (Clash r.0 f) L ≡ false → AllPass (Differ places_total r) (rows_all L)
apart_all f [] sorted r there none = tt
apart_all f (g ∷ L) sorted r there none =
    let absent : is_some (declared r.0 g) ≡ false = other_false (is_some (declared r.0 f)) (is_some (declared r.0 g)) there (left_false (Clash r.0 f g) (list_any (Clash r.0 f) L) none) in
    AllPass-append (Differ places_total r) (rows g.0) (rows_all L)
    (none_differ place_cmp r.0 (rows g.0) (ap is_some (found_one g sorted.0 r.0) ∙ absent))
    (apart_all f L sorted.1 r there (right_false (Clash r.0 f g) (list_any (Clash r.0 f) L) none))

no_clash : (L : List Fragment) → NoClash L → (p : Place) → some_pair (Clash p) L ≡ false
no_clash L none p = false_of (some_pair (Clash p) L) (none p)

apart_list : (L : List Fragment) → AllPass Ordered L → ((p : Place) → some_pair (Clash p) L ≡ false) → Each2 (Differ places_total) (rows_all L)
apart_list [] sorted none = tt
apart_list (f ∷ L) sorted none =
    each2_append (Differ places_total) (rows f.0) (rows_all L) (apart_one f sorted.0)
    (apart_list L sorted.1 (λ p. right_false (list_any (Clash p f) L) (some_pair (Clash p) L) (none p)))
    (AllPass-map
    (λ r there. apart_all f L sorted.1 r (sym (ap is_some (found_one f sorted.0 r.0)) ∙ there) (left_false (list_any (Clash r.0 f) L) (some_pair (Clash r.0) L) (none r.0)))
    (rows f.0) (all_found places_exact (rows f.0)))

module _ (L : List Fragment) (F : Fragment) (sorted : AllPass Ordered L) (in_order : Ordered F) (none : NoClash L) (merged : Merged L F) where
  -- at each place the same is found
  found_alike : (p : Place) → get place_cmp (rows F.0) p ≡ get place_cmp (rows_all L) p
  found_alike p = found_one F in_order p ∙ by (get place_cmp (rows_all L) p) refl
    where
      nothing : (o : Option Declaration) → declared p F ≡ o → get place_cmp (rows_all L) p ≡ None → declared p F ≡ None
      nothing None e is = e
      nothing (Some d) e is = absurd (found_none L sorted p d is ((merged.declarations p d).0 e))

      by : (o : Option Declaration) → get place_cmp (rows_all L) p ≡ o → declared p F ≡ o
      by None is = nothing (declared p F) refl is
      by (Some d) is = (merged.declarations p d).1 (found_some L sorted p d is)

  -- the merged fragment declares what they declare together
  pub declares_alike : Reordered (rows F.0) (rows (all_namespaces L))
  declares_alike = subst (Reordered (rows F.0)) (inner (λ f. f.0) rows_of L)
      (matched places_exact (rows F.0) (rows_all L) (apart_one F in_order) (apart_list L sorted (no_clash L none)) found_alike)
