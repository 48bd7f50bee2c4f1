-- SPDX-License-Identifier: Apache-2.0
-- Pairs with keys that differ make the same map in every order.
use Rattle.std.proofs.Common.{◌≡◌, List, [], ◌∷◌, fold, refl, sym, ap, ◌∙◌}
use Rattle.std.specs.BTreeMap.{insert_entry}
use Rattle.std.specs.Cmp.{IsTotalOrder}
use Rattle.std.specs.Ordering.{match_ordering, ordering_reverse}
use Rattle.std.specs.declared.cmp.Ordering.{Ordering}
use Rattle.std.specs.declared.cmp.Ordering.TheVariants.{Less, Equal, Greater}
use Rattle.cedar_data.specs.Maps.{map_of}
use Rattle.cedar_resolving_laws.specs.Reordered.{Reordered, same, swapped, behind, both}
use Rattle.cedar_resolving_laws.proofs.Reordering.{Each2, each2_reordered}

turn : {K : Type 0} {cmp : K → K → Ordering} (total : IsTotalOrder cmp) (k j : K) (o : Ordering) → cmp k j ≡ o → cmp j k ≡ ordering_reverse o
turn total k j o is = total.antisymm j k ∙ ap ordering_reverse is

module _ {K V : Type 0} {cmp : K → K → Ordering} (total : IsTotalOrder cmp) where
  -- two entries whose keys differ
  abbrev pub Differ : K × V → K × V → Type 0
  Differ a b = cmp a.0 b.0 ≡ Equal → ⊥

  pub differ_turned : (a b : K × V) → Differ a b → Differ b a
  differ_turned a b differ is = differ (turn total b.0 a.0 Equal is)

  -- the entry in its place at the front
  at : (e : K × V) (es : List (K × V)) (k : K) (v : V) (o : Ordering) → cmp k e.0 ≡ o → insert_entry cmp (e ∷ es) k v ≡ match_ordering o ((k, v) ∷ e ∷ es) ((e.0, v) ∷ es) (e ∷ insert_entry cmp es k v)
  at e es k v o is = ap (λ o. match_ordering o ((k, v) ∷ e ∷ es) ((e.0, v) ∷ es) (e ∷ insert_entry cmp es k v)) is

  -- two entries whose keys differ are put in in either order
  exchange : (es : List (K × V)) (k j : K) (v w : V) → (cmp k j ≡ Equal → ⊥) → insert_entry cmp (insert_entry cmp es k v) j w ≡ insert_entry cmp (insert_entry cmp es j w) k v
  exchange [] k j v w differ = by (cmp j k) refl
    where
      by : (o : Ordering) → cmp j k ≡ o → insert_entry cmp ((k, v) ∷ []) j w ≡ insert_entry cmp ((j, w) ∷ []) k v
      by Less is = at (k, v) [] j w Less is ∙ sym (at (j, w) [] k v Greater (turn total j k Less is))
      by Equal is = absurd (differ (turn total j k Equal is))
      by Greater is = at (k, v) [] j w Greater is ∙ sym (at (j, w) [] k v Less (turn total j k Greater is))
  exchange (e ∷ es) k j v w differ = by (cmp k e.0) (cmp j e.0) refl refl (exchange es k j v w differ)
    where
      -- both before the front
      front : (o : Ordering) → cmp j k ≡ o → cmp k e.0 ≡ Less → cmp j e.0 ≡ Less → insert_entry cmp ((k, v) ∷ e ∷ es) j w ≡ insert_entry cmp ((j, w) ∷ e ∷ es) k v
      front Less is p q = at (k, v) (e ∷ es) j w Less is ∙ sym (at (j, w) (e ∷ es) k v Greater (turn total j k Less is) ∙ ap (λ l. (j, w) ∷ l) (at e es k v Less p))
      front Equal is p q = absurd (differ (turn total j k Equal is))
      front Greater is p q = (at (k, v) (e ∷ es) j w Greater is ∙ ap (λ l. (k, v) ∷ l) (at e es j w Less q)) ∙ sym (at (j, w) (e ∷ es) k v Less (turn total j k Greater is))

      by : (o o' : Ordering) → cmp k e.0 ≡ o → cmp j e.0 ≡ o' → insert_entry cmp (insert_entry cmp es k v) j w ≡ insert_entry cmp (insert_entry cmp es j w) k v
          → insert_entry cmp (insert_entry cmp (e ∷ es) k v) j w ≡ insert_entry cmp (insert_entry cmp (e ∷ es) j w) k v
      by Less Less p q rest =
          ap (λ l. insert_entry cmp l j w) (at e es k v Less p) ∙ front (cmp j k) refl p q ∙ sym (ap (λ l. insert_entry cmp l k v) (at e es j w Less q))
      by Less Equal p q rest =
          ap (λ l. insert_entry cmp l j w) (at e es k v Less p)
          ∙ at (k, v) (e ∷ es) j w Greater (total.congr j e.0 k q ∙ turn total k e.0 Less p) ∙ ap (λ l. (k, v) ∷ l) (at e es j w Equal q)
          ∙ sym (ap (λ l. insert_entry cmp l k v) (at e es j w Equal q) ∙ at (e.0, w) es k v Less p)
      by Less Greater p q rest =
          ap (λ l. insert_entry cmp l j w) (at e es k v Less p)
          ∙ at (k, v) (e ∷ es) j w Greater (turn total k j Less (total.trans k e.0 j p (turn total j e.0 Greater q))) ∙ ap (λ l. (k, v) ∷ l) (at e es j w Greater q)
          ∙ sym (ap (λ l. insert_entry cmp l k v) (at e es j w Greater q) ∙ at e (insert_entry cmp es j w) k v Less p)
      by Equal Less p q rest =
          ap (λ l. insert_entry cmp l j w) (at e es k v Equal p) ∙ at (e.0, v) es j w Less q
          ∙ sym (ap (λ l. insert_entry cmp l k v) (at e es j w Less q)
          ∙ at (j, w) (e ∷ es) k v Greater (total.congr k e.0 j p ∙ turn total j e.0 Less q) ∙ ap (λ l. (j, w) ∷ l) (at e es k v Equal p))
      by Equal Equal p q rest = absurd (differ (total.congr k e.0 j p ∙ turn total j e.0 Equal q))
      by Equal Greater p q rest =
          ap (λ l. insert_entry cmp l j w) (at e es k v Equal p) ∙ at (e.0, v) es j w Greater q
          ∙ sym (ap (λ l. insert_entry cmp l k v) (at e es j w Greater q) ∙ at e (insert_entry cmp es j w) k v Equal p)
      by Greater Less p q rest =
          ap (λ l. insert_entry cmp l j w) (at e es k v Greater p) ∙ at e (insert_entry cmp es k v) j w Less q
          ∙ sym (ap (λ l. insert_entry cmp l k v) (at e es j w Less q)
          ∙ at (j, w) (e ∷ es) k v Greater (turn total j k Less (total.trans j e.0 k q (turn total k e.0 Greater p))) ∙ ap (λ l. (j, w) ∷ l) (at e es k v Greater p))
      by Greater Equal p q rest =
          ap (λ l. insert_entry cmp l j w) (at e es k v Greater p) ∙ at e (insert_entry cmp es k v) j w Equal q
          ∙ sym (ap (λ l. insert_entry cmp l k v) (at e es j w Equal q) ∙ at (e.0, w) es k v Greater p)
      by Greater Greater p q rest =
          ap (λ l. insert_entry cmp l j w) (at e es k v Greater p) ∙ at e (insert_entry cmp es k v) j w Greater q ∙ ap (λ l. e ∷ l) rest
          ∙ sym (ap (λ l. insert_entry cmp l k v) (at e es j w Greater q) ∙ at e (insert_entry cmp es j w) k v Greater p)

  put_reordered : {xs ys : List (K × V)} (es : List (K × V)) → Reordered xs ys → Each2 Differ xs → fold (λ es pair. insert_entry cmp es pair.0 pair.1) es xs ≡ fold (λ es pair. insert_entry cmp es pair.0 pair.1) es ys
  put_reordered es same h = refl
  put_reordered es (swapped {x = x} {y = y} {xs = xs}) h = ap (λ es. fold (λ es pair. insert_entry cmp es pair.0 pair.1) es xs) (exchange es x.0 y.0 x.1 y.1 h.0.0)
  put_reordered es (behind {x = x} r) h = put_reordered (insert_entry cmp es x.0 x.1) r h.1
  put_reordered es (both r s) h = put_reordered es r h ∙ put_reordered es s (each2_reordered Differ differ_turned r h)

  -- the same map
  pub map_of_reordered : {xs ys : List (K × V)} → Reordered xs ys → Each2 Differ xs → map_of cmp xs ≡ map_of cmp ys
  map_of_reordered r h = put_reordered [] r h
