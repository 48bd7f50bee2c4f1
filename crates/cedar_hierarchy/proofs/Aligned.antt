-- SPDX-License-Identifier: Apache-2.0
-- Loops that go over items in order and make one entry for each.
use Rattle.std.proofs.Common.{◌≡◌, List, [], ◌∷◌, ◌++◌, refl, sym, ap, ◌∙◌, subst, append_assoc}
use Rattle.std.proofs.lemmas.List.{append-nil}
use Rattle.std.specs.List.{AllZip}
use Rattle.std.specs.List.Sorted.{IsStrictlySortedBy}
use Rattle.std.specs.Map.{keys_of}
use Rattle.std.specs.declared.cmp.Ordering.{Ordering}
use Rattle.cedar_data.proofs.Rebuild.{sorted_next}
use Rattle.cedar_data.specs.Maps.{IsSortedMap}

module _ {W E : Type 0} (R : W → E → Type 0) where
  -- an entry for each of the first items, and these are left
  pub record Aligned (whole left : List W) (made : List E) : Type 0 where
    pub done : List W
    pub split : done ++ left ≡ whole
    pub each : AllZip R done made

  pub Aligned-start : (whole left : List W) (made : List E) → left ≡ whole → made ≡ [] → Aligned whole left made
  Aligned-start whole left made all none = record { done = []; split = all; each = subst (λ es. AllZip R [] es) (sym none) tt }

  each_push : (ws : List W) (es : List E) (w : W) (e : E) → AllZip R ws es → R w e → AllZip R (ws ++ w ∷ []) (es ++ e ∷ [])
  each_push [] [] w e z r = (r, tt)
  each_push [] (f ∷ es) w e z r = absurd z
  each_push (v ∷ ws) [] w e z r = absurd z
  each_push (v ∷ ws) (f ∷ es) w e z r = (z.0, each_push ws es w e z.1 r)

  -- one item more
  pub Aligned-push : (whole left rest : List W) (made new : List E) (w : W) (e : E) → Aligned whole left made → left ≡ w ∷ rest → R w e → new ≡ made ++ e ∷ [] → Aligned whole rest new
  Aligned-push whole left rest made new w e sofar first r put = record {
    done = sofar.done ++ w ∷ [];
    split = append_assoc sofar.done (w ∷ []) rest ∙ ap (λ l. sofar.done ++ l) (sym first) ∙ sofar.split;
    each = subst (λ es. AllZip R (sofar.done ++ w ∷ []) es) (sym put) (each_push sofar.done made w e sofar.each r);
  }

  -- after the last
  pub Aligned-end : (whole left : List W) (made : List E) → Aligned whole left made → left ≡ [] → AllZip R whole made
  Aligned-end whole left made sofar none = subst (λ ws. AllZip R ws made) (sym (append-nil sofar.done) ∙ ap (λ l. sofar.done ++ l) (sym none) ∙ sofar.split) sofar.each

-- the next of entries under the keys of items in order is after the others
module _ {K X Y : Type 0} (cmp : K → K → Ordering) (R : K × X → K × Y → Type 0) (key_is : (w : K × X) (e : K × Y) → R w e → e.0 ≡ w.0) where
  pub same_keys : (ws : List (K × X)) (es : List (K × Y)) → AllZip R ws es → keys_of es ≡ keys_of ws
  same_keys [] [] z = refl
  same_keys [] (e ∷ es) z = absurd z
  same_keys (w ∷ ws) [] z = absurd z
  same_keys (w ∷ ws) (e ∷ es) z = λ i. key_is w e z.0 i ∷ same_keys ws es z.1 i

  pub next_in_order : {ws left rest : List (K × X)} {es : List (K × Y)} {w : K × X} (e : K × Y) → Aligned R ws left es → left ≡ w ∷ rest → R w e → IsSortedMap cmp ws → IsStrictlySortedBy cmp (keys_of es ++ e.0 ∷ [])
  next_in_order {ws} {left} {rest} {es} {w} e sofar first r sorted =
      subst (λ ks. IsStrictlySortedBy cmp (ks ++ e.0 ∷ [])) (sym (same_keys sofar.done es sofar.each)) (sorted_next cmp sofar.done sofar.split first (key_is w e r) sorted)
