-- SPDX-License-Identifier: Apache-2.0
-- What holds of a list holds of it in another order.
use Rattle.std.proofs.Common.{◌≡◌, ◌||◌, ◌++◌, Bool, true, false, List, [], ◌∷◌, map, refl, ap, ◌∙◌}
use Rattle.std.specs.List.{flat_map, list_any}
use Rattle.cedar_data.specs.Firsts.{AllPass}
use Rattle.cedar_resolving_laws.specs.Reordered.{Reordered, same, swapped, behind, both}

-- the other way round
pub turned : {A : Type 0} {xs ys : List A} → Reordered xs ys → Reordered ys xs
turned same = same
turned swapped = swapped
turned (behind r) = behind (turned r)
turned (both r s) = both (turned s) (turned r)

-- the same before a list, and behind one
pub before : {A : Type 0} (xs : List A) {ys zs : List A} → Reordered ys zs → Reordered (xs ++ ys) (xs ++ zs)
before [] r = r
before (x ∷ xs) r = behind (before xs r)

pub followed : {A : Type 0} {xs ys : List A} (zs : List A) → Reordered xs ys → Reordered (xs ++ zs) (ys ++ zs)
followed zs same = same
followed zs swapped = swapped
followed zs (behind r) = behind (followed zs r)
followed zs (both r s) = both (followed zs r) (followed zs s)

-- an item goes behind a list
past : {A : Type 0} (x : A) (ys zs : List A) → Reordered (x ∷ ys ++ zs) (ys ++ x ∷ zs)
past x [] zs = same
past x (y ∷ ys) zs = both swapped (behind (past x ys zs))

-- two lists change places
pub exchanged : {A : Type 0} (xs ys zs : List A) → Reordered (xs ++ (ys ++ zs)) (ys ++ (xs ++ zs))
exchanged [] ys zs = same
exchanged (x ∷ xs) ys zs = both (behind (exchanged xs ys zs)) (past x ys (xs ++ zs))

-- what f gives of the items
pub flat_reordered : {A B : Type 0} (f : A → List B) {xs ys : List A} → Reordered xs ys → Reordered (flat_map f xs) (flat_map f ys)
flat_reordered f same = same
flat_reordered f (swapped {x = x} {y = y} {xs = xs}) = exchanged (f x) (f y) (flat_map f xs)
flat_reordered f (behind {x = x} r) = before (f x) (flat_reordered f r)
flat_reordered f (both r s) = both (flat_reordered f r) (flat_reordered f s)

pub map_reordered : {A B : Type 0} (f : A → B) {xs ys : List A} → Reordered xs ys → Reordered (map f xs) (map f ys)
map_reordered f same = same
map_reordered f swapped = swapped
map_reordered f (behind r) = behind (map_reordered f r)
map_reordered f (both r s) = both (map_reordered f r) (map_reordered f s)

or_exchanged : (a b c : Bool) → (a || (b || c)) ≡ (b || (a || c))
or_exchanged true true c = refl
or_exchanged true false c = refl
or_exchanged false b c = refl

-- some item passes a test
pub any_reordered : {A : Type 0} (p : A → Bool) {xs ys : List A} → Reordered xs ys → list_any p xs ≡ list_any p ys
any_reordered p same = refl
any_reordered p (swapped {x = x} {y = y} {xs = xs}) = or_exchanged (p x) (p y) (list_any p xs)
any_reordered p (behind {x = x} r) = ap (λ b. p x || b) (any_reordered p r)
any_reordered p (both r s) = any_reordered p r ∙ any_reordered p s

-- all items pass
pub pass_reordered : {A : Type 0} (P : A → Type 0) {xs ys : List A} → Reordered xs ys → AllPass P xs → AllPass P ys
pass_reordered P same h = h
pass_reordered P swapped h = (h.1.0, (h.0, h.1.1))
pass_reordered P (behind r) h = (h.0, pass_reordered P r h.1)
pass_reordered P (both r s) h = pass_reordered P s (pass_reordered P r h)

-- of each two items, R holds of the first and the second
abbrev pub Each2 : {A : Type 0} → (A → A → Type 0) → List A → Type 0
Each2 R [] = Unit {0}
Each2 R (x ∷ xs) = AllPass (R x) xs × Each2 R xs

-- where R holds both ways, so in another order
pub each2_reordered : {A : Type 0} (R : A → A → Type 0) → ((x y : A) → R x y → R y x) → {xs ys : List A} → Reordered xs ys → Each2 R xs → Each2 R ys
each2_reordered R turn same h = h
each2_reordered R turn (swapped {x = x} {y = y}) h = ((turn x y h.0.0, h.1.0), (h.0.1, h.1.1))
each2_reordered R turn (behind {x = x} r) h = (pass_reordered (R x) r h.0, each2_reordered R turn r h.1)
each2_reordered R turn (both r s) h = each2_reordered R turn s (each2_reordered R turn r h)
