-- SPDX-License-Identifier: Apache-2.0
-- Loops that write the texts of items, with a separator between them or without.
-- The invariant is `WritesJoined K.written K.faults l.initial.sink l.sink separator text_of l.items l.separator left`, where `left` is
-- `drop l.item-index l.items` over a slice and `l.item-iterator` over an iterator, or a `WritesEach` where there is no separator.
-- Each goal is then a `search` with `in_joined` or `in_each`, what the calls of this turn ensure, and the turn itself,
-- `left ≡ item ∷ next`: `item_at` gives it over a slice, and the clause `steps` of `next` over an iterator.
use Rattle.std.proofs.Common.{◌≡◌, List, [], ◌∷◌, ◌++◌, ℕ, ◌+◌, ◌<◌, length, map, drop, get_or, Option, Result, Ok, Err, refl, ap, sym, ◌∙◌, append_assoc}
use Rattle.std.specs.Result.{IsErr}
use Rattle.std.specs.List.{flat_map}
use Rattle.std.specs.Io.KnownBytes.{append_known}
use Rattle.std.proofs.lemmas.List.{drop_more, drop_all}
use Rattle.cedar_streams.specs.Bytes.{Takes}
use Rattle.cedar_streams.specs.Texts.{joined}
use Rattle.cedar_streams.specs.Writes.{Writes, whole}
use Rattle.cedar_streams.proofs.Known.{append_known-nil, append_known-append}
use Rattle.cedar_streams.proofs.InOrder.{Writes-nothing, Writes-append, Writes-append-stopped}

-- each text behind the separator, but the first behind `lead`
pub joined_after : List ℕ → List ℕ → List (List ℕ) → List ℕ
joined_after lead separator [] = []
joined_after lead separator (text ∷ texts) = lead ++ (text ++ joined_after separator separator texts)

joined_after-flat_map : (separator : List ℕ) (texts : List (List ℕ)) → joined_after separator separator texts ≡ flat_map (λ next. separator ++ next) texts
unfolding joined_after
joined_after-flat_map separator [] = refl
joined_after-flat_map separator (text ∷ texts) = ap (λ s. separator ++ (text ++ s)) (joined_after-flat_map separator texts) ∙ sym (append_assoc separator text _)

joined-is : (separator : List ℕ) (texts : List (List ℕ)) → joined separator texts ≡ joined_after [] separator texts
unfolding joined_after
joined-is separator [] = refl
joined-is separator (text ∷ texts) = ap (λ s. text ++ s) (sym (joined_after-flat_map separator texts))

-- of the whole text all is written but the rest
pub data WritesUpTo {K : Type 0} (written : K → Option (List ℕ)) (faults : K → ℕ) (old now : K) (text rest : List ℕ) : Type 0 where
  up_to : (front : List ℕ) → text ≡ front ++ rest → Takes (written old) (written now) front → faults now ≡ faults old → WritesUpTo written faults old now text rest

module _ {K : Type 0} {written : K → Option (List ℕ)} {faults : K → ℕ} where
  UpTo-start : (k : K) (text : List ℕ) → WritesUpTo written faults k k text text
  UpTo-start k text = up_to [] refl (append_known-nil (written k)) refl

  UpTo-append : {T E : Type 0} {old now new : K} {text first : List ℕ} (rest : List ℕ) {x : T}
      → WritesUpTo written faults old now text (first ++ rest) → Writes {E = E} written faults now new first (Ok x) → WritesUpTo written faults old new text rest
  UpTo-append {old = old} {first = first} rest (up_to front split p l) (whole q m) =
      up_to (front ++ first) (split ∙ sym (append_assoc front first rest)) (q ∙ ap (λ k. append_known k first) p ∙ append_known-append (written old) front first) (m ∙ l)

  UpTo-last : {T E : Type 0} {old now new : K} {text rest : List ℕ} {result : Result T E}
      → WritesUpTo written faults old now text rest → Writes written faults now new rest result → Writes written faults old new text result
  UpTo-last (up_to front split p l) w = rw split (Writes-append {T = Unit {0}} {E = Unit {0}} {x = tt} (whole p l) w)

-- of the items' texts with the separator between them, all is written but for the items `left`; the next of them goes behind `lead`
pub data WritesJoined {K X : Type 0} (written : K → Option (List ℕ)) (faults : K → ℕ) (old now : K) (separator : List ℕ) (text_of : X → List ℕ) (all : List X) (lead : List ℕ) (left : List X) : Type 0 where
  joined_up_to : WritesUpTo written faults old now (joined separator (map text_of all)) (joined_after lead separator (map text_of left)) → WritesJoined written faults old now separator text_of all lead left

-- of the items' texts, one right after the other, all is written but for the items `left`
pub data WritesEach {K X : Type 0} (written : K → Option (List ℕ)) (faults : K → ℕ) (old now : K) (text_of : X → List ℕ) (all left : List X) : Type 0 where
  each_up_to : WritesUpTo written faults old now (flat_map text_of all) (flat_map text_of left) → WritesEach written faults old now text_of all left

-- the item at an index, and those behind it
pub item_at : {X : Type 0} (items : List X) (i : ℕ) (item : X) → i < length items → item ≡ get_or items i item → drop i items ≡ item ∷ drop (i + 1) items
item_at items i item l e = drop_more items i item l ∙ ap (λ x. x ∷ drop (i + 1) items) (sym e)

module _ {K X : Type 0} {written : K → Option (List ℕ)} {faults : K → ℕ} {separator : List ℕ} {text_of : X → List ℕ} {all items : List X} where
  pub joined-start : (k : K) → items ≡ all → WritesJoined written faults k k separator text_of all [] items
  joined-start k e = joined_up_to (rw (e, joined-is) (UpTo-start k _))

  module _ {old now : K} {lead : List ℕ} where
    pub joined-next : {T U E F : Type 0} {mid new : K} {text : List ℕ} {item : X} {left : List X} {x : T} {y : U}
        → WritesJoined written faults old now separator text_of all lead items → items ≡ item ∷ left
        → Writes {E = E} written faults now mid lead (Ok x) → Writes {E = F} written faults mid new text (Ok y) → text ≡ text_of item
        → WritesJoined written faults old new separator text_of all separator left
    unfolding joined_after
    joined-next (joined_up_to p) e q r t = joined_up_to (UpTo-append _ (UpTo-append _ (rw e at p) q) (rw t at r))

    pub joined-stopped_before : {T U E F : Type 0} {new : K} {item : X} {left : List X} {d : E} {result : Result U F}
        → WritesJoined written faults old now separator text_of all lead items → items ≡ item ∷ left
        → Writes {T = T} written faults now new lead (Err d) → IsErr result → Writes written faults old new (joined separator (map text_of all)) result
    unfolding joined_after
    joined-stopped_before (joined_up_to p) e q i = UpTo-last (rw e at p) (Writes-append-stopped _ q i)

    pub joined-stopped : {T U V E F : Type 0} {mid new : K} {text : List ℕ} {item : X} {left : List X} {x : T} {d : E} {result : Result U F}
        → WritesJoined written faults old now separator text_of all lead items → items ≡ item ∷ left
        → Writes {E = E} written faults now mid lead (Ok x) → Writes {T = V} written faults mid new text (Err d) → text ≡ text_of item
        → IsErr result → Writes written faults old new (joined separator (map text_of all)) result
    unfolding joined_after
    joined-stopped (joined_up_to p) e q r t i = UpTo-last (UpTo-append _ (rw e at p) q) (Writes-append-stopped _ (rw t at r) i)

    pub joined-end : {T E : Type 0} (x : T) → WritesJoined written faults old now separator text_of all lead items → items ≡ []
        → Writes {T = T} {E = E} written faults old now (joined separator (map text_of all)) (Ok x)
    unfolding joined_after
    joined-end x (joined_up_to p) e = UpTo-last (rw e at p) (Writes-nothing _ x)

module _ {K X : Type 0} {written : K → Option (List ℕ)} {faults : K → ℕ} {text_of : X → List ℕ} {all items : List X} where
  pub each-start : (k : K) → items ≡ all → WritesEach written faults k k text_of all items
  each-start k e = each_up_to (rw e (UpTo-start k _))

  pub each-next : {T E : Type 0} {old now new : K} {text : List ℕ} {item : X} {left : List X} {x : T}
      → WritesEach written faults old now text_of all items → items ≡ item ∷ left
      → Writes {E = E} written faults now new text (Ok x) → text ≡ text_of item → WritesEach written faults old new text_of all left
  each-next (each_up_to p) e q t = each_up_to (UpTo-append _ (rw e at p) (rw t at q))

  pub each-stopped : {T U E F : Type 0} {old now new : K} {text : List ℕ} {item : X} {left : List X} {d : E} {result : Result U F}
      → WritesEach written faults old now text_of all items → items ≡ item ∷ left
      → Writes {T = T} written faults now new text (Err d) → text ≡ text_of item → IsErr result → Writes written faults old new (flat_map text_of all) result
  each-stopped (each_up_to p) e q t i = UpTo-last (rw e at p) (Writes-append-stopped _ (rw t at q) i)

  pub each-end : {T E : Type 0} {old now : K} (x : T) → WritesEach written faults old now text_of all items → items ≡ []
      → Writes {T = T} {E = E} written faults old now (flat_map text_of all) (Ok x)
  each-end x (each_up_to p) e = UpTo-last (rw e at p) (Writes-nothing _ x)

-- for a loop with a separator, and for one without
pub ruleset in_joined = (joined-start, joined-next, joined-stopped_before, joined-stopped, joined-end, item_at, drop_all)

pub ruleset in_each = (each-start, each-next, each-stopped, each-end, item_at, drop_all)
