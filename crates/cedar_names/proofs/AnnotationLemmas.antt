-- SPDX-License-Identifier: Apache-2.0
use Rattle.std.proofs.Common.{◌≡◌, ℕ, Result, Ok, Err, OnOk, Bool, true, false, cond, List, [], ◌∷◌, Option, Some, refl, sym, ap, ◌∙◌}
use Rattle.std.specs.BTreeMap.{insert_entry}
use Rattle.std.specs.Cmp.Lexicographic.{texts_ties, bytes_decides}
use Rattle.std.specs.Ordering.{match_ordering, is_eq}
use Rattle.std.specs.Str.{bytes_eq}
use Rattle.std.specs.declared.cmp.Ordering.{Ordering}
use Rattle.std.specs.declared.cmp.Ordering.TheVariants.{Less, Equal, Greater}
use Rattle.cedar_names.specs.Annotating.{annotation_at, any_cmp}
use Rattle.cedar_names.specs.Identifiers.{any_word}
use Rattle.cedar_names.specs.Order.{word_cmp}
use Rattle.cedar_names.specs.declared.annotation.Annotation.{Annotation}
use Rattle.cedar_names.specs.declared.any_id.AnyId.{AnyId}

cond-same : {X : Type 0} (b : Bool) (x y z : X) → cond b x z ≡ cond b x (cond b y z)
cond-same true x y z = refl
cond-same false x y z = refl

cond-swap : {X : Type 0} (b c : Bool) (x y z : X) → (b ≡ true → c ≡ true → ⊥) → cond c y (cond b x z) ≡ cond b x (cond c y z)
cond-swap true true x y z apart = absurd (apart refl refl)
cond-swap true false x y z apart = refl
cond-swap false c x y z apart = refl

-- a word is not above itself
not_above : (name key other : List ℕ) → word_cmp key other ≡ Greater → bytes_eq name key ≡ true → bytes_eq name other ≡ true → ⊥
not_above name key other above left right =
    let same : key ≡ other = sym ((bytes_decides name key).0 left) ∙ (bytes_decides name other).0 right in
    let tied : true ≡ is_eq (word_cmp key other) = sym ((bytes_decides key other).1 same) ∙ texts_ties key other in
    let greater : is_eq (word_cmp key other) ≡ false = ap is_eq above in
    cc

-- what stands at a word after one more entry
annotation_at-insert_entry : (es : List (AnyId × Annotation)) (key : AnyId) (a : Annotation) (name : List ℕ)
    → annotation_at (insert_entry any_cmp es key a) name ≡ cond (bytes_eq name (any_word key)) (Some a) (annotation_at es name)
annotation_at-insert_entry [] key a name = refl
annotation_at-insert_entry (e ∷ es) key a name = by_order (annotation_at-insert_entry es key a name) (any_cmp key e.0) refl
  where
    by_order : annotation_at (insert_entry any_cmp es key a) name ≡ cond (bytes_eq name (any_word key)) (Some a) (annotation_at es name) → (o : Ordering) → any_cmp key e.0 ≡ o
        → annotation_at (match_ordering o ((key, a) ∷ e ∷ es) ((e.0, a) ∷ es) (e ∷ insert_entry any_cmp es key a)) name ≡ cond (bytes_eq name (any_word key)) (Some a) (annotation_at (e ∷ es) name)
    by_order rest Less is = refl
    by_order rest Equal is =
        let same : any_word e.0 ≡ any_word key = sym ((bytes_decides (any_word key) (any_word e.0)).0 (texts_ties (any_word key) (any_word e.0) ∙ ap is_eq is)) in
        rw same (cond-same (bytes_eq name (any_word key)) (Some a) (Some e.1) (annotation_at es name))
    by_order rest Greater is =
        ap (λ (t : Option Annotation). cond (bytes_eq name (any_word e.0)) (Some e.1) t) rest
        ∙ cond-swap (bytes_eq name (any_word key)) (bytes_eq name (any_word e.0)) (Some a) (Some e.1) (annotation_at es name) (not_above name (any_word key) (any_word e.0) is)

-- the same of the answer of a call
pub annotation_at-put : {E : Type 0} (r : Result (Unit {0}) E) (es new : List (AnyId × Annotation)) (key : AnyId) (a : Annotation) → OnOk r (new ≡ insert_entry any_cmp es key a)
    → OnOk r ((name : List ℕ) → annotation_at new name ≡ cond (bytes_eq name (any_word key)) (Some a) (annotation_at es name))
annotation_at-put (Ok x) es new key a same = λ name. ap (λ (l : List (AnyId × Annotation)). annotation_at l name) same ∙ annotation_at-insert_entry es key a name
annotation_at-put (Err e) es new key a same = tt
