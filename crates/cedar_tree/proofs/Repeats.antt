-- SPDX-License-Identifier: Apache-2.0
-- The loop over annotations: the keys that were seen, and the first repeat among those that are left.
use Rattle.std.proofs.Common.{◌≡◌, ℕ, Bool, true, false, List, [], ◌∷◌, ◌++◌, cond, bytes_eq, Option, Some, None, sym, ap, ◌∙◌, refl}
use Rattle.std.proofs.lemmas.Slice.Eq.{bytes_eq-Decides}
use Rattle.std.specs.BTreeMap.{is_at}
use Rattle.std.specs.Cmp.Lexicographic.{texts_ties}
use Rattle.cedar_names.specs.of_data.Maps.{get, Puts}
use Rattle.cedar_names.specs.of_text.Places.{span_of}
use Rattle.cedar_names.specs.of_text.declared.location.Span.{Span}
use Rattle.cedar_names.specs.of_text.declared.node.Node.{Node}
use Rattle.cedar_names.specs.Annotating.{any_cmp}
use Rattle.cedar_names.specs.Identifiers.{any_word}
use Rattle.cedar_names.specs.declared.any_id.AnyId.{AnyId}
use Rattle.cedar_tree.specs.Annotating.{Written, keys_written, place_of, repeat_behind, repeat_in, repeat_or}

-- the place at each key is that of the first key with its word
abbrev pub HavePlaces : List (AnyId × Span) → List (Node AnyId) → Type 0
HavePlaces places seen = (id : AnyId) → get any_cmp places id ≡ place_of seen (any_word id)

-- whether two keys are equal is whether their words are
same_key : (key id : AnyId) → is_at (any_cmp key) id ≡ bytes_eq (any_word key) (any_word id)
same_key key id = sym (texts_ties (any_word key) (any_word id))

-- the same at one key: whether it is the other key is b, whether the other key is the word is m, and whether it is the word is n
last_step : (b m n : Bool) (here there : Span) (more of_key of_word : Option Span) → (m ≡ true → n ≡ b) → cond b (Some here) of_key ≡ None
    → (of_key ≡ None → more ≡ cond m (Some there) of_word) → cond n (Some here) more ≡ cond m (Some there) (cond n (Some here) of_word)
last_step true m n here there more of_key of_word same new rest = absurd cc
last_step false true n here there more of_key of_word same new rest = rw (same refl) (rest new)
last_step false false true here there more of_key of_word same new rest = refl
last_step false false false here there more of_key of_word same new rest = rest new

-- the place of a word, with a key behind that none has that was seen
place_last : (seen : List (Node AnyId)) (key : Node AnyId) (word : List ℕ) → place_of seen (any_word key.node) ≡ None
    → place_of (seen ++ key ∷ []) word ≡ cond (bytes_eq (any_word key.node) word) (Some (span_of key.loc)) (place_of seen word)
place_last [] key word new = refl
place_last (k ∷ seen) key word new =
    last_step (bytes_eq (any_word k.node) (any_word key.node)) (bytes_eq (any_word key.node) word) (bytes_eq (any_word k.node) word) (span_of k.loc) (span_of key.loc) _ _ _
    (λ e. ap (bytes_eq (any_word k.node)) (sym ((bytes_eq-Decides (any_word key.node) word).0 e)))
    new
    (place_last seen key word)

-- with another key at its place
places_more : (places places' : List (AnyId × Span)) (seen : List (Node AnyId)) (key : Node AnyId) → HavePlaces places seen → None ≡ get any_cmp places key.node
    → Puts any_cmp places places' key.node (span_of key.loc) → HavePlaces places' (seen ++ key ∷ [])
places_more places places' seen key have new puts id =
    puts id
    ∙ ap (λ b. cond b (Some (span_of key.loc)) (get any_cmp places id)) (same_key key.node id)
    ∙ ap (cond (bytes_eq (any_word key.node) (any_word id)) (Some (span_of key.loc))) (have id)
    ∙ sym (place_last seen key (any_word id) (sym (have key.node) ∙ sym new))

-- the places of the keys that were seen, and the first repeat of all
pub record Seen (all : List Written) (places : List (AnyId × Span)) (left : List Written) : Type 0 where
  pub before : List (Node AnyId)
  pub have : HavePlaces places before
  pub is : repeat_behind before (keys_written left) ≡ repeat_in all

-- a key that was not seen, put at its place
pub seen_more : (all : List Written) (places places' : List (AnyId × Span)) (w : Written) (left : List Written) → Seen all places (w ∷ left)
    → None ≡ get any_cmp places w.node.0.node → Puts any_cmp places places' w.node.0.node (span_of w.node.0.loc) → Seen all places' left
seen_more all places places' w left r new puts = record {
  before = r.before ++ w.node.0 ∷ [];
  have = places_more places places' r.before w.node.0 r.have new puts;
  is = ap (λ p. repeat_or p w.node.0 (repeat_behind (r.before ++ w.node.0 ∷ []) (keys_written left))) (new ∙ r.have w.node.0.node) ∙ r.is;
}
