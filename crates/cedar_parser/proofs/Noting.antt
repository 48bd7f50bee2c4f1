-- SPDX-License-Identifier: Apache-2.0
-- The loop over annotations: what was found, and what the tokens that are left read to.
use Rattle.std.proofs.Common.{◌≡◌, ℕ, zero, suc, ◌<◌, Bool, true, false, ◌||◌, arith, List, [], ◌∷◌, ◌++◌, length, map, fold, cond, codes, bytes_eq, Some, None, Ok, Err, sym, ap, ◌∙◌, refl}
use Rattle.std.proofs.lemmas.Cmp.{nat_list_eq_equiv}
use Rattle.std.proofs.lemmas.List.{map-append}
use Rattle.std.specs.BTreeMap.{insert_entry, is_at}
use Rattle.std.specs.Cmp.Lexicographic.{texts_ties}
use Rattle.std.specs.List.{list_any}
use Rattle.cedar_data.proofs.MapsMade.{map-insert_entry}
use Rattle.cedar_data.specs.Sets.{contains, Adds}
use Rattle.cedar_text.specs.Words.{has_word}
use Rattle.cedar_names.specs.Annotating.{any_cmp}
use Rattle.cedar_names.specs.Identifiers.{any_word}
use Rattle.cedar_names.specs.Order.{word_cmp}
use Rattle.cedar_names.specs.declared.annotation.Annotation as value
use Rattle.cedar_names.specs.declared.any_id.AnyId.{AnyId}
use Rattle.cedar_tokens.specs.Lexemes.{TextToken}
use Rattle.cedar_grammar.specs.Grammar.{keys_of}
use Rattle.cedar_tree.specs.Meanings.{annotation_tree, place_where}
use Rattle.cedar_grammar.specs.Reading.{accepted, a_mark, annotation_behind, annots_from, annots_at}
use Rattle.cedar_tree.specs.Trees.{Node, Text, Annotations, by_key, stands}
use Rattle.cedar_parser.specs.Keys.{HaveKeys, annotation_node}

-- annotations by their words
abbrev pub Found : Type 0
Found = List (AnyId × value.Annotation)

-- whether a word of a list with another behind passes
or_last : (p : List ℕ → Bool) (ws : List (List ℕ)) (w : List ℕ) → list_any p (ws ++ w ∷ []) ≡ cond (p w) true (list_any p ws)
or_last p [] w = at (p w)
  where
    at : (b : Bool) → (b || false) ≡ cond b true false
    at true = refl
    at false = refl
or_last p (v ∷ ws) w = ap (λ b. p v || b) (or_last p ws w) ∙ at (p v) (p w) (list_any p ws)
  where
    at : (a b c : Bool) → (a || cond b true c) ≡ cond b true (a || c)
    at true true c = refl
    at true false c = refl
    at false true c = refl
    at false false c = refl

-- whether two keys are equal is whether their words are
same_key : (key id : AnyId) → is_at (any_cmp key) id ≡ bytes_eq (any_word id) (any_word key)
same_key key id = sym (texts_ties (any_word key) (any_word id)) ∙ nat_list_eq_equiv.symm (any_word key) (any_word id)

-- annotations with another behind have its key too
keys_more : (keys keys' : List AnyId) (before : Annotations) (key : AnyId) (a : value.Annotation) → HaveKeys keys before → Adds any_cmp keys keys' key
    → HaveKeys keys' (before ++ annotation_node (key, a) ∷ [])
keys_more keys keys' before key a have adds id =
    adds id
    ∙ ap (λ b. cond b true (contains any_cmp keys id)) (same_key key id)
    ∙ ap (cond (bytes_eq (any_word id) (any_word key)) true) (have id)
    ∙ sym (or_last (bytes_eq (any_word id)) (keys_of before) (any_word key))
    ∙ ap (λ ws. has_word ws (any_word id)) (sym (map-append (λ n. n.node.key) before (annotation_node (key, a) ∷ [])))

-- the last step of a fold
put_last : {A B : Type 0} (f : B → A → B) (b : B) (xs : List A) (x : A) → fold f b (xs ++ x ∷ []) ≡ f (fold f b xs) x
put_last f b [] x = refl
put_last f b (y ∷ xs) x = put_last f (f b y) xs x

-- what annotations say with another behind
by_key-more : (before : Annotations) (key : AnyId) (a : value.Annotation)
    → by_key (before ++ annotation_node (key, a) ∷ []) ≡ insert_entry word_cmp (by_key before) (any_word key) (stands a.val (place_where a.loc))
by_key-more before key a =
    ap (fold (λ es pair. insert_entry word_cmp es pair.0 pair.1) []) (map-append (λ n. (n.node.key, stands n.node.value n.loc)) before (annotation_node (key, a) ∷ []))
    ∙ put_last (λ es pair. insert_entry word_cmp es pair.0 pair.1) [] (map (λ n. (n.node.key, stands n.node.value n.loc)) before) (any_word key, stands a.val (place_where a.loc))

-- what was found, and the keys of it, mean what annotations say that were read, and what is left reads on behind these
pub record Noted (start : List TextToken) (keys : List AnyId) (found : Found) (here : List TextToken) : Type 0 where
  pub before : Annotations
  pub have : HaveKeys keys before
  pub values : map annotation_tree found ≡ by_key before
  pub count : ℕ
  pub enough : length here < count
  pub is : annots_at start ≡ annots_from count before here

module _ (start : List TextToken) where
  -- nothing is read yet
  pub noted_start : Noted start [] [] start
  unfolding annots_at
  noted_start = record { before = []; have = λ id. refl; values = refl; count = suc (length start); enough = omega arith; is = refl }

  -- a sign with no annotation behind it, where rounds are left
  round_fault : (n : ℕ) (before : Annotations) (here : List TextToken) (at : Node Text) (rest : List TextToken) (left : ℕ) → length here < n
      → Some (at, rest) ≡ accepted (a_mark (codes "@")) here → annotation_behind before at rest ≡ Err left → annots_from n before here ≡ Err left
  unfolding annots_from
  round_fault zero before here at rest left enough sign e = absurd (omega (arith, enough))
  round_fault (suc n) before here at rest left enough sign e = rw (← sign, e) refl

  -- the same at a turn of the loop
  pub noted_fault : (keys : List AnyId) (found : Found) (here : List TextToken) (at : Node Text) (rest : List TextToken) (left : ℕ) (r : Noted start keys found here)
      → Some (at, rest) ≡ accepted (a_mark (codes "@")) here → annotation_behind r.before at rest ≡ Err left → annots_at start ≡ Err left
  noted_fault keys found here at rest left r sign e = r.is ∙ round_fault r.count r.before here at rest left r.enough sign e

  -- no sign, where rounds are left
  round_end : (n : ℕ) (before : Annotations) (here : List TextToken) → length here < n → None ≡ accepted (a_mark (codes "@")) here → annots_from n before here ≡ Ok (by_key before, here)
  unfolding annots_from
  round_end zero before here enough sign = absurd (omega (arith, enough))
  round_end (suc n) before here enough sign = rw (← sign) refl

  -- the same at a turn of the loop
  pub noted_end : (keys : List AnyId) (found : Found) (here : List TextToken) → Noted start keys found here → None ≡ accepted (a_mark (codes "@")) here → annots_at start ≡ Ok (map annotation_tree found, here)
  noted_end keys found here r sign = r.is ∙ round_end r.count r.before here r.enough sign ∙ ap (λ es. Ok (es, here)) (sym r.values)

  -- another annotation, in a round fewer
  round_more : (n : ℕ) (before : Annotations) (here : List TextToken) (at : Node Text) (rest : List TextToken) (key : AnyId) (a : value.Annotation) (left : List TextToken)
      → length here < n → length left < length here → Some (at, rest) ≡ accepted (a_mark (codes "@")) here → annotation_behind before at rest ≡ Ok (annotation_node (key, a), left)
      → (k : ℕ) × (length left < k) × (annots_from n before here ≡ annots_from k (before ++ annotation_node (key, a) ∷ []) left)
  unfolding annots_from
  round_more zero before here at rest key a left enough fewer sign e = absurd (omega (arith, enough))
  round_more (suc n) before here at rest key a left enough fewer sign e = (n, omega (arith, enough, fewer), rw (← sign, e) refl)

  -- the same at a turn of the loop
  pub noted_more : (keys keys' : List AnyId) (found found' : Found) (here : List TextToken) (at : Node Text) (rest : List TextToken) (key : AnyId) (a : value.Annotation) (left : List TextToken) (r : Noted start keys found here)
      → length left < length here → Some (at, rest) ≡ accepted (a_mark (codes "@")) here → annotation_behind r.before at rest ≡ Ok (annotation_node (key, a), left)
      → Adds any_cmp keys keys' key → found' ≡ insert_entry any_cmp found key a → Noted start keys' found' left
  noted_more keys keys' found found' here at rest key a left r fewer sign e adds put =
      let k = round_more r.count r.before here at rest key a left r.enough fewer sign e in
      record {
        before = r.before ++ annotation_node (key, a) ∷ [];
        have = keys_more keys keys' r.before key a r.have adds;
        values =
            ap (map annotation_tree) put
            ∙ map-insert_entry any_cmp word_cmp any_word (λ v. stands v.val (place_where v.loc)) (λ x y. refl) found key a
            ∙ ap (λ es. insert_entry word_cmp es (any_word key) (stands a.val (place_where a.loc))) r.values
            ∙ sym (by_key-more r.before key a);
        count = k.0;
        enough = k.1;
        is = r.is ∙ k.2;
      }
