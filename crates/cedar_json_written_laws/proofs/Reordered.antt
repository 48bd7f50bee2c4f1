-- SPDX-License-Identifier: Apache-2.0
-- Objects made of maps whose keys are in another order than their texts.
use Rattle.std.proofs.Common.{◌≡◌, ℕ, List, [], ◌∷◌, ◌++◌, map, fold, refl, sym, ap, ◌∙◌, subst, append_assoc, append-nil}
use Rattle.std.specs.BTreeMap.{insert_entry}
use Rattle.std.specs.Cmp.{IsTotalOrder}
use Rattle.std.specs.Cmp.Lexicographic.{bytes_decides, slice_cmp, texts_ties}
use Rattle.std.specs.List.{AllByRecursion}
use Rattle.std.specs.List.Sorted.{IsStrictlySortedBy}
use Rattle.std.specs.Map.{keys_of}
use Rattle.std.specs.Ordering.{is_eq, match_ordering, nat_cmp, ordering_reverse}
use Rattle.std.specs.declared.cmp.Ordering.{Ordering}
use Rattle.std.specs.declared.cmp.Ordering.TheVariants.{Less, Equal, Greater}
use Rattle.cedar_data.specs.Maps.{IsSortedMap, map_of}
use Rattle.serde_json.specs.Data.{Data, Members, no_members, member, put}
use Rattle.cedar_json_types.specs.Shapes.{EachMember}
use Rattle.cedar_json_write.specs.Written.{put_all}

-- ---- members and entries, put in one after another by the same texts

module _ {J W : Type 0} (text : J → List ℕ) (P : List ℕ → Data → J → W → Type 0) (mix : (k : List ℕ) (d e : Data) (j : J) (w : W) (i : J) (x : W) → P k e i x → P k d j w → P k d i w) where
  abbrev by_text : J → J → Ordering
  by_text a b = slice_cmp nat_cmp (text a) (text b)

  -- such an entry, at the text of its key
  abbrev pub Told : List ℕ → Data → J → W → Type 0
  Told k d j w = (k ≡ text j) × P k d j w

  put_told : (k : List ℕ) (d : Data) (j : J) (w : W) → Told k d j w → (ms : Members) (made : List (J × W)) → EachMember Told ms made → EachMember Told (put k d ms) (insert_entry by_text made j w)
  put_told k d j w told no_members [] each = (told, tt)
  put_told k d j w told no_members (e ∷ made) each = absurd each
  put_told k d j w told (member l e ms) [] each = absurd each
  put_told k d j w told (member l e ms) (m ∷ made) each =
      subst (λ o. EachMember Told (put k d (member l e ms)) (match_ordering o ((j, w) ∷ m ∷ made) ((m.0, w) ∷ made) (m ∷ insert_entry by_text made j w))) (λ i. slice_cmp nat_cmp (told.0 i) (each.0.0 i))
      (by (slice_cmp nat_cmp k l) refl (put_told k d j w told ms made each.1))
    where
      by : (o : Ordering) → slice_cmp nat_cmp k l ≡ o → EachMember Told (put k d ms) (insert_entry by_text made j w)
          → EachMember Told (match_ordering o (member k d (member l e ms)) (member l d ms) (member l e (put k d ms))) (match_ordering o ((j, w) ∷ m ∷ made) ((m.0, w) ∷ made) (m ∷ insert_entry by_text made j w))
      by Less is rest = (told, each)
      by Equal is rest =
          let same : k ≡ l = (bytes_decides k l).0 (texts_ties k l ∙ ap is_eq is) in
          ((each.0.0, mix l d e j w m.0 m.1 each.0.1 (subst (λ t. P t d j w) same told.1)), each.1)
      by Greater is rest = (each.0, rest)

  module _ {K V : Type 0} (key : K → List ℕ) (of : V → Data) (name : K → J) (content : V → W) where
    abbrev pub AllTold : List (K × V) → Type 0
    AllTold es = AllByRecursion (λ e. Told (key e.0) (of e.1) (name e.0) (content e.1)) es

    all_told : (es : List (K × V)) → AllTold es → (ms : Members) (made : List (J × W)) → EachMember Told ms made
        → EachMember Told (put_all (map (λ e. (key e.0, of e.1)) es) ms) (fold (λ (es : List (J × W)) (pair : J × W). insert_entry by_text es pair.0 pair.1) made (map (λ e. (name e.0, content e.1)) es))
    all_told [] all ms made each = each
    all_told (e ∷ es) all ms made each = all_told es all.1 (put (key e.0) (of e.1) ms) (insert_entry by_text made (name e.0) (content e.1)) (put_told (key e.0) (of e.1) (name e.0) (content e.1) all.0 ms made each)

    weaker : (ms : Members) (made : List (J × W)) → EachMember Told ms made → EachMember P ms made
    weaker no_members [] each = tt
    weaker no_members (e ∷ made) each = absurd each
    weaker (member k d ms) [] each = absurd each
    weaker (member k d ms) (e ∷ made) each = (each.0.1, weaker ms made each.1)

    -- the members of the object are the entries in the order of their texts
    pub members_told : (es : List (K × V)) → AllTold es → EachMember P (put_all (map (λ e. (key e.0, of e.1)) es) no_members) (map_of by_text (map (λ e. (name e.0, content e.1)) es))
    members_told es all = weaker _ _ (all_told es all no_members [] tt)

-- ---- a map of entries that another order has shuffled

above : {J : Type 0} {cmp : J → J → Ordering} → IsTotalOrder cmp → (x y : J) → cmp y x ≡ Less → cmp x y ≡ Greater
above total x y below = total.antisymm x y ∙ ap ordering_reverse below

module _ {J W : Type 0} (other cmp : J → J → Ordering) (total : IsTotalOrder cmp) (ties : (a b : J) → other a b ≡ Equal → cmp a b ≡ Equal) where
  abbrev step : List (J × W) → J × W → List (J × W)
  step es pair = insert_entry cmp es pair.0 pair.1

  abbrev other_step : List (J × W) → J × W → List (J × W)
  other_step es pair = insert_entry other es pair.0 pair.1

  -- each key is below this one
  abbrev Below : J → List (J × W) → Type 0
  Below x es = AllByRecursion (λ e. cmp e.0 x ≡ Less) es

  -- a key above all others goes to the end
  insert_last : (x : J × W) (es : List (J × W)) → Below x.0 es → insert_entry cmp es x.0 x.1 ≡ es ++ x ∷ []
  insert_last x [] below = refl
  insert_last x (e ∷ es) below =
      ap (λ o. match_ordering o (x ∷ e ∷ es) ((e.0, x.1) ∷ es) (e ∷ insert_entry cmp es x.0 x.1)) (above total x.0 e.0 below.0) ∙ ap (λ l. e ∷ l) (insert_last x es below.1)

  -- a key below the last one goes before it
  insert_before : (x y : J × W) (es : List (J × W)) → cmp y.0 x.0 ≡ Less → insert_entry cmp (es ++ x ∷ []) y.0 y.1 ≡ insert_entry cmp es y.0 y.1 ++ x ∷ []
  insert_before x y [] below = ap (λ o. match_ordering o (y ∷ x ∷ []) ((x.0, y.1) ∷ []) (x ∷ y ∷ [])) below
  insert_before x y (e ∷ es) below = by (cmp y.0 e.0) (insert_before x y es below)
    where
      by : (o : Ordering) → insert_entry cmp (es ++ x ∷ []) y.0 y.1 ≡ insert_entry cmp es y.0 y.1 ++ x ∷ []
          → match_ordering o (y ∷ e ∷ (es ++ x ∷ [])) ((e.0, y.1) ∷ (es ++ x ∷ [])) (e ∷ insert_entry cmp (es ++ x ∷ []) y.0 y.1) ≡ match_ordering o (y ∷ e ∷ es) ((e.0, y.1) ∷ es) (e ∷ insert_entry cmp es y.0 y.1) ++ x ∷ []
      by Less rest = refl
      by Equal rest = refl
      by Greater rest = ap (λ l. e ∷ l) rest

  all_before : (x : J × W) (ys made : List (J × W)) → Below x.0 ys → fold step (made ++ x ∷ []) ys ≡ fold step made ys ++ x ∷ []
  all_before x [] made below = refl
  all_before x (y ∷ ys) made below = ap (λ l. fold step l ys) (insert_before x y made below.0) ∙ all_before x ys (step made y) below.1

  -- an entry more, in either order, keeps what is below a key there
  below_insert : (order : J → J → Ordering) (x : J) (y : J × W) (es : List (J × W)) → cmp y.0 x ≡ Less → Below x es → Below x (insert_entry order es y.0 y.1)
  below_insert order x y [] this below = (this, tt)
  below_insert order x y (e ∷ es) this below = by (order y.0 e.0) (below_insert order x y es this below.1)
    where
      by : (o : Ordering) → Below x (insert_entry order es y.0 y.1) → Below x (match_ordering o (y ∷ e ∷ es) ((e.0, y.1) ∷ es) (e ∷ insert_entry order es y.0 y.1))
      by Less rest = (this, below)
      by Equal rest = below
      by Greater rest = (below.0, rest)

  -- a key above all others goes to the end, wherever the other order has it
  shuffled : (x : J × W) (ys made : List (J × W)) → Below x.0 made → Below x.0 ys → fold step made (insert_entry other ys x.0 x.1) ≡ fold step made ys ++ x ∷ []
  shuffled x [] made below all = insert_last x made below
  shuffled x (y ∷ ys) made below all = by (other x.0 y.0) refl (shuffled x ys (step made y) (below_insert cmp x.0 y made all.0 below) all.1)
    where
      by : (o : Ordering) → other x.0 y.0 ≡ o → fold step (step made y) (insert_entry other ys x.0 x.1) ≡ fold step (step made y) ys ++ x ∷ []
          → fold step made (match_ordering o (x ∷ y ∷ ys) ((y.0, x.1) ∷ ys) (y ∷ insert_entry other ys x.0 x.1)) ≡ fold step made (y ∷ ys) ++ x ∷ []
      by Less is rest = ap (λ l. fold step l (y ∷ ys)) (insert_last x made below) ∙ all_before x (y ∷ ys) made all
      by Equal is rest = let differ : Equal ≡ Greater = sym (ties x.0 y.0 is) ∙ above total x.0 y.0 all.0 in absurd (cc)
      by Greater is rest = rest

  -- the keys so far are below each of those that are left
  abbrev AllAbove : List (J × W) → List (J × W) → Type 0
  AllAbove made rest = AllByRecursion (λ x. Below x.0 made) rest

  above_more : (x : J × W) (made rest : List (J × W)) → AllByRecursion (λ y. cmp x.0 y ≡ Less) (keys_of rest) → AllAbove made rest → AllAbove (other_step made x) rest
  above_more x made [] below all = tt
  above_more x made (y ∷ rest) below all = (below_insert other y.0 x made below.0 all.0, above_more x made rest below.1 all.1)

  all_shuffled : (rest made : List (J × W)) → AllAbove made rest → IsSortedMap cmp rest → map_of cmp (fold other_step made rest) ≡ map_of cmp made ++ rest
  unfolding IsStrictlySortedBy
  all_shuffled [] made all sorted = sym (append-nil (map_of cmp made))
  all_shuffled (x ∷ rest) made all sorted =
      all_shuffled rest (other_step made x) (above_more x made rest sorted.0 all.1) sorted.1
      ∙ ap (λ l. l ++ rest) (shuffled x made [] tt all.0) ∙ append_assoc (map_of cmp made) (x ∷ []) rest

  all_start : (rest : List (J × W)) → AllAbove [] rest
  all_start [] = tt
  all_start (x ∷ rest) = (tt, all_start rest)

  -- the map of entries in order is these entries, also after another order has shuffled them
  pub map_of-shuffled : (es : List (J × W)) → IsSortedMap cmp es → es ≡ map_of cmp (map_of other es)
  map_of-shuffled es sorted = sym (all_shuffled es [] (all_start es) sorted)
