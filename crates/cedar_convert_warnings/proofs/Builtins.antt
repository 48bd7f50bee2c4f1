-- SPDX-License-Identifier: Apache-2.0
-- Names of which no builtin type has one, and none is that of an entity type and of a common type.
use Rattle.std.proofs.Common.{◌≡◌, ◌||◌, Bool, true, false, cond, bytes_eq, List, [], ◌∷◌, ◌++◌, fold, map, flat_map, Some, None, option_to_list, refl, sym, ap, ◌∙◌}
use Rattle.std.specs.List.{list_any}
use Rattle.std.specs.BTreeMap.{insert_entry, is_at}
use Rattle.std.specs.Cmp.Lexicographic.{texts_ties}
use Rattle.std.specs.Ordering.{match_ordering}
use Rattle.std.specs.declared.cmp.Ordering.{Ordering}
use Rattle.std.specs.declared.cmp.Ordering.TheVariants.{Less, Equal, Greater}
use Rattle.cedar_data.specs.Maps.{get}
use Rattle.cedar_text.specs.Words.{has_word}
use Rattle.cedar_tree.specs.Trees.{Place, Text}
use Rattle.cedar_names.specs.Order.{word_cmp}
use Rattle.cedar_convert_faults.specs.Repeats.{Names, words_of}
use Rattle.cedar_convert_warnings.specs.Shadowing.{builtin_shadowed, common_shadows, is_builtin, places_by_name}
use Rattle.cedar_convert_warnings.specs.declared.warnings.SchemaWarning.TheVariants.{ShadowsBuiltin, ShadowsEntity}

pub either_off : (a b : Bool) → (a || b) ≡ false → (a ≡ false) × (b ≡ false)
either_off true b h = absurd (cc)
either_off false b h = (refl, h)

pub both_off : (a b : Bool) → a ≡ false → b ≡ false → (a || b) ≡ false
both_off a b p q = ap (λ a. a || b) p ∙ q

module _ {K V : Type 0} (cmp : K → K → Ordering) (passes : K → Bool) where
  -- whether a key of the entries passes
  abbrev some : List (K × V) → Bool
  some es = list_any (λ e. passes e.0) es

  -- a key that doesn't pass, put in
  some_put : (es : List (K × V)) (k : K) (v : V) → passes k ≡ false → some es ≡ false → some (insert_entry cmp es k v) ≡ false
  some_put [] k v off none = both_off (passes k) false off refl
  some_put (e ∷ es) k v off none =
      let parts = either_off (passes e.0) (some es) none in
      by (cmp k e.0) parts.0 parts.1 (some_put es k v off parts.1)
    where
      by : (o : Ordering) → passes e.0 ≡ false → some es ≡ false → some (insert_entry cmp es k v) ≡ false
          → some (match_ordering o ((k, v) ∷ e ∷ es) ((e.0, v) ∷ es) (e ∷ insert_entry cmp es k v)) ≡ false
      by Less first others put = both_off (passes k) (some (e ∷ es)) off none
      by Equal first others put = both_off (passes e.0) (some es) first others
      by Greater first others put = both_off (passes e.0) (some (insert_entry cmp es k v)) first put

  -- entries whose keys don't pass, put in one after another
  some_made : (made pairs : List (K × V)) → some made ≡ false → some pairs ≡ false → some (fold (λ es pair. insert_entry cmp es pair.0 pair.1) made pairs) ≡ false
  some_made made [] none off = none
  some_made made (p ∷ ps) none off =
      let parts = either_off (passes p.0) (some ps) off in
      some_made (insert_entry cmp made p.0 p.1) ps (some_put made p.0 p.1 parts.0 none) parts.1

same_word : (word key : Text) → is_at (word_cmp word) key ≡ bytes_eq word key
same_word word key = sym (texts_ties word key)

-- a name that isn't among the keys has no place
unplaced : (es : List (Text × Place)) (word : Text) → list_any (λ e. bytes_eq word e.0) es ≡ false → get word_cmp es word ≡ None
unplaced [] word none = refl
unplaced (e ∷ es) word none =
    let parts = either_off (bytes_eq word e.0) (list_any (λ e. bytes_eq word e.0) es) none in
    ap (λ b. cond b (Some e.1) (get word_cmp es word)) (same_word word e.0 ∙ parts.0) ∙ unplaced es word parts.1

words_paired : (passes : Text → Bool) (names : Names) → list_any {X = Text × Place} (λ e. passes e.0) (map (λ n. (n.node, n.loc)) names) ≡ list_any passes (words_of names)
words_paired passes [] = refl
words_paired passes (n ∷ names) = ap (λ b. passes n.node || b) (words_paired passes names)

-- no key passes where no name does
none_placed : (passes : Text → Bool) (names : Names) → list_any passes (words_of names) ≡ false → list_any (λ e. passes e.0) (places_by_name names) ≡ false
none_placed passes names none = some_made word_cmp passes [] (map (λ n. (n.node, n.loc)) names) refl (words_paired passes names ∙ none)

module _ (extensions : List Text) where
  unnamed : (es : List (Text × Place)) → list_any (λ e. is_builtin extensions e.0) es ≡ false → flat_map (builtin_shadowed extensions) es ≡ []
  unnamed [] none = refl
  unnamed (e ∷ es) none =
      let parts = either_off (is_builtin extensions e.0) (list_any (λ e. is_builtin extensions e.0) es) none in
      ap (λ b. cond b (ShadowsBuiltin (record { name = e.0; loc = e.1 }) ∷ []) [] ++ flat_map (builtin_shadowed extensions) es) parts.0 ∙ unnamed es parts.1

  unshared : (entities : Names) (es : List (Text × Place)) → list_any (λ e. has_word (words_of entities) e.0) es ≡ false → list_any (λ e. is_builtin extensions e.0) es ≡ false
      → flat_map (common_shadows extensions (places_by_name entities)) es ≡ []
  unshared entities [] apart none = refl
  unshared entities (e ∷ es) apart none =
      let away = either_off (has_word (words_of entities) e.0) (list_any (λ e. has_word (words_of entities) e.0) es) apart in
      let parts = either_off (is_builtin extensions e.0) (list_any (λ e. is_builtin extensions e.0) es) none in
      let nowhere = unplaced (places_by_name entities) e.0 (none_placed (bytes_eq e.0) entities away.0) in
      let others = flat_map (common_shadows extensions (places_by_name entities)) es in
      ap (λ p. (map (λ place. ShadowsEntity (record { name = e.0; entity_loc = place; common_loc = e.1 })) (option_to_list p) ++ builtin_shadowed extensions e) ++ others) nowhere
      ∙ ap (λ b. cond b (ShadowsBuiltin (record { name = e.0; loc = e.1 }) ∷ []) [] ++ others) parts.0
      ∙ unshared entities es away.1 parts.1

  -- where no name is that of a builtin type, and none that of an entity type and of a common type, there is nothing to warn of
  pub none_shadowed : (entities commons : Names) (b c : Bool) → b ≡ list_any (is_builtin extensions) (words_of entities) → b ≡ false
      → c ≡ list_any (is_builtin extensions) (words_of commons) → c ≡ false → list_any (has_word (words_of entities)) (words_of commons) ≡ false
      → [] ≡ flat_map (common_shadows extensions (places_by_name entities)) (places_by_name commons) ++ flat_map (builtin_shadowed extensions) (places_by_name entities)
  none_shadowed entities commons b c is off is_there off_there apart =
      let entities_off = none_placed (is_builtin extensions) entities (sym is ∙ off) in
      let commons_off = none_placed (is_builtin extensions) commons (sym is_there ∙ off_there) in
      let away = none_placed (has_word (words_of entities)) commons apart in
      sym (ap (λ ws. ws ++ flat_map (builtin_shadowed extensions) (places_by_name entities)) (unshared entities (places_by_name commons) away commons_off)
      ∙ unnamed (places_by_name entities) entities_off)

pub ruleset unshadowed = (none_shadowed)
