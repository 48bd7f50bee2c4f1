-- SPDX-License-Identifier: Apache-2.0
-- The builtin types and their aliases among what a world declares.
use Rattle.std.proofs.Common.{◌≡◌, ◌||◌, ℕ, Bool, true, false, cond, List, [], ◌∷◌, map, codes, refl, sym, ap, ◌∙◌, subst}
use Rattle.std.proofs.lemmas.List.Folds.{list_any-append}
use Rattle.std.specs.BTreeMap.{is_at}
use Rattle.std.specs.Cmp.Lexicographic.{bytes_decides}
use Rattle.std.specs.List.{filter, list_any}
use Rattle.std.specs.Map.{keys_of}
use Rattle.std.specs.Ordering.{is_eq}
use Rattle.std.specs.Str.{bytes_eq}
use Rattle.cedar_data.specs.Firsts.{AllPass}
use Rattle.cedar_data.specs.Sets.{contains}
use Rattle.cedar_declared.specs.Names.{Names}
use Rattle.cedar_names.proofs.NameOrder.{words_cmp-equal}
use Rattle.cedar_names.specs.Order.{words_cmp}
use Rattle.cedar_reread_world.proofs.Maps.{Says, same_key}
use Rattle.cedar_reread_world.proofs.Tests.{clash, left_false, or_left, or_right, right_false}
use Rattle.cedar_schema_error.specs.FullNames.{FullName}
use Rattle.cedar_schema_error.specs.NameReferences.{NameReference}
use Rattle.cedar_sound.proofs.NameOrders.{names_exact}
use Rattle.cedar_text.specs.Words.{has_word, is_primitive_word}
use Rattle.cedar_unfold.specs.Written.{Written, Boolean, Long, String, Extension}
use Rattle.cedar_world.specs.Worlds.{alias, builtin_name, builtins, extension_type, is_free}

-- ---- words

-- a word that stands in a list passes no test that none of the list passes
pub fails_too : (p : List ℕ → Bool) (ws : List (List ℕ)) (w : List ℕ) → list_any p ws ≡ false → has_word ws w ≡ true → p w ≡ false
fails_too p [] w none has = absurd (cc)
fails_too p (x ∷ ws) w none has = by (bytes_eq w x) refl has (fails_too p ws w (right_false (p x) (list_any p ws) none))
  where
    by : (b : Bool) → bytes_eq w x ≡ b → (b || has_word ws w) ≡ true → (has_word ws w ≡ true → p w ≡ false) → p w ≡ false
    by true is has rest = ap p ((bytes_decides w x).0 is) ∙ left_false (p x) (list_any p ws) none
    by false is has rest = rest has

kept_true : (x : List ℕ) (ws vs : List (List ℕ)) → AllPass (λ w. has_word ws w ≡ true) vs → AllPass (λ w. has_word (x ∷ ws) w ≡ true) vs
kept_true x ws [] all = tt
kept_true x ws (v ∷ vs) all = (or_right (bytes_eq v x) (has_word ws v) all.0, kept_true x ws vs all.1)

-- each word of a list stands in it
pub each_stands : (ws : List (List ℕ)) → AllPass (λ w. has_word ws w ≡ true) ws
each_stands [] = tt
each_stands (w ∷ ws) = (or_left (bytes_eq w w) (has_word ws w) ((bytes_decides w w).1 refl), kept_true w ws ws (each_stands ws))

second : FullName → List ℕ
second (x ∷ y ∷ ys) = y
second other = []

one_word : (v w : List ℕ) → builtin_name v ≡ builtin_name w → v ≡ w
unfolding second
one_word v w e = ap second e

-- ---- entries

-- an entry of a builtin type
pub record IsBuiltinEntry (e : FullName × Written NameReference) : Type 0 where
  pub word : List ℕ
  pub name_is : e.0 ≡ builtin_name word

-- an entry of an alias
pub record IsAliasEntry (own : Names) (known : List (List ℕ)) (e : FullName × Written NameReference) : Type 0 where
  pub word : List ℕ
  pub name_is : e.0 ≡ word ∷ []
  pub free : is_free own word ≡ true
  pub is_known : has_word known word ≡ true

extension_entries : (ws : List (List ℕ)) → AllPass IsBuiltinEntry (map extension_type ws)
extension_entries [] = tt
extension_entries (w ∷ ws) = (record { word = w; name_is = refl }, extension_entries ws)

pub builtin_entries : (extensions : List (List ℕ)) → AllPass IsBuiltinEntry (builtins extensions)
builtin_entries extensions = (
  record { word = codes "Bool"; name_is = refl },
  (record { word = codes "Long"; name_is = refl }, (record { word = codes "String"; name_is = refl }, extension_entries extensions)),
)

pub alias_entries : (own : Names) (known ws : List (List ℕ)) → AllPass (λ w. has_word known w ≡ true) ws → AllPass (IsAliasEntry own known) (map alias (filter (is_free own) ws))
alias_entries own known [] all = tt
alias_entries own known (w ∷ ws) all = by (is_free own w) refl (alias_entries own known ws all.1)
  where
    by : (b : Bool) → is_free own w ≡ b → AllPass (IsAliasEntry own known) (map alias (filter (is_free own) ws)) → AllPass (IsAliasEntry own known) (map alias (cond b (w ∷ filter (is_free own) ws) (filter (is_free own) ws)))
    by true is rest = (record { word = w; name_is = refl; free = is; is_known = all.0 }, rest)
    by false is rest = rest

-- ---- what the extension types, and all builtin types, say of a builtin name

module _ (w : List ℕ) (t : Written NameReference) where
  abbrev SaysOf : List (FullName × Written NameReference) → Type 0
  SaysOf pairs = Says names_exact (builtin_name w) (λ u. u ≡ t) pairs

  extensions_say_not : (ws : List (List ℕ)) → is_primitive_word w ≡ true → list_any is_primitive_word ws ≡ false → SaysOf (map extension_type ws)
  extensions_say_not [] is none = tt
  extensions_say_not (e ∷ ws) is none = (
    (λ h. absurd (clash (is_primitive_word w) is (ap is_primitive_word (sym (one_word e w (same_key names_exact (builtin_name e) (builtin_name w) h))) ∙ left_false (is_primitive_word e) (list_any is_primitive_word ws) none))),
    extensions_say_not ws is (right_false (is_primitive_word e) (list_any is_primitive_word ws) none),
  )

  extensions_say : (ws : List (List ℕ)) → t ≡ Extension w → SaysOf (map extension_type ws)
  extensions_say [] is = tt
  extensions_say (e ∷ ws) is = ((λ h. ap Extension (one_word e w (same_key names_exact (builtin_name e) (builtin_name w) h)) ∙ sym is), extensions_say ws is)

  differs : (v : List ℕ) (u : Written NameReference) → is_primitive_word v ≡ true → is_primitive_word w ≡ false → is_at (words_cmp (builtin_name v)) (builtin_name w) ≡ true → u ≡ t
  differs v u is not h = absurd (clash (is_primitive_word v) is (ap is_primitive_word (one_word v w (same_key names_exact (builtin_name v) (builtin_name w) h)) ∙ not))

module _ (extensions : List (List ℕ)) (none : list_any is_primitive_word extensions ≡ false) where
  pub bool_says : Says names_exact (builtin_name (codes "Bool")) (λ u. u ≡ Boolean) (builtins extensions)
  bool_says = ((λ h. refl), ((λ h. absurd (cc)), ((λ h. absurd (cc)), extensions_say_not (codes "Bool") Boolean extensions refl none)))

  pub long_says : Says names_exact (builtin_name (codes "Long")) (λ u. u ≡ Long) (builtins extensions)
  long_says = ((λ h. absurd (cc)), ((λ h. refl), ((λ h. absurd (cc)), extensions_say_not (codes "Long") Long extensions refl none)))

  pub string_says : Says names_exact (builtin_name (codes "String")) (λ u. u ≡ String) (builtins extensions)
  string_says = ((λ h. absurd (cc)), ((λ h. absurd (cc)), ((λ h. refl), extensions_say_not (codes "String") String extensions refl none)))

  pub extension_says : (w : List ℕ) → has_word extensions w ≡ true → Says names_exact (builtin_name w) (λ u. u ≡ Extension w) (builtins extensions)
  extension_says w has =
      let not = fails_too is_primitive_word extensions w none has in (
        (λ h. differs w (Extension w) (codes "Bool") Boolean refl not h),
        (
          (λ h. differs w (Extension w) (codes "Long") Long refl not h),
          ((λ h. differs w (Extension w) (codes "String") String refl not h), extensions_say w (Extension w) extensions refl),
        ),
      )

-- ---- whether the name of a builtin type stands among them

same_words : (w : List ℕ) → is_at (words_cmp (builtin_name w)) (builtin_name w) ≡ true
same_words w = ap is_eq ((words_cmp-equal (builtin_name w) (builtin_name w)).1 refl)

extension_stands : (ws : List (List ℕ)) (w : List ℕ) → has_word ws w ≡ true → contains words_cmp (keys_of (map extension_type ws)) (builtin_name w) ≡ true
extension_stands [] w has = absurd (cc)
extension_stands (x ∷ ws) w has = by (bytes_eq w x) refl has (extension_stands ws w)
  where
    by : (b : Bool) → bytes_eq w x ≡ b → (b || has_word ws w) ≡ true → (has_word ws w ≡ true → contains words_cmp (keys_of (map extension_type ws)) (builtin_name w) ≡ true)
        → contains words_cmp (keys_of (map extension_type (x ∷ ws))) (builtin_name w) ≡ true
    by true is has rest = or_left (is_at (words_cmp (builtin_name w)) (builtin_name x)) (contains words_cmp (keys_of (map extension_type ws)) (builtin_name w))
        (subst (λ x. is_at (words_cmp (builtin_name w)) (builtin_name x) ≡ true) ((bytes_decides w x).0 is) (same_words w))
    by false is has rest = or_right (is_at (words_cmp (builtin_name w)) (builtin_name x)) (contains words_cmp (keys_of (map extension_type ws)) (builtin_name w)) (rest has)

pub extension_among : (extensions : List (List ℕ)) (w : List ℕ) → has_word extensions w ≡ true → contains words_cmp (keys_of (builtins extensions)) (builtin_name w) ≡ true
extension_among extensions w has = list_any-append (is_at (words_cmp (builtin_name w))) (builtin_name (codes "Bool") ∷ builtin_name (codes "Long") ∷ builtin_name (codes "String") ∷ []) (keys_of (map extension_type extensions))
    ∙ or_right (list_any (is_at (words_cmp (builtin_name w))) (builtin_name (codes "Bool") ∷ builtin_name (codes "Long") ∷ builtin_name (codes "String") ∷ []))
    (contains words_cmp (keys_of (map extension_type extensions)) (builtin_name w)) (extension_stands extensions w has)
