-- SPDX-License-Identifier: Apache-2.0
use Rattle.std.proofs.Common.{◌≡◌, ◌+◌, ◌<◌, ◌||◌, ℕ, suc, Bool, true, false, not, List, [], ◌∷◌, ◌++◌, length, get_or, take, drop, cond, Option, Some, None, refl, sym, ap, ap₂, ◌∙◌, arith, length-take}
use Rattle.std.proofs.Math.Seq.{drop-cons}
use Rattle.std.proofs.lemmas.List.{take_more}
use Rattle.std.specs.Option.{option_map}
use Rattle.std.specs.BTreeMap.{is_at}
use Rattle.std.specs.BTreeSet.{insert_key}
use Rattle.std.specs.Cmp.Lexicographic.{texts_ties, bytes_decides}
use Rattle.std.specs.List.{list_any, AllByRecursion}
use Rattle.std.specs.List.Sorted.{IsStrictlySortedBy}
use Rattle.std.specs.Ordering.{match_ordering, is_eq}
use Rattle.std.specs.Str.{bytes_eq}
use Rattle.std.specs.declared.cmp.Ordering.{Ordering}
use Rattle.std.specs.declared.cmp.Ordering.TheVariants.{Less, Equal, Greater}
use Rattle.cedar_text.specs.of_data.Sets.{contains}
use Rattle.cedar_names.specs.ExtensionFaults.{fault_before, naming_fault, extensions_fault}
use Rattle.cedar_text.specs.Faults.{word_fault, no_unreserved_id}
use Rattle.cedar_names.specs.Identifiers.{unreserved_word, unreserved_words}
use Rattle.cedar_names.specs.Order.{word_cmp}
use Rattle.cedar_text.specs.Words.{has_word, is_primitive_word}
use Rattle.cedar_names.specs.declared.extensions.ExtensionsFault.{ExtensionsFault}
use Rattle.cedar_names.specs.declared.extensions.ExtensionsFault.TheVariants.{BadName, RepeatedName, PrimitiveName}
use Rattle.cedar_names.specs.declared.id.UnreservedId.{UnreservedId}

-- the order of two unreserved identifiers is that of their words
abbrev pub unreserved_cmp : UnreservedId → UnreservedId → Ordering
unreserved_cmp a b = word_cmp (unreserved_word a) (unreserved_word b)

-- so they ascend where their words do
all_below : (a : UnreservedId) (ids : List UnreservedId) → AllByRecursion (λ b. unreserved_cmp a b ≡ Less) ids → AllByRecursion (λ w. word_cmp (unreserved_word a) w ≡ Less) (unreserved_words ids)
all_below a [] below = tt
all_below a (b ∷ ids) below = (below.0, all_below a ids below.1)

pub ascending_words : (ids : List UnreservedId) → IsStrictlySortedBy unreserved_cmp ids → IsStrictlySortedBy word_cmp (unreserved_words ids)
unfolding IsStrictlySortedBy
ascending_words [] sorted = tt
ascending_words (a ∷ ids) sorted = (all_below a ids sorted.0, ascending_words ids sorted.1)

-- a test of the words
pub list_any-words : (p : List ℕ → Bool) (ids : List UnreservedId) → list_any (λ id. p (unreserved_word id)) ids ≡ list_any p (unreserved_words ids)
list_any-words p [] = refl
list_any-words p (a ∷ ids) = ap (λ t. p (unreserved_word a) || t) (list_any-words p ids)

-- an unreserved identifier is among others where its word is
pub contains-words : (ids : List UnreservedId) (id : UnreservedId) → contains unreserved_cmp ids id ≡ has_word (unreserved_words ids) (unreserved_word id)
contains-words [] id = refl
contains-words (a ∷ ids) id =
    let same : is_at (unreserved_cmp id) a ≡ bytes_eq (unreserved_word id) (unreserved_word a) = sym (texts_ties (unreserved_word id) (unreserved_word a)) in
    rw (same, contains-words ids id) refl

-- the words of a set with one more identifier
words-match : (o : Ordering) (xs ys zs : List UnreservedId) → unreserved_words (match_ordering o xs ys zs) ≡ match_ordering o (unreserved_words xs) (unreserved_words ys) (unreserved_words zs)
words-match Less xs ys zs = refl
words-match Equal xs ys zs = refl
words-match Greater xs ys zs = refl

words-insert_key : (ids : List UnreservedId) (id : UnreservedId) → unreserved_words (insert_key unreserved_cmp ids id) ≡ insert_key word_cmp (unreserved_words ids) (unreserved_word id)
words-insert_key [] id = refl
words-insert_key (a ∷ ids) id =
    words-match (unreserved_cmp id a) (id ∷ a ∷ ids) (a ∷ ids) (a ∷ insert_key unreserved_cmp ids id)
    ∙ ap (λ (l : List (List ℕ)). match_ordering (unreserved_cmp id a) (unreserved_word id ∷ unreserved_word a ∷ unreserved_words ids) (unreserved_word a ∷ unreserved_words ids) (unreserved_word a ∷ l)) (words-insert_key ids id)

or-same : (a b : Bool) → a || b ≡ a || (a || b)
or-same true b = refl
or-same false b = refl

or-swap : (a b c : Bool) → a || (b || c) ≡ b || (a || c)
or-swap true true c = refl
or-swap true false c = refl
or-swap false b c = refl

or-comm : (a b : Bool) → a || b ≡ b || a
or-comm true true = refl
or-comm true false = refl
or-comm false true = refl
or-comm false false = refl

equal_words : (v x : List ℕ) → word_cmp v x ≡ Equal → x ≡ v
equal_words v x e = sym ((bytes_decides v x).0 (texts_ties v x ∙ ap is_eq e))

-- a test of the words of a set with one more word
list_any-insert_key : (p : List ℕ → Bool) (ws : List (List ℕ)) (v : List ℕ) → list_any p (insert_key word_cmp ws v) ≡ p v || list_any p ws
list_any-insert_key p [] v = refl
list_any-insert_key p (x ∷ ws) v = by_order (list_any-insert_key p ws v) (word_cmp v x) refl
  where
    by_order : list_any p (insert_key word_cmp ws v) ≡ p v || list_any p ws → (o : Ordering) → word_cmp v x ≡ o
        → list_any p (match_ordering o (v ∷ x ∷ ws) (x ∷ ws) (x ∷ insert_key word_cmp ws v)) ≡ p v || list_any p (x ∷ ws)
    by_order rest Less e = refl
    by_order rest Equal e = rw (equal_words v x e) (or-same (p v) (list_any p ws))
    by_order rest Greater e = ap (λ t. p x || t) rest ∙ or-swap (p x) (p v) (list_any p ws)

-- a test of a list with one more word at its end
list_any-push : (p : List ℕ → Bool) (ws : List (List ℕ)) (v : List ℕ) → list_any p (ws ++ v ∷ []) ≡ p v || list_any p ws
list_any-push p [] v = refl
list_any-push p (x ∷ ws) v = ap (λ t. p x || t) (list_any-push p ws v) ∙ or-swap (p x) (p v) (list_any p ws)

-- a name without a fault is no primitive type's
not_primitive : (o : Option ExtensionsFault) (b : Bool) (f : ExtensionsFault) → fault_before o (cond b (Some f) None) ≡ None → b ≡ false
not_primitive (Some g) b f e = cc
not_primitive None true f e = cc
not_primitive None false f e = refl

-- an answer that negates another
pub not_so : (a b : Bool) → a ≡ not b → a ≡ false → b ≡ true
not_so a true e f = refl
not_so a false e f = cc

pub not_not_so : (a b : Bool) → a ≡ not b → a ≡ true → b ≡ false
not_not_so a true e f = cc
not_not_so a false e f = refl

-- the next name and the rest
next_name : (names : List (List ℕ)) (index : ℕ) (name : List ℕ) → index < length names → name ≡ get_or names index name → drop index names ≡ name ∷ drop (index + 1) names
next_name names index name within is =
    let more : suc index ≡ index + 1 = omega arith in
    drop-cons names index name within ∙ ap₂ (λ (w : List ℕ) (n : ℕ). w ∷ drop n names) (sym is) more

-- the fault of a list whose first name has none
fault_past : (before : List (List ℕ)) (name : List ℕ) (names : List (List ℕ)) (index : ℕ) → length before ≡ index → naming_fault index name ≡ None → has_word before name ≡ false
    → extensions_fault before (name ∷ names) ≡ extensions_fault (before ++ name ∷ []) names
fault_past before name names index e none absent = rw (e, none, absent) refl

-- the fault of a list whose first name is repeated
fault_repeats : (before : List (List ℕ)) (name : List ℕ) (names : List (List ℕ)) (index : ℕ) → length before ≡ index → naming_fault index name ≡ None → has_word before name ≡ true
    → extensions_fault before (name ∷ names) ≡ Some (RepeatedName name)
fault_repeats before name names index e none found = rw (e, none, found) refl

-- the first names, of this number, have no fault, and the set has their words
pub record Gathered (names : List (List ℕ)) (index : ℕ) (types : List UnreservedId) : Type 0 where
  pub words : (w : List ℕ) → has_word (unreserved_words types) w ≡ has_word (take index names) w
  pub fault : extensions_fault [] names ≡ extensions_fault (take index names) (drop index names)
  pub no_primitive : list_any is_primitive_word (unreserved_words types) ≡ false
  pub ascending : IsStrictlySortedBy unreserved_cmp types

module _ (names : List (List ℕ)) (index : ℕ) (types : List UnreservedId) (name : List ℕ) (id : UnreservedId) (so_far : Gathered names index types)
    (within : index < length names) (is : name ≡ get_or names index name) (none : naming_fault index name ≡ None) (same : unreserved_word id ≡ name) where
  taken : take (index + 1) names ≡ take index names ++ name ∷ []
  taken = take_more names index name within ∙ ap (λ (w : List ℕ). take index names ++ w ∷ []) (sym is)

  counted : length (take index names) ≡ index
  counted = omega (arith, length-take index names)

  -- whether the set has the identifier is whether the name stands before
  known : contains unreserved_cmp types id ≡ has_word (take index names) name
  known = contains-words types id ∙ ap (has_word (unreserved_words types)) same ∙ so_far.words name

  -- one more name
  pub Gathered-next : contains unreserved_cmp types id ≡ false → IsStrictlySortedBy unreserved_cmp (insert_key unreserved_cmp types id) → Gathered names (index + 1) (insert_key unreserved_cmp types id)
  Gathered-next absent sorted =
      let prim : is_primitive_word (unreserved_word id) ≡ false =
      ap is_primitive_word same ∙ not_primitive (option_map (BadName index) (word_fault no_unreserved_id name)) (is_primitive_word name) (PrimitiveName name) none in
      record {
        words = λ w.
            ap (λ (l : List (List ℕ)). has_word l w) (words-insert_key types id)
            ∙ list_any-insert_key (bytes_eq w) (unreserved_words types) (unreserved_word id)
            ∙ ap₂ (λ (v : List ℕ) (t : Bool). bytes_eq w v || t) same (so_far.words w)
            ∙ sym (list_any-push (bytes_eq w) (take index names) name)
            ∙ ap (λ (l : List (List ℕ)). has_word l w) (sym taken);
        fault =
            so_far.fault ∙ ap (extensions_fault (take index names)) (next_name names index name within is)
            ∙ fault_past (take index names) name (drop (index + 1) names) index counted none (sym known ∙ absent)
            ∙ ap (λ (l : List (List ℕ)). extensions_fault l (drop (index + 1) names)) (sym taken);
        no_primitive =
            ap (list_any is_primitive_word) (words-insert_key types id)
            ∙ list_any-insert_key is_primitive_word (unreserved_words types) (unreserved_word id)
            ∙ ap₂ ◌||◌ prim so_far.no_primitive;
        ascending = sorted;
      }

  -- a name that repeats one before it
  pub Gathered-repeat : contains unreserved_cmp types id ≡ true → extensions_fault [] names ≡ Some (RepeatedName name)
  Gathered-repeat found =
      so_far.fault ∙ ap (extensions_fault (take index names)) (next_name names index name within is)
      ∙ fault_repeats (take index names) name (drop (index + 1) names) index counted none (sym known ∙ found)

-- the start of the way
pub Gathered-start : (names : List (List ℕ)) → Gathered names 0 []
unfolding IsStrictlySortedBy
Gathered-start names = record { words = λ w. refl; fault = refl; no_primitive = refl; ascending = tt }
