-- SPDX-License-Identifier: Apache-2.0
-- Names of types, looked up where they are kept: those of one component by it, and the others whole.
use Rattle.std.proofs.Common.{◌≡◌, ◌||◌, Bool, true, false, IsTrue, List, [], ◌∷◌, ◌++◌, map, Option, Some, refl, sym, ap, ◌∙◌, cond, is_some, ◌↔◌, ℕ, subst}
use Rattle.std.proofs.lemmas.List.Folds.{list_any-append}
use Rattle.std.specs.BTreeMap.{insert_entry, is_at}
use Rattle.std.specs.BTreeSet.{insert_key}
use Rattle.std.specs.Cmp.{IsTotalOrder, on_total}
use Rattle.std.proofs.lemmas.Cmp.{eq_by_cmp_equiv, nat_list_cmp_total}
use Rattle.cedar_names.specs.OrderLaws.{words-total}
use Rattle.cedar_declared.specs.Basenames.{id_cmp}
use Rattle.cedar_declared.specs.TypeNames.{AddsName, put_name, with_name}
use Rattle.std.specs.List.{filter, list_any}
use Rattle.std.specs.Map.{keys_of}
use Rattle.std.specs.Ordering.{is_eq, match_ordering, ordering_then}
use Rattle.std.specs.declared.cmp.Ordering.{Ordering}
use Rattle.std.specs.declared.cmp.Ordering.TheVariants.{Less, Equal, Greater}
use Rattle.cedar_data.specs.Maps.{get}
use Rattle.cedar_data.specs.Sets.{contains}
use Rattle.cedar_names.specs.Components.{basename_of, components, loc_of, namespace_of}
use Rattle.cedar_names.specs.Identifiers.{id_word, id_words}
use Rattle.cedar_names.specs.Names.{internal_cmp}
use Rattle.cedar_names.specs.Order.{word_cmp, words_cmp}
use Rattle.cedar_names.specs.declared.id.Id.{Id}
use Rattle.cedar_names.specs.declared.internal_name.InternalName.{InternalName}
use Rattle.cedar_names.specs.of_text.declared.location.Loc.{Loc}
use Rattle.cedar_schema_error.specs.FullNames.{FullName, is_qualified}
use Rattle.cedar_declared.specs.Held.{single_names, type_names}
use Rattle.cedar_declared.specs.declared.type_names.TypeNames.{TypeNames}

-- an order that nothing follows
pub eq_then_equal : (o : Ordering) → is_eq (ordering_then o Equal) ≡ is_eq o
eq_then_equal Less = refl
eq_then_equal Equal = refl
eq_then_equal Greater = refl

pub eq_then_less : (o : Ordering) → is_eq (ordering_then o Less) ≡ false
eq_then_less Less = refl
eq_then_less Equal = refl
eq_then_less Greater = refl

pub eq_then_greater : (o : Ordering) → is_eq (ordering_then o Greater) ≡ false
eq_then_greater Less = refl
eq_then_greater Equal = refl
eq_then_greater Greater = refl

either_first : (b r : Bool) {V : Type 0} (v : V) (o : Option V) → r ≡ is_some o → (b || r) ≡ is_some (cond b (Some v) o)
either_first true r v o is = refl
either_first false r v o is = is

any_false : (b r : Bool) → b ≡ false → r ≡ false → (b || r) ≡ false
any_false b r is so = ap (λ b. b || r) is ∙ so

-- a name of one component among the names of one component
any_single : (id : Id) (es : List (Id × Option Loc)) → list_any (is_at (words_cmp (id_word id ∷ []))) (single_names es) ≡ is_some (get id_cmp es id)
any_single id [] = refl
any_single id (e ∷ es) =
    ap (λ b. b || list_any (is_at (words_cmp (id_word id ∷ []))) (single_names es)) (eq_then_equal (word_cmp (id_word id) (id_word e.0)))
    ∙ either_first (is_eq (id_cmp id e.0)) _ e.1 (get id_cmp es id) (any_single id es)

-- another name among them
any_other : (x y : List ℕ) (ys : FullName) (es : List (Id × Option Loc)) → list_any (is_at (words_cmp (x ∷ y ∷ ys))) (single_names es) ≡ false
any_other x y ys [] = refl
any_other x y ys (e ∷ es) = any_false _ _ (eq_then_greater (word_cmp x (id_word e.0))) (any_other x y ys es)

-- a name of one component among others
any_single_qualified : (w : List ℕ) (xs : List FullName) → list_any (is_at (words_cmp (w ∷ []))) (filter is_qualified xs) ≡ false
any_single_qualified w [] = refl
any_single_qualified w ([] ∷ xs) = any_single_qualified w xs
any_single_qualified w ((a ∷ []) ∷ xs) = any_single_qualified w xs
any_single_qualified w ((a ∷ b ∷ r) ∷ xs) = any_false _ _ (eq_then_less (word_cmp w a)) (any_single_qualified w xs)

-- another name among others
any_qualified : (x y : List ℕ) (ys : FullName) (xs : List FullName) → list_any (is_at (words_cmp (x ∷ y ∷ ys))) (filter is_qualified xs) ≡ list_any (is_at (words_cmp (x ∷ y ∷ ys))) xs
any_qualified x y ys [] = refl
any_qualified x y ys ([] ∷ xs) = any_qualified x y ys xs
any_qualified x y ys ((a ∷ []) ∷ xs) = any_qualified x y ys xs ∙ sym (ap (λ b. b || list_any (is_at (words_cmp (x ∷ y ∷ ys))) xs) (eq_then_greater (word_cmp x a)))
any_qualified x y ys ((a ∷ b ∷ r) ∷ xs) = ap (λ t. is_at (words_cmp (x ∷ y ∷ ys)) (a ∷ b ∷ r) || t) (any_qualified x y ys xs)

-- a test of what f gives
pub any_map : {A B : Type 0} (p : B → Bool) (f : A → B) (xs : List A) → list_any p (map f xs) ≡ list_any (λ x. p (f x)) xs
any_map p f [] = refl
any_map p f (x ∷ xs) = ap (λ b. p (f x) || b) (any_map p f xs)

-- whether a name is kept, by its namespace
abbrev pub kept : TypeNames → InternalName → List Id → Bool
kept t n [] = is_some (get id_cmp t.unqualified (basename_of n))
kept t n (id ∷ ids) = contains internal_cmp t.qualified n

or_false : (b : Bool) → (b || false) ≡ b
or_false true = refl
or_false false = refl

module _ (t : TypeNames) where
  -- a name of one component is one of the names where that is kept
  pub single_kept : (id : Id) → contains words_cmp (type_names t) (id_word id ∷ []) ≡ is_some (get id_cmp t.unqualified id)
  single_kept id =
      list_any-append (is_at (words_cmp (id_word id ∷ []))) (single_names t.unqualified) (filter is_qualified (map components t.qualified))
      ∙ ap (λ b. list_any (is_at (words_cmp (id_word id ∷ []))) (single_names t.unqualified) || b) (any_single_qualified (id_word id) (map components t.qualified))
      ∙ or_false _ ∙ any_single id t.unqualified

  other_kept : (x y : List ℕ) (ys : FullName) → contains words_cmp (type_names t) (x ∷ y ∷ ys) ≡ list_any (is_at (words_cmp (x ∷ y ∷ ys))) (map components t.qualified)
  other_kept x y ys =
      list_any-append (is_at (words_cmp (x ∷ y ∷ ys))) (single_names t.unqualified) (filter is_qualified (map components t.qualified))
      ∙ ap (λ b. b || list_any (is_at (words_cmp (x ∷ y ∷ ys))) (filter is_qualified (map components t.qualified))) (any_other x y ys t.unqualified)
      ∙ any_qualified x y ys (map components t.qualified)

  by_parts : (n : InternalName) (ns : List Id) (b : Id) → components n ≡ id_words (ns ++ b ∷ []) → b ≡ basename_of n → contains words_cmp (type_names t) (components n) ≡ kept t n ns
  by_parts n [] b is base = ap (contains words_cmp (type_names t)) is ∙ single_kept b ∙ ap (λ i. is_some (get id_cmp t.unqualified i)) base
  by_parts n (i ∷ []) b is base =
      ap (contains words_cmp (type_names t)) is ∙ other_kept (id_word i) (id_word b) []
      ∙ sym (ap (λ c. list_any (is_at (words_cmp c)) (map components t.qualified)) is) ∙ any_map (is_at (words_cmp (components n))) components t.qualified
  by_parts n (i ∷ j ∷ js) b is base =
      ap (contains words_cmp (type_names t)) is ∙ other_kept (id_word i) (id_word j) (id_words (js ++ b ∷ []))
      ∙ sym (ap (λ c. list_any (is_at (words_cmp c)) (map components t.qualified)) is) ∙ any_map (is_at (words_cmp (components n))) components t.qualified

  -- a name is one of the names where it is kept
  pub is_kept : (n : InternalName) → contains words_cmp (type_names t) (components n) ≡ kept t n (namespace_of n)
  is_kept n = by_parts n (namespace_of n) (basename_of n) refl refl

  -- so where it has no namespace
  pub kept_alone : (n : InternalName) (r : Bool) → IsTrue r ↔ (namespace_of n ≡ []) → IsTrue r → contains words_cmp (type_names t) (components n) ≡ is_some (get id_cmp t.unqualified (basename_of n))
  kept_alone n r is so = is_kept n ∙ ap (kept t n) (is.0 so)

  kept_by : (n : InternalName) (ns : List Id) → namespace_of n ≡ ns → (namespace_of n ≡ [] → ⊥) → kept t n ns ≡ contains internal_cmp t.qualified n
  kept_by n [] e never = absurd (never e)
  kept_by n (i ∷ ids) e never = refl

  -- and where it has one
  pub kept_whole : (n : InternalName) (r : Bool) → IsTrue r ↔ (namespace_of n ≡ []) → r ≡ false → contains words_cmp (type_names t) (components n) ≡ contains internal_cmp t.qualified n
  kept_whole n r is off = is_kept n ∙ kept_by n (namespace_of n) refl (λ e. let a : r ≡ true = is.1 e in let b : r ≡ false = off in cc)

-- which of two is the query doesn't matter
pub tie : (a b : FullName) → is_at (words_cmp a) b ≡ is_at (words_cmp b) a
tie a b = (eq_by_cmp_equiv (words-total (λ (x : FullName). x))).symm a b

-- a name with a namespace, and one of one component
longer : (i : Id) (ids : List Id) (b : Id) (w : List ℕ) → is_at (words_cmp (id_words ((i ∷ ids) ++ b ∷ []))) (w ∷ []) ≡ false
longer i [] b w = eq_then_greater (word_cmp (id_word i) w)
longer i (j ∷ js) b w = eq_then_greater (word_cmp (id_word i) w)

module _ (old new : TypeNames) (name : InternalName) where
  -- the goal at another name
  abbrev Adds_at : InternalName → Type 0
  Adds_at other = contains words_cmp (type_names new) (components other) ≡ (is_at (words_cmp (components other)) (components name) || contains words_cmp (type_names old) (components other))

  by_kept : (other : InternalName) → kept new other (namespace_of other) ≡ (is_at (words_cmp (components other)) (components name) || kept old other (namespace_of other)) → Adds_at other
  by_kept other is = is_kept new other ∙ is ∙ ap (λ b. is_at (words_cmp (components other)) (components name) || b) (sym (is_kept old other))

  module _ (alone : namespace_of name ≡ []) (whole : new.qualified ≡ old.qualified) (puts : (q : Id) → is_some (get id_cmp new.unqualified q) ≡ (is_at (id_cmp q) (basename_of name) || is_some (get id_cmp old.unqualified q))) where
    one_word : components name ≡ id_word (basename_of name) ∷ []
    one_word = ap (λ ns. id_words (ns ++ basename_of name ∷ [])) alone

    put_at : (other : InternalName) (ns : List Id) → namespace_of other ≡ ns → kept new other ns ≡ (is_at (words_cmp (id_words (ns ++ basename_of other ∷ []))) (id_word (basename_of name) ∷ []) || kept old other ns)
    put_at other [] e =
        puts (basename_of other)
        ∙ ap (λ b. b || is_some (get id_cmp old.unqualified (basename_of other))) (sym (eq_then_equal (word_cmp (id_word (basename_of other)) (id_word (basename_of name)))))
    put_at other (i ∷ ids) e =
        ap (λ xs. contains internal_cmp xs other) whole
        ∙ sym (ap (λ b. b || contains internal_cmp old.qualified other) (longer i ids (basename_of other) (id_word (basename_of name))))

    -- a name of one component is put where it is kept
    adds_alone : AddsName (type_names old) (type_names new) name
    adds_alone other = by_kept other (put_at other (namespace_of other) refl ∙ sym (ap (λ c. is_at (words_cmp (components other)) c || kept old other (namespace_of other)) one_word))

  module _ (i : Id) (ids : List Id) (qualified : namespace_of name ≡ i ∷ ids) (same : new.unqualified ≡ old.unqualified) (adds : (q : InternalName) → contains internal_cmp new.qualified q ≡ (is_at (internal_cmp q) name || contains internal_cmp old.qualified q)) where
    longer_name : (w : List ℕ) → is_at (words_cmp (components name)) (w ∷ []) ≡ false
    longer_name w = ap (λ ns. is_at (words_cmp (id_words (ns ++ basename_of name ∷ []))) (w ∷ [])) qualified ∙ longer i ids (basename_of name) w

    added_at : (other : InternalName) (ns : List Id) → namespace_of other ≡ ns → kept new other ns ≡ (is_at (words_cmp (id_words (ns ++ basename_of other ∷ []))) (components name) || kept old other ns)
    added_at other [] e =
        ap (λ es. is_some (get id_cmp es (basename_of other))) same
        ∙ sym (ap (λ b. b || is_some (get id_cmp old.unqualified (basename_of other))) (tie (id_word (basename_of other) ∷ []) (components name) ∙ longer_name (id_word (basename_of other))))
    added_at other (j ∷ js) e =
        adds other ∙ ap (λ ns. is_at (words_cmp (id_words (ns ++ basename_of other ∷ []))) (components name) || contains internal_cmp old.qualified other) e

    -- another is put whole
    adds_whole : AddsName (type_names old) (type_names new) name
    adds_whole other = by_kept other (added_at other (namespace_of other) refl)

-- what is equal to a key that is there is there
contains-tied : {K : Type 0} {cmp : K → K → Ordering} → IsTotalOrder cmp → (a b : K) (xs : List K) → is_at (cmp a) b ≡ true → contains cmp xs a ≡ contains cmp xs b
contains-tied total a b [] same = refl
contains-tied {cmp = cmp} total a b (x ∷ xs) same =
    ap (λ t. t || contains cmp xs a) ((eq_by_cmp_equiv total).congr a b x same) ∙ ap (λ t. is_at (cmp b) x || t) (contains-tied total a b xs same)

-- a name that is there adds nothing
pub adds_none : (xs : List FullName) (name : InternalName) → contains words_cmp xs (components name) ≡ true → AddsName xs xs name
adds_none xs name there other = by (is_at (words_cmp (components other)) (components name)) refl
  where
    by : (b : Bool) → is_at (words_cmp (components other)) (components name) ≡ b → contains words_cmp xs (components other) ≡ (b || contains words_cmp xs (components other))
    by true same = contains-tied (words-total (λ (x : FullName). x)) (components other) (components name) xs same ∙ there
    by false same = refl

module _ {K : Type 0} {cmp : K → K → Ordering} (total : IsTotalOrder cmp) where
  swapped : (a b c : Bool) → (a || (b || c)) ≡ (b || (a || c))
  swapped true true c = refl
  swapped true false c = refl
  swapped false true c = refl
  swapped false false c = refl

  -- a key put into a set
  pub any_insert_key : (q k : K) (ks : List K) → contains cmp (insert_key cmp ks k) q ≡ (is_at (cmp q) k || contains cmp ks q)
  any_insert_key q k [] = refl
  any_insert_key q k (x ∷ ks) = by (cmp k x) refl (any_insert_key q k ks)
    where
      by : (o : Ordering) → cmp k x ≡ o → contains cmp (insert_key cmp ks k) q ≡ (is_at (cmp q) k || contains cmp ks q) → contains cmp (match_ordering o (k ∷ x ∷ ks) (x ∷ ks) (x ∷ insert_key cmp ks k)) q ≡ (is_at (cmp q) k || (is_at (cmp q) x || contains cmp ks q))
      by Less e ih = refl
      by Equal e ih = again (is_at (cmp q) x) (is_at (cmp q) k) (contains cmp ks q) (same_key q x k (flip e))
        where
          again : (a b c : Bool) → a ≡ b → (a || c) ≡ (b || (a || c))
          again true true c e = refl
          again false false c e = refl
          again true false c e = let p : true ≡ false = e in absurd (cc)
          again false true c e = let p : false ≡ true = e in absurd (cc)

          flip : cmp k x ≡ Equal → is_at (cmp x) k ≡ true
          flip e = (eq_by_cmp_equiv total).symm x k ∙ ap is_eq e

          same_key : (q x k : K) → is_at (cmp x) k ≡ true → is_at (cmp q) x ≡ is_at (cmp q) k
          same_key q x k e = (eq_by_cmp_equiv total).symm q x ∙ (eq_by_cmp_equiv total).congr x k q e ∙ (eq_by_cmp_equiv total).symm k q
      by Greater e ih = ap (λ b. is_at (cmp q) x || b) ih ∙ swapped (is_at (cmp q) x) (is_at (cmp q) k) (contains cmp ks q)

-- a look-up finds something exactly where its key is there
found_key : {K V : Type 0} (cmp : K → K → Ordering) (q : K) (es : List (K × V)) → is_some (get cmp es q) ≡ contains cmp (keys_of es) q
found_key cmp q [] = refl
found_key cmp q (e ∷ es) = sym (either_first (is_at (cmp q) e.0) (contains cmp (keys_of es) q) e.1 (get cmp es q) (sym (found_key cmp q es)))

-- the keys of a map into which an entry was put
keys_put : {K V : Type 0} (cmp : K → K → Ordering) (es : List (K × V)) (k : K) (v : V) → (q : K) → IsTotalOrder cmp → contains cmp (keys_of (insert_entry cmp es k v)) q ≡ contains cmp (insert_key cmp (keys_of es) k) q
keys_put cmp [] k v q total = refl
keys_put cmp (e ∷ es) k v q total = by (cmp k e.0) (keys_put cmp es k v q total)
  where
    by : (o : Ordering) → contains cmp (keys_of (insert_entry cmp es k v)) q ≡ contains cmp (insert_key cmp (keys_of es) k) q → contains cmp (keys_of (match_ordering o ((k, v) ∷ e ∷ es) ((e.0, v) ∷ es) (e ∷ insert_entry cmp es k v))) q ≡ contains cmp (match_ordering o (k ∷ e.0 ∷ keys_of es) (e.0 ∷ keys_of es) (e.0 ∷ insert_key cmp (keys_of es) k)) q
    by Less ih = refl
    by Equal ih = refl
    by Greater ih = ap (λ b. is_at (cmp q) e.0 || b) ih

ids_total : IsTotalOrder id_cmp
ids_total = on_total id_word nat_list_cmp_total

put_adds : (t : TypeNames) (n : InternalName) (ns : List Id) → namespace_of n ≡ ns → AddsName (type_names t) (type_names (put_name t n ns)) n
put_adds t n [] e = adds_alone t (put_name t n []) n e refl (λ q.
    found_key id_cmp q (insert_entry id_cmp t.unqualified (basename_of n) (loc_of n)) ∙ keys_put id_cmp t.unqualified (basename_of n) (loc_of n) q ids_total
    ∙ any_insert_key ids_total q (basename_of n) (keys_of t.unqualified) ∙ ap (λ b. is_at (id_cmp q) (basename_of n) || b) (sym (found_key id_cmp q t.unqualified)))
put_adds t n (i ∷ ids) e = adds_whole t (put_name t n (i ∷ ids)) n i ids e refl (λ q. any_insert_key (words-total components) q n t.qualified)

-- a name that is put to the others is one of them from then on
pub with_name_adds : (t : TypeNames) (n : InternalName) → AddsName (type_names t) (type_names (with_name t n)) n
with_name_adds t n = by (contains words_cmp (type_names t) (components n)) refl
  where
    by : (b : Bool) → contains words_cmp (type_names t) (components n) ≡ b → AddsName (type_names t) (type_names (cond b t (put_name t n (namespace_of n)))) n
    by true there = adds_none (type_names t) n there
    by false there = put_adds t n (namespace_of n) refl

-- a name of one component that is not there goes to those of one component
pub with_alone : (t : TypeNames) (n : InternalName) (es : List (Id × Option Loc)) → contains words_cmp (type_names t) (components n) ≡ false → namespace_of n ≡ [] → es ≡ insert_entry id_cmp t.unqualified (basename_of n) (loc_of n)
    → record { unqualified = es; qualified = t.qualified } ≡ with_name t n
with_alone t n es new alone put =
    (λ i. record { unqualified = put i; qualified = t.qualified }) ∙ sym (ap (put_name t n) alone) ∙ sym (ap (λ b. cond b t (put_name t n (namespace_of n))) new)

-- so where the new names are told
pub adds_name : (old new : TypeNames) (n : InternalName) → new ≡ with_name old n → AddsName (type_names old) (type_names new) n
adds_name old new n is = subst (λ t. AddsName (type_names old) (type_names t) n) (sym is) (with_name_adds old n)
