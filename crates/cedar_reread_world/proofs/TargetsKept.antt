-- SPDX-License-Identifier: Apache-2.0
-- A reference that is read again as one of another kind has the same target.
use Rattle.std.proofs.Common.{◌≡◌, ◌++◌, ◌||◌, ℕ, Bool, true, false, cond, not, List, [], ◌∷◌, Option, Some, None, codes, refl, sym, ap, ◌∙◌, subst}
use Rattle.std.specs.List.{find}
use Rattle.std.specs.Option.{is_some}
use Rattle.cedar_declared.specs.Names.{is_common, is_declared, is_entity, target}
use Rattle.cedar_names.specs.Components.{has_cedar}
use Rattle.cedar_reread_world.specs.Rewritten.{ArePossibilities, Printable, ReadAs, one_name, two_names}
use Rattle.cedar_reread_world.proofs.DeclaredTypes.{CommonIs, aliased, builtin, callers, common_is, defined_common, entity_own}
use Rattle.cedar_reread_world.proofs.Tests.{both_true, clash, inside, left_false, or_left, or_right}
use Rattle.cedar_schema_error.specs.FullNames.{FullName, basename, is_qualified}
use Rattle.cedar_schema_error.specs.NameReferences.{NameReference}
use Rattle.cedar_shadowing.specs.Shadowing.{NoPair, ShadowsType}
use Rattle.cedar_text.specs.Words.{has_word, is_cedar, primitive_words}
use Rattle.cedar_unfold.specs.Meanings.{definition_of}
use Rattle.cedar_unfold.specs.Written.{Written}
use Rattle.cedar_world.specs.Worlds.{World, meanings, names, own}
use Rattle.cedar_written.specs.declared.reference_type.ReferenceType.{ReferenceType}
use Rattle.cedar_written.specs.declared.reference_type.ReferenceType.TheVariants as kind

basename_in : (ns : FullName) (x : List ℕ) → basename (ns ++ x ∷ []) ≡ x
basename_in [] x = refl
basename_in (a ∷ []) x = refl
basename_in (a ∷ b ∷ bs) x = basename_in (b ∷ bs) x

qualified_in : (a : List ℕ) (ns : FullName) (x : List ℕ) → is_qualified (a ∷ ns ++ x ∷ []) ≡ true
qualified_in a [] x = refl
qualified_in a (b ∷ bs) x = refl

first_word : FullName → List ℕ
first_word [] = []
first_word (x ∷ xs) = x

other_words : FullName → FullName
other_words [] = []
other_words (x ∷ xs) = xs

same_first : (x y : List ℕ) (xs ys : FullName) → x ∷ xs ≡ y ∷ ys → x ≡ y
unfolding first_word
same_first x y xs ys e = ap first_word e

same_others : (x y : List ℕ) (xs ys : FullName) → x ∷ xs ≡ y ∷ ys → xs ≡ ys
unfolding other_words
same_others x y xs ys e = ap other_words e

not_empty : (xs : FullName) (x : List ℕ) → xs ++ x ∷ [] ≡ [] → ⊥
not_empty [] x e = absurd (cc)
not_empty (y ∷ ys) x e = absurd (cc)

free_not : (a b : Bool) → not (a || b) ≡ true → b ≡ false
free_not true b e = absurd (cc)
free_not false true e = absurd (cc)
free_not false false e = refl

none_of : {V : Type 0} (o : Option V) → is_some o ≡ false → o ≡ None
none_of None e = refl
none_of (Some v) e = absurd (cc)

module _ (W : World) (printable : Printable W) (apart : NoPair (ShadowsType (own W))) where
  -- an unqualified name stands for one declared type at most
  one_possibility : (a : List ℕ) (ns : FullName) (x : List ℕ) → is_declared (own W) kind.CommonOrEntity (a ∷ ns ++ x ∷ []) ≡ true → is_declared (own W) kind.CommonOrEntity (x ∷ []) ≡ true → ⊥
  one_possibility a ns x there here = apart (x ∷ []) (a ∷ ns ++ x ∷ []) (record {
    both = both_true (is_declared (own W) kind.CommonOrEntity (x ∷ [])) (is_declared (own W) kind.CommonOrEntity (a ∷ ns ++ x ∷ [])) here there;
    qualified = qualified_in a ns x;
    unreserved = printable.unreserved (a ∷ ns ++ x ∷ []) there;
    is_basename = ap (λ w. w ∷ []) (sym (basename_in (a ∷ ns) x));
  })

  own_entity : (n : FullName) → is_entity (names W) n ≡ true → is_declared (own W) kind.CommonOrEntity n ≡ true
  own_entity n e = or_right (is_common (own W) n) (is_entity (own W) n) (sym (entity_own W n) ∙ e)

  -- an entity type is no common type
  entity_alone : (n : FullName) → is_entity (names W) n ≡ true → is_common (names W) n ≡ false
  entity_alone n e = by (is_common (names W) n) refl
    where
      never : CommonIs W n → ⊥
      never (callers is) = printable.one_kind n (sym (entity_own W n) ∙ e) is
      never (builtin word is) = clash (has_cedar n) (ap has_cedar is) (printable.unreserved n (own_entity n e))
      never (aliased word is free known) = clash (is_entity (own W) (word ∷ [])) (ap (is_entity (own W)) (sym is) ∙ sym (entity_own W n) ∙ e) (free_not (is_common (own W) (word ∷ [])) (is_entity (own W) (word ∷ [])) free)

      by : (b : Bool) → is_common (names W) n ≡ b → b ≡ false
      by true is = absurd (never (common_is W n is))
      by false is = refl

  -- and so it isn't defined as one
  pub entity_undefined : (n : FullName) → is_entity (names W) n ≡ true → definition_of (meanings W) n ≡ None
  entity_undefined n e = none_of (definition_of (meanings W) n) (defined_common W n ∙ entity_alone n e)

  module _ (outer : List ℕ) (inner : FullName) (word : List ℕ) (free : has_cedar (outer ∷ inner) ≡ false) where
    abbrev long_name : FullName
    long_name = outer ∷ inner ++ word ∷ []

    -- where the basename is an entity type, the long name is no common type
    no_common : is_entity (names W) (word ∷ []) ≡ true → is_common (names W) long_name ≡ false
    no_common here = by (is_common (names W) long_name) refl
      where
        never : CommonIs W long_name → ⊥
        never (callers is) = one_possibility outer inner word (or_left (is_common (own W) long_name) (is_entity (own W) long_name) is) (own_entity (word ∷ []) here)
        never (builtin v is) = clash (is_cedar outer) (ap is_cedar (same_first outer (codes "__cedar") (inner ++ word ∷ []) (v ∷ []) is)) (left_false (is_cedar outer) (has_cedar inner) free)
        never (aliased v is unused known) = not_empty inner word (same_others outer v (inner ++ word ∷ []) [] is)

        by : (b : Bool) → is_common (names W) long_name ≡ b → b ≡ false
        by true is = absurd (never (common_is W long_name is))
        by false is = refl

    -- where the basename is a common type, the long name is no entity type
    no_entity : is_common (names W) (word ∷ []) ≡ true → is_entity (names W) long_name ≡ false
    no_entity here = by (is_entity (names W) long_name) refl
      where
        never : is_entity (names W) long_name ≡ true → CommonIs W (word ∷ []) → ⊥
        never there (callers is) = one_possibility outer inner word (own_entity long_name there) (or_left (is_common (own W) (word ∷ [])) (is_entity (own W) (word ∷ [])) is)
        never there (builtin v is) = let empty : [] ≡ v ∷ [] = same_others word (codes "__cedar") [] (v ∷ []) is in absurd (cc)
        never there (aliased v is unused known) = clash (has_word (primitive_words ++ W.extensions) v) known
            (ap (has_word (primitive_words ++ W.extensions)) (sym (same_first word v [] [] is) ∙ sym (basename_in (outer ∷ inner) word)) ∙ printable.no_builtin_word long_name (sym (entity_own W long_name) ∙ there))

        by : (b : Bool) → is_entity (names W) long_name ≡ b → b ≡ false
        by true is = absurd (never is (common_is W (word ∷ []) here))
        by false is = refl

  abbrev found : ReferenceType → List FullName → Option FullName
  found k ps = find (is_declared (names W) k) ps

  -- what is found as an entity type is found as either
  entity_found : (ps : List FullName) (n : FullName) → ArePossibilities ps → found kind.Entity ps ≡ Some n → (found kind.CommonOrEntity ps ≡ Some n) × (is_entity (names W) n ≡ true)
  entity_found _ n (one_name {name}) e = by (is_entity (names W) name) refl e
    where
      by : (b : Bool) → is_entity (names W) name ≡ b → cond b (Some name) None ≡ Some n → (found kind.CommonOrEntity (name ∷ []) ≡ Some n) × (is_entity (names W) n ≡ true)
      by true is e = (
        ap (λ b. cond b (Some name) None) (or_right (is_common (names W) name) (is_entity (names W) name) is) ∙ e,
        subst (λ n. is_entity (names W) n ≡ true) (inside name n e) is,
      )
      by false is e = absurd (cc)
  entity_found _ n (two_names outer inner word free) e = by (is_entity (names W) (long_name outer inner word free)) (is_entity (names W) (word ∷ [])) refl refl e
    where
      by : (b c : Bool) → is_entity (names W) (outer ∷ inner ++ word ∷ []) ≡ b → is_entity (names W) (word ∷ []) ≡ c → cond b (Some (outer ∷ inner ++ word ∷ [])) (cond c (Some (word ∷ [])) None) ≡ Some n
          → (found kind.CommonOrEntity ((outer ∷ inner ++ word ∷ []) ∷ (word ∷ []) ∷ []) ≡ Some n) × (is_entity (names W) n ≡ true)
      by true c is short e = (
        ap (λ b. cond b (Some (outer ∷ inner ++ word ∷ [])) (found kind.CommonOrEntity ((word ∷ []) ∷ []))) (or_right (is_common (names W) (outer ∷ inner ++ word ∷ [])) (is_entity (names W) (outer ∷ inner ++ word ∷ [])) is) ∙ e,
        subst (λ n. is_entity (names W) n ≡ true) (inside (outer ∷ inner ++ word ∷ []) n e) is,
      )
      by false true is short e = (
        (λ i. cond (no_common outer inner word free short i || is i) (Some (outer ∷ inner ++ word ∷ [])) (cond (or_right (is_common (names W) (word ∷ [])) (is_entity (names W) (word ∷ [])) short i) (Some (word ∷ [])) None)) ∙ e,
        subst (λ n. is_entity (names W) n ≡ true) (inside (word ∷ []) n e) short,
      )
      by false false is short e = absurd (cc)

  -- what is found as a common type is found as either
  common_found : (ps : List FullName) (n : FullName) → ArePossibilities ps → found kind.Common ps ≡ Some n → found kind.CommonOrEntity ps ≡ Some n
  common_found _ n (one_name {name}) e = by (is_common (names W) name) refl e
    where
      by : (b : Bool) → is_common (names W) name ≡ b → cond b (Some name) None ≡ Some n → found kind.CommonOrEntity (name ∷ []) ≡ Some n
      by true is e = ap (λ b. cond b (Some name) None) (or_left (is_common (names W) name) (is_entity (names W) name) is) ∙ e
      by false is e = absurd (cc)
  common_found _ n (two_names outer inner word free) e = by (is_common (names W) (outer ∷ inner ++ word ∷ [])) (is_common (names W) (word ∷ [])) refl refl e
    where
      by : (b c : Bool) → is_common (names W) (outer ∷ inner ++ word ∷ []) ≡ b → is_common (names W) (word ∷ []) ≡ c → cond b (Some (outer ∷ inner ++ word ∷ [])) (cond c (Some (word ∷ [])) None) ≡ Some n
          → found kind.CommonOrEntity ((outer ∷ inner ++ word ∷ []) ∷ (word ∷ []) ∷ []) ≡ Some n
      by true c is short e = ap (λ b. cond b (Some (outer ∷ inner ++ word ∷ [])) (found kind.CommonOrEntity ((word ∷ []) ∷ [])))
          (or_left (is_common (names W) (outer ∷ inner ++ word ∷ [])) (is_entity (names W) (outer ∷ inner ++ word ∷ [])) is) ∙ e
      by false true is short e =
          (λ i. cond (is i || no_entity outer inner word free short i) (Some (outer ∷ inner ++ word ∷ [])) (cond (or_left (is_common (names W) (word ∷ [])) (is_entity (names W) (word ∷ [])) short i) (Some (word ∷ [])) None)) ∙ e
      by false false is short e = absurd (cc)

  -- what is found as either, and is a common type, is found as one
  only_common : (ps : List FullName) (n : FullName) → found kind.CommonOrEntity ps ≡ Some n → is_common (names W) n ≡ true → found kind.Common ps ≡ Some n
  only_common [] n e is = absurd (cc)
  only_common (p ∷ ps) n e is = by (is_common (names W) p) (is_entity (names W) p) refl e (λ e. only_common ps n e is)
    where
      by : (b c : Bool) → is_common (names W) p ≡ b → cond (b || c) (Some p) (found kind.CommonOrEntity ps) ≡ Some n → (found kind.CommonOrEntity ps ≡ Some n → found kind.Common ps ≡ Some n)
          → cond b (Some p) (found kind.Common ps) ≡ Some n
      by true c here e rest = e
      by false true here e rest = absurd (clash (is_common (names W) p) (ap (is_common (names W)) (inside p n e) ∙ is) here)
      by false false here e rest = rest e

  module _ (r s : NameReference) (n : FullName) where
    -- an entity type, read as either
    pub entity_read : ReadAs kind.Entity kind.CommonOrEntity r s → target (names W) r ≡ Some n → (target (names W) s ≡ Some n) × (definition_of (meanings W) n ≡ None)
    entity_read h e =
        let is = entity_found r.possibilities n h.names_are (ap (λ k. found k r.possibilities) (sym h.old_kind) ∙ e) in
        ((λ i. found (h.new_kind i) (h.same_names i)) ∙ is.0, entity_undefined n is.1)

    -- a common type, read as either
    pub common_read : ReadAs kind.Common kind.CommonOrEntity r s → target (names W) r ≡ Some n → target (names W) s ≡ Some n
    common_read h e = (λ i. found (h.new_kind i) (h.same_names i)) ∙ common_found r.possibilities n h.names_are (ap (λ k. found k r.possibilities) (sym h.old_kind) ∙ e)

    -- either, read as a common type
    pub narrowed : ReadAs kind.CommonOrEntity kind.Common r s → (t : Written NameReference) → target (names W) r ≡ Some n → definition_of (meanings W) n ≡ Some t → target (names W) s ≡ Some n
    narrowed h t e defined = (λ i. found (h.new_kind i) (h.same_names i)) ∙ only_common r.possibilities n (ap (λ k. found k r.possibilities) (sym h.old_kind) ∙ e) (sym (defined_common W n) ∙ ap is_some defined)

  -- a reference that is read as the same kind
  pub same_read : (k : ReferenceType) (r s : NameReference) → ReadAs k k r s → target (names W) s ≡ target (names W) r
  same_read k r s h = (λ i. found (h.new_kind i) (h.same_names i)) ∙ ap (λ k. found k r.possibilities) (sym h.old_kind)
