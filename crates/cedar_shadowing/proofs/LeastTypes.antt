-- SPDX-License-Identifier: Apache-2.0
-- The least name that shadows its basename makes the least pair of types of which one shadows the other.
use Rattle.std.proofs.Common.{◌≡◌, ◌⊎◌, inl, inr, ◌&&◌, ◌||◌, Bool, true, false, not, List, [], ◌∷◌, Option, Some, None, MatchOption, refl, sym, ap, ◌∙◌, subst}
use Rattle.std.proofs.lemmas.Cmp.{on_total, nat_list_cmp_total, then_total, tied_itself}
use Rattle.std.specs.BTreeMap.{is_at}
use Rattle.std.specs.Cmp.{IsTotalOrder}
use Rattle.std.specs.Option.{option_map}
use Rattle.std.specs.Ordering.{is_eq, ordering_then}
use Rattle.std.specs.declared.cmp.Ordering.{Ordering}
use Rattle.std.specs.declared.cmp.Ordering.TheVariants.{Less, Equal, Greater}
use Rattle.cedar_data.specs.Sets.{contains}
use Rattle.cedar_names.proofs.NameOrder.{words_cmp-equal}
use Rattle.cedar_names.specs.OrderLaws.{words-total}
use Rattle.cedar_names.specs.Components.{components, has_cedar}
use Rattle.cedar_names.specs.Order.{word_cmp, words_cmp}
use Rattle.cedar_names.specs.declared.internal_name.InternalName.{InternalName}
use Rattle.cedar_written.specs.declared.reference_type.ReferenceType.TheVariants.{CommonOrEntity}
use Rattle.cedar_schema_error.specs.FullNames.{FullName, basename, is_qualified}
use Rattle.cedar_declared.specs.Names.{Names, is_declared}
use Rattle.cedar_shadowing.specs.Picking.{least_shadowing, shadowing_cmp, shadows_type}
use Rattle.cedar_shadowing.specs.Shadowing.{IsLeastPair, NoPair, ShadowsType}
use Rattle.cedar_shadowing.proofs.Picked.{IsBest, Stands, best_of}

pub and_first : (a b : Bool) → (a && b) ≡ true → a ≡ true
and_first true b e = refl
and_first false b e = e

pub and_second : (a b : Bool) → (a && b) ≡ true → b ≡ true
and_second true b e = e
and_second false b e = let p : false ≡ true = e in absurd (cc)

pub both_true : (a b : Bool) → a ≡ true → b ≡ true → (a && b) ≡ true
both_true a b p q = ap (λ a. a && b) p ∙ q

pub not_false : (b : Bool) → not b ≡ true → b ≡ false
not_false false e = refl
not_false true e = let p : false ≡ true = e in absurd (cc)

pub equal_when : (o : Ordering) → is_eq o ≡ true → o ≡ Equal
equal_when Equal e = refl
equal_when Less e = let p : false ≡ true = e in absurd (cc)
equal_when Greater e = let p : false ≡ true = e in absurd (cc)

-- a name that is there stands in the list
stands : (xs : List FullName) (n : FullName) → contains words_cmp xs n ≡ true → Stands xs n
stands [] n e = let p : false ≡ true = e in absurd (cc)
stands (x ∷ xs) n e = by (is_at (words_cmp n) x) refl (stands xs n)
  where
    by : (b : Bool) → is_at (words_cmp n) x ≡ b → (contains words_cmp xs n ≡ true → Stands xs n) → Stands (x ∷ xs) n
    by true is others = inl ((words_cmp-equal n x).0 (equal_when (words_cmp n x) is))
    by false is others = inr (others (sym (ap (λ b. b || contains words_cmp xs n) is) ∙ e))

is_there : (xs : List FullName) (n : FullName) → Stands xs n → contains words_cmp xs n ≡ true
is_there [] n there = elim there [ ]
is_there (x ∷ xs) n (inl same) = ap (λ o. is_eq o || contains words_cmp xs n) ((words_cmp-equal n x).1 same)
is_there (x ∷ xs) n (inr others) = or_true (is_at (words_cmp n) x) (contains words_cmp xs n) (is_there xs n others)
  where
    or_true : (a b : Bool) → b ≡ true → (a || b) ≡ true
    or_true true b e = refl
    or_true false b e = e

less_then : (o p : Ordering) → o ≡ Less → ordering_then o p ≡ Less
less_then o p is = ap (λ o. ordering_then o p) is

then_equal : (o : Ordering) → ordering_then o Equal ≡ Less → o ≡ Less
then_equal Less e = refl
then_equal Equal e = let p : Equal ≡ Less = e in absurd (cc)
then_equal Greater e = let p : Greater ≡ Less = e in absurd (cc)

shadowing_total : IsTotalOrder shadowing_cmp
shadowing_total = then_total (on_total basename nat_list_cmp_total) (words-total (λ (x : FullName). x))

module _ (own : Names) where
  -- the declared types
  abbrev Seen : FullName → Type 0
  Seen x = (⊥ ⊎ Stands own.entity_types x) ⊎ Stands own.common_types x

  seen : (n : FullName) → is_declared own CommonOrEntity n ≡ true → Seen n
  seen n = by (contains words_cmp own.common_types n) refl
    where
      by : (b : Bool) → contains words_cmp own.common_types n ≡ b → (b || contains words_cmp own.entity_types n) ≡ true → Seen n
      by true is e = inr (stands own.common_types n is)
      by false is e = inl (inr (stands own.entity_types n e))

  declared : (n : FullName) → Seen n → is_declared own CommonOrEntity n ≡ true
  declared n (inr common) = ap (λ b. b || contains words_cmp own.entity_types n) (is_there own.common_types n common)
  declared n (inl (inr entity)) = by (contains words_cmp own.common_types n)
    where
      by : (b : Bool) → (b || contains words_cmp own.entity_types n) ≡ true
      by true = refl
      by false = is_there own.entity_types n entity
  declared n (inl (inl e)) = absurd (e)

  -- the least of all
  best : IsBest (shadows_type own) shadowing_cmp Seen (least_shadowing own (least_shadowing own None own.entity_types) own.common_types)
  best = best_of (shadows_type own) shadowing_cmp shadowing_total (λ x. ⊥ ⊎ Stands own.entity_types x) (least_shadowing own None own.entity_types) own.common_types
      (best_of (shadows_type own) shadowing_cmp shadowing_total (λ x. ⊥) None own.entity_types (λ x e. absurd (e)))

  shadows_one : (a b : FullName) → ShadowsType own a b → shadows_type own b ≡ true
  shadows_one a b s =
      both_true (is_qualified b) (not (has_cedar b) && is_declared own CommonOrEntity (basename b ∷ [])) s.qualified
      (both_true (not (has_cedar b)) (is_declared own CommonOrEntity (basename b ∷ [])) (ap not s.unreserved)
      (subst (λ x. is_declared own CommonOrEntity x ≡ true) s.is_basename (and_first (is_declared own CommonOrEntity a) (is_declared own CommonOrEntity b) s.both)))

  seen_one : (a b : FullName) → ShadowsType own a b → Seen b
  seen_one a b s = seen b (and_second (is_declared own CommonOrEntity a) (is_declared own CommonOrEntity b) s.both)

  shadowed_by : (b : FullName) → Seen b → shadows_type own b ≡ true → ShadowsType own (basename b ∷ []) b
  shadowed_by b is passes =
      let rest : (not (has_cedar b) && is_declared own CommonOrEntity (basename b ∷ [])) ≡ true = and_second (is_qualified b) (not (has_cedar b) && is_declared own CommonOrEntity (basename b ∷ [])) passes in
      record {
        both = both_true (is_declared own CommonOrEntity (basename b ∷ [])) (is_declared own CommonOrEntity b)
            (and_second (not (has_cedar b)) (is_declared own CommonOrEntity (basename b ∷ [])) rest) (declared b is);
        qualified = and_first (is_qualified b) (not (has_cedar b) && is_declared own CommonOrEntity (basename b ∷ [])) passes;
        unreserved = not_false (has_cedar b) (and_first (not (has_cedar b)) (is_declared own CommonOrEntity (basename b ∷ [])) rest);
        is_basename = refl;
      }

  none_by : (o : Option FullName) → IsBest (shadows_type own) shadowing_cmp Seen o → o ≡ None → NoPair (ShadowsType own)
  none_by None is none a b s = let p : true ≡ false = sym (shadows_one a b s) ∙ is b (seen_one a b s) in absurd (cc)
  none_by (Some x) is none a b s = absurd (cc)

  -- where none is found, no type shadows another
  pub no_type : (o : Option FullName) → o ≡ least_shadowing own (least_shadowing own None own.entity_types) own.common_types → o ≡ None → NoPair (ShadowsType own)
  no_type o is none = none_by (least_shadowing own (least_shadowing own None own.entity_types) own.common_types) best (sym is ∙ none)

  some_by : (b : FullName) → IsBest (shadows_type own) shadowing_cmp Seen (Some b) → IsLeastPair words_cmp (ShadowsType own) (basename b ∷ []) b
  some_by b is = record {
    first = record { holds = (b, shadowed_by b is.0 is.1); least = first_least };
    second = record { holds = shadowed_by b is.0 is.1; least = second_least };
  }
    where
      first_least : (x : FullName) → ((y : FullName) × ShadowsType own x y) → words_cmp x (basename b ∷ []) ≡ Less → ⊥
      first_least x found less =
          is.2 found.0 (seen_one x found.0 found.1) (shadows_one x found.0 found.1)
          (less_then (word_cmp (basename found.0) (basename b)) (words_cmp found.0 b)
          (then_equal (word_cmp (basename found.0) (basename b)) (ap (λ l. words_cmp l (basename b ∷ [])) (sym found.1.is_basename) ∙ less)))

      same_word : (y : FullName) → basename b ∷ [] ≡ basename y ∷ [] → basename y ≡ basename b
      same_word y same = sym (ap basename same)

      second_least : (y : FullName) → ShadowsType own (basename b ∷ []) y → words_cmp y b ≡ Less → ⊥
      second_least y s less =
          is.2 y (seen_one (basename b ∷ []) y s) (shadows_one (basename b ∷ []) y s)
          (ap (λ o. ordering_then o (words_cmp y b)) (ap (λ w. word_cmp w (basename b)) (same_word y s.is_basename) ∙ tied_itself nat_list_cmp_total (basename b)) ∙ less)

  -- what is found makes the least pair
  pub least_types : (o : Option FullName) (b : FullName) → o ≡ least_shadowing own (least_shadowing own None own.entity_types) own.common_types → o ≡ Some b → IsLeastPair words_cmp (ShadowsType own) (basename b ∷ []) b
  least_types o b is some = some_by b (subst (IsBest (shadows_type own) shadowing_cmp Seen) (sym is ∙ some) best)

  -- so of a name that may be found
  pub least_pair : (o : Option InternalName) → option_map components o ≡ least_shadowing own (least_shadowing own None own.entity_types) own.common_types
      → MatchOption o (NoPair (ShadowsType own)) (λ n. IsLeastPair words_cmp (ShadowsType own) (basename (components n) ∷ []) (components n))
  least_pair None is = no_type None is refl
  least_pair (Some n) is = least_types (Some (components n)) (components n) is refl
