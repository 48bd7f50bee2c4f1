-- SPDX-License-Identifier: Apache-2.0
-- A loop over the attributes of a record, which joins what each unfolds to.
use Rattle.std.proofs.Common.{◌≡◌, ℕ, Bool, true, false, cond, List, [], ◌∷◌, ◌++◌, Option, Some, None, max, refl, sym, ap, ◌∙◌, subst, append_assoc, arith}
use Rattle.std.proofs.Math.Nat.{max-zero, zero-max}
use Rattle.std.specs.Cmp.Lexicographic.{slice_cmp}
use Rattle.std.specs.List.{AllByRecursion}
use Rattle.std.specs.List.Sorted.{IsStrictlySortedBy}
use Rattle.std.specs.Map.{keys_of}
use Rattle.std.specs.Ordering.{nat_cmp}
use Rattle.std.specs.declared.cmp.Ordering.{Ordering}
use Rattle.std.specs.declared.cmp.Ordering.TheVariants.{Less}
use Rattle.cedar_data.proofs.Rebuild.{sorted_next_key}
use Rattle.cedar_types.specs.declared.ty.AttributeType.{AttributeType}
use Rattle.cedar_schema_error.specs.FullNames.{FullName}
use Rattle.cedar_unfold.specs.Finished.{finished, finished_each, with_attribute}
use Rattle.cedar_unfold.specs.Following.{labels, first_attribute, following}
use Rattle.cedar_unfolding.specs.Resolved.{Resolved, ResolvedAttributes, nest, greatest_nest}
use Rattle.cedar_unfolding.specs.Resolved as resolved_types
use Rattle.cedar_unfold.specs.ResolvedViews.{resolved, resolved_attribute, resolved_map}
use Rattle.cedar_unfolding.specs.Written.{Written, WrittenAttributes, attribute}
use Rattle.cedar_unfold.proofs.FollowingLemmas.{following-next, following-end, following-None}
use Rattle.cedar_unfold.proofs.ResolvedTypes.{resolved-attribute}

-- these attributes, and others behind them
abbrev pub before : List (List ℕ × AttributeType) → ResolvedAttributes → ResolvedAttributes
before [] rs = rs
before (e ∷ es) rs = resolved_types.attribute e.0 (resolved_attribute e.1).0 (resolved_attribute e.1).1 (before es rs)

before-push : (made : List (List ℕ × AttributeType)) (name : List ℕ) (a : AttributeType) (rs : ResolvedAttributes) → before (made ++ (name, a) ∷ []) rs ≡ before made (resolved_types.attribute name a.is_required (resolved a.attr_type) rs)
before-push [] name a rs = λ i. resolved_types.attribute name (resolved-attribute a i).0 (resolved-attribute a i).1 rs
before-push (e ∷ es) name a rs = ap (resolved_types.attribute e.0 (resolved_attribute e.1).0 (resolved_attribute e.1).1) (before-push es name a rs)

before-all : (made : List (List ℕ × AttributeType)) → before made resolved_types.no_attributes ≡ resolved_map made
before-all [] = refl
before-all (e ∷ es) = ap (resolved_types.attribute e.0 (resolved_attribute e.1).0 (resolved_attribute e.1).1) (before-all es)

-- the greatest nest of attributes, and of one more
depth-push : (made : List (List ℕ × AttributeType)) (name : List ℕ) (a : AttributeType) → greatest_nest (resolved_map (made ++ (name, a) ∷ [])) ≡ max (greatest_nest (resolved_map made)) (nest (resolved a.attr_type))
depth-push [] name a = ap (λ r. max (nest r.1) 0) (resolved-attribute a) ∙ max-zero (nest (resolved a.attr_type)) ∙ sym (zero-max (nest (resolved a.attr_type)))
depth-push (e ∷ es) name a = ap (max (nest (resolved_attribute e.1).1)) (depth-push es name a) ∙ max_assoc (nest (resolved_attribute e.1).1) (greatest_nest (resolved_map es)) (nest (resolved a.attr_type)) where
  max_assoc : (a b c : ℕ) → max a (max b c) ≡ max (max a b) c
  max_assoc a b c = grind arith

abbrev pub joined : List (List ℕ × AttributeType) → Option ResolvedAttributes → Option ResolvedAttributes
joined made None = None
joined made (Some rs) = Some (before made rs)

joined-start : (rs : Option ResolvedAttributes) → joined [] rs ≡ rs
joined-start None = refl
joined-start (Some rs) = refl

joined-part : (made : List (List ℕ × AttributeType)) (name : List ℕ) (a : AttributeType) (rs : Option ResolvedAttributes) → joined made (with_attribute name a.is_required (Some (resolved a.attr_type)) rs) ≡ joined (made ++ (name, a) ∷ []) rs
joined-part made name a None = refl
joined-part made name a (Some rs) = ap Some (sym (before-push made name a rs))

joined-deep : (made : List (List ℕ × AttributeType)) (name : List ℕ) (required : Bool) (rs : Option ResolvedAttributes) → joined made (with_attribute name required None rs) ≡ None
joined-deep made name required None = refl
joined-deep made name required (Some rs) = refl

keys_push : {V : Type 0} (made : List (List ℕ × V)) (name : List ℕ) (v : V) → keys_of (made ++ (name, v) ∷ []) ≡ keys_of made ++ name ∷ []
keys_push [] name v = refl
keys_push (e ∷ es) name v = ap (λ ks. e.0 ∷ ks) (keys_push es name v)

-- what is found, unless a part before nests too deep
abbrev pub unless_deep : Bool → Option ResolvedAttributes → Option ResolvedAttributes
unless_deep is_whole found = cond is_whole found None

unless-none : (is_whole : Bool) → unless_deep is_whole None ≡ None
unless-none true = refl
unless-none false = refl

-- keys in order are in order without one of them
all-without : {K : Type 0} (P : K → Type 0) (xs : List K) (y : K) (ys : List K) → AllByRecursion P (xs ++ y ∷ ys) → AllByRecursion P (xs ++ ys)
all-without P [] y ys all = all.1
all-without P (x ∷ xs) y ys all = (all.0, all-without P xs y ys all.1)

sorted-without : {K : Type 0} (cmp : K → K → Ordering) (xs : List K) (y : K) (ys : List K) → IsStrictlySortedBy cmp (xs ++ y ∷ ys) → IsStrictlySortedBy cmp (xs ++ ys)
unfolding IsStrictlySortedBy
sorted-without cmp [] y ys sorted = sorted.1
sorted-without cmp (x ∷ xs) y ys sorted = (all-without (λ z. cmp x z ≡ Less) xs y ys sorted.0, sorted-without cmp xs y ys sorted.1)

module _ (table : FullName → Option (Option Resolved)) where
  -- the attributes up to `after` were joined, those aside that nest too deep; `is_whole` tells that there are none of these
  pub record Joining (ws : WrittenAttributes FullName) (after : Option (List ℕ)) (made : List (List ℕ × AttributeType)) (depth : ℕ) (is_whole : Bool) : Type 0 where
    pub is : unless_deep is_whole (joined made (finished_each table (following after ws))) ≡ finished_each table ws
    pub measured : depth ≡ greatest_nest (resolved_map made)
    pub sorted : IsStrictlySortedBy (slice_cmp nat_cmp) (labels ws) → IsStrictlySortedBy (slice_cmp nat_cmp) (keys_of made ++ labels (following after ws))

module _ {table : FullName → Option (Option Resolved)} where
  pub Joining-start : (ws : WrittenAttributes FullName) (made : List (List ℕ × AttributeType)) → made ≡ [] → Joining table ws None made 0 true
  Joining-start ws made none =
      let all = following-None ws in
      record {
        is = ap (λ rest. joined made (finished_each table rest)) all ∙ ap (λ m. joined m (finished_each table ws)) none ∙ joined-start (finished_each table ws);
        measured = ap (λ m. greatest_nest (resolved_map m)) (sym none);
        sorted = λ ordered. subst (λ m. IsStrictlySortedBy (slice_cmp nat_cmp) (keys_of m ++ labels (following None ws))) (sym none) (subst (λ rest. IsStrictlySortedBy (slice_cmp nat_cmp) (labels rest)) (sym all) ordered);
      }

  module _ {ws : WrittenAttributes FullName} {after : Option (List ℕ)} {made : List (List ℕ × AttributeType)} {depth : ℕ} {is_whole : Bool} (name : List ℕ) (t : Written FullName) (required : Bool)
      (j : Joining table ws after made depth is_whole) (ordered : IsStrictlySortedBy (slice_cmp nat_cmp) (labels ws)) (first : first_attribute (following after ws) ≡ Some (name, t, required)) where
    split : following after ws ≡ attribute name required t (following (Some name) ws)
    split = following-next after ws name t required ordered first

    -- its name comes after those so far
    pub Joining-sorted : IsStrictlySortedBy (slice_cmp nat_cmp) (keys_of made ++ name ∷ [])
    Joining-sorted = sorted_next_key (slice_cmp nat_cmp) (keys_of made) refl (ap labels split) refl (j.sorted ordered)

    abbrev rest : WrittenAttributes FullName
    rest = following (Some name) ws

    in_order : IsStrictlySortedBy (slice_cmp nat_cmp) (labels ws) → IsStrictlySortedBy (slice_cmp nat_cmp) (keys_of made ++ name ∷ labels rest)
    in_order ordered = subst (λ l. IsStrictlySortedBy (slice_cmp nat_cmp) (keys_of made ++ labels l)) split (j.sorted ordered)

    -- with the next, which is found
    pub Joining-next : (part : AttributeType) (made' : List (List ℕ × AttributeType)) (depth' : ℕ) → finished table t ≡ Some (resolved part.attr_type) → part.is_required ≡ required → made' ≡ made ++ (name, part) ∷ [] → depth' ≡ max depth (nest (resolved part.attr_type)) → Joining table ws (Some name) made' depth' is_whole
    Joining-next part made' depth' found marked pushed deeper = record {
      is =
          ap (unless_deep is_whole) (
          ap (λ m. joined m (finished_each table rest)) pushed
          ∙ sym (joined-part made name part (finished_each table rest))
          ∙ (λ i. joined made (with_attribute name (marked i) (sym found i) (finished_each table rest)))
          ∙ ap (λ l. joined made (finished_each table l)) (sym split))
          ∙ j.is;
      measured = deeper ∙ ap (λ n. max n (nest (resolved part.attr_type))) j.measured ∙ sym (depth-push made name part) ∙ ap (λ m. greatest_nest (resolved_map m)) (sym pushed);
      sorted = λ ordered. subst (λ ks. IsStrictlySortedBy (slice_cmp nat_cmp) ks)
          (sym (ap (λ m. keys_of m ++ labels rest) pushed ∙ ap (λ ks. ks ++ labels rest) (keys_push made name part) ∙ append_assoc (keys_of made) (name ∷ []) (labels rest)))
          (in_order ordered);
    }

    -- with the next, which nests too deep
    pub Joining-deep : finished table t ≡ None → Joining table ws (Some name) made depth false
    Joining-deep found = record {
      is =
          sym (unless-none is_whole)
          ∙ ap (unless_deep is_whole) (
          sym (joined-deep made name required (finished_each table rest))
          ∙ ap (λ f. joined made (with_attribute name required f (finished_each table rest))) (sym found)
          ∙ ap (λ l. joined made (finished_each table l)) (sym split))
          ∙ j.is;
      measured = j.measured;
      sorted = λ ordered. sorted-without (slice_cmp nat_cmp) (keys_of made) name (labels rest) (in_order ordered);
    }

  module _ {ws : WrittenAttributes FullName} {after : Option (List ℕ)} {made : List (List ℕ × AttributeType)} {depth : ℕ} {is_whole : Bool} (j : Joining table ws after made depth is_whole) where
    -- all were found
    pub Joining-end : is_whole ≡ true → first_attribute (following after ws) ≡ None → finished_each table ws ≡ Some (resolved_map made)
    Joining-end whole ended =
        sym j.is
        ∙ ap (λ b. unless_deep b (joined made (finished_each table (following after ws)))) whole
        ∙ ap (λ rest. joined made (finished_each table rest)) (following-end after ws ended)
        ∙ ap Some (before-all made)

    -- one nests too deep, and so does the record
    pub Joining-none : is_whole ≡ false → None ≡ finished_each table ws
    Joining-none deep = ap (λ b. unless_deep b (joined made (finished_each table (following after ws)))) (sym deep) ∙ j.is
