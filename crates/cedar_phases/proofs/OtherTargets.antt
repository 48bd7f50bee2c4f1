-- SPDX-License-Identifier: Apache-2.0
-- Targets that are declared entity types don't matter for what is undeclared.
use Rattle.std.proofs.Common.{◌≡◌, ◌++◌, ◌&&◌, ◌||◌, Bool, true, false, cond, not, List, [], ◌∷◌, Option, Some, None, refl, sym, ap, ◌∙◌}
use Rattle.std.proofs.lemmas.List.Folds.{list_any-append}
use Rattle.std.specs.BTreeMap.{is_at}
use Rattle.std.specs.Cmp.{Equal-is}
use Rattle.std.specs.List.{cons_option}
use Rattle.cedar_data.specs.Sets.{contains}
use Rattle.cedar_declared.specs.Names.{Names, is_entity, target, targets}
use Rattle.cedar_names.proofs.NameOrder.{words_cmp-equal}
use Rattle.cedar_names.specs.Order.{words_cmp}
use Rattle.cedar_phases.specs.NotDeclared.{other_targets, unless_entity}
use Rattle.cedar_schema_error.specs.FullNames.{FullName}
use Rattle.cedar_schema_error.specs.NameReferences.{NameReference}

-- what is the same with b is the same behind x
behind_or : (x y z b : Bool) → (y && b) ≡ (z && b) → ((x || y) && b) ≡ ((x || z) && b)
behind_or true y z b same = refl
behind_or false y z b same = same

never : (x y : Bool) → (x && false) ≡ (y && false)
never true true = refl
never true false = refl
never false true = refl
never false false = refl

module _ (names : Names) (name : FullName) where
  -- whether it is one of them, and undeclared
  abbrev undeclared_in : List FullName → Bool
  undeclared_in given = contains words_cmp given name && not (is_entity names name)

  -- one that is equal to a declared entity type is one
  tied : (other : FullName) → is_at (words_cmp name) other ≡ true → is_entity names other ≡ true → not (is_entity names name) ≡ false
  tied other same declared =
      ap (λ n. not (is_entity names n)) ((words_cmp-equal name other).0 ((Equal-is (words_cmp name other)).0 same)) ∙ ap not declared

  module _ (others all : List FullName) (ih : undeclared_in others ≡ undeclared_in all) where
    passed : (other : FullName) → is_entity names other ≡ true → undeclared_in others ≡ undeclared_in (other ∷ all)
    passed other declared = by (is_at (words_cmp name) other) refl
      where
        by : (b : Bool) → is_at (words_cmp name) other ≡ b → undeclared_in others ≡ ((b || contains words_cmp all name) && not (is_entity names name))
        by true same =
            ap (λ e. contains words_cmp others name && e) (tied other same declared) ∙ never (contains words_cmp others name) true ∙ sym (ap (λ e. true && e) (tied other same declared))
        by false same = ih

    one_more : (o : Option FullName) → undeclared_in (cons_option (unless_entity names o) others) ≡ undeclared_in (cons_option o all)
    one_more None = ih
    one_more (Some other) = by (is_entity names other) refl
      where
        by : (b : Bool) → is_entity names other ≡ b → undeclared_in (cons_option (cond b None (Some other)) others) ≡ undeclared_in (other ∷ all)
        by true is = passed other is
        by false is = behind_or (is_at (words_cmp name) other) (contains words_cmp others name) (contains words_cmp all name) (not (is_entity names name)) ih

  pub others_matter : (rs : List NameReference) → undeclared_in (other_targets names rs) ≡ undeclared_in (targets names rs)
  others_matter [] = refl
  others_matter (r ∷ rs) = one_more (other_targets names rs) (targets names rs) (others_matter rs) (target names r)

  -- so behind other names
  pub matter_behind : (given some all : List FullName) → undeclared_in some ≡ undeclared_in all → undeclared_in (given ++ some) ≡ undeclared_in (given ++ all)
  matter_behind given some all same =
      ap (λ b. b && not (is_entity names name)) (list_any-append (is_at (words_cmp name)) given some)
      ∙ behind_or (contains words_cmp given name) (contains words_cmp some name) (contains words_cmp all name) (not (is_entity names name)) same
      ∙ ap (λ b. b && not (is_entity names name)) (sym (list_any-append (is_at (words_cmp name)) given all))
