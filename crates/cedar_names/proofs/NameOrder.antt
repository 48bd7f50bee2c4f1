-- SPDX-License-Identifier: Apache-2.0
use Rattle.std.proofs.Common.{◌≡◌, ℕ, true, List, sym, ap, ◌∙◌}
use Rattle.std.specs.Cmp.{Equal-is}
use Rattle.std.specs.Cmp.Lexicographic.{pointwise_decides, bytes_decides, lists_ties, texts_ties, slice_cmp}
use Rattle.std.specs.Ordering.{nat_cmp, is_eq}
use Rattle.std.specs.declared.cmp.Ordering.TheVariants.{Equal}
use Rattle.cedar_names.specs.Components.{components}
use Rattle.cedar_names.specs.Names.{name_words, entity_words, internal_cmp, name_cmp, entity_cmp}
use Rattle.cedar_names.specs.Order.{words_cmp, words_eq}
use Rattle.cedar_names.specs.declared.internal_name.InternalName.{InternalName}
use Rattle.cedar_names.specs.declared.name.EntityType.{EntityType}
use Rattle.cedar_names.specs.declared.name.Name.{Name}

-- component lists are tied exactly where they are equal
pub words_cmp-equal : (xs ys : List (List ℕ)) → (words_cmp xs ys ≡ Equal → xs ≡ ys) × (xs ≡ ys → words_cmp xs ys ≡ Equal)
words_cmp-equal xs ys =
    let ties : words_eq xs ys ≡ is_eq (words_cmp xs ys) = lists_ties (slice_cmp nat_cmp) texts_ties xs ys in
    let same = pointwise_decides bytes_decides xs ys in
    (λ e. same.0 (ties ∙ ap is_eq e), λ e. (Equal-is (words_cmp xs ys)).0 (sym ties ∙ same.1 e))

-- so are names and entity types, whatever their places
pub internal_cmp-equal : (a b : InternalName) → (internal_cmp a b ≡ Equal → components a ≡ components b) × (components a ≡ components b → internal_cmp a b ≡ Equal)
internal_cmp-equal a b = words_cmp-equal (components a) (components b)

pub name_cmp-equal : (a b : Name) → (name_cmp a b ≡ Equal → name_words a ≡ name_words b) × (name_words a ≡ name_words b → name_cmp a b ≡ Equal)
name_cmp-equal a b = words_cmp-equal (name_words a) (name_words b)

pub entity_cmp-equal : (a b : EntityType) → (entity_cmp a b ≡ Equal → entity_words a ≡ entity_words b) × (entity_words a ≡ entity_words b → entity_cmp a b ≡ Equal)
entity_cmp-equal a b = words_cmp-equal (entity_words a) (entity_words b)

-- whether component lists are tied is whether they are the same
pub words_cmp-ties : (xs ys : List (List ℕ)) → is_eq (words_cmp xs ys) ≡ words_eq xs ys
words_cmp-ties xs ys = sym (lists_ties (slice_cmp nat_cmp) texts_ties xs ys)

-- and they are the same where the test says so
pub words_eq-decides : (xs ys : List (List ℕ)) → (words_eq xs ys ≡ true → xs ≡ ys) × (xs ≡ ys → words_eq xs ys ≡ true)
words_eq-decides xs ys = pointwise_decides bytes_decides xs ys

-- all of these, for a function that uses them
pub ruleset name_order = (words_cmp-equal, internal_cmp-equal, name_cmp-equal, entity_cmp-equal, words_cmp-ties, words_eq-decides)
