-- SPDX-License-Identifier: Apache-2.0
-- Checks that want no members, or no items.
use Rattle.std.proofs.Common.{◌≡◌, ◌≢◌, List, [], ◌∷◌, length, Ok, refl, arith}
use Rattle.serde_json.specs.View.{items_view, members_view}
use Rattle.serde_json.specs.declared.value.Value.{Value}
use Rattle.cedar_conform_fault.specs.Flaws.{enumerated_has_data, tags_not_allowed}
use Rattle.cedar_conform.specs.Checks.{here}
use Rattle.cedar_conform.specs.EntityChecks.{no_items_check, no_members_check, no_tags_check}
use Rattle.cedar_conform.proofs.Members.{Member}

pub no-members : (es : List Member) → length es ≡ 0 → no_members_check (members_view es) ≡ Ok tt
no-members [] is = refl
no-members (e ∷ es) is = absurd (omega (arith, is))

pub some-members : (es : List Member) → length es ≢ 0 → no_members_check (members_view es) ≡ here enumerated_has_data
some-members [] is = absurd (is refl)
some-members (e ∷ es) is = refl

pub no-items : (es : List Value) → length es ≡ 0 → no_items_check (items_view es) ≡ Ok tt
no-items [] is = refl
no-items (e ∷ es) is = absurd (omega (arith, is))

pub some-items : (es : List Value) → length es ≢ 0 → no_items_check (items_view es) ≡ here enumerated_has_data
some-items [] is = absurd (is refl)
some-items (e ∷ es) is = refl

pub no-tags : (es : List Member) → length es ≡ 0 → no_tags_check (members_view es) ≡ Ok tt
no-tags [] is = refl
no-tags (e ∷ es) is = absurd (omega (arith, is))

pub some-tags : (es : List Member) → length es ≢ 0 → no_tags_check (members_view es) ≡ here tags_not_allowed
some-tags [] is = absurd (is refl)
some-tags (e ∷ es) is = refl

pub ruleset empty = (no-members, some-members, no-items, some-items, no-tags, some-tags)
