-- SPDX-License-Identifier: Apache-2.0
-- Whether an object has members.
use Rattle.std.proofs.Common.{◌≡◌, ◌↔◌, ℕ, length, arith, List, [], ◌∷◌, Bool, true, false, not, IsTrue, Some, refl, sym, ap}
use Rattle.serde_json.specs.View.{members_view}
use Rattle.cedar_json_types.proofs.MemberLoops.{Member}
use Rattle.cedar_json_namespaces.specs.Namespaces.{has_members}

some_true : IsTrue false → ⊥
some_true is = absurd (cc)

none_left : (es : List Member) → length es ≡ 0 → es ≡ []
none_left [] is = refl
none_left (e ∷ es) is = absurd (omega (arith, is))

pub has_some : (empty : Bool) (es : List Member) → (IsTrue empty ↔ (length es ≡ 0)) → not empty ≡ has_members (Some (members_view es))
has_some true es is = ap (λ es. has_members (Some (members_view es))) (sym (none_left es (is.0 refl)))
has_some false [] is = absurd (some_true (is.1 refl))
has_some false (e ∷ es) is = refl
