-- SPDX-License-Identifier: Apache-2.0
-- Actions as parents, which are the same where types and ids are.
use Rattle.std.proofs.Common.{◌≡◌, ℕ, List, Option, ◌||◌, is_some, IsTrue, subst}
use Rattle.std.proofs.Props.{props}
use Rattle.cedar_written.specs.declared.ref_name.RefName as ref_name
use Rattle.cedar_fragment.specs.declared.action_uid.ActionEntityUID.{ActionEntityUID}

module _ {N : Type 0} (R : ref_name.Ghosts N) where
  -- what is known of the type
  abbrev Typed : Option N → Type 0
  Typed ty = IsTrue (R.may_lack_type || is_some ty)

  -- actions of one type and id are one action
  pub uid-same : (ty ty' : Option N) (id id' : List ℕ) (t : Typed ty) (t' : Typed ty') → ty ≡ ty' → id ≡ id' → ◌≡◌ {A = ActionEntityUID N R} record { ty = ty; id = id; typed = t } record { ty = ty'; id = id'; typed = t' }
  uid-same ty ty' id id' t t' types ids =
      subst (λ (x : Option N). (u : Typed x) → ◌≡◌ {A = ActionEntityUID N R} record { ty = ty; id = id; typed = t } record { ty = x; id = id'; typed = u }) types
      (λ u. let p : IsProp (Typed ty) = hlevel props in λ i. record { ty = ty; id = ids i; typed = p t u i }) t'
