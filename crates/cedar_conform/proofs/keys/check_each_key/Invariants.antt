-- SPDX-License-Identifier: Apache-2.0
use Rattle.cedar_conform.specs.Checks.{key_check}
use Rattle.cedar_conform.specs.Keys.{keys_of}
use Rattle.cedar_conform.proofs.Members.{PassesMembers}
use Rattle.cedar_conform.proofs.keys.check_each_key.Given as goal

-- the keys so far may be there
abbrev pub invariant-loop-key : goal.invariant-loop-key
invariant-loop-key l = PassesMembers (λ k d. key_check (keys_of l.keyed) k) l.members.entries l.key-iterator
