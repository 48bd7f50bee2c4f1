-- SPDX-License-Identifier: Apache-2.0
use Rattle.cedar_conform.specs.Checks.{key_check}
use Rattle.cedar_conform.proofs.Members.{PassesMembers}
use Rattle.cedar_request.specs.Requests.{request_keys}
use Rattle.cedar_request.proofs.keys.check_each_key.Given as goal

-- the keys so far may be there
abbrev pub invariant-loop-key : goal.invariant-loop-key
invariant-loop-key l = PassesMembers (λ k d. key_check request_keys k) l.members.entries l.key-iterator
