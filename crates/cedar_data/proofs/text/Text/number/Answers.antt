-- SPDX-License-Identifier: Apache-2.0
use Rattle.std.proofs.Common.{ap, ◌∙◌, List, ℕ}
use Rattle.std.specs.Int.{w64, from_be_bytes}
use Rattle.cedar_data.proofs.Fronts.{front_of-is, opened}
use Rattle.cedar_data.proofs.text.Text.number.Goals as goal

pub returns : goal.returns
returns c =
    let is = opened (rw c.self.view_is at c.self.invariant) in
    let same = c.from_be_bytes.ensures ∙ ap (λ (bytes : List ℕ). from_be_bytes w64 bytes) is.number ∙ front_of-is c.args.self.now is.bytes in
    record { number = same; bytes = is.bytes }
