-- SPDX-License-Identifier: Apache-2.0
use Rattle.std.proofs.Common.{◌∙◌, ◌<◌, ◌≡◌, sym, ltb-true, true, length, arith, rules}
use Rattle.cedar_data.proofs.Fronts.{opened, HasFront-length, HasFront-short}
use Rattle.cedar_data.proofs.text.Text.as_str.Goals as goal

pub shared_ref_as_front-from_utf8_unchecked : goal.shared_ref_as_front-from_utf8_unchecked
shared_ref_as_front-from_utf8_unchecked c = omega (arith, HasFront-length (opened c.self.invariant))

pub from_utf8_unchecked-requires : goal.from_utf8_unchecked-requires
from_utf8_unchecked-requires c =
    let is = opened (rw c.self.view_is at c.self.invariant) in
    let yes : c.is_short.result ≡ true = search rules in
    let short : length c.args.self.now < 8 = ltb-true (length c.args.self.now) 8 (sym c.is_short.ensures ∙ yes) in
    rw (HasFront-short is short) is.valid

pub returns : goal.returns
returns c =
    let is = opened (rw c.self.view_is at c.self.invariant) in
    let yes : c.is_short.result ≡ true = search rules in
    let short : length c.args.self.now < 8 = ltb-true (length c.args.self.now) 8 (sym c.is_short.ensures ∙ yes) in
    c.from_utf8_unchecked.ensures ∙ HasFront-short is short
