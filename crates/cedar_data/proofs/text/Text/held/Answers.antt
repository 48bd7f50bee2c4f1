-- SPDX-License-Identifier: Apache-2.0
use Rattle.std.specs.Rc.{rc_str_bytes}
use Rattle.cedar_data.proofs.Fronts.{held_text-is, opened, IsFront-held}
use Rattle.cedar_data.proofs.text.Text.held.Goals as goal

pub invariant_of-result : goal.invariant_of-result
invariant_of-result c = IsFront-held c.front_of.result c.args.s.now (rc_str_bytes c.args.shared) c.front_of.ensures c.requires

pub returns : goal.returns
returns c = held_text-is (rc_str_bytes c.args.shared) (opened c.front_of.ensures) c.requires
