-- SPDX-License-Identifier: Apache-2.0
use Rattle.std.proofs.Common.{◌≡◌, None, arith, rules}
use Rattle.cedar_text.proofs.LiteralLemmas.{broken_within}
use Rattle.cedar_text.specs.Literals.{scan_items}
use Rattle.cedar_text.specs.declared.literal.Scan.TheVariants.{Broken}
use Rattle.cedar_text.proofs.literal.read_literal.Goals as goal

pub overflow_add-at : goal.overflow_add-at
overflow_add-at c =
    let broken : scan_items 0 None c.args.inner.now ≡ Broken c.in-Broken.n = search rules in
    let within = broken_within c.args.inner.now c.in-Broken.n broken in
    omega (arith, c.requires)
