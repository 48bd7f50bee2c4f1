-- SPDX-License-Identifier: Apache-2.0
use Rattle.std.proofs.Common.{rules, arith}
use Rattle.cedar_data.proofs.Nearby.{IsRunOf-begins}
use Rattle.cedar_data.proofs.near.run_near.Goals as goal

pub returns-then-not-begins-clause-of : goal.returns-then-not-begins-clause-of
returns-then-not-begins-clause-of g c =
    IsRunOf-begins g.met.K.Ord.total c.args.key.now c.args.runs.now c.requires c.args.near (search arith) (search rules) (λ within. search rules)
