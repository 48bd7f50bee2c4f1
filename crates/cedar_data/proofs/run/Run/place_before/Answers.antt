-- SPDX-License-Identifier: Apache-2.0
use Rattle.std.proofs.Common.{arith, sym, ◌∙◌, subst, slice_get, ◌≡◌}
use Rattle.cedar_data.specs.Places.{compared}
use Rattle.std.specs.declared.cmp.Ordering.TheVariants.{Greater}
use Rattle.cedar_data.proofs.Nearby.{StandsAt-compared, BelongsAt-first, BelongsAt-between}
use Rattle.cedar_data.proofs.run.Run.place_before.Goals as goal

pub returns-then-near-eq0-clause-missing : goal.returns-then-near-eq0-clause-missing
returns-then-near-eq0-clause-missing g c =
    BelongsAt-first g.met.K.Ord.total c.args.key.now c.args.self.now c.requires.ordered
    (subst (λ n. compared g.K.Ord.cmp c.args.key.now (slice_get c.args.self.now n) ≡ Greater) c.if-near-eq0.true c.requires.greater)

pub returns-in-Less-clause-missing : goal.returns-in-Less-clause-missing
returns-in-Less-clause-missing g c =
    BelongsAt-between g.met.K.Ord.total c.args.key.now c.args.self.now _ c.args.near c.requires.ordered c.requires.within (search arith) (sym c.compared.ensures ∙ c.in-Less.is) c.requires.greater

pub returns-in-Equal-clause-found : goal.returns-in-Equal-clause-found
returns-in-Equal-clause-found g c =
    StandsAt-compared g.met.K.Ord.total c.args.key.now c.args.self.now _ c.requires.ordered (sym c.compared.ensures ∙ c.in-Equal.is)
