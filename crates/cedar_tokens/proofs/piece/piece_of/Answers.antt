-- SPDX-License-Identifier: Apache-2.0
use Rattle.std.proofs.Common.{sym, subst, ◌∙◌}
use Rattle.cedar_tokens.specs.Pieces.{CutsAt}
use Rattle.cedar_tokens.proofs.Cuts.{piece_from_cuts}
use Rattle.cedar_tokens.proofs.piece.piece_of.Goals as goal

pub returns-clause-cut : goal.returns-clause-cut
returns-clause-cut c =
    subst (λ p. CutsAt p c.args.text.now) (sym c.piece_from.ensures)
    (piece_from_cuts c.args.text.now c.next.new.self.rest.now c.in-Some.first c.utf8.text (sym c.chars-chars.ensures.rest ∙ c.in-Some.ensures.steps.0))
