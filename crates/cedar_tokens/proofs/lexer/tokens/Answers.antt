-- SPDX-License-Identifier: Apache-2.0
use Rattle.std.proofs.Common.{sym, inr, refl, arith}
use Rattle.std.proofs.lemmas.List.{length-drop}
use Rattle.std.proofs.lemmas.Str.{IsUtf8-drop}
use Rattle.cedar_tokens.proofs.Lexed.{one_list, one_stray, not_both, reached_gap, reached_token, reached_end, reached_stray}
use Rattle.cedar_tokens.proofs.Placing.{placed, stray_placed}
use Rattle.cedar_tokens.proofs.Forms.{formed}
use Rattle.cedar_tokens.proofs.lexer.tokens.Goals as goal
use Rattle.cedar_tokens.proofs.lexer.tokens.Goals.{in-Gap, in-Token+in_ok-push-in-Token}

pub returns-in-End-clause-found : goal.returns-in-End-clause-found
returns-in-End-clause-found c = reached_end _ c.pieces.at c.pieces.rest.now _ c.pieces.invariant.1 (sym c.in-End.ensures.piece)

pub returns-in-End-clause-placed : goal.returns-in-End-clause-placed
returns-in-End-clause-placed c = placed c.args.text.now c.pieces.found.items c.utf8.text (reached_end _ c.pieces.at c.pieces.rest.now _ c.pieces.invariant.1 (sym c.in-End.ensures.piece))

pub returns-in-End-clause-formed : goal.returns-in-End-clause-formed
returns-in-End-clause-formed c = formed c.args.text.now c.pieces.found.items c.utf8.text (reached_end _ c.pieces.at c.pieces.rest.now _ c.pieces.invariant.1 (sym c.in-End.ensures.piece))

pub returns-in-End-clause-accepts : goal.returns-in-End-clause-accepts
returns-in-End-clause-accepts c ts h = one_list c.args.text.now c.pieces.found.items ts (reached_end _ c.pieces.at c.pieces.rest.now _ c.pieces.invariant.1 (sym c.in-End.ensures.piece)) h

pub returns-in-End-clause-refuses : goal.returns-in-End-clause-refuses
returns-in-End-clause-refuses c place h = not_both c.args.text.now c.pieces.found.items place (reached_end _ c.pieces.at c.pieces.rest.now _ c.pieces.invariant.1 (sym c.in-End.ensures.piece)) h

pub returns-in-Stray-clause-refused : goal.returns-in-Stray-clause-refused
returns-in-Stray-clause-refused c = reached_stray _ c.pieces.at c.pieces.rest.now _ c.pieces.invariant.1 (sym c.in-Stray.ensures.piece)

pub returns-in-Stray-clause-place : goal.returns-in-Stray-clause-place
returns-in-Stray-clause-place c = stray_placed c.args.text.now c.pieces.at c.utf8.text (reached_stray _ c.pieces.at c.pieces.rest.now _ c.pieces.invariant.1 (sym c.in-Stray.ensures.piece))

pub returns-in-Stray-clause-accepts : goal.returns-in-Stray-clause-accepts
returns-in-Stray-clause-accepts c ts h = absurd (not_both c.args.text.now ts c.pieces.at h (reached_stray _ c.pieces.at c.pieces.rest.now _ c.pieces.invariant.1 (sym c.in-Stray.ensures.piece)))

pub returns-in-Stray-clause-refuses : goal.returns-in-Stray-clause-refuses
returns-in-Stray-clause-refuses c place h =
    let same = one_stray c.args.text.now c.pieces.at place (reached_stray _ c.pieces.at c.pieces.rest.now _ c.pieces.invariant.1 (sym c.in-Stray.ensures.piece)) h in
    inr (rw same refl)

pub pieces-preserved : goal.pieces-preserved
pieces-preserved c =
    let rest = c.pieces.rest.now in
    let at = c.pieces.at in
    elim c.match-piece_of.branch [
      | in-Gap w ↦
          rw (c.split_at.ensures.back, w.found-is, w.len-is) (
            IsUtf8-drop rest w.in-Gap.len c.pieces.invariant.0 w.in-Gap.ensures.cut.1,
            reached_gap _ at rest _ w.in-Gap.len c.pieces.invariant.1 (sym w.in-Gap.ensures.piece),
            omega (arith, c.pieces.invariant.2, length-drop w.in-Gap.len rest, w.in-Gap.ensures.cut.1.0),
          )
      | in-Token+in_ok-push-in-Token w ↦
          rw (c.split_at.ensures.back, w.found-is, w.len-is, w.in_ok-push-in-Token.ensures.items) (
            IsUtf8-drop rest w.in-Token.len c.pieces.invariant.0 w.in-Token.ensures.cut.1,
            reached_token _ at rest _ w.in-Token.kind w.in-Token.len c.pieces.invariant.1 (sym w.in-Token.ensures.piece),
            omega (arith, c.pieces.invariant.2, length-drop w.in-Token.len rest, w.in-Token.ensures.cut.1.0),
          )
    ]
