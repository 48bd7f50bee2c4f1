-- SPDX-License-Identifier: Apache-2.0
use Rattle.std.proofs.Common.{arith}
use Rattle.std.proofs.lemmas.Result.{err_from_is_err_and}
use Rattle.cedar_names.specs.Annotating.{annotation_entries}
use Rattle.cedar_parser.specs.Giving.{tokens_of}
use Rattle.cedar_parser.proofs.Noting.{noted_start, noted_fault, noted_end, noted_more}
use Rattle.cedar_parser.proofs.Faults.{fault_along, fewer_tokens}
use Rattle.cedar_parser.proofs.tokens.Parser.annotations.Goals as goal

pub annotations-init : goal.annotations-init
annotations-init c = rw (c.new-found.ensures, c.new-keys.ensures) record { fewer = omega arith; is = noted_start (tokens_of c.args.self.now.source.now c.args.tokens.now.rest.now) }

pub returns-in_err-key-clause-read : goal.returns-in_err-key-clause-read
returns-in_err-key-clause-read c =
    let noted = c.annotations.invariant.is in
    let p = err_from_is_err_and c.from_residual.result c.from_residual.ensures.1 in
    rw (p.1, p.2)
    (fault_along c.in_err-key.field-0.0 _ _
    (λ n e. noted_fault _ c.annotations.keys (annotation_entries c.annotations.found) (tokens_of c.args.self.now.source.now c.annotations.tokens.rest.now) _ _ n noted c.in-Some.ensures.read e)
    (c.in_err-key.ensures.read noted.before noted.have))

pub annotations-preserved : goal.annotations-preserved
annotations-preserved c =
    let text = c.args.self.now.source.now in
    let noted = c.annotations.invariant.is in
    record {
      fewer = omega (arith, c.in_ok-key.ensures.shorter, c.in-Some.ensures.shorter, c.annotations.invariant.fewer);
      is = noted_more _ c.annotations.keys _ (annotation_entries c.annotations.found) _ (tokens_of text c.annotations.tokens.rest.now) _ _ c.in_ok-key.key c.in_ok-key.annotation _ noted
          (fewer_tokens text _ _ (omega (arith, c.in_ok-key.ensures.shorter, c.in-Some.ensures.shorter))) c.in-Some.ensures.read (c.in_ok-key.ensures.read noted.before noted.have) c.in_ok-note.ensures.keys c.in_ok-note.ensures.found;
    }

pub returns-clause-read : goal.returns-clause-read
returns-clause-read c =
    rw c.in_default.ensures.kept
    (noted_end _ c.annotations.keys (annotation_entries c.annotations.found) (tokens_of c.args.self.now.source.now c.annotations.tokens.rest.now) c.annotations.invariant.is c.in_default.ensures.read)
