-- SPDX-License-Identifier: Apache-2.0
use Rattle.std.proofs.Common.{arith}
use Rattle.std.proofs.lemmas.Result.{err_from_is_err_and}
use Rattle.cedar_names.specs.Identifiers.{id_word}
use Rattle.cedar_tree.specs.Meanings.{node_of}
use Rattle.cedar_parser.specs.Giving.{tokens_of}
use Rattle.cedar_parser.specs.Ids.{ids_path}
use Rattle.cedar_parser.proofs.Chains.{reference_start, reference_more, reference_fault, reference_unclosed, reference_end}
use Rattle.cedar_parser.proofs.Faults.{fault_along, fewer_tokens}
use Rattle.cedar_parser.proofs.tokens.Parser.qualified.Goals as goal

pub ids-init : goal.ids-init
ids-init c = rw c.of-ids.ensures record { fewer = omega arith; is = reference_start (node_of id_word c.args.first) (tokens_of c.args.self.now.source.now c.args.tokens.now.rest.now) }

pub returns-in-Some-clause-read : goal.returns-in-Some-clause-read
returns-in-Some-clause-read c =
    let literal = rw c.in-Some.is at c.in_ok-eid.ensures in
    rw c.in_ok-reference_of.ensures
    (reference_end (node_of id_word c.args.first) _ (ids_path c.ids.ids) (tokens_of c.args.self.now.source.now c.ids.tokens.rest.now) _ _ c.ids.invariant.is literal.read)

pub returns-in_err-id-clause-read : goal.returns-in_err-id-clause-read
returns-in_err-id-clause-read c =
    let literal = rw c.in_default.is at c.in_ok-eid.ensures in
    let p = err_from_is_err_and c.from_residual-in_err-id.result c.from_residual-in_err-id.ensures.1 in
    rw (p.1, p.2)
    (fault_along c.in_err-id.field-0.0 _ _
    (λ n e. reference_fault (node_of id_word c.args.first) _ (ids_path c.ids.ids) (tokens_of c.args.self.now.source.now c.ids.tokens.rest.now) n c.ids.invariant.is literal.read e)
    (rw literal.kept at c.in_err-id.ensures.read))

pub returns-in_err-expect_mark-clause-read : goal.returns-in_err-expect_mark-clause-read
returns-in_err-expect_mark-clause-read c =
    let literal = rw c.in_default.is at c.in_ok-eid.ensures in
    let p = err_from_is_err_and c.from_residual-in_err-expect_mark.result c.from_residual-in_err-expect_mark.ensures.1 in
    rw (p.1, p.2)
    (fault_along c.in_err-expect_mark.field-0.0 _ _
    (λ n e. reference_unclosed (node_of id_word c.args.first) _ (ids_path c.ids.ids) (tokens_of c.args.self.now.source.now c.ids.tokens.rest.now) _ _ n c.ids.invariant.is literal.read
    (rw literal.kept at c.in_ok-id.ensures.read) e)
    c.in_err-expect_mark.ensures.read)

pub ids-preserved : goal.ids-preserved
ids-preserved c =
    let text = c.args.self.now.source.now in
    let literal = rw c.in_default.is at c.in_ok-eid.ensures in
    let ident = rw literal.kept at c.in_ok-id.ensures in
    rw c.in_ok-extend.ensures
    record {
      fewer = omega (arith, ident.shorter, c.in_ok-expect_mark.ensures.shorter, c.ids.invariant.fewer);
      is = reference_more (node_of id_word c.args.first) _ (ids_path c.ids.ids) (tokens_of text c.ids.tokens.rest.now) (node_of id_word c.in_ok-id.id) _ _ _ c.ids.invariant.is
          (fewer_tokens text _ _ (omega (arith, ident.shorter, c.in_ok-expect_mark.ensures.shorter))) literal.read ident.read c.in_ok-expect_mark.ensures.read;
    }
