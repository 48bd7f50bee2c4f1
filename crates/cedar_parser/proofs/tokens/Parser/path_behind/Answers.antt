-- SPDX-License-Identifier: Apache-2.0
use Rattle.std.proofs.Common.{arith}
use Rattle.std.proofs.lemmas.Result.{err_from_is_err_and}
use Rattle.cedar_names.specs.Identifiers.{id_word}
use Rattle.cedar_tree.specs.Meanings.{node_of}
use Rattle.cedar_parser.specs.Giving.{tokens_of}
use Rattle.cedar_parser.specs.Ids.{ids_path}
use Rattle.cedar_parser.proofs.Chains.{path_start, path_more, path_fault, path_end}
use Rattle.cedar_parser.proofs.Faults.{fault_along, fewer_tokens}
use Rattle.cedar_parser.proofs.tokens.Parser.path_behind.Goals as goal

pub ids-init : goal.ids-init
ids-init c = rw c.of-ids.ensures record { fewer = omega arith; is = path_start (node_of id_word c.args.first) (tokens_of c.args.self.now.source.now c.args.tokens.now.rest.now) }

pub returns-in_err-id-clause-read : goal.returns-in_err-id-clause-read
returns-in_err-id-clause-read c =
    let p = err_from_is_err_and c.from_residual.result c.from_residual.ensures.1 in
    rw (p.1, p.2)
    (fault_along c.in_err-id.field-0.0 _ _
    (λ n e. path_fault (node_of id_word c.args.first) _ (ids_path c.ids.ids) (tokens_of c.args.self.now.source.now c.ids.tokens.rest.now) _ _ n c.ids.invariant.is c.in-Some.ensures.read e)
    c.in_err-id.ensures.read)

pub ids-preserved : goal.ids-preserved
ids-preserved c =
    let text = c.args.self.now.source.now in
    rw c.in_ok-extend.ensures
    record {
      fewer = omega (arith, c.in_ok-id.ensures.shorter, c.in-Some.ensures.shorter, c.ids.invariant.fewer);
      is = path_more (node_of id_word c.args.first) _ (ids_path c.ids.ids) (tokens_of text c.ids.tokens.rest.now) _ _ (node_of id_word c.in_ok-id.id) _ c.ids.invariant.is
          (fewer_tokens text _ _ (omega (arith, c.in_ok-id.ensures.shorter, c.in-Some.ensures.shorter))) c.in-Some.ensures.read c.in_ok-id.ensures.read;
    }

pub returns-clause-read : goal.returns-clause-read
returns-clause-read c =
    rw (c.in_default.ensures.kept, c.into_path.ensures)
    (path_end (node_of id_word c.args.first) _ (ids_path c.ids.ids) (tokens_of c.args.self.now.source.now c.ids.tokens.rest.now) c.ids.invariant.is c.in_default.ensures.read)
