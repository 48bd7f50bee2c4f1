-- SPDX-License-Identifier: Apache-2.0
use Rattle.std.proofs.Common.{◌<◌, arith, [], ◌∷◌, length}
use Rattle.std.proofs.lemmas.List.{map-append}
use Rattle.std.proofs.lemmas.Result.{err_from_is_err_and}
use Rattle.cedar_tree.specs.Meanings.{attr_node, attr_tree}
use Rattle.cedar_grammar.specs.Reading.{attr_at, type_at}
use Rattle.cedar_parser.specs.Giving.{tokens_of}
use Rattle.cedar_parser.proofs.Braces.{brace_none, brace_unclosed, brace_last, brace_trailing, brace_more}
use Rattle.cedar_parser.proofs.Faults.{fault_along, fewer_tokens}
use Rattle.cedar_parser.proofs.tokens.Parser.+parser.Goals as goal

pub attributes-returns-in_err-attr-clause-read : goal.attributes-returns-in_err-attr-clause-read
attributes-returns-in_err-attr-clause-read t c n enough =
    let text = c.args.self.now.source.now in
    let p = err_from_is_err_and c.from_residual.result c.from_residual.ensures.1 in
    rw (p.1, p.2)
    (fault_along c.in_err-attr.field-0.0 _ _
    (λ left e. brace_none (attr_at (type_at n)) _ _ (tokens_of text c.attributes.tokens.rest.now) (c.attributes.invariant.is n enough) left e)
    (c.in_err-attr.ensures.read n (omega (arith, enough, c.attributes.invariant.fewer))))

pub attributes-returns-in_err-closing-clause-read : goal.attributes-returns-in_err-closing-clause-read
attributes-returns-in_err-closing-clause-read t c n enough =
    let text = c.args.self.now.source.now in
    let within : length c.attributes.tokens.rest.now < n = omega (arith, enough, c.attributes.invariant.fewer) in
    let p = err_from_is_err_and c.from_residual-in_err-closing.result c.from_residual-in_err-closing.ensures.1 in
    let fault = rw c.in-None.ensures.kept at c.in_err-closing.ensures.read in
    rw (p.1, p.2)
    (fault_along c.in_err-closing.field-0.0 _ _
    (λ left e. brace_unclosed (attr_at (type_at n)) _ _ (tokens_of text c.attributes.tokens.rest.now) (c.attributes.invariant.is n enough) _ _ (c.in_ok-attr.ensures.read n within) left c.in-None.ensures.read e)
    fault)

pub attributes-returns-in-None-clause-read : goal.attributes-returns-in-None-clause-read
attributes-returns-in-None-clause-read t c n enough =
    let text = c.args.self.now.source.now in
    let within : length c.attributes.tokens.rest.now < n = omega (arith, enough, c.attributes.invariant.fewer) in
    let closing = rw c.in-None.ensures.kept at c.in_ok-closing.ensures.read in
    rw (c.in_ok-push.ensures.ok, map-append (attr_node attr_tree) c.attributes.attrs (c.in_ok-attr.attr ∷ []))
    (brace_last (attr_at (type_at n)) _ _ (tokens_of text c.attributes.tokens.rest.now) (c.attributes.invariant.is n enough) _ _ (c.in_ok-attr.ensures.read n within) _ _ c.in-None.ensures.read closing)

pub attributes-returns-in-Some-clause-read : goal.attributes-returns-in-Some-clause-read
attributes-returns-in-Some-clause-read t c n enough =
    let text = c.args.self.now.source.now in
    let within : length c.attributes.tokens.rest.now < n = omega (arith, enough, c.attributes.invariant.fewer) in
    rw (c.in_ok-push.ensures.ok, map-append (attr_node attr_tree) c.attributes.attrs (c.in_ok-attr.attr ∷ []))
    (brace_trailing (attr_at (type_at n)) _ _ (tokens_of text c.attributes.tokens.rest.now) (c.attributes.invariant.is n enough) _ _ (c.in_ok-attr.ensures.read n within) _ _ c.in_default.ensures.read _ _ c.in-Some.ensures.read)

pub attributes-attributes-preserved : goal.attributes-attributes-preserved
attributes-attributes-preserved t c =
    let text = c.args.self.now.source.now in
    rw (c.in_ok-push.ensures.ok, map-append (attr_node attr_tree) c.attributes.attrs (c.in_ok-attr.attr ∷ []), c.in_default-accept_mark.ensures.kept)
    record {
      fewer = omega (arith, c.in_ok-attr.ensures.shorter, c.in_default.ensures.shorter, c.attributes.invariant.fewer);
      is = λ n enough.
          brace_more (attr_at (type_at n)) _ _ (tokens_of text c.attributes.tokens.rest.now) (c.attributes.invariant.is n enough) _ _ (c.in_ok-attr.ensures.read n (omega (arith, enough, c.attributes.invariant.fewer))) _ _ c.in_default.ensures.read
          (fewer_tokens text _ _ (omega (arith, c.in_ok-attr.ensures.shorter, c.in_default.ensures.shorter))) c.in_default-accept_mark.ensures.read;
    }
