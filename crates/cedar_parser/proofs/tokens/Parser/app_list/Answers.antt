-- SPDX-License-Identifier: Apache-2.0
use Rattle.std.proofs.Common.{◌<◌, arith, [], ◌∷◌, length}
use Rattle.std.proofs.lemmas.List.{map-append}
use Rattle.std.proofs.lemmas.Result.{err_from_is_err_and}
use Rattle.cedar_tree.specs.Meanings.{node_of, app_tree}
use Rattle.cedar_grammar.specs.Reading.{app_at, type_at}
use Rattle.cedar_parser.specs.Giving.{tokens_of}
use Rattle.cedar_parser.proofs.Braces.{brace_none, brace_unclosed, brace_last, brace_trailing, brace_more}
use Rattle.cedar_parser.proofs.Faults.{fault_along, fewer_tokens}
use Rattle.cedar_parser.proofs.tokens.Parser.app_list.Goals as goal

pub returns-in_err-app-clause-read : goal.returns-in_err-app-clause-read
returns-in_err-app-clause-read c n enough =
    let text = c.args.self.now.source.now in
    let p = err_from_is_err_and c.from_residual-in_err-app.result c.from_residual-in_err-app.ensures.1 in
    rw (p.1, p.2)
    (fault_along c.in_err-app.field-0.0 _ _
    (λ left e. brace_none (app_at (type_at n)) _ _ (tokens_of text c.apps.tokens.rest.now) (c.apps.invariant.is n enough) left e)
    (c.in_err-app.ensures.read n (omega (arith, enough, c.apps.invariant.fewer))))

pub returns-in_err-closing-clause-read : goal.returns-in_err-closing-clause-read
returns-in_err-closing-clause-read c n enough =
    let text = c.args.self.now.source.now in
    let within : length c.apps.tokens.rest.now < n = omega (arith, enough, c.apps.invariant.fewer) in
    let p = err_from_is_err_and c.from_residual-in_err-closing.result c.from_residual-in_err-closing.ensures.1 in
    let fault = rw c.in-None.ensures.kept at c.in_err-closing.ensures.read in
    rw (p.1, p.2)
    (fault_along c.in_err-closing.field-0.0 _ _
    (λ left e. brace_unclosed (app_at (type_at n)) _ _ (tokens_of text c.apps.tokens.rest.now) (c.apps.invariant.is n enough) _ _ (c.in_ok-app.ensures.read n within) left c.in-None.ensures.read e)
    fault)

pub returns-in-None-clause-read : goal.returns-in-None-clause-read
returns-in-None-clause-read c n enough =
    let text = c.args.self.now.source.now in
    let within : length c.apps.tokens.rest.now < n = omega (arith, enough, c.apps.invariant.fewer) in
    let closing = rw c.in-None.ensures.kept at c.in_ok-closing.ensures.read in
    rw (c.in_ok-push.ensures.ok, map-append (node_of app_tree) c.apps.apps (c.in_ok-app.app ∷ []))
    (brace_last (app_at (type_at n)) _ _ (tokens_of text c.apps.tokens.rest.now) (c.apps.invariant.is n enough) _ _ (c.in_ok-app.ensures.read n within) _ _ c.in-None.ensures.read closing)

pub returns-in-Some-clause-read : goal.returns-in-Some-clause-read
returns-in-Some-clause-read c n enough =
    let text = c.args.self.now.source.now in
    let within : length c.apps.tokens.rest.now < n = omega (arith, enough, c.apps.invariant.fewer) in
    rw (c.in_ok-push.ensures.ok, map-append (node_of app_tree) c.apps.apps (c.in_ok-app.app ∷ []))
    (brace_trailing (app_at (type_at n)) _ _ (tokens_of text c.apps.tokens.rest.now) (c.apps.invariant.is n enough) _ _ (c.in_ok-app.ensures.read n within) _ _ c.in_default.ensures.read _ _ c.in-Some.ensures.read)

pub apps-preserved : goal.apps-preserved
apps-preserved c =
    let text = c.args.self.now.source.now in
    rw (c.in_ok-push.ensures.ok, map-append (node_of app_tree) c.apps.apps (c.in_ok-app.app ∷ []), c.in_default-accept_mark.ensures.kept)
    record {
      fewer = omega (arith, c.in_ok-app.ensures.shorter, c.in_default.ensures.shorter, c.apps.invariant.fewer);
      is = λ n enough.
          brace_more (app_at (type_at n)) _ _ (tokens_of text c.apps.tokens.rest.now) (c.apps.invariant.is n enough) _ _ (c.in_ok-app.ensures.read n (omega (arith, enough, c.apps.invariant.fewer))) _ _ c.in_default.ensures.read
          (fewer_tokens text _ _ (omega (arith, c.in_ok-app.ensures.shorter, c.in_default.ensures.shorter))) c.in_default-accept_mark.ensures.read;
    }
