-- SPDX-License-Identifier: Apache-2.0
use Rattle.std.proofs.Common.{◌<◌, arith, map, [], ◌∷◌, length, ap, sym, ◌∙◌}
use Rattle.std.proofs.lemmas.List.{map-append}
use Rattle.std.proofs.lemmas.Result.{err_from_is_err_and}
use Rattle.cedar_tree.specs.Meanings.{node_of, annotated_tree, decl_tree, path_tree}
use Rattle.cedar_grammar.specs.Reading.{type_at}
use Rattle.cedar_parser.specs.Giving.{tokens_of, lexeme_node}
use Rattle.cedar_parser.proofs.Items.{decls_start, decls_end, decls_none, decls_more, decls_as}
use Rattle.cedar_parser.proofs.Faults.{fault_along, fewer_tokens}
use Rattle.cedar_parser.proofs.tokens.Parser.namespace_body.Goals as goal

pub decls-init : goal.decls-init
decls-init c =
    let start = tokens_of c.args.self.now.source.now c.args.tokens.now.rest.now in
    record {
      fewer = omega arith;
      is = λ n enough. decls_as (type_at n) start _ _ (ap (λ ds. map (annotated_tree (node_of decl_tree)) ds) (sym c.new-decls.ensures)) (decls_start (type_at n) start);
    }

pub returns-in-Some-clause-read : goal.returns-in-Some-clause-read
returns-in-Some-clause-read c n enough =
    let text = c.args.self.now.source.now in
    let start = tokens_of text c.args.tokens.now.rest.now in
    let here = tokens_of text c.decls.tokens.rest.now in
    rw c.in_ok-namespace_of.ensures
    (decls_end (type_at n) start _ here (c.decls.invariant.is n enough) (lexeme_node text c.args.keyword) (path_tree c.args.name) _ _ c.in-Some.ensures.read)

pub returns-in_err-decl-clause-read : goal.returns-in_err-decl-clause-read
returns-in_err-decl-clause-read c n enough =
    let text = c.args.self.now.source.now in
    let start = tokens_of text c.args.tokens.now.rest.now in
    let here = tokens_of text c.decls.tokens.rest.now in
    let within : length c.decls.tokens.rest.now < n = omega (arith, enough, c.decls.invariant.fewer) in
    let p = err_from_is_err_and c.from_residual-in_err-decl.result c.from_residual-in_err-decl.ensures.1 in
    let fault = rw c.in_default.ensures.kept at c.in_err-decl.ensures.read in
    rw (p.1, p.2)
    (fault_along c.in_err-decl.field-0.0 _ _
    (λ left e. decls_none (type_at n) start _ here (c.decls.invariant.is n enough) c.in_default.ensures.read (lexeme_node text c.args.keyword) (path_tree c.args.name) left e)
    (fault n within))

pub decls-preserved : goal.decls-preserved
decls-preserved c =
    let text = c.args.self.now.source.now in
    let start = tokens_of text c.args.tokens.now.rest.now in
    let here = tokens_of text c.decls.tokens.rest.now in
    let tree = annotated_tree (node_of decl_tree) in
    let all = sym (map-append tree c.decls.decls (c.in_ok-decl.decl ∷ [])) ∙ ap (λ ds. map tree ds) (sym c.in_ok-push.ensures.ok) in
    let shorter = rw c.in_default.ensures.kept at c.in_ok-decl.ensures.shorter in
    let read = rw c.in_default.ensures.kept at c.in_ok-decl.ensures.read in
    record {
      fewer = omega (arith, shorter, c.decls.invariant.fewer);
      is = λ n enough.
          decls_as (type_at n) start _ _ all
          (decls_more (type_at n) start _ here (c.decls.invariant.is n enough) c.in_default.ensures.read (tree c.in_ok-decl.decl) _ (fewer_tokens text _ _ shorter) (read n (omega (arith, enough, c.decls.invariant.fewer))));
    }
