-- SPDX-License-Identifier: Apache-2.0
use Rattle.std.proofs.Common.{◌<◌, arith, map, [], ◌∷◌, suc, length, ap, sym, subst, ◌∙◌}
use Rattle.std.proofs.lemmas.List.{map-append}
use Rattle.std.proofs.lemmas.Result.{err_from_is_err_and}
use Rattle.cedar_tree.specs.Meanings.{annotated_tree, namespace_tree}
use Rattle.cedar_parser.specs.Giving.{tokens_of}
use Rattle.cedar_parser.proofs.Items.{ItemsReached, items_end, items_none, items_more, some_tokens, no_tokens}
use Rattle.cedar_parser.proofs.Faults.{fault_along, fewer_tokens, tokens-length}
use Rattle.cedar_parser.proofs.tokens.Parser.schema.Goals as goal

pub returns : goal.returns
returns c =
    let text = c.args.self.now.source.now in
    let start = tokens_of text c.args.tokens.now.rest.now in
    let here = tokens_of text c.items.tokens.rest.now in
    items_end start _ here c.items.invariant.is (no_tokens text c.items.tokens.rest.now c.is_empty.result c.is_empty.ensures c.items-test.false)

pub returns-in_err-item : goal.returns-in_err-item
returns-in_err-item c =
    let text = c.args.self.now.source.now in
    let start = tokens_of text c.args.tokens.now.rest.now in
    let here = tokens_of text c.items.tokens.rest.now in
    let some = some_tokens text c.items.tokens.rest.now c.is_empty.result c.is_empty.ensures c.items-test.true in
    let within : length c.items.tokens.rest.now < suc (length start) = omega (arith, c.items.invariant.fewer, tokens-length text c.args.tokens.now.rest.now) in
    let p = err_from_is_err_and c.from_residual.result c.from_residual.ensures.1 in
    rw (p.1, p.2)
    (fault_along c.in_err-item.field-0.0 _ _
    (λ left e. items_none start _ here c.items.invariant.is some left e)
    (c.in_err-item.ensures.read (suc (length start)) within))

pub items-preserved : goal.items-preserved
items-preserved c =
    let text = c.args.self.now.source.now in
    let start = tokens_of text c.args.tokens.now.rest.now in
    let here = tokens_of text c.items.tokens.rest.now in
    let tree = annotated_tree namespace_tree in
    let rest = tokens_of text c.annotated_item.new.tokens.rest.now in
    let some = some_tokens text c.items.tokens.rest.now c.is_empty.result c.is_empty.ensures c.items-test.true in
    let within : length c.items.tokens.rest.now < suc (length start) = omega (arith, c.items.invariant.fewer, tokens-length text c.args.tokens.now.rest.now) in
    let all = sym (map-append tree c.items.items (c.in_ok-item.item ∷ [])) ∙ ap (λ xs. map tree xs) (sym c.in_ok-push.ensures.ok) in
    record {
      fewer = omega (arith, c.in_ok-item.ensures.shorter, c.items.invariant.fewer);
      is = subst (λ xs. ItemsReached start xs rest) all
          (items_more start _ here c.items.invariant.is some (tree c.in_ok-item.item) rest (fewer_tokens text _ _ c.in_ok-item.ensures.shorter) (c.in_ok-item.ensures.read (suc (length start)) within));
    }
