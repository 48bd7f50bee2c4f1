-- SPDX-License-Identifier: Apache-2.0
use Rattle.std.proofs.Common.{rules, ◌≡◌, get_or, ap, sym, ◌∙◌}
use Rattle.std.specs.Ordering.{is_eq}
use Rattle.cedar_closure.proofs.PlaceLemmas.{place-of}
use Rattle.cedar_closure.proofs.key_graph.stands_at.Goals as goal

pub returns-in-Some : goal.returns-in-Some
returns-in-Some g c equal =
    let cmp = g.K.Ord.cmp in
    let keys = c.args.keys.now in
    let key = c.args.key.now in
    let other = c.in-Some.other.now in
    let there : other ≡ get_or keys c.args.at other = search rules in
    place-of g.met.K.Ord.total keys key c.args.at other c.requires (search rules)
    (ap (λ k. is_eq (cmp k key)) (sym there) ∙ ap is_eq (sym c.cmp.ensures) ∙ sym c.is_eq.ensures ∙ equal)
