-- SPDX-License-Identifier: Apache-2.0
use Rattle.std.proofs.Common.{refl, ap, sym, ◌∙◌, rules}
use Rattle.std.proofs.lemmas.Iterator.Adapters.{YieldsList-from_vec}
use Rattle.std.proofs.lemmas.Iterator.Consumers.{YieldsList-end}
use Rattle.std.proofs.lemmas.List.{map-id}
use Rattle.std.specs.BTreeMap.{is_at}
use Rattle.cedar_data.proofs.Build.{Builds-start, Builds-next}
use Rattle.cedar_data.specs.Maps.{map_of, last_value}
use Rattle.cedar_data.proofs.map.Map.from_pairs.Goals as goal

pub loop-key-init : goal.loop-key-init
loop-key-init g c = Builds-start g.K.Ord.cmp _ _ refl c.new-map.ensures

pub loop-key-preserved : goal.loop-key-preserved
loop-key-preserved g c =
    Builds-next g.met.K.Ord.total c.in-Some.key c.in-Some.value c.loop-key.invariant refl c.in_ok-put.ensures.ok c.in_ok-put.ensures.puts c.put.ensures.ordered

pub returns-clause-made : goal.returns-clause-made
returns-clause-made g c =
    let all = YieldsList-end (YieldsList-from_vec c.args.pairs.items (search rules) (search rules)) c.loop-key.yielded c.loop-key.key-iterator c.loop-key.yielded_by c.next.result c.next.new.self c.in-None.is c.next.ensures.steps in
    c.loop-key.invariant.is ∙ ap (map_of g.K.Ord.cmp) (sym (map-id c.loop-key.yielded) ∙ all.0)

pub returns-clause-values : goal.returns-clause-values
returns-clause-values g c =
    let all = YieldsList-end (YieldsList-from_vec c.args.pairs.items (search rules) (search rules)) c.loop-key.yielded c.loop-key.key-iterator c.loop-key.yielded_by c.next.result c.next.new.self c.in-None.is c.next.ensures.steps in
    λ key. c.loop-key.invariant.at key ∙ ap (last_value (is_at (g.K.Ord.cmp key))) (sym (map-id c.loop-key.yielded) ∙ all.0)
