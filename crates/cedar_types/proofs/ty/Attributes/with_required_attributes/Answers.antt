-- SPDX-License-Identifier: Apache-2.0
use Rattle.std.proofs.Common.{◌≡◌, ℕ, List, [], ◌∷◌, refl, ap, sym, ◌∙◌, rules}
use Rattle.std.proofs.lemmas.Iterator.Adapters.{YieldsList-from_vec}
use Rattle.std.proofs.lemmas.Iterator.Consumers.{YieldsList-end}
use Rattle.std.proofs.lemmas.List.{map-id}
use Rattle.std.specs.Cmp.Lexicographic.{slice_cmp, nat_list_cmp_total}
use Rattle.std.specs.Ordering.{nat_cmp}
use Rattle.cedar_closure.proofs.of_data.Build.{Builds-start, Builds-next}
use Rattle.cedar_closure.proofs.of_data.Rebuild.{map_values-append}
use Rattle.cedar_closure.specs.of_data.Maps.{get_text, is_text, last_value, map_values}
use Rattle.cedar_types.proofs.Entries.{made-entries}
use Rattle.cedar_types.specs.Types.{required}
use Rattle.cedar_types.proofs.ty.Attributes.with_required_attributes.Goals as goal

pub loop-name-init : goal.loop-name-init
loop-name-init c = Builds-start (slice_cmp nat_cmp) _ _ refl c.new-map.ensures

pub loop-name-preserved : goal.loop-name-preserved
loop-name-preserved c =
    Builds-next nat_list_cmp_total c.in-Some.name (required c.in-Some.attr_type) c.loop-name.invariant
    (map_values-append required c.loop-name.yielded ((c.in-Some.name, c.in-Some.attr_type) ∷ [])) c.in_ok-put.ensures.ok c.in_ok-put.ensures.puts c.put.ensures.ordered

pub returns-clause-values : goal.returns-clause-values
returns-clause-values c =
    let all = YieldsList-end (YieldsList-from_vec c.args.list.items (search rules) (search rules)) c.loop-name.yielded c.loop-name.name-iterator c.loop-name.yielded_by c.next.result c.next.new.self c.in-None.is c.next.ensures.steps in
    made-entries c.from_map.result c.loop-name.map (λ es. (name : List ℕ) → get_text es name ≡ last_value (is_text name) (map_values required c.args.list.items)) c.from_map.ensures
    (λ name. c.loop-name.invariant.at name ∙ ap (λ pairs. last_value (is_text name) (map_values required pairs)) (sym (map-id c.loop-name.yielded) ∙ all.0))
