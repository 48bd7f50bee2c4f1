-- SPDX-License-Identifier: Apache-2.0
use Rattle.std.proofs.Common.{◌≡◌, ◌||◌, ◌∙◌, sym, ap, rules}
use Rattle.std.specs.List.{list_any}
use Rattle.cedar_data.specs.Sets.{contains}
use Rattle.cedar_outlines.specs.of_declared.Held.{names_of}
use Rattle.cedar_hierarchy.proofs.Meant.{meant_start, meant_next, none_sorted}
use Rattle.cedar_hierarchy.proofs.targets.all_meant.Goals as goal

pub loop-reference-init : goal.loop-reference-init
loop-reference-init g c =
    let all : c.into_iter-reference-iterator.result ≡ c.args.references.now = search rules in (
      (λ key. meant_start g.K.Ord.cmp c.new-keys.result key _ _ c.new-keys.ensures
          (ap (λ rs. list_any (λ r. g.R.IsReference.is_meant (names_of c.args.all_defs.now) r key) rs) all)),
      none_sorted g.K.Ord.cmp c.new-keys.result c.new-keys.ensures,
    )

pub loop-reference-preserved : goal.loop-reference-preserved
loop-reference-preserved g c = (
  (λ key. meant_next _ (g.R.IsReference.is_meant (names_of c.args.all_defs.now) c.in-Some.reference.now key) (contains g.K.Ord.cmp c.loop-reference.keys key) _ _
      (c.in_ok-add_meant.ensures.adds key)
      (ap (λ rs. list_any (λ r. g.R.IsReference.is_meant (names_of c.args.all_defs.now) r key) rs || contains g.K.Ord.cmp c.loop-reference.keys key) (sym c.in-Some.ensures.steps)
      ∙ c.loop-reference.invariant.0 key)),
  c.in_ok-add_meant.ensures.ordered c.loop-reference.invariant.1,
)
