-- SPDX-License-Identifier: Apache-2.0
use Rattle.std.proofs.Common.{◌≡◌, fold, map}
use Rattle.std.specs.BTreeMap.{insert_entry}
use Rattle.std.specs.Vec.Iter.{into_iter_items}
use Rattle.cedar_names.specs.Annotating.{annotation_entries, any_cmp}
use Rattle.cedar_tree.specs.Annotating.{meaning, meant}
use Rattle.cedar_tree.proofs.Repeats.{Seen}
use Rattle.cedar_tree.proofs.annotated.by_key.Given as goal

-- the first repeat among the annotations that are left is the first of all, and these put into the map give what all mean
abbrev pub invariant-loop-annotation : goal.invariant-loop-annotation
invariant-loop-annotation l = record {
  seen : Seen l.fn.annotations.items l.places (into_iter_items l.annotation-iterator);
  means : fold (λ es pair. insert_entry any_cmp es pair.0 pair.1) (annotation_entries l.unique) (map meant (into_iter_items l.annotation-iterator)) ≡ meaning l.fn.annotations.items;
}
