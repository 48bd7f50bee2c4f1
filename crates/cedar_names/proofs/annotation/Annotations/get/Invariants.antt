-- SPDX-License-Identifier: Apache-2.0
use Rattle.std.proofs.Common.{◌≡◌}
use Rattle.cedar_names.specs.Annotating.{annotation_at}
use Rattle.cedar_names.proofs.annotation.Annotations.get.Given as goal

-- the annotations that are left have the one of the word
abbrev pub invariant-loop-id : goal.invariant-loop-id
invariant-loop-id l = annotation_at l.id-iterator l.key ≡ annotation_at l.self.map l.key
