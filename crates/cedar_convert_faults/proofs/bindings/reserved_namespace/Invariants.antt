-- SPDX-License-Identifier: Apache-2.0
use Rattle.std.proofs.Common.{◌≡◌}
use Rattle.std.specs.List.{list_any}
use Rattle.cedar_names.specs.Identifiers.{id_words, ids_left}
use Rattle.cedar_text.specs.Words.{is_cedar}
use Rattle.cedar_tree.specs.Paths.{path_ids}
use Rattle.cedar_convert_faults.proofs.bindings.reserved_namespace.Given as goal

-- whether one of the rest is `__cedar` is whether one of all is
abbrev pub invariant-loop-id : goal.invariant-loop-id
invariant-loop-id l = list_any is_cedar (id_words (ids_left l.id-iterator)) ≡ list_any is_cedar (id_words (path_ids l.path))
