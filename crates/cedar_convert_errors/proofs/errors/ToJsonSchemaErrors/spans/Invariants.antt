-- SPDX-License-Identifier: Apache-2.0
use Rattle.std.proofs.Common.{◌≡◌, ◌++◌}
use Rattle.cedar_tree.specs.of_text.Lists.{elements_left}
use Rattle.cedar_convert_errors.specs.Texts.{all_spans, fault_list}
use Rattle.cedar_convert_errors.proofs.errors.ToJsonSchemaErrors.spans.Given as goal

-- the places so far, and those of the faults that are left, are all
abbrev pub invariant-loop-fault : goal.invariant-loop-fault
invariant-loop-fault l = l.spans.items ++ all_spans (elements_left l.fault-iterator) ≡ all_spans (fault_list l.fn.self)
