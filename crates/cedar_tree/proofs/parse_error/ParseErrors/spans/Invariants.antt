-- SPDX-License-Identifier: Apache-2.0
use Rattle.std.proofs.Common.{◌≡◌, ◌++◌}
use Rattle.cedar_names.specs.of_text.Lists.{elements_left}
use Rattle.cedar_tree.specs.Faults.{all_spans, error_list}
use Rattle.cedar_tree.proofs.parse_error.ParseErrors.spans.Given as goal

-- the places so far, and those of the errors that are left, are all
abbrev pub invariant-loop-error : goal.invariant-loop-error
invariant-loop-error l = l.spans.items ++ all_spans (elements_left l.error-iterator) ≡ all_spans (error_list l.fn.self)
