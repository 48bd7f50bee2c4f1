-- SPDX-License-Identifier: Apache-2.0
use Rattle.std.proofs.Common.{◌≡◌, ◌++◌, map}
use Rattle.std.specs.List.{filter}
use Rattle.cedar_names.specs.Components.{components}
use Rattle.cedar_names.specs.Names.{entity_words}
use Rattle.cedar_undeclared.specs.Undeclared.{is_free}
use Rattle.cedar_undeclared.proofs.error.entity_types.Given as goal

-- those so far, with those that are left, are all
abbrev pub invariant-loop-name : goal.invariant-loop-name
invariant-loop-name l = map entity_words l.types.items ++ filter is_free (map components l.name-iterator) ≡ filter is_free (map components l.fn.names)
