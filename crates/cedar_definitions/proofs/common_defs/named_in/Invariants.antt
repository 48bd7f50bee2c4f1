-- SPDX-License-Identifier: Apache-2.0
use Rattle.std.proofs.Common.{◌≡◌, fold}
use Rattle.std.specs.BTreeMap.{insert_entry}
use Rattle.std.specs.Option.{option_copied}
use Rattle.cedar_written.specs.of_data.Maps.{map_of}
use Rattle.cedar_written.specs.of_names.Names.{internal_cmp}
use Rattle.cedar_definitions.specs.CommonDefs.{named_types}
use Rattle.cedar_definitions.proofs.common_defs.named_in.Given as goal

-- what is named so far, with what is left, is all
abbrev pub invariant-loop-id : goal.invariant-loop-id
invariant-loop-id g l =
    fold (λ es pair. insert_entry internal_cmp es pair.0 pair.1) l.named (named_types (option_copied l.namespace) l.id-iterator)
    ≡ map_of internal_cmp (named_types (option_copied l.fn.namespace) l.fn.defs.entries)
