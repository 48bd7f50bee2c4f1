-- SPDX-License-Identifier: Apache-2.0
use Rattle.std.proofs.Common.{◌≡◌, ◌++◌, map}
use Rattle.std.specs.Vec.Iter.{into_iter_items}
use Rattle.cedar_declared.specs.Held.{names_of}
use Rattle.cedar_names.specs.Identifiers.{unreserved_word}
use Rattle.cedar_meaning.specs.DefinitionViews.{common_type_in}
use Rattle.cedar_meaning.specs.Worlds.{aliases_among}
use Rattle.cedar_world.proofs.builtins.alias_types.Given as goal

-- the aliases so far, with those of the rest, are all
abbrev pub invariant-loop-id : goal.invariant-loop-id
invariant-loop-id l =
    map common_type_in l.types.items ++ aliases_among (names_of l.own) (map unreserved_word (into_iter_items l.id-iterator))
    ≡ aliases_among (names_of l.own) (map unreserved_word (into_iter_items l.initial.id-iterator))
