-- SPDX-License-Identifier: Apache-2.0
use Rattle.std.proofs.Common.{◌≡◌, ◌++◌, map}
use Rattle.std.specs.Vec.Iter.{into_iter_items}
use Rattle.cedar_tree.specs.Meanings.{path_tree}
use Rattle.cedar_convert_fragment.specs.Declares.{name_of}
use Rattle.cedar_convert_fragment.specs.Views.{name_at}
use Rattle.cedar_convert_declarations.proofs.putting.raw_names.Given as goal

-- the names so far, with those of the rest, are all
abbrev pub invariant-loop-path : goal.invariant-loop-path
invariant-loop-path l = map name_at l.names ++ map name_of (map path_tree (into_iter_items l.path-iterator)) ≡ map name_of (map path_tree (into_iter_items l.initial.path-iterator))
