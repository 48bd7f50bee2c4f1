-- SPDX-License-Identifier: Apache-2.0
-- A path that may go on.
use Rattle.std.specs.Prelude.{[], ◌∷◌, ◌++◌}
use Rattle.cedar_names.specs.Identifiers.{id_words}
use Rattle.cedar_tree.specs.Trees.{Path}
use Rattle.cedar_parser.specs.declared.paths.Ids.{Ids}

-- the path of the identifiers so far
abbrev pub ids_path : Ids → Path
ids_path ids = record { node = id_words (ids.namespace.items ++ ids.basename ∷ []); loc = ids.loc }
