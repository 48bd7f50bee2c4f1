-- SPDX-License-Identifier: Apache-2.0
-- Paths that grow, and what follows a path that a `::` ends.
use Rattle.std.specs.Prelude.{[], ◌∷◌, ◌++◌, Some}
use Rattle.cedar_grammar.specs.Grammar.{path_of, qualified}
use Rattle.cedar_grammar.specs.Reading.{Reader, ◌>>=◌, done, looped, id_round}
use Rattle.cedar_tree.specs.Trees.{Node, placed, Text, Path, QualName}

-- a path with another identifier behind it
abbrev pub longer : Path → Node Text → Path
longer path id = placed (path.node ++ id.node ∷ []) path.loc id.loc

-- the rest of a reference that begins with this identifier and a `::`
abbrev pub qualified_at : Node Text → Reader (Node QualName)
qualified_at n = looped id_round >>= λ r. done (qualified (Some (path_of n r.0)) r.1 n.loc)
