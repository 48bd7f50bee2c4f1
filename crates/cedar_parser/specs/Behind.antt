-- SPDX-License-Identifier: Apache-2.0
-- What readers find behind a piece of which the whole keeps the place, the name or what was read so far.
use Rattle.std.specs.Prelude.{List, codes, Option, Some, option_map}
use Rattle.cedar_grammar.specs.Grammar.{as_name, literal_value, shape_at, behind_shape}
use Rattle.cedar_grammar.specs.Reading.{Reader, ◌>>=◌, ◌>>◌, done, looped, expect, a_mark, path_behind, braced_at, commas_at, annots_at, one_or_list_at, ref_at, above_at, shape_reader, tags_at, app_at, applies_at, tail_at, decl_round, item_at}
use Rattle.cedar_tree.specs.Trees.{Node, Place, Text, Path, TypeTree, Annotated, AppDecl, ContextDecl, Standard, Entity, QualName, Action, Declaration, Namespace, placed, stands, between}

-- the rest of a path that begins with this identifier, as a type
unfoldable pub name_behind : Node Text → Reader (Node TypeTree)
name_behind n = path_behind n >>= λ p. done (as_name p)

-- what follows the parents of entity types: their shape, the type of their tags, and where the whole stands, which begins at this word
unfoldable pub standard_parts : Reader (Node TypeTree) → Node Text → Reader ((ContextDecl × Option (Node TypeTree)) × Place)
standard_parts type entity = do
  shape ← shape_reader type
  tags ← tags_at type
  semicolon ← expect (a_mark (codes ";"))
  done ((shape_at shape (behind_shape tags semicolon.loc), option_map (λ p. p.1) tags), between entity.loc semicolon.loc)

-- the same as a declaration of entity types with these names and parents
unfoldable pub standard_rest : Reader (Node TypeTree) → Node Text → List (Node Text) → List Path → Reader (Node Declaration)
standard_rest type entity ns parents = do
  parts ← standard_parts type entity
  done (stands (Entity (Standard (record { names = ns; member_of_types = parents; attrs = parts.0.0; tags = parts.0.1 }))) parts.1)

-- what follows the choices of enumerated entity types: where the whole stands, which begins at this word
unfoldable pub enum_end : Node Text → Reader Place
enum_end entity = do
  expect (a_mark (codes "]"))
  semicolon ← expect (a_mark (codes ";"))
  done (between entity.loc semicolon.loc)

-- what follows `enum`: the choices, and where the whole stands
unfoldable pub enum_parts : Node Text → Reader (List (Node Text) × Place)
enum_parts entity = do
  expect (a_mark (codes "["))
  choices ← commas_at (expect literal_value)
  loc ← enum_end entity
  done (choices, loc)

-- the `{` and the `}` that follow `attributes`
unfoldable pub braces_behind : Reader (Node Text)
braces_behind = expect (a_mark (codes "{")) >> expect (a_mark (codes "}"))

-- what follows what actions apply to: where the whole stands, which begins at this word
unfoldable pub action_end : Node Text → Reader Place
action_end action = do
  tail_at
  semicolon ← expect (a_mark (codes ";"))
  done (between action.loc semicolon.loc)

-- what follows the names of actions: their parents, what they apply to, and where the whole stands, which begins at this word
unfoldable pub action_parts : Reader (Node TypeTree) → Node Text → Reader ((List (Node QualName) × Option (Node (List (Node AppDecl)))) × Place)
action_parts type action = do
  parents ← above_at (one_or_list_at ref_at)
  applies ← applies_at type
  loc ← action_end action
  done ((parents, applies), loc)

-- the same as a declaration of actions with these names
unfoldable pub action_rest : Reader (Node TypeTree) → Node Text → List (Node Text) → Reader (Node Declaration)
action_rest type action ns = do
  parts ← action_parts type action
  done (stands (Action (record { names = ns; parents = parts.0.0; app_decls = parts.0.1 })) parts.1)

-- what follows the `{` of what an action applies to
unfoldable pub apps_behind : Reader (Node TypeTree) → Node Text → Reader (Node (List (Node AppDecl)))
apps_behind type opening = braced_at (app_at type) >>= λ r. done (placed r.0 opening.loc r.1.loc)

-- what follows the `{` of a namespace of this name
unfoldable pub decls_behind : Reader (Node TypeTree) → Node Text → Path → Reader Namespace
decls_behind type keyword name =
    looped (decl_round type) >>= λ r. done (record { name = Some name; decls = r.0; loc = Some (between keyword.loc r.1.loc) })

-- annotations, and an item behind them
unfoldable pub annotated_item : Reader (Node TypeTree) → Reader (Annotated Namespace)
annotated_item type = annots_at >>= item_at type
