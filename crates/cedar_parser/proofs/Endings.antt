-- SPDX-License-Identifier: Apache-2.0
-- Declarations whose parts are read as one piece.
use Rattle.std.proofs.Common.{◌≡◌, ℕ, Bool, List, length, codes, Option, Some, None, option_map, Result, Ok, Err, refl}
use Rattle.cedar_tokens.specs.Lexemes.{TextToken}
use Rattle.cedar_grammar.specs.Grammar.{literal_value, shape_at, behind_shape}
use Rattle.cedar_grammar.specs.Reading.{Reader, ◌>>=◌, after, either, done, accepted, expect, a_mark, name_at, commas_at, one_or_list_at, ref_at, above_at, types_at, shape_reader, tags_at, applies_at, tail_at, standard_behind, enum_behind, action_behind}
use Rattle.cedar_tree.specs.Trees.{Node, Place, Path, Text, TypeTree, QualName, AppDecl, ContextDecl, Action, Entity, Standard, Enum, Declaration, between, placed, stands}
use Rattle.cedar_parser.specs.Behind.{standard_parts, standard_rest, enum_end, enum_parts, action_end, action_parts, action_rest}

module _ (action : Node Text) (ns : List (Node Text)) where
  -- the actions of these names
  abbrev actions : List (Node QualName) → Option (Node (List (Node AppDecl))) → Declaration
  actions parents applies = Action (record { names = ns; parents = parents; app_decls = applies })

  -- the end of this declaration, token by token
  abbrev ends : List (Node QualName) → Option (Node (List (Node AppDecl))) → Reader (Node Declaration)
  ends parents applies = tail_at >>= λ _. expect (a_mark (codes ";")) >>= λ semicolon. done (placed (actions parents applies) action.loc semicolon.loc)

  -- the parts of this declaration at its end
  abbrev parts_at : List (Node QualName) → Option (Node (List (Node AppDecl))) → Reader ((List (Node QualName) × Option (Node (List (Node AppDecl)))) × Place)
  parts_at parents applies = (tail_at >>= λ _. expect (a_mark (codes ";")) >>= λ semicolon. done (between action.loc semicolon.loc)) >>= λ loc. done ((parents, applies), loc)

  -- the declaration of its parts
  abbrev whole : (List (Node QualName) × Option (Node (List (Node AppDecl)))) × Place → Reader (Node Declaration)
  whole p = done (stands (actions p.0.0 p.0.1) p.1)

  one_end : (parents : List (Node QualName)) (applies : Option (Node (List (Node AppDecl)))) (ts : List TextToken) → ends parents applies ts ≡ after (parts_at parents applies ts) whole
  one_end parents applies ts = tail (tail_at ts)
    where
      mark : (ts : List TextToken) (a : Option (Node Text × List TextToken))
          → after (either a done (Err (length ts))) (λ semicolon. done (placed (actions parents applies) action.loc semicolon.loc))
          ≡ after (after (after (either a done (Err (length ts))) (λ semicolon. done (between action.loc semicolon.loc))) (λ loc. done ((parents, applies), loc))) whole
      mark ts None = refl
      mark ts (Some p) = refl

      tail : (r : Result (Bool × List TextToken) ℕ)
          → after r (λ _. expect (a_mark (codes ";")) >>= λ semicolon. done (placed (actions parents applies) action.loc semicolon.loc))
          ≡ after (after (after r (λ _. expect (a_mark (codes ";")) >>= λ semicolon. done (between action.loc semicolon.loc))) (λ loc. done ((parents, applies), loc))) whole
      tail (Err n) = refl
      tail (Ok p) = mark p.1 (accepted (a_mark (codes ";")) p.1)

  module _ (type : Reader (Node TypeTree)) where
    -- what follows the names of actions is read behind them
    pub action_is : (ts rest : List TextToken) → commas_at name_at ts ≡ Ok (ns, rest) → action_behind type action ts ≡ action_rest type action ns rest
    unfolding action_behind action_rest action_parts action_end
    action_is ts rest names = rw names (above (above_at (one_or_list_at ref_at) rest))
      where
        applies : (parents : List (Node QualName)) (r : Result (Option (Node (List (Node AppDecl))) × List TextToken) ℕ)
            → after r (λ applies. ends parents applies) ≡ after (after r (λ applies. parts_at parents applies)) whole
        applies parents (Err n) = refl
        applies parents (Ok p) = one_end parents p.0 p.1

        above : (r : Result (List (Node QualName) × List TextToken) ℕ)
            → after r (λ parents. applies_at type >>= λ applies. ends parents applies)
            ≡ after (after r (λ parents. applies_at type >>= λ applies. parts_at parents applies)) whole
        above (Err n) = refl
        above (Ok p) = applies p.0 (applies_at type p.1)

module _ (entity : Node Text) (ns : List (Node Text)) (parents : List Path) where
  -- the entity types of these names and parents
  abbrev standard : ContextDecl → Option (Node TypeTree) → Declaration
  standard attrs tags = Entity (Standard (record { names = ns; member_of_types = parents; attrs = attrs; tags = tags }))

  -- the declaration that ends with this mark
  abbrev closed : Option ContextDecl → Option (Place × Node TypeTree) → Node Text → Reader (Node Declaration)
  closed shape tags semicolon = done (placed (standard (shape_at shape (behind_shape tags semicolon.loc)) (option_map (λ p. p.1) tags)) entity.loc semicolon.loc)

  -- its parts
  abbrev closed_parts : Option ContextDecl → Option (Place × Node TypeTree) → Node Text → Reader ((ContextDecl × Option (Node TypeTree)) × Place)
  closed_parts shape tags semicolon = done ((shape_at shape (behind_shape tags semicolon.loc), option_map (λ p. p.1) tags), between entity.loc semicolon.loc)

  -- the declaration of its parts
  abbrev standard_of : (ContextDecl × Option (Node TypeTree)) × Place → Reader (Node Declaration)
  standard_of p = done (stands (standard p.0.0 p.0.1) p.1)

  module _ (type : Reader (Node TypeTree)) where
    -- what follows the parents of entity types is read behind them
    pub standard_is : (ts rest : List TextToken) → above_at types_at ts ≡ Ok (parents, rest) → standard_behind type entity ns ts ≡ standard_rest type entity ns parents rest
    unfolding standard_behind standard_rest standard_parts
    standard_is ts rest above = rw above (shape (shape_reader type rest))
      where
        mark : (shape : Option ContextDecl) (tags : Option (Place × Node TypeTree)) (ts : List TextToken) (a : Option (Node Text × List TextToken))
            → after (either a done (Err (length ts))) (closed shape tags) ≡ after (after (either a done (Err (length ts))) (closed_parts shape tags)) standard_of
        mark shape tags ts None = refl
        mark shape tags ts (Some p) = refl

        tags : (shape : Option ContextDecl) (r : Result (Option (Place × Node TypeTree) × List TextToken) ℕ)
            → after r (λ tags. expect (a_mark (codes ";")) >>= closed shape tags) ≡ after (after r (λ tags. expect (a_mark (codes ";")) >>= closed_parts shape tags)) standard_of
        tags shape (Err n) = refl
        tags shape (Ok p) = mark shape p.0 p.1 (accepted (a_mark (codes ";")) p.1)

        shape : (r : Result (Option ContextDecl × List TextToken) ℕ)
            → after r (λ shape. tags_at type >>= λ tags. expect (a_mark (codes ";")) >>= closed shape tags)
            ≡ after (after r (λ shape. tags_at type >>= λ tags. expect (a_mark (codes ";")) >>= closed_parts shape tags)) standard_of
        shape (Err n) = refl
        shape (Ok p) = tags p.0 (tags_at type p.1)

module _ (entity : Node Text) (ns : List (Node Text)) where
  -- the enumerated entity types of these choices
  abbrev choosing : List (Node Text) × Place → Node Declaration
  choosing p = stands (Entity (Enum (record { names = ns; choices = p.0 }))) p.1

  -- what follows `enum` is its parts
  pub enum_is : (ts : List TextToken) → enum_behind entity ns ts ≡ after (enum_parts entity ts) (λ p. done (choosing p))
  unfolding enum_behind enum_parts enum_end
  enum_is ts = opening (expect (a_mark (codes "[")) ts)
    where
      semicolon : (choices : List (Node Text)) (ts : List TextToken) (a : Option (Node Text × List TextToken))
          → after (either a done (Err (length ts))) (λ semicolon. done (placed (Entity (Enum (record { names = ns; choices = choices }))) entity.loc semicolon.loc))
          ≡ after (after (after (either a done (Err (length ts))) (λ semicolon. done (between entity.loc semicolon.loc))) (λ loc. done (choices, loc))) (λ p. done (choosing p))
      semicolon choices ts None = refl
      semicolon choices ts (Some p) = refl

      closing : (choices : List (Node Text)) (r : Result (Node Text × List TextToken) ℕ)
          → after r (λ _. expect (a_mark (codes ";")) >>= λ semicolon. done (placed (Entity (Enum (record { names = ns; choices = choices }))) entity.loc semicolon.loc))
          ≡ after (after (after r (λ _. expect (a_mark (codes ";")) >>= λ semicolon. done (between entity.loc semicolon.loc))) (λ loc. done (choices, loc))) (λ p. done (choosing p))
      closing choices (Err n) = refl
      closing choices (Ok p) = semicolon choices p.1 (accepted (a_mark (codes ";")) p.1)

      choices : (r : Result (List (Node Text) × List TextToken) ℕ)
          → after r (λ choices. expect (a_mark (codes "]")) >>= λ _. expect (a_mark (codes ";")) >>= λ semicolon. done (placed (Entity (Enum (record { names = ns; choices = choices }))) entity.loc semicolon.loc))
          ≡ after (after r (λ choices. (expect (a_mark (codes "]")) >>= λ _. expect (a_mark (codes ";")) >>= λ semicolon. done (between entity.loc semicolon.loc)) >>= λ loc. done (choices, loc))) (λ p. done (choosing p))
      choices (Err n) = refl
      choices (Ok p) = closing p.0 (expect (a_mark (codes "]")) p.1)

      opening : (r : Result (Node Text × List TextToken) ℕ)
          → after r (λ _. commas_at (expect literal_value) >>= λ choices. expect (a_mark (codes "]")) >>= λ _. expect (a_mark (codes ";")) >>= λ semicolon. done (placed (Entity (Enum (record { names = ns; choices = choices }))) entity.loc semicolon.loc))
          ≡ after (after r (λ _. commas_at (expect literal_value) >>= λ choices. (expect (a_mark (codes "]")) >>= λ _. expect (a_mark (codes ";")) >>= λ semicolon. done (between entity.loc semicolon.loc)) >>= λ loc. done (choices, loc))) (λ p. done (choosing p))
      opening (Err n) = refl
      opening (Ok p) = choices (commas_at (expect literal_value) p.1)
