-- SPDX-License-Identifier: Apache-2.0
-- How paths are read.
use Rattle.std.proofs.Common.{◌≡◌, true, List, [], ◌∷◌, ◌++◌, codes, map, refl, sym, ap, ap₂}
use Rattle.std.specs.List.{flat_map, list_all}
use Rattle.std.proofs.lemmas.Bool.{and_parts}
use Rattle.cedar_text.specs.Words.{is_id}
use Rattle.cedar_tree.specs.Trees.{Node, Text, Place}
use Rattle.cedar_tree.specs.Unplaced.{nowhere}
use Rattle.cedar_grammar.specs.Grammar.{ident, last_of, mark, path, path_of, text_where, is_mark_token}
use Rattle.cedar_grammar.specs.Productions.{◌>>◌, ReadsMany, none, more}
use Rattle.cedar_reread.specs.Said.{Tokens, mark_token, behind_colons, said_path}
use Rattle.cedar_reread.specs.TreesRead.{bare}
use Rattle.cedar_reread.proofs.Classes.{ident_read, one}

-- one identifier or more
abbrev pub AreIds : List Text → Type 0
AreIds [] = ⊥
AreIds (w ∷ ws) = list_all is_id (w ∷ ws) ≡ true

bare_words : (ws : List Text) → map (λ (m : Node Text). m.node) (map bare ws) ≡ ws
bare_words [] = refl
bare_words (w ∷ ws) = ap (λ (l : List Text). w ∷ l) (bare_words ws)

last_nowhere : (w : Text) (ws : List Text) → (last_of (bare w) (map bare ws)).loc ≡ nowhere
last_nowhere w [] = refl
last_nowhere w (v ∷ vs) = last_nowhere v vs

path_is : (w : Text) (ws : List Text) → path_of (bare w) (map bare ws) ≡ bare (w ∷ ws)
path_is w ws = ap₂ (λ (l : List Text) (p : Place). record { node = w ∷ l; loc = record { start = 0; end = p.end; src = [] } }) (bare_words ws) (last_nowhere w ws)

behind_read : (ws : List Text) (rest : Tokens) → list_all is_id ws ≡ true → ReadsMany (mark (codes "::") >> ident).reads (flat_map behind_colons ws ++ rest) (map bare ws) rest
behind_read [] rest ids = none
behind_read (w ∷ ws) rest ids =
    let parts = and_parts (is_id w) (list_all is_id ws) ids in
    more (bare (codes "::"), _, one (text_where (is_mark_token (codes "::"))) (mark_token (codes "::")) (bare (codes "::")) _ refl, ident_read w (flat_map behind_colons ws ++ rest) parts.0) (behind_read ws rest parts.1)

pub path_read : (ws : List Text) (rest : Tokens) → AreIds ws → path.reads (said_path ws ++ rest) (bare ws) rest
path_read [] rest ids = absurd ids
path_read (w ∷ ws) rest ids =
    let parts = and_parts (is_id w) (list_all is_id ws) ids in
    (bare w, flat_map behind_colons ws ++ rest, ident_read w (flat_map behind_colons ws ++ rest) parts.0, (map bare ws, rest, behind_read ws rest parts.1, (sym (path_is w ws), refl)))
