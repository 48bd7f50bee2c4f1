-- SPDX-License-Identifier: Apache-2.0
-- Tokens that say what a fragment says, wherever they stand, are a tree that is that of the fragment but for its places.
use Rattle.std.proofs.Common.{◌≡◌, ℕ, List, [], ◌∷◌, map, refl, sym, ap, ◌∙◌, subst}
use Rattle.cedar_tokens.specs.Lexemes.{text_token}
use Rattle.cedar_tokens.specs.declared.token.Token.{Token}
use Rattle.cedar_tree.specs.Nesting.{NestsWell}
use Rattle.cedar_tree.specs.Trees.{Schema}
use Rattle.cedar_tree.specs.Unplaced.{schema_unplaced}
use Rattle.cedar_grammar.specs.Grammar.{Reads}
use Rattle.cedar_grammar.specs.Unplaced.{token_unplaced, tokens_unplaced}
use Rattle.cedar_convert_fragment.specs.Declares.{Declares}
use Rattle.cedar_convert_fragment.specs.Fragments.{Fragment}
use Rattle.cedar_convert_laws.specs.Unplaced.{fragment_unplaced}
use Rattle.cedar_print_laws.specs.Tokens.{says}
use Rattle.cedar_reread.specs.EachType.{NestsAtMost}
use Rattle.cedar_reread.specs.Placeless.{placeless}
use Rattle.cedar_reread.specs.Said.{Tokens, said_fragment}
use Rattle.cedar_reread.specs.TreesRead.{fragment_read}
use Rattle.cedar_reread.proofs.MovesBack.{reads_placed}
use Rattle.cedar_reread.proofs.Nested.{nests_well}
use Rattle.cedar_reread.proofs.Reading.{IsReadable, reads_back}
use Rattle.cedar_reread_print.specs.Spoken.{spoken}
use Rattle.cedar_reread_laws.proofs.NestsAlike.{nests_back}
use Rattle.cedar_reread_laws.proofs.Places.{same_without_places}

-- the tokens of a text without their places are what they say
pub without_places : (text : List ℕ) (ts : List Token) → tokens_unplaced (map (text_token text) ts) ≡ map spoken (says text ts)
without_places text [] = refl
without_places text (t ∷ ts) = ap (λ (l : Tokens). token_unplaced (text_token text t) ∷ l) (without_places text ts)

twice : (ts : Tokens) → tokens_unplaced (tokens_unplaced ts) ≡ tokens_unplaced ts
twice [] = refl
twice (t ∷ ts) = ap (λ (l : Tokens). token_unplaced t ∷ l) (twice ts)

-- where one of two schemas whose tokens are the same but for their places declares a fragment, the other does
abbrev pub PlacesLeftOut : Type 0
PlacesLeftOut =
    (ts us : Tokens) (s s' : Schema) (fragment : Fragment) → tokens_unplaced ts ≡ tokens_unplaced us → Reads ts s → Reads us s' → Declares s fragment
    → (other : Fragment) × Declares s' other × (fragment_unplaced fragment ≡ fragment_unplaced other)

-- what is read at these places
pub record ReadAt (F : Fragment) (ts : Tokens) : Type 0 where
  pub tree : Schema
  pub reads : Reads ts tree
  pub is : schema_unplaced tree ≡ fragment_read F
  pub nests : NestsWell tree

module _ (F : Fragment) (ts : Tokens) (same : tokens_unplaced ts ≡ said_fragment F) (readable : IsReadable 128 F) (shallow : NestsAtMost 128 F) where
  pub read_at : ReadAt F ts
  read_at =
      let w = reads_placed ts (fragment_read F) (subst (λ us. Reads us (fragment_read F)) (sym same) (reads_back 128 F readable)) in
      record { tree = w.0; reads = w.1; is = w.2; nests = nests_back w.0 (subst NestsWell (sym w.2) (nests_well F shallow)) }

  -- what is declared without places is declared at these, by the law that places are left out
  pub declared_at : PlacesLeftOut → (G : Fragment) → Declares (fragment_read F) G → (other : Fragment) × Declares read_at.tree other × (placeless other ≡ placeless G)
  declared_at law G d =
      let alike : tokens_unplaced (said_fragment F) ≡ tokens_unplaced ts = ap tokens_unplaced (sym same) ∙ twice ts in
      let w = law (said_fragment F) ts (fragment_read F) read_at.tree G alike (reads_back 128 F readable) read_at.reads d in
      (w.0, w.1, sym (same_without_places G w.0 w.2))
