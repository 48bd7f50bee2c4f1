-- SPDX-License-Identifier: Apache-2.0
-- What is written of schemas that are merged is one text.
use Rattle.std.proofs.Common.{◌≡◌, ℕ, List, [], ◌∷◌, ◌++◌, codes, map, Some, refl, sym, ap, ◌∙◌, subst}
use Rattle.std.specs.List.{flat_map}
use Rattle.serde_json.specs.Data.{Data, Items, array}
use Rattle.cedar_text.specs.Joining.{joined}
use Rattle.cedar_print.specs.Pieces.{Pieces, text_of}
use Rattle.cedar_answers.specs.Making.{Makes}
use Rattle.cedar_commands.specs.declared.command.Command.TheVariants.{Review}
use Rattle.cedar_commands.specs.declared.command.Review.TheVariants.{Merge}
use Rattle.cedar_convert_fragment.specs.Fragments as tree
use Rattle.cedar_convert_fragment.specs.Views.{fragment_seen}
use Rattle.cedar_envelope.proofs.FaultLemmas.{one_envelope}
use Rattle.cedar_fragment.specs.Printed.{print}
use Rattle.cedar_merge.specs.Lookups.{Path}
use Rattle.cedar_merge_laws.proofs.SaidAlike.{alike_said}
use Rattle.cedar_merge_laws.specs.Together.{Said, said}
use Rattle.cedar_reviews.specs.Merging.{AreMergedAs, AreTexts, EachDeclares, Held, HoldsSchemas, texts_in}
use Rattle.cedar_reviews.specs.RawNames.{raw_text}
use Rattle.cedar_reviews.specs.Reviewing.{MakesReview}
use Rattle.cedar_schema_json.proofs.Declaring.{one_declared}
use Rattle.cedar_seen_laws.proofs.PrintedDeclarations.{text_alike}
use Rattle.cedar_seen_laws.proofs.SeenPieces.{Words, declarations_pieces, entry_pieces, fragment_pieces, namespace_pieces}
use Rattle.cedar_answer_laws.specs.Single.{AtMostOne}
use Rattle.cedar_answer_laws.proofs.Due.{one_kept}
use Rattle.cedar_answer_laws.proofs.Inputs.{one_value}

-- ---- what is listed and declared

same_items : (ds es : Items) → array ds ≡ array es → ds ≡ es
same_items ds es same = cc

pub one_texts : (d : Data) (ts us : List (List ℕ)) → AreTexts d ts → AreTexts d us → ts ≡ us
one_texts d ts us (ds, is, none, are) (es, is', none', are') = are ∙ ap texts_in (same_items ds es (sym is ∙ is')) ∙ sym are'

pub each_alike : (extensions ts : List (List ℕ)) (Fs Gs : List Held) → EachDeclares extensions ts Fs → EachDeclares extensions ts Gs → map fragment_seen Fs ≡ map fragment_seen Gs
each_alike extensions [] [] [] p q = refl
each_alike extensions [] [] (G ∷ Gs) p q = absurd q
each_alike extensions [] (F ∷ Fs) Gs p q = absurd p
each_alike extensions (t ∷ ts) [] Gs p q = absurd p
each_alike extensions (t ∷ ts) (F ∷ Fs) [] p q = absurd q
each_alike extensions (t ∷ ts) (F ∷ Fs) (G ∷ Gs) ((ws, d), p) ((vs, e), q) =
    λ i. (one_declared t extensions (fragment_seen F) (fragment_seen G) ws vs d e).0 i ∷ each_alike extensions ts Fs Gs p q i

-- ---- what is printed

abbrev said_pieces : List (Path × Said) → Pieces Words
said_pieces ns = flat_map (λ n. entry_pieces n.0 n.1.annotations (declarations_pieces n.1.common_types n.1.entity_types n.1.actions)) ns

-- what is printed goes by what is said
pieces_said : (F : tree.Fragment) → fragment_pieces F ≡ said_pieces (said F)
pieces_said [] = refl
pieces_said (n ∷ F) = ap (λ (ps : Pieces Words). namespace_pieces n ++ ps) (pieces_said F)

pub said_printed : (F G : Held) → said (fragment_seen F) ≡ said (fragment_seen G) → text_of raw_text (print F) ≡ text_of raw_text (print G)
said_printed F G same =
    text_alike (λ ws. Some (joined ws)) F G (pieces_said (fragment_seen F) ∙ ap said_pieces same ∙ sym (pieces_said (fragment_seen G)))

one_merged : (Fs Gs : List Held) → map fragment_seen Fs ≡ map fragment_seen Gs → (due due' : List ℕ) → AreMergedAs Fs due → AreMergedAs Gs due' → due ≡ due'
one_merged Fs Gs same due due' (agree, (F, merged, prints)) (agree', (G, merged', prints')) =
    one_kept (sym (said_printed F G (alike_said Fs Gs same F G merged merged')) ∙ prints.1) prints'.1

-- ---- of an input

pub one_schemas : (input : List ℕ) (d e : Data) → HoldsSchemas input d → HoldsSchemas input e → d ≡ e
one_schemas input d e (c, is, holds) (c', is', holds') =
    one_value c c' (one_envelope input [] (codes "schemas" ∷ []) c c' is is') (codes "schemas") d e holds holds'

pub one_merge : (text : List ℕ) (extensions : List (List ℕ)) → AtMostOne (Makes (Review Merge) text extensions)
unfolding Makes MakesReview
one_merge text extensions due due' (d, holds, (ts, are, (Fs, each, merged))) (e, holds', (us, are', (Gs, each', merged'))) =
    let texts = one_texts d ts us are (subst (λ x. AreTexts x us) (sym (one_schemas text d e holds holds')) are') in
    one_merged Fs Gs (each_alike extensions ts Fs Gs each (subst (λ x. EachDeclares extensions x Gs) (sym texts) each')) due due' merged merged'
