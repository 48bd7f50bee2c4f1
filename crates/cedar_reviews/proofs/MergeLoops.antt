-- SPDX-License-Identifier: Apache-2.0
-- Loops over the items of a list of texts.
use Rattle.std.proofs.Common.{◌≡◌, ℕ, ◌+◌, List, [], ◌∷◌, ◌++◌, Some, None, Result, Ok, Err, inl, inr, length, get_or, drop, ◌<◌, refl, sym, ap, ◌∙◌, subst, append_assoc, append-nil, add-one}
use Rattle.std.proofs.Math.Seq.{drop-cons}
use Rattle.cedar_data.specs.Answers.{IfRefused}
use Rattle.cedar_data.specs.declared.memory.Failure.{Failure}
use Rattle.cedar_data.specs.declared.memory.Failure.TheVariants.{Refused, NoMemory}
use Rattle.serde_json.specs.Data.{Data, array}
use Rattle.serde_json.specs.Find.{as_str}
use Rattle.serde_json.specs.View.{view, items_view}
use Rattle.serde_json.specs.declared.value.Value.{Value}
use Rattle.cedar_reviews.specs.Holding.{TellsNoDeclaration}
use Rattle.cedar_reviews.specs.Merging.{Declares, EachDeclares, Held, TellsUndeclared, TellsUnlisted, TellsUnmerged, other_item, text_in, texts_in, unless_text}

-- ---- the first item that is no text

-- a loop over `whole` that has `left` before it has seen texts alone
pub record SeesTexts (whole left : List Value) (place : ℕ) : Type 0 where
  pub is : other_item 0 (items_view whole) ≡ other_item place (items_view left)

pub SeesTexts-start : (whole left : List Value) (place : ℕ) → left ≡ whole → place ≡ 0 → SeesTexts whole left place
SeesTexts-start whole left place all zeroth = record { is = ap (λ es. other_item 0 (items_view es)) (sym all) ∙ ap (λ n. other_item n (items_view left)) (sym zeroth) }

pub SeesTexts-next : {whole left rest : List Value} {place next : ℕ} {value : Value} (text : List ℕ) → SeesTexts whole left place → left ≡ value ∷ rest → next ≡ place + 1 → as_str (view value) ≡ Some text → SeesTexts whole rest next
SeesTexts-next {rest = rest} {place = place} text sofar at_left counted is_text = record {
  is = sofar.is ∙ ap (λ es. other_item place (items_view es)) at_left ∙ ap (unless_text place (other_item (place + 1) (items_view rest))) is_text ∙ ap (λ n. other_item n (items_view rest)) (sym counted);
}

pub SeesTexts-end : {whole left : List Value} {place : ℕ} → SeesTexts whole left place → left ≡ [] → other_item 0 (items_view whole) ≡ None
SeesTexts-end {place = place} sofar none = sofar.is ∙ ap (λ es. other_item place (items_view es)) none

pub SeesTexts-other : {whole left rest : List Value} {place : ℕ} {value : Value} → SeesTexts whole left place → left ≡ value ∷ rest → as_str (view value) ≡ None → other_item 0 (items_view whole) ≡ Some place
SeesTexts-other {rest = rest} {place = place} sofar at_left is_none = sofar.is ∙ ap (λ es. other_item place (items_view es)) at_left ∙ ap (unless_text place (other_item (place + 1) (items_view rest))) is_none

-- ---- what the texts declare

module _ (extensions : List (List ℕ)) where
  -- a loop over `whole` that has `left` before it has these fragments of the texts before
  pub record DeclaresTexts (whole left : List Value) (made : List Held) : Type 0 where
    pub gives : (others : List Held) → EachDeclares extensions (texts_in (items_view left)) others → EachDeclares extensions (texts_in (items_view whole)) (made ++ others)
    pub tells : (told : List ℕ) → TellsUndeclared extensions (texts_in (items_view left)) told → TellsUndeclared extensions (texts_in (items_view whole)) told

  pub DeclaresTexts-start : (whole left : List Value) (made : List Held) → left ≡ whole → made ≡ [] → DeclaresTexts whole left made
  DeclaresTexts-start whole left made all none = record {
    gives = λ others each. rw none (subst (λ es. EachDeclares extensions (texts_in (items_view es)) others) all each);
    tells = λ told t. subst (λ es. TellsUndeclared extensions (texts_in (items_view es)) told) all t;
  }

  pub DeclaresTexts-next : {whole left rest : List Value} {made more : List Held} {value : Value} (F : Held) → DeclaresTexts whole left made → left ≡ value ∷ rest → Declares extensions (text_in (view value)) F → more ≡ made ++ F ∷ [] → DeclaresTexts whole rest more
  DeclaresTexts-next {rest = rest} {made = made} {value = value} F sofar at_left declares pushed = record {
    gives = λ others each.
        let one : EachDeclares extensions (texts_in (items_view (value ∷ rest))) (F ∷ others) = (declares, each) in
        let all = sofar.gives (F ∷ others) (subst (λ es. EachDeclares extensions (texts_in (items_view es)) (F ∷ others)) (sym at_left) one) in
        rw (pushed, append_assoc made (F ∷ []) others) all;
    tells = λ told t.
        let one : TellsUndeclared extensions (texts_in (items_view (value ∷ rest))) told = inr ((F, declares), t) in
        sofar.tells told (subst (λ es. TellsUndeclared extensions (texts_in (items_view es)) told) (sym at_left) one);
  }

  pub DeclaresTexts-end : {whole left : List Value} {made : List Held} → DeclaresTexts whole left made → left ≡ [] → EachDeclares extensions (texts_in (items_view whole)) made
  DeclaresTexts-end {whole} {made = made} sofar none =
      let all = sofar.gives [] (subst (λ es. EachDeclares extensions (texts_in (items_view es)) []) (sym none) tt) in
      subst (EachDeclares extensions (texts_in (items_view whole))) (append-nil made) all

  pub DeclaresTexts-refused : {whole left rest : List Value} {made : List Held} {value : Value} (told : List ℕ) → DeclaresTexts whole left made → left ≡ value ∷ rest → TellsNoDeclaration (text_in (view value)) told → TellsUndeclared extensions (texts_in (items_view whole)) told
  DeclaresTexts-refused {rest = rest} {value = value} told sofar at_left t =
      let one : TellsUndeclared extensions (texts_in (items_view (value ∷ rest))) told = inl t in
      sofar.tells told (subst (λ es. TellsUndeclared extensions (texts_in (items_view es)) told) (sym at_left) one)

  -- where one of them declares nothing, all are refused for that
  pub refused-told : (T U : Type 0) {E : Type 0} (bytes : E → List ℕ) (whole left rest : List Value) (made : List Held) (value : Value) (failure : Failure E) → DeclaresTexts whole left made → left ≡ value ∷ rest
      → IfRefused {T = T} (Err failure) (λ e. TellsNoDeclaration (text_in (view value)) (bytes e)) → IfRefused {T = U} (Err failure) (λ e. TellsUndeclared extensions (texts_in (items_view whole)) (bytes e))
  refused-told T U bytes whole left rest made value (Refused e) sofar at_left t = DeclaresTexts-refused (bytes e) sofar at_left t
  refused-told T U bytes whole left rest made value NoMemory sofar at_left t = tt

-- the items from an index on
pub from-index : (items : List Value) (i : ℕ) (value : Value) → i < length items → value ≡ get_or items i value → drop i items ≡ value ∷ drop (i + 1) items
from-index items i value within is = drop-cons items i value within ∙ (λ k. sym is k ∷ drop (sym (add-one i) k) items)

-- what is told of fragments is told of the value that lists their texts
pub listed-told : {T E : Type 0} (bytes : E → List ℕ) (extensions : List (List ℕ)) (d : Data) (items : List Value) (Fs : List Held) (r : Result T (Failure E)) → d ≡ array (items_view items) → other_item 0 (items_view items) ≡ None
    → EachDeclares extensions (texts_in (items_view items)) Fs → IfRefused r (λ e. TellsUnmerged Fs (bytes e)) → IfRefused r (λ e. TellsUnlisted extensions d (bytes e))
listed-told bytes extensions d items Fs (Ok t) is none each h = tt
listed-told bytes extensions d items Fs (Err (Refused e)) is none each h = inr (texts_in (items_view items), (items_view items, is, none, refl), inr (Fs, each, h))
listed-told bytes extensions d items Fs (Err NoMemory) is none each h = tt

pub ruleset texts_are_seen = (SeesTexts-start, SeesTexts-next, SeesTexts-end, SeesTexts-other)

pub ruleset texts_declare = (DeclaresTexts-start, DeclaresTexts-next, DeclaresTexts-end, DeclaresTexts-refused)
