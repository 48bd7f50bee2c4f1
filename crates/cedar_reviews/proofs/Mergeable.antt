-- SPDX-License-Identifier: Apache-2.0
-- Texts whose fragments can be merged and written aren't refused.
use Rattle.std.proofs.Common.{◌≡◌, ℕ, List, [], ◌∷◌, Some, None, option_map, inl, inr, codes, sym, ap, ◌∙◌, subst}
use Rattle.serde_json.specs.Data.{Data, array}
use Rattle.cedar_convert_fragment.specs.Views.{fragment_seen}
use Rattle.cedar_envelope.proofs.FaultLemmas.{one_envelope}
use Rattle.cedar_envelope.specs.Envelopes.{HoldsValue}
use Rattle.cedar_fmt.specs.Collisions.{collisions}
use Rattle.cedar_fmt.specs.Texts.{kept_names}
use Rattle.cedar_fmt.specs.declared.errors.ToCedarSchemaSyntaxError.{ToCedarSchemaSyntaxError}
use Rattle.cedar_fmt.specs.declared.errors.ToCedarSchemaSyntaxError.TheVariants.{NameCollisions}
use Rattle.cedar_merge.specs.Merged.{Merged}
use Rattle.cedar_merge.specs.Texts.{note_told, place_told}
use Rattle.cedar_merge.specs.declared.errors.MergeError.TheVariants.{AnnotationConflict, DuplicateDeclaration}
use Rattle.cedar_schema.proofs.Declaring.{declared_or_not}
use Rattle.cedar_schema_errors.specs.declared.schema_error.CedarSchemaError.TheVariants.{Parsing, Schema}
use Rattle.cedar_reviews.proofs.Held.{held-or-told, one_value}
use Rattle.cedar_reviews.specs.Holding.{TellsNoDeclaration}
use Rattle.cedar_reviews.specs.Merging.{Agree, AreTexts, Declares, EachDeclares, Held, HoldsSchemas, IsMergeable, TellsMerging, TellsOther, TellsUndeclared, TellsUnlisted, TellsUnmerged, other_value, texts_in}

-- ---- what texts declare

declared-or-told : (extensions : List (List ℕ)) (text told : List ℕ) (F : Held) → Declares extensions text F → TellsNoDeclaration text told → ⊥
declared-or-told extensions text told F (warned, declares) (Parsing e, cause, is) = declared_or_not text extensions (fragment_seen F) warned e.errors declares cause.0
declared-or-told extensions text told F declares (Schema e, cause, is) = cause

each-or-told : (extensions ts : List (List ℕ)) (told : List ℕ) (Fs : List Held) → EachDeclares extensions ts Fs → TellsUndeclared extensions ts told → ⊥
each-or-told extensions [] told Fs each tells = tells
each-or-told extensions (t ∷ ts) told [] each tells = each
each-or-told extensions (t ∷ ts) told (F ∷ Fs) (declares, each) (inl tells) = declared-or-told extensions t told F declares tells
each-or-told extensions (t ∷ ts) told (F ∷ Fs) (declares, each) (inr (first, tells)) = each-or-told extensions ts told Fs each tells

-- ---- merging

-- names are told of a fragment some of whose names collide
some-collide : (F : Held) (e : ToCedarSchemaSyntaxError) → kept_names e ≡ collisions F → collisions F ≡ [] → ⊥
some-collide F (NameCollisions e) kept none = let empty : kept_names (NameCollisions e) ≡ [] = kept ∙ none in cc

-- fragments have nothing against each other, and what they declare together can be written
abbrev Writable : List Held → Type 0
Writable Fs = Agree Fs × ((F : Held) → Merged Fs F → collisions F ≡ [])

writable-or-told : (Fs : List Held) (told : List ℕ) → Writable Fs → TellsUnmerged Fs told → ⊥
writable-or-told Fs told writable (inl (DuplicateDeclaration kind ns name, clash, conflict, is)) = writable.0.0 (place_told kind ns name) clash.holds
writable-or-told Fs told writable (inl (AnnotationConflict ns key, clash, conflict, is)) = writable.0.1 (note_told ns key) conflict.1.holds
writable-or-told Fs told writable (inr (agree, (F, merged, (e, kept, is)))) = some-collide F e kept (writable.1 F merged)

-- ---- lists of texts

other-or-texts : (d : Data) (ts : List (List ℕ)) (told : List ℕ) → AreTexts d ts → TellsOther d told → ⊥
other-or-texts d ts told (ds, is, none, texts) (e, other, tells) =
    let listed : other_value d ≡ None = ap other_value is ∙ ap (option_map Some) none in
    let both : Some e.at ≡ None = sym other ∙ listed in cc

-- a value is one list of texts
one-texts : (d : Data) (ts us : List (List ℕ)) → AreTexts d ts → AreTexts d us → ts ≡ us
one-texts d ts us (ds, is, none, texts) (es, too, neither, others) =
    let same : array ds ≡ array es = sym is ∙ too in
    let items : ds ≡ es = cc in
    texts ∙ ap texts_in items ∙ sym others

listed-or-told : (extensions : List (List ℕ)) (d : Data) (told : List ℕ) (ts : List (List ℕ)) → AreTexts d ts → (Fs : List Held) → EachDeclares extensions ts Fs → ((Gs : List Held) → EachDeclares extensions ts Gs → Writable Gs)
    → TellsUnlisted extensions d told → ⊥
listed-or-told extensions d told ts are Fs each writable (inl other) = other-or-texts d ts told are other
listed-or-told extensions d told ts are Fs each writable (inr (us, too, inl tells)) =
    each-or-told extensions ts told Fs each (subst (λ vs. TellsUndeclared extensions vs told) (one-texts d us ts too are) tells)
listed-or-told extensions d told ts are Fs each writable (inr (us, too, inr (Gs, others, tells))) =
    let here : EachDeclares extensions ts Gs = subst (λ vs. EachDeclares extensions vs Gs) (one-texts d us ts too are) others in
    writable-or-told Gs told (writable Gs here) tells

-- ---- inputs

-- an input holds one value
one-list : (input : List ℕ) (d e : Data) → HoldsSchemas input d → HoldsSchemas input e → d ≡ e
one-list input d e h i =
    let same : h.0 ≡ i.0 = one_envelope input [] (codes "schemas" ∷ []) h.0 i.0 h.1 i.1 in
    let at : HoldsValue i.0 (codes "schemas") d = rw (sym same) h.2 in one_value i.0 (codes "schemas") d e at i.2

pub mergeable-or-told : (input : List ℕ) (extensions : List (List ℕ)) (told : List ℕ) → IsMergeable input extensions → TellsMerging input extensions told → ⊥
mergeable-or-told input extensions told (d, holds, rest) (inl fault) = held-or-told [] (codes "schemas" ∷ []) input told holds.0 holds.1 fault
mergeable-or-told input extensions told (d, holds, (ts, are, ((Fs, each), writable))) (inr (e, held, tells)) =
    let here : TellsUnlisted extensions d told = subst (λ v. TellsUnlisted extensions v told) (one-list input e d held holds) tells in
    listed-or-told extensions d told ts are Fs each writable here
