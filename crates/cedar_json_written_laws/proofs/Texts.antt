-- SPDX-License-Identifier: Apache-2.0
-- Names and identifiers, read from the texts that are written of them.
use Rattle.std.proofs.Common.{◌≡◌, ℕ, Bool, true, false, ◌&&◌, ◌||◌, not, if◌then◌else◌, List, [], ◌∷◌, ◌++◌, Some, None, refl, sym, ap, ◌∙◌}
use Rattle.std.specs.List.{list_all}
use Rattle.cedar_text.specs.Faults.{bad_token, exclusion_fault, first_fault, form_fault, no_any_id, no_id, no_unreserved_id, word_fault, word_len}
use Rattle.cedar_text.specs.Joining.{joined}
use Rattle.cedar_text.specs.NormalNames.{may_stand, name_fault, parts}
use Rattle.cedar_text.specs.Words.{is_cedar, is_reserved_word, is_word}
use Rattle.cedar_text.specs.declared.fault.NameFault.TheVariants.{Reserved}
use Rattle.cedar_text.proofs.WritingLemmas.{all_words, name_fault-joined, parts-joined}
use Rattle.cedar_names.specs.Components.{components, has_cedar}
use Rattle.cedar_names.specs.Identifiers.{any_word, id_words, unreserved_word}
use Rattle.cedar_names.specs.Names.{name_words}
use Rattle.cedar_names.specs.declared.any_id.AnyId.{AnyId}
use Rattle.cedar_names.specs.declared.id.Id.{Id}
use Rattle.cedar_names.specs.declared.id.UnreservedId.{UnreservedId}
use Rattle.cedar_names.specs.declared.name.Name.{Name}

-- ---- tests

both : (a b : Bool) → (a && b) ≡ true → (a ≡ true) × (b ≡ true)
both true b is = (refl, is)
both false b is = absurd (cc)

not_true : (b : Bool) → not b ≡ true → b ≡ false
not_true true is = absurd (cc)
not_true false is = refl

neither : (a b : Bool) → (a || b) ≡ false → (a ≡ false) × (b ≡ false)
neither true b is = absurd (cc)
neither false b is = (refl, is)

-- ---- one word

form_known : (w : List ℕ) → is_word w ≡ true → form_fault w ≡ None
form_known [] word = absurd (cc)
form_known (b ∷ bs) word = ap (λ (t : Bool). if t then None else Some (bad_token (b ∷ bs) (word_len (b ∷ bs)))) word

word_known : (excluded : List ℕ → Bool) (w : List ℕ) → is_word w ≡ true → excluded w ≡ false → word_fault excluded w ≡ None
word_known excluded w word other =
    ap (λ o. first_fault o (exclusion_fault excluded w)) (form_known w word) ∙ ap (λ (t : Bool). if t then Some (Reserved w) else None) other

-- an identifier is a word, and not reserved
id_form : (id : Id) → (is_word id.word ≡ true) × (is_reserved_word id.word ≡ false)
id_form id = let parts = both (is_word id.word) (not (is_reserved_word id.word)) id.form in (parts.0, not_true (is_reserved_word id.word) parts.1)

-- the word of an unreserved identifier is one, and that of a key of annotations is one
pub unreserved_known : (id : UnreservedId) → word_fault no_unreserved_id (unreserved_word id) ≡ None
unreserved_known id =
    let form = id_form id.id in
    word_known no_unreserved_id (unreserved_word id) form.0 (ap (λ b. b || is_cedar (unreserved_word id)) form.1 ∙ not_true (is_cedar (unreserved_word id)) id.unreserved)

pub any_known : (id : AnyId) → word_fault no_any_id (any_word id) ≡ None
any_known id = word_known no_any_id (any_word id) id.form refl

-- ---- names

id_stands : (id : Id) → may_stand no_id id.word ≡ true
id_stands id = id.form

ids_stand : (ids : List Id) → list_all (may_stand no_id) (id_words ids) ≡ true
ids_stand [] = refl
ids_stand (id ∷ ids) = ap (λ b. b && list_all (may_stand no_id) (id_words ids)) (id_stands id) ∙ ids_stand ids

-- words that may stand in a text that is joined of them: the text has no fault, and they are its parts
abbrev pub AreRead : (List ℕ → Bool) → List (List ℕ) → Type 0
AreRead excluded ws = (name_fault excluded (joined ws) ≡ None) × (ws ≡ parts (joined ws))

are_read : (excluded : List ℕ → Bool) (w : List ℕ) (ws : List (List ℕ)) → list_all (may_stand excluded) (w ∷ ws) ≡ true → AreRead excluded (w ∷ ws)
are_read excluded w ws stand = (name_fault-joined excluded w ws stand, sym (parts-joined w ws (all_words excluded (w ∷ ws) stand)))

ids_read : (excluded : List ℕ → Bool) (ids : List Id) (id : Id) → list_all (may_stand excluded) (id_words (ids ++ id ∷ [])) ≡ true → AreRead excluded (id_words (ids ++ id ∷ []))
ids_read excluded [] id stand = are_read excluded id.word [] stand
ids_read excluded (i ∷ ids) id stand = are_read excluded i.word (id_words (ids ++ id ∷ [])) stand

-- a name is read from its components
pub name_read : (ids : List Id) (id : Id) → AreRead no_id (id_words (ids ++ id ∷ []))
name_read ids id = ids_read no_id ids id (ids_stand (ids ++ id ∷ []))

unreserved_stand : (ids : List Id) → has_cedar (id_words ids) ≡ false → list_all (may_stand no_unreserved_id) (id_words ids) ≡ true
unreserved_stand [] none = refl
unreserved_stand (id ∷ ids) none =
    let these = neither (is_cedar id.word) (has_cedar (id_words ids)) none in
    let form = id_form id in
    let excluded : no_unreserved_id id.word ≡ false = ap (λ b. b || is_cedar id.word) form.1 ∙ these.0 in
    let stands : may_stand no_unreserved_id id.word ≡ true = ap (λ b. b && not (no_unreserved_id id.word)) form.0 ∙ ap not excluded in
    ap (λ b. b && list_all (may_stand no_unreserved_id) (id_words ids)) stands ∙ unreserved_stand ids these.1

-- so is the name of a namespace
pub path_read : (n : Name) → AreRead no_unreserved_id (name_words n)
path_read n =
    ids_read no_unreserved_id n.internal.namespace n.internal.basename
    (unreserved_stand (n.internal.namespace ++ n.internal.basename ∷ []) (not_true (has_cedar (components n.internal)) n.unreserved))
