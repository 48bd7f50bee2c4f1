-- SPDX-License-Identifier: Apache-2.0
-- Names and keys have the forms of identifiers and words.
use Rattle.std.proofs.Common.{◌≡◌, ℕ, true, not, List, [], ◌∷◌, ◌++◌, map, refl}
use Rattle.std.proofs.lemmas.Bool.{and_parts}
use Rattle.std.specs.List.{AllByRecursion, list_all}
use Rattle.cedar_text.specs.Words.{is_id, is_reserved_word, is_word}
use Rattle.cedar_names.specs.Annotating.{annotation_entries}
use Rattle.cedar_names.specs.Components.{components}
use Rattle.cedar_names.specs.Identifiers.{any_word, id_word, id_words, unreserved_word}
use Rattle.cedar_names.specs.declared.annotation.Annotation.{Annotation}
use Rattle.cedar_names.specs.declared.annotation.Annotations.{Annotations}
use Rattle.cedar_names.specs.declared.any_id.AnyId.{AnyId}
use Rattle.cedar_names.specs.declared.id.Id.{Id}
use Rattle.cedar_names.specs.declared.id.UnreservedId.{UnreservedId}
use Rattle.cedar_names.specs.declared.internal_name.InternalName.{InternalName}
use Rattle.cedar_print_laws.specs.Apart.{AreWords}
use Rattle.cedar_tree.specs.Meanings.{annotation_tree, annotations_tree}
use Rattle.cedar_tree.specs.Trees.{Node, Text}
use Rattle.cedar_reread.proofs.Paths.{AreIds}

pub is_identifier : (id : Id) → is_id (id_word id) ≡ true
is_identifier id = id.form

pub unreserved_identifier : (id : UnreservedId) → is_id (unreserved_word id) ≡ true
unreserved_identifier id = id.id.form

pub id_is_word : (w : List ℕ) → is_id w ≡ true → is_word w ≡ true
id_is_word w id = (and_parts (is_word w) (not (is_reserved_word w)) id).0

pub key_is_word : (key : AnyId) → is_word (any_word key) ≡ true
key_is_word key = key.form

ids_all : (ids : List Id) → list_all is_id (id_words ids) ≡ true
ids_all [] = refl
ids_all (id ∷ ids) = rw (is_identifier id) (ids_all ids)

-- one identifier or more
ids_are : (ids : List Id) (last : Id) → AreIds (id_words (ids ++ last ∷ []))
ids_are [] last = ids_all (last ∷ [])
ids_are (id ∷ ids) last = ids_all (id ∷ (ids ++ last ∷ []))

pub components_are_ids : (n : InternalName) → AreIds (components n)
components_are_ids n = ids_are n.namespace n.basename

all_words : (ws : List (List ℕ)) → list_all is_id ws ≡ true → list_all is_word ws ≡ true
all_words [] ids = refl
all_words (w ∷ ws) ids =
    let parts = and_parts (is_id w) (list_all is_id ws) ids in
    rw (id_is_word w parts.0) (all_words ws parts.1)

ids_are_words : (ws : List (List ℕ)) → AreIds ws → AreWords ws
ids_are_words [] ids = absurd ids
ids_are_words (w ∷ ws) ids = (λ e. cc, all_words (w ∷ ws) ids)

pub components_are_words : (n : InternalName) → AreWords (components n)
components_are_words n = ids_are_words (components n) (components_are_ids n)

keys_all : (es : List (AnyId × Annotation)) → AllByRecursion {X = Text × Node Text} (λ a. is_word a.0 ≡ true) (map annotation_tree es)
keys_all [] = tt
keys_all (e ∷ es) = (key_is_word e.0, keys_all es)

-- the keys of annotations are words
pub keys_are_words : (a : Annotations) → AllByRecursion {X = Text × Node Text} (λ a. is_word a.0 ≡ true) (annotations_tree a)
keys_are_words a = keys_all (annotation_entries a)
