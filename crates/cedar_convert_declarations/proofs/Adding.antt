-- SPDX-License-Identifier: Apache-2.0
-- One more of what a fragment can hold, or one that it can't.
use Rattle.std.proofs.Common.{◌≡◌, ℕ, true, false, cond, List, [], ◌∷◌, ◌++◌, map, Some, sym, ap, ◌∙◌}
use Rattle.std.proofs.lemmas.List.{append-nil}
use Rattle.cedar_names.specs.Identifiers.{id_of, id_word, unreserved_word}
use Rattle.cedar_names.specs.declared.annotation.Annotations.{Annotations}
use Rattle.cedar_names.specs.declared.id.Id.{Id}
use Rattle.cedar_names.specs.declared.id.UnreservedId.{UnreservedId}
use Rattle.cedar_text.proofs.Members.{map-append}
use Rattle.cedar_text.specs.Words.{is_cedar}
use Rattle.cedar_text.specs.declared.location.Loc.{Loc}
use Rattle.cedar_text.specs.declared.node.Node.{Node}
use Rattle.cedar_tree.specs.Meanings.{annotations_tree, node_of}
use Rattle.cedar_fragment.specs.declared.definitions.CommonType.{CommonType}
use Rattle.cedar_written.specs.CommonTypeIds.{common_id}
use Rattle.cedar_written.specs.declared.common_type_id.CommonTypeId.{CommonTypeId}
use Rattle.cedar_written.specs.declared.raw_name.RawName.{RawName}
use Rattle.cedar_written.specs.declared.ty.SchemaType.{SchemaType}
use Rattle.cedar_convert_fragment.specs.Declares.{each, free_name, free_names}
use Rattle.cedar_convert_fragment.specs.Fragments.{Declared, TypeAt}
use Rattle.cedar_convert_fragment.specs.Views.{common_seen, common_word, commons_seen, type_seen}

-- an identifier
pub id-added : (name : Node Id) (id : UnreservedId) (old new : List UnreservedId) → id_of id ≡ name.node → is_cedar (id_word name.node) ≡ false → new ≡ old ++ id ∷ [] → map unreserved_word new ≡ map unreserved_word old ++ free_name (node_of id_word name)
id-added name id old new is free put =
    ap (map unreserved_word) put ∙ map-append unreserved_word old (id ∷ [])
    ∙ ap (λ w. map unreserved_word old ++ id_word w ∷ []) is
    ∙ ap (λ b. map unreserved_word old ++ cond b [] (id_word name.node ∷ [])) (sym free)

pub id-left : (name : Node Id) (old : List UnreservedId) → is_cedar (id_word name.node) ≡ true → map unreserved_word old ≡ map unreserved_word old ++ free_name (node_of id_word name)
id-left name old reserved =
    sym (append-nil (map unreserved_word old)) ∙ ap (λ b. map unreserved_word old ++ cond b [] (id_word name.node ∷ [])) (sym reserved)

pub ruleset ids = (id-added, id-left)

-- a common type
pub common-added : (name : Node Id) (id : UnreservedId) (key : CommonTypeId) (ty : SchemaType RawName) (content : TypeAt) (annotations : Annotations) (loc : Loc) (old new : List (CommonTypeId × CommonType RawName)) → id_of id ≡ name.node → is_cedar (id_word name.node) ≡ false
    → key ≡ common_id id → type_seen ty ≡ content → new ≡ old ++ (key, record { ty = ty; annotations = annotations; loc = Some loc }) ∷ []
    → commons_seen new ≡ commons_seen old ++ each (free_names (node_of id_word name ∷ [])) content (annotations_tree annotations) loc
common-added name id key ty content annotations loc old new is free keyed made put =
    let item : List ℕ → List (List ℕ × Declared TypeAt) = λ w. (w, record { content = content; annotations = annotations_tree annotations; loc = Some loc }) ∷ [] in
    ap commons_seen put ∙ map-append (λ e. (common_word e.0, common_seen e.1)) old ((key, record { ty = ty; annotations = annotations; loc = Some loc }) ∷ [])
    ∙ (λ i. commons_seen old ++ (common_word (keyed i), record { content = made i; annotations = annotations_tree annotations; loc = Some loc }) ∷ [])
    ∙ ap (λ w. commons_seen old ++ item (id_word w)) is
    ∙ ap (λ b. commons_seen old ++ each (cond b [] (id_word name.node ∷ []) ++ []) content (annotations_tree annotations) loc) (sym free)

pub common-left : (name : Node Id) (content : TypeAt) (annotations : Annotations) (loc : Loc) (old : List (CommonTypeId × CommonType RawName)) → is_cedar (id_word name.node) ≡ true
    → commons_seen old ≡ commons_seen old ++ each (free_names (node_of id_word name ∷ [])) content (annotations_tree annotations) loc
common-left name content annotations loc old reserved =
    sym (append-nil (commons_seen old)) ∙ ap (λ b. commons_seen old ++ each (cond b [] (id_word name.node ∷ []) ++ []) content (annotations_tree annotations) loc) (sym reserved)

pub ruleset commons = (common-added, common-left)
