-- SPDX-License-Identifier: Apache-2.0
-- What a world becomes where the schema of its caller is printed and read again: types are written a little differently.
use Rattle.std.specs.Prelude.{◌≡◌, ◌++◌, ℕ, Bool, false, IsTrue, List, [], ◌∷◌, Option, Some, None, codes}
use Rattle.std.specs.List.{AllZip, list_any}
use Rattle.cedar_declared.specs.Names.{is_common, is_declared, is_entity}
use Rattle.cedar_names.specs.Components.{has_cedar}
use Rattle.cedar_schema_error.specs.FullNames.{FullName, basename}
use Rattle.cedar_schema_error.specs.NameReferences.{ActionReference, NameReference}
use Rattle.cedar_text.specs.Words.{has_word, is_primitive_word, primitive_words}
use Rattle.cedar_unfold.specs.Written.{Written, WrittenAttributes, Boolean, Long, String, Extension, Set, Record, Entity, EntityOrCommon, CommonTypeRef, no_attributes, attribute}
use Rattle.cedar_world.specs.Definitions.{ActionDefinition, EntityDefinition, Enumerated, Namespace, Standard}
use Rattle.cedar_world.specs.Worlds.{World, builtin_name, own}
use Rattle.cedar_written.specs.declared.reference_type.ReferenceType.{ReferenceType}
use Rattle.cedar_written.specs.declared.reference_type.ReferenceType.TheVariants as kind

-- the reference to the builtin type of this word
abbrev pub builtin_reference : List ℕ → NameReference
builtin_reference word = record { raw = builtin_name word; possibilities = builtin_name word ∷ []; kind = kind.CommonOrEntity }

-- the names that a reference may stand for: one, or a name in a namespace without `__cedar`, and then its basename alone
pub data ArePossibilities : List FullName → Type 0 where
  one_name : {name : FullName} → ArePossibilities (name ∷ [])
  two_names : (outer : List ℕ) (inner : FullName) (word : List ℕ) → has_cedar (outer ∷ inner) ≡ false → ArePossibilities ((outer ∷ inner ++ word ∷ []) ∷ (word ∷ []) ∷ [])

-- a reference of a kind is read again as one of another kind, which may stand for the same names
pub record ReadAs (old new : ReferenceType) (before after : NameReference) : Type 0 where
  pub old_kind : before.kind ≡ old
  pub new_kind : after.kind ≡ new
  pub same_names : after.possibilities ≡ before.possibilities
  pub names_are : ArePossibilities before.possibilities

-- a type, and what it is read again as: a builtin type by its name, and a name of whatever kind as one of either kind
mutual
  pub data TypeRewritten : Written NameReference → Written NameReference → Type 0 where
    boolean : TypeRewritten Boolean (EntityOrCommon (builtin_reference (codes "Bool")))
    long : TypeRewritten Long (EntityOrCommon (builtin_reference (codes "Long")))
    string : TypeRewritten String (EntityOrCommon (builtin_reference (codes "String")))
    extension : {word : List ℕ} → TypeRewritten (Extension word) (EntityOrCommon (builtin_reference word))
    set : {t u : Written NameReference} → TypeRewritten t u → TypeRewritten (Set t) (Set u)
    record_of : {ts us : WrittenAttributes NameReference} {is_open : Bool} → AttributesRewritten ts us → TypeRewritten (Record ts is_open) (Record us is_open)
    entity : {r s : NameReference} → ReadAs kind.Entity kind.CommonOrEntity r s → TypeRewritten (Entity r) (EntityOrCommon s)
    either : {r s : NameReference} → ReadAs kind.CommonOrEntity kind.CommonOrEntity r s → TypeRewritten (EntityOrCommon r) (EntityOrCommon s)
    common : {r s : NameReference} → ReadAs kind.Common kind.CommonOrEntity r s → TypeRewritten (CommonTypeRef r) (EntityOrCommon s)

  -- so are attributes, under the same names and with the same marks
  pub data AttributesRewritten : WrittenAttributes NameReference → WrittenAttributes NameReference → Type 0 where
    none : AttributesRewritten no_attributes no_attributes
    each : {name : List ℕ} {required : Bool} {t u : Written NameReference} {ts us : WrittenAttributes NameReference} →
        TypeRewritten t u → AttributesRewritten ts us → AttributesRewritten (attribute name required t ts) (attribute name required u us)

-- the whole shape of an entity type, or the whole context of an action: a record by its parts, and a name as that of a common type
pub data ShapeRewritten : Written NameReference → Written NameReference → Type 0 where
  record_of : {ts us : WrittenAttributes NameReference} {is_open : Bool} → AttributesRewritten ts us → ShapeRewritten (Record ts is_open) (Record us is_open)
  either : {r s : NameReference} → ReadAs kind.CommonOrEntity kind.Common r s → ShapeRewritten (EntityOrCommon r) (CommonTypeRef s)
  common : {r s : NameReference} → ReadAs kind.Common kind.Common r s → ShapeRewritten (CommonTypeRef r) (CommonTypeRef s)

-- tags, where there are some
pub data TagsRewritten : Option (Written NameReference) → Option (Written NameReference) → Type 0 where
  no_tags : TagsRewritten None None
  tags : {t u : Written NameReference} → TypeRewritten t u → TagsRewritten (Some t) (Some u)

-- an entity type: its parents, or its ids, stay
pub data EntityRewritten : EntityDefinition NameReference → EntityDefinition NameReference → Type 0 where
  standard : {parents : List NameReference} {t u : Written NameReference} {old new : Option (Written NameReference)} →
      ShapeRewritten t u → TagsRewritten old new → EntityRewritten (Standard parents t old) (Standard parents u new)
  enumerated : {ids : List (List ℕ)} → EntityRewritten (Enumerated ids) (Enumerated ids)

-- an action: all but its context stays
pub record ActionRewritten (before after : ActionDefinition NameReference ActionReference) : Type 0 where
  pub parents : after.parents ≡ before.parents
  pub principals : after.principals ≡ before.principals
  pub resources : after.resources ≡ before.resources
  pub context : ShapeRewritten before.context after.context
  pub attribute_types : after.attribute_types ≡ before.attribute_types
  pub attributes : after.attributes ≡ before.attributes

-- under the same key, what R says of the values
pub record SameKey {K V W : Type 0} (R : V → W → Type 0) (before : K × V) (after : K × W) : Type 0 where
  pub key : after.0 ≡ before.0
  pub value : R before.1 after.1

-- a namespace: what it declares, each in turn
pub record NamespaceRewritten (before after : Namespace) : Type 0 where
  pub common_types : AllZip (SameKey TypeRewritten) before.common_types after.common_types
  pub entity_types : AllZip (SameKey EntityRewritten) before.entity_types after.entity_types
  pub actions : AllZip (SameKey ActionRewritten) before.actions after.actions

-- a namespace that declares nothing
pub record DeclaresNothing (ns : Namespace) : Type 0 where
  pub common_types : ns.common_types ≡ []
  pub entity_types : ns.entity_types ≡ []
  pub actions : ns.actions ≡ []

-- namespaces, each in turn; one that declares nothing may be left out
pub data NamespacesRewritten : List Namespace → List Namespace → Type 0 where
  no_more : NamespacesRewritten [] []
  one_more : {ns other : Namespace} {all others : List Namespace} → NamespaceRewritten ns other → NamespacesRewritten all others → NamespacesRewritten (ns ∷ all) (other ∷ others)
  left_out : {ns : Namespace} {all others : List Namespace} → DeclaresNothing ns → NamespacesRewritten all others → NamespacesRewritten (ns ∷ all) others

-- what is asked of a world, so that its names are read again as what they were
pub record Printable (W : World) : Type 0 where
  -- nothing is both an entity type and a common type
  pub one_kind : (name : FullName) → IsTrue (is_entity (own W) name) → IsTrue (is_common (own W) name) → ⊥
  -- no entity type has the word of a builtin type as its basename
  pub no_builtin_word : (name : FullName) → IsTrue (is_entity (own W) name) → has_word (primitive_words ++ W.extensions) (basename name) ≡ false
  -- no declared name has `__cedar`
  pub unreserved : (name : FullName) → IsTrue (is_declared (own W) kind.CommonOrEntity name) → has_cedar name ≡ false
  -- no extension type has the word of a primitive type
  pub no_primitive_word : list_any is_primitive_word W.extensions ≡ false
