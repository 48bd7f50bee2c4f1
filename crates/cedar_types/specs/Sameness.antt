-- SPDX-License-Identifier: Apache-2.0
-- Types that are the same but for the places of the names in them.
use Rattle.std.specs.Prelude.{◌≡◌, ℕ, Bool, List, [], ◌∷◌}
use Rattle.cedar_closure.specs.of_names.Names.{entity_words, name_words}
use Rattle.cedar_closure.specs.of_names.declared.name.EntityType.{EntityType}
use Rattle.cedar_closure.specs.of_names.declared.name.Name.{Name}
use Rattle.cedar_types.specs.Types.{bool_type, long_type, string_type, set_type, record_type, entity_type, extension_type, attributes_of}
use Rattle.cedar_types.specs.declared.ty.AttributeType.{AttributeType}
use Rattle.cedar_types.specs.declared.ty.OpenTag.{OpenTag}
use Rattle.cedar_types.specs.declared.ty.ResolvedType.{ResolvedType}

mutual
  -- the types are the same but for places: names in them have the same words
  pub data SameType : ResolvedType → ResolvedType → Type 0 where
    boolean : SameType bool_type bool_type
    long : SameType long_type long_type
    string : SameType string_type string_type
    set : {s t : ResolvedType} → SameType s t → SameType (set_type s) (set_type t)
    of_record : {xs ys : List (List ℕ × AttributeType)} (tag : OpenTag) → SameAttributes xs ys → SameType (record_type (attributes_of xs) tag) (record_type (attributes_of ys) tag)
    entity : {e f : EntityType} → entity_words e ≡ entity_words f → SameType (entity_type e) (entity_type f)
    extension : {m n : Name} → name_words m ≡ name_words n → SameType (extension_type m) (extension_type n)

  -- and so are attributes, by name
  pub data SameAttributes : List (List ℕ × AttributeType) → List (List ℕ × AttributeType) → Type 0 where
    none : SameAttributes [] []
    each : {name : List ℕ} {required : Bool} {s t : ResolvedType} {xs ys : List (List ℕ × AttributeType)}
        → SameType s t → SameAttributes xs ys
        → SameAttributes ((name, record { attr_type = s; is_required = required }) ∷ xs) ((name, record { attr_type = t; is_required = required }) ∷ ys)
