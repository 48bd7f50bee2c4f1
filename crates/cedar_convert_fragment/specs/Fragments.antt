-- SPDX-License-Identifier: Apache-2.0
-- Fragments by words and places: what a fragment says, whatever holds it.
use Rattle.std.specs.Prelude.{Bool, List, [], ◌∷◌, Option}
use Rattle.cedar_tree.specs.Trees.{Place, Text, ByKey}
use Rattle.cedar_types.specs.declared.value.ValueMap.{ValueMap}

-- a name: its words, outermost first, and its place
pub record NameAt : Type 0 where
  pub words : List Text
  pub place : Option Place

mutual
  -- a type, and its place
  pub data TypeAt : Type 0 where
    -- a type that is written out
    written : Form → Option Place → TypeAt
    -- a common type, by its name
    common_type : NameAt → Option Place → TypeAt

  -- what is written out
  pub data Form : Type 0 where
    string : Form
    long : Form
    boolean : Form
    set_of : TypeAt → Form
    -- the attributes, and whether a record may have others
    record_of : Fields → Bool → Form
    -- an entity type
    entity : NameAt → Form
    -- a common type, or else an entity type
    entity_or_common : NameAt → Form
    extension : Text → Form

  -- attributes in the order of their names
  pub data Fields : Type 0 where
    no_fields : Fields
    -- the name, the type, the annotations and whether each record has it; and the others
    field : Text → TypeAt → ByKey → Bool → Fields → Fields

-- what an attribute is
pub record FieldAt : Type 0 where
  pub ty : TypeAt
  pub annotations : ByKey
  pub required : Bool

-- attributes by name
abbrev pub fields : List (Text × FieldAt) → Fields
fields [] = no_fields
fields (f ∷ fs) = field f.0 f.1.ty f.1.annotations f.1.required (fields fs)

-- what entity types are: with parents, a shape and maybe a type of tags, or the entities of these ids alone
pub data EntityContent : Type 0 where
  Shaped : List NameAt → TypeAt → Option TypeAt → EntityContent
  Listed : List Text → EntityContent

-- an action as a parent: its type, where it is given, and its id
pub record ActionAt : Type 0 where
  pub ty : Option NameAt
  pub id : Text

-- what an action applies to
pub record AppliesTo : Type 0 where
  pub resources : List NameAt
  pub principals : List NameAt
  pub context : TypeAt

-- what an action is
pub record ActionContent : Type 0 where
  pub attributes : Option ValueMap
  pub applies_to : Option AppliesTo
  pub member_of : Option (List ActionAt)

-- a content with what is said of it, and the place where it is declared
pub record Declared (A : Type 0) : Type 0 where
  pub content : A
  pub annotations : ByKey
  pub loc : Option Place

-- contents by name
abbrev pub ByName : Type 0 → Type 0
ByName A = List (Text × Declared A)

-- what a namespace declares
pub record Definition : Type 0 where
  pub common_types : ByName TypeAt
  pub entity_types : ByName EntityContent
  pub actions : ByName ActionContent
  pub annotations : ByKey

-- definitions by the names of their namespaces; the unnamed one has none, and stands first
abbrev pub Fragment : Type 0
Fragment = List (Option (List Text) × Definition)
