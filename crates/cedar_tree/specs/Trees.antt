-- SPDX-License-Identifier: Apache-2.0
-- What a schema says, with the places of its pieces.
use Rattle.std.specs.Prelude.{ℕ, Bool, List, [], ◌∷◌, map, Option}
use Rattle.cedar_names.specs.of_data.Maps.{map_of}
use Rattle.cedar_names.specs.Order.{word_cmp}
use Rattle.cedar_names.specs.of_text.declared.location.Loc.{Loc}
pub use Rattle.cedar_names.specs.of_text.declared.node.Node.{Node}

-- the byte offsets at which a piece starts and ends, and the text in which it stands
abbrev pub Place : Type 0
Place = Loc

-- from the start of a piece to the end of another
abbrev pub between : Place → Place → Place
between first last = record { start = first.start; end = last.end; src = first.src }

-- the empty place where a piece starts
abbrev pub empty_before : Place → Place
empty_before piece = record { start = piece.start; end = piece.start; src = piece.src }

-- x, which stands at a place
abbrev pub stands : {A : Type 0} → A → Place → Node A
stands x place = record { node = x; loc = place }

-- x, which stands from the start of a piece to the end of another
abbrev pub placed : {A : Type 0} → A → Place → Place → Node A
placed x first last = stands x (between first last)

-- the bytes of a word, or those that a string literal stands for
abbrev pub Text : Type 0
Text = List ℕ

-- `a::b::c`: its identifiers
abbrev pub Path : Type 0
Path = Node (List Text)

-- `@key("value")`; the value is empty where none stands
pub record Annotation : Type 0 where
  pub key : Text
  pub value : Text

-- annotations, in the order of the text
abbrev pub Annotations : Type 0
Annotations = List (Node Annotation)

-- what annotations say: the value at each key, at the place of its annotation, in the order of the keys
abbrev pub ByKey : Type 0
ByKey = List (Text × Node Text)

-- what these annotations say
abbrev pub by_key : Annotations → ByKey
by_key annotations = map_of word_cmp (map (λ a. (a.node.key, stands a.node.value a.loc)) annotations)

-- something with its annotations
pub record Annotated (A : Type 0) : Type 0 where
  pub item : A
  pub annotations : ByKey

-- a type, and the attributes of a record, in the order of the text
mutual
  pub data TypeTree : Type 0 where
    -- `Set<..>`: its element, and the place of that
    Set : TypeTree → Place → TypeTree
    -- a name
    Ident : Path → TypeTree
    -- `{..}`
    Record : Attrs → TypeTree

  pub data Attrs : Type 0 where
    no_attrs : Attrs
    -- the annotations of the first attribute, its name, whether it is required, its type and the place of that, and its own place; and the others
    attr : ByKey → Node Text → Bool → TypeTree → Place → Place → Attrs → Attrs

-- an attribute, whose name is required to be there or not
pub record AttrDecl : Type 0 where
  pub name : Node Text
  pub required : Bool
  pub ty : Node TypeTree

-- these attributes; the place of each leaves its annotations out
abbrev pub attrs_of : List (Annotated (Node AttrDecl)) → Attrs
attrs_of [] = no_attrs
attrs_of (a ∷ others) = attr a.annotations a.item.node.name a.item.node.required a.item.node.ty.node a.item.node.ty.loc a.item.loc (attrs_of others)

-- what a context or the shape of entity types is: the name of a type, or attributes
pub data ContextDecl : Type 0 where
  Named : Path → ContextDecl
  Shape : Node Attrs → ContextDecl

-- `entity a, b in [c] { .. } tags t;`
pub record StandardEntityDecl : Type 0 where
  pub names : List (Node Text)
  pub member_of_types : List Path
  pub attrs : ContextDecl
  pub tags : Option (Node TypeTree)

-- `entity a, b enum ["x", "y"];`
pub record EnumEntityDecl : Type 0 where
  pub names : List (Node Text)
  pub choices : List (Node Text)

-- a declaration of entity types, enumerated ones or others
pub data EntityDecl : Type 0 where
  Standard : StandardEntityDecl → EntityDecl
  Enum : EnumEntityDecl → EntityDecl

-- what an action applies to: `principal` or `resource`
pub data PR : Type 0 where
  Principal : PR
  Resource : PR

-- a line of `appliesTo`
pub data AppDecl : Type 0 where
  -- `principal: [a, b]`
  Types : Node PR → List Path → AppDecl
  -- `context: { .. }`
  Context : ContextDecl → AppDecl

-- an action that another names as its parent: `a::"b"`, or a name alone
pub record QualName : Type 0 where
  pub path : Option Path
  pub eid : Text

-- `action a, b in [c] appliesTo { .. };`
pub record ActionDecl : Type 0 where
  pub names : List (Node Text)
  pub parents : List (Node QualName)
  pub app_decls : Option (Node (List (Node AppDecl)))

-- `type a = t;`
pub record TypeDecl : Type 0 where
  pub name : Node Text
  pub def : Node TypeTree

-- a declaration
pub data Declaration : Type 0 where
  Entity : EntityDecl → Declaration
  Action : ActionDecl → Declaration
  Common : TypeDecl → Declaration

-- the declarations between braces behind `namespace` and a name, or one declaration that stands in none
pub record Namespace : Type 0 where
  pub name : Option Path
  pub decls : List (Annotated (Node Declaration))
  pub loc : Option Place

-- namespaces with their annotations, in the order of the text
abbrev pub Schema : Type 0
Schema = List (Annotated Namespace)
