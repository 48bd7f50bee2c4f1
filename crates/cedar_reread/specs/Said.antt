-- SPDX-License-Identifier: Apache-2.0
-- The tokens that the human syntax writes of a fragment, wherever they stand.
use Rattle.std.specs.Prelude.{Bool, true, false, not, List, [], ◌∷◌, ◌++◌, codes, Option, Some, None, if◌then◌else◌}
use Rattle.std.specs.List.{flat_map}
use Rattle.cedar_print.specs.Pieces.{quoted_text}
use Rattle.cedar_tokens.specs.Lexemes.{TextToken}
use Rattle.cedar_tokens.specs.declared.token.TokenKind.TheVariants as kind
use Rattle.cedar_tree.specs.Trees.{Node, Text, ByKey}
use Rattle.cedar_tree.specs.Unplaced.{nowhere}
use Rattle.cedar_convert_fragment.specs.Fragments.{ActionAt, ActionContent, AppliesTo, Declared, Definition, EntityContent, Fields, Form, Fragment, NameAt, TypeAt, written, common_type, string, long, boolean, set_of, record_of, entity, entity_or_common, extension, no_fields, field, Shaped, Listed}

abbrev pub Tokens : Type 0
Tokens = List TextToken

abbrev pub word_token : Text → TextToken
word_token w = record { kind = kind.Word; text = w; loc = nowhere }

abbrev pub mark_token : Text → TextToken
mark_token m = record { kind = kind.Punct; text = m; loc = nowhere }

-- a text between quotes
abbrev pub str_token : Text → TextToken
str_token t = record { kind = kind.Str; text = quoted_text t; loc = nowhere }

-- words with `::` between them
abbrev pub behind_colons : Text → Tokens
behind_colons w = mark_token (codes "::") ∷ word_token w ∷ []

abbrev pub said_path : List Text → Tokens
said_path [] = []
said_path (w ∷ ws) = word_token w ∷ flat_map behind_colons ws

-- a type that every schema has
abbrev pub said_builtin : Text → Tokens
said_builtin w = said_path (codes "__cedar" ∷ w ∷ [])

-- `@key("value")`
abbrev pub said_annotation : Text × Node Text → Tokens
said_annotation a = mark_token (codes "@") ∷ word_token a.0 ∷ mark_token (codes "(") ∷ str_token a.1.node ∷ mark_token (codes ")") ∷ []

abbrev pub said_annotations : ByKey → Tokens
said_annotations annotations = flat_map said_annotation annotations

-- `?` where not each record has the attribute
abbrev pub said_optional : Bool → Tokens
said_optional true = []
said_optional false = mark_token (codes "?") ∷ []

-- an attribute, and what stands behind its colon
abbrev pub said_attribute : ByKey → Text → Bool → Tokens → Tokens
said_attribute annotations name required behind = said_annotations annotations ++ str_token name ∷ (said_optional required ++ mark_token (codes ":") ∷ behind)

abbrev mutual
  pub said_type : TypeAt → Tokens
  said_type (written form place) = said_form form
  said_type (common_type name place) = said_path name.words

  pub said_form : Form → Tokens
  said_form string = said_builtin (codes "String")
  said_form long = said_builtin (codes "Long")
  said_form boolean = said_builtin (codes "Bool")
  said_form (set_of element) = word_token (codes "Set") ∷ mark_token (codes "<") ∷ (said_type element ++ mark_token (codes ">") ∷ [])
  said_form (record_of attributes others) = mark_token (codes "{") ∷ (said_fields attributes ++ mark_token (codes "}") ∷ [])
  said_form (entity name) = said_path name.words
  said_form (entity_or_common name) = said_path name.words
  said_form (extension name) = said_builtin name

  -- attributes with a comma between them
  pub said_fields : Fields → Tokens
  said_fields no_fields = []
  said_fields (field name ty annotations required others) =
      said_attribute annotations name required (said_type ty ++ said_others others)

  -- each behind a comma
  pub said_others : Fields → Tokens
  said_others no_fields = []
  said_others (field name ty annotations required others) =
      mark_token (codes ",") ∷ said_attribute annotations name required (said_type ty ++ said_others others)

-- ---- declarations

-- what stands behind the first of several: each behind a comma
abbrev pub said_more : {T : Type 0} → (T → Tokens) → List T → Tokens
said_more parts items = flat_map (λ item. mark_token (codes ",") ∷ parts item) items

-- items with a comma between them
abbrev pub said_items : {T : Type 0} → (T → Tokens) → List T → Tokens
said_items parts [] = []
said_items parts (item ∷ items) = parts item ++ said_more parts items

-- items in brackets
abbrev pub said_list : {T : Type 0} → (T → Tokens) → List T → Tokens
said_list parts items = mark_token (codes "[") ∷ (said_items parts items ++ mark_token (codes "]") ∷ [])

-- `in [P, P]`, where there are parents
abbrev pub said_in : {T : Type 0} → (T → Tokens) → List T → Tokens
said_in parts [] = []
said_in parts (parent ∷ parents) = word_token (codes "in") ∷ said_list parts (parent ∷ parents)

abbrev pub said_name : NameAt → Tokens
said_name name = said_path name.words

-- a text between quotes, alone
abbrev pub said_text : Text → Tokens
said_text text = str_token text ∷ []

-- whether it is the closed record without attributes
abbrev pub is_empty_form : Form → Bool
is_empty_form (record_of no_fields others) = not others
is_empty_form _ = false

abbrev pub is_empty_shape : TypeAt → Bool
is_empty_shape (written form place) = is_empty_form form
is_empty_shape (common_type name place) = false

-- `= SHAPE`, unless that is empty
abbrev pub said_shape : TypeAt → Tokens
said_shape shape = if is_empty_shape shape then [] else mark_token (codes "=") ∷ said_type shape

-- `tags TYPE`, where there are tags
abbrev pub said_tags : Option TypeAt → Tokens
said_tags None = []
said_tags (Some ty) = word_token (codes "tags") ∷ said_type ty

-- an entity type, behind its name
abbrev pub said_entity : EntityContent → Tokens
said_entity (Shaped parents shape tags) = said_in said_name parents ++ (said_shape shape ++ said_tags tags)
said_entity (Listed ids) = word_token (codes "enum") ∷ said_list said_text ids

-- the type of a parent
abbrev pub said_parent_type : Option NameAt → Tokens
said_parent_type None = word_token (codes "Action") ∷ []
said_parent_type (Some name) = said_name name

-- an action as a parent
abbrev pub said_parent : ActionAt → Tokens
said_parent parent = said_parent_type parent.ty ++ (mark_token (codes "::") ∷ str_token parent.id ∷ [])

abbrev pub said_parents : Option (List ActionAt) → Tokens
said_parents None = []
said_parents (Some parents) = said_in said_parent parents

-- `principal: [P, P], resource: [R, R], context: C`
abbrev pub said_clauses : AppliesTo → Tokens
said_clauses a =
    word_token (codes "principal") ∷ mark_token (codes ":") ∷ (said_list said_name a.principals ++ (mark_token (codes ",")
    ∷ word_token (codes "resource") ∷ mark_token (codes ":") ∷ (said_list said_name a.resources ++ (mark_token (codes ",")
    ∷ word_token (codes "context") ∷ mark_token (codes ":") ∷ said_type a.context))))

-- the same in braces behind `appliesTo`
abbrev pub said_block : AppliesTo → Tokens
said_block a = word_token (codes "appliesTo") ∷ mark_token (codes "{") ∷ (said_clauses a ++ mark_token (codes "}") ∷ [])

-- these tokens, unless the list is empty
abbrev pub unless_none : {T : Type 0} → List T → Tokens → Tokens
unless_none [] ts = []
unless_none (item ∷ items) ts = ts

abbrev pub said_filled : AppliesTo → Tokens
said_filled a = unless_none a.principals (unless_none a.resources (said_block a))

-- what an action applies to, where it says so and neither list is empty
abbrev pub said_applies : Option AppliesTo → Tokens
said_applies None = []
said_applies (Some a) = said_filled a

-- an action, behind its id
abbrev pub said_action : ActionContent → Tokens
said_action a = said_parents a.member_of ++ said_applies a.applies_to

-- each declaration with its name and its annotations
abbrev pub said_common_entry : Text × Declared TypeAt → Tokens
said_common_entry e =
    said_annotations e.1.annotations ++ (word_token (codes "type") ∷ word_token e.0 ∷ mark_token (codes "=") ∷ (said_type e.1.content ++ mark_token (codes ";") ∷ []))

abbrev pub said_entity_entry : Text × Declared EntityContent → Tokens
said_entity_entry e = said_annotations e.1.annotations ++ (word_token (codes "entity") ∷ word_token e.0 ∷ (said_entity e.1.content ++ mark_token (codes ";") ∷ []))

abbrev pub said_action_entry : Text × Declared ActionContent → Tokens
said_action_entry e = said_annotations e.1.annotations ++ (word_token (codes "action") ∷ str_token e.0 ∷ (said_action e.1.content ++ mark_token (codes ";") ∷ []))

-- the common types, the entity types and the actions of a namespace, each in order
abbrev pub said_definition : Definition → Tokens
said_definition d = flat_map said_common_entry d.common_types ++ (flat_map said_entity_entry d.entity_types ++ flat_map said_action_entry d.actions)

-- a named namespace, in braces
abbrev pub said_named : List Text → Definition → Tokens
said_named words d =
    said_annotations d.annotations ++ (word_token (codes "namespace") ∷ (said_path words ++ (mark_token (codes "{") ∷ (said_definition d ++ mark_token (codes "}") ∷ []))))

-- a namespace: the unnamed one as its declarations
abbrev pub said_under : Option (List Text) → Definition → Tokens
said_under None d = said_definition d
said_under (Some words) d = said_named words d

abbrev pub said_namespace : Option (List Text) × Definition → Tokens
said_namespace n = said_under n.0 n.1

-- each namespace in order
abbrev pub said_fragment : Fragment → Tokens
said_fragment F = flat_map said_namespace F
