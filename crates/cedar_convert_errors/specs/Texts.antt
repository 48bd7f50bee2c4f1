-- SPDX-License-Identifier: Apache-2.0
-- What is said of a tree that declares no fragment: texts, help and places.
use Rattle.std.specs.Prelude.{ℕ, List, [], ◌∷◌, ◌++◌, Option, Some, None, codes, map, flat_map, option_to_list}
use Rattle.cedar_tree.specs.of_text.Lists.{elements}
use Rattle.cedar_tree.specs.of_text.Places.{span_of}
use Rattle.cedar_tree.specs.of_text.declared.location.Loc.{Loc}
use Rattle.cedar_tree.specs.of_text.declared.location.Span.{Span}
use Rattle.cedar_tree.specs.Declarations.{scope_text}
use Rattle.cedar_tree.specs.declared.declaration.PR.{PR}
use Rattle.cedar_convert_errors.specs.declared.faults.ToJsonSchemaError.{ToJsonSchemaError}
use Rattle.cedar_convert_errors.specs.declared.faults.ToJsonSchemaError.TheVariants as fault
use Rattle.cedar_convert_errors.specs.declared.errors.ToJsonSchemaErrors.{ToJsonSchemaErrors}

-- what is said of a name that two declarations have
abbrev pub declared_twice_text : List ℕ → List ℕ
declared_twice_text name = codes "`" ++ name ++ codes "` is declared twice"

-- of a namespace that stands twice
abbrev pub namespace_twice_text : List ℕ → List ℕ
namespace_twice_text name = codes "duplicate namespace id: `" ++ name ++ codes "`"

-- of an action with two contexts
abbrev pub context_twice_text : List ℕ → List ℕ
context_twice_text action = codes "duplicate context declaration in action `" ++ action ++ codes "`"

-- of an action with two lists of one kind
abbrev pub list_twice_text : PR → List ℕ → List ℕ
list_twice_text kind action = codes "duplicate `" ++ scope_text kind ++ codes "` declaration in action `" ++ action ++ codes "`"

-- of an action without a list of a kind, and of one whose list is empty
abbrev pub no_types_text : PR → List ℕ → Option Loc → List ℕ
no_types_text kind action None = codes "missing `" ++ scope_text kind ++ codes "` declaration for `" ++ action ++ codes "`"
no_types_text kind action (Some place) = codes "for action `" ++ action ++ codes "`, `" ++ scope_text kind ++ codes "` is `[]`, which is invalid"

-- of a name that is kept for the language
abbrev pub reserved_text : List ℕ
reserved_text = codes "use of the reserved `__cedar` namespace"

-- of a common type that is named as a word of the JSON format
abbrev pub keyword_text : List ℕ → List ℕ
keyword_text word = codes "this uses a reserved schema keyword: `" ++ word ++ codes "`"

-- of a name that is not known
abbrev pub unknown_text : List ℕ → List ℕ
unknown_text name = codes "unknown type name: `" ++ name ++ codes "`"

-- of an attribute that stands twice in a record
abbrev pub attribute_twice_text : List ℕ → List ℕ
attribute_twice_text name = codes "attribute `" ++ name ++ codes "` is declared twice in one record"

-- what is said of a fault
abbrev pub fault_text : ToJsonSchemaError → List ℕ
fault_text (fault.DuplicateDeclarations f) = declared_twice_text f.decl
fault_text (fault.DuplicateContext f) = context_twice_text f.name
fault_text (fault.DuplicatePrincipalOrResource f) = list_twice_text f.kind f.name
fault_text (fault.NoPrincipalOrResource f) = no_types_text f.kind f.name f.empty_loc
fault_text (fault.DuplicateNamespaces f) = namespace_twice_text f.namespace_id
fault_text (fault.UnknownTypeName f) = unknown_text f.name
fault_text (fault.ReservedName f) = reserved_text
fault_text (fault.ReservedSchemaKeyword f) = keyword_text f.keyword
fault_text (fault.DuplicateAttribute f) = attribute_twice_text f.name

-- what to do about two contexts
abbrev pub merge_help : List ℕ
merge_help = codes "Try either deleting one of the declarations, or merging into a single declaration"

-- about two lists of one kind
abbrev pub one_list_help : PR → List ℕ
one_list_help kind =
    codes "Actions may only have a single " ++ scope_text kind ++ codes " declaration, but a " ++ scope_text kind
    ++ codes " declaration may specify a list of entity types like `" ++ scope_text kind ++ codes ": [X, Y, Z]`"

-- about a missing list
abbrev pub both_lists_help : List ℕ
both_lists_help = codes "Every action must define both `principal` and `resource` targets, and the `principal` and `resource` lists must not be `[]`."

-- about a name that is kept for the language
abbrev pub reserved_help : List ℕ
reserved_help = codes "Names containing `__cedar` (for example: `__cedar::A`, `A::__cedar`, or `A::__cedar::B`) are reserved"

-- about a common type that is named as a word of the JSON format
abbrev pub keyword_help : List ℕ
keyword_help = codes "Keywords such as `entity`, `extension`, `set` and `record` cannot be used as common type names"

-- about a name that is not known
abbrev pub unknown_help : List ℕ → List ℕ
unknown_help name = codes "Did you mean to define `" ++ name ++ codes "` as an entity type or common type?"

-- what to do about a fault, if there is something to say
abbrev pub fault_help : ToJsonSchemaError → Option (List ℕ)
fault_help (fault.DuplicateDeclarations f) = None
fault_help (fault.DuplicateContext f) = Some merge_help
fault_help (fault.DuplicatePrincipalOrResource f) = Some (one_list_help f.kind)
fault_help (fault.NoPrincipalOrResource f) = Some both_lists_help
fault_help (fault.DuplicateNamespaces f) = None
fault_help (fault.UnknownTypeName f) = Some (unknown_help f.name)
fault_help (fault.ReservedName f) = Some reserved_help
fault_help (fault.ReservedSchemaKeyword f) = Some keyword_help
fault_help (fault.DuplicateAttribute f) = None

-- the places that a fault keeps, in the order kept
abbrev pub fault_places : ToJsonSchemaError → List Loc
fault_places (fault.DuplicateDeclarations f) = f.loc1 ∷ f.loc2 ∷ []
fault_places (fault.DuplicateContext f) = f.loc1 ∷ f.loc2 ∷ []
fault_places (fault.DuplicatePrincipalOrResource f) = f.loc1 ∷ f.loc2 ∷ []
fault_places (fault.NoPrincipalOrResource f) = f.name_loc ∷ option_to_list f.empty_loc
fault_places (fault.DuplicateNamespaces f) = f.loc1 ∷ f.loc2 ∷ []
fault_places (fault.UnknownTypeName f) = f.loc ∷ []
fault_places (fault.ReservedName f) = f.loc ∷ []
fault_places (fault.ReservedSchemaKeyword f) = f.loc ∷ []
fault_places (fault.DuplicateAttribute f) = f.loc1 ∷ f.loc2 ∷ []

-- the ranges of those places
abbrev pub fault_spans : ToJsonSchemaError → List Span
fault_spans f = map span_of (fault_places f)

-- those of all of these faults, in order
abbrev pub all_spans : List ToJsonSchemaError → List Span
all_spans faults = flat_map fault_spans faults

-- the faults of a list, from the first
abbrev pub fault_list : ToJsonSchemaErrors → List ToJsonSchemaError
fault_list errors = elements errors.faults

-- the first of them
abbrev pub first_fault : ToJsonSchemaErrors → ToJsonSchemaError
first_fault errors = errors.faults.head
