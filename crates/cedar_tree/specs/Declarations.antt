-- SPDX-License-Identifier: Apache-2.0
use Rattle.std.specs.Prelude.{ℕ, List, codes}
use Rattle.cedar_names.specs.Identifiers.{id_word}
use Rattle.cedar_names.specs.declared.id.Id.{Id}
use Rattle.cedar_names.specs.of_text.Lists.{elements}
use Rattle.cedar_names.specs.of_text.declared.node.Node.{Node}
use Rattle.cedar_tree.specs.declared.declaration.EntityDecl.{EntityDecl}
use Rattle.cedar_tree.specs.declared.declaration.EntityDecl.TheVariants.{Standard, Enum}
use Rattle.cedar_tree.specs.declared.declaration.PR.{PR}
use Rattle.cedar_tree.specs.declared.declaration.PR.TheVariants.{Principal, Resource}

-- the names of the entity types
abbrev pub entity_names : EntityDecl → List (Node Id)
entity_names (Standard decl) = elements decl.names
entity_names (Enum decl) = elements decl.names

-- a text at its place
abbrev pub TextAt : Type 0
TextAt = Node (List ℕ)

-- the word of an identifier, at its place
abbrev pub word_of : Node Id → TextAt
word_of id = record { node = id_word id.node; loc = id.loc }

-- the word of what a list of entity types is said of
abbrev pub scope_text : PR → List ℕ
scope_text Principal = codes "principal"
scope_text Resource = codes "resource"
