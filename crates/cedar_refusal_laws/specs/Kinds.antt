-- SPDX-License-Identifier: Apache-2.0
-- Definitions in which each reference has the kind of its place, and declared names without `__cedar`.
use Rattle.std.specs.Prelude.{◌≡◌, false, List}
use Rattle.cedar_data.specs.Firsts.{AllPass}
use Rattle.cedar_names.specs.Components.{has_cedar}
use Rattle.cedar_written.specs.declared.reference_type.ReferenceType.{ReferenceType}
use Rattle.cedar_written.specs.declared.reference_type.ReferenceType.TheVariants as kind
use Rattle.cedar_world.specs.of_declared.Names.{Names}
use Rattle.cedar_schema_error.specs.FullNames.{FullName, Uid}
use Rattle.cedar_schema_error.specs.NameReferences.{ActionReference, NameReference}
use Rattle.cedar_world.specs.of_unfold.Written.{Written}
use Rattle.cedar_world.specs.Definitions.{ActionDefinition, EntityDefinition, Namespace, parents_of, shape_of, tags_of}
use Rattle.cedar_refusal_laws.specs.Parts.{Any, EachPart}

-- the reference has this kind
abbrev pub IsOfKind : ReferenceType → NameReference → Type 0
IsOfKind kind r = r.kind ≡ kind

-- each of these references has this kind
abbrev pub AreOf : ReferenceType → List NameReference → Type 0
AreOf kind rs = AllPass (IsOfKind kind) rs

-- each reference in a type, however deep, has the kind of its place
abbrev pub HasItsKinds : Written NameReference → Type 0
HasItsKinds = EachPart Any Any IsOfKind

-- so in an entity type, whose parents are entity types
pub record EntityHasKinds (e : EntityDefinition NameReference) : Type 0 where
  pub parents : AreOf kind.Entity (parents_of e)
  pub shape : AllPass HasItsKinds (shape_of e)
  pub tags : AllPass HasItsKinds (tags_of e)

-- so in an action, whose principals and resources are entity types
pub record ActionHasKinds (a : ActionDefinition NameReference ActionReference) : Type 0 where
  pub principals : AreOf kind.Entity a.principals
  pub resources : AreOf kind.Entity a.resources
  pub context : HasItsKinds a.context

-- so in all that a namespace defines
pub record NamespaceHasKinds (ns : Namespace) : Type 0 where
  pub common_types : AllPass (λ c. HasItsKinds c.1) ns.common_types
  pub entity_types : AllPass (λ e. EntityHasKinds e.1) ns.entity_types
  pub actions : AllPass (λ a. ActionHasKinds a.1) ns.actions

-- in these namespaces, each reference has the kind of its place
abbrev pub HaveTheirKinds : List Namespace → Type 0
HaveTheirKinds all = AllPass NamespaceHasKinds all

-- no component of the name is `__cedar`
abbrev pub IsFree : FullName → Type 0
IsFree name = has_cedar name ≡ false

-- so it is with the names of declared entity types, and with those of the types of declared actions
pub record DeclareFree (names : Names) : Type 0 where
  pub entity_types : AllPass IsFree names.entity_types
  pub actions : AllPass (λ (uid : Uid). IsFree uid.ty) names.actions
