-- SPDX-License-Identifier: Apache-2.0
-- Which names a break keeps: those that stand in the old schema, each with its place.
use Rattle.std.specs.Prelude.{◌≡◌, ⊤}
use Rattle.std.specs.declared.result.Result.{Result}
use Rattle.std.specs.declared.result.Result.TheVariants.{Ok, Err}
use Rattle.cedar_checks.specs.SchemaViews.{types_of}
use Rattle.cedar_data.specs.Firsts.{SomePasses}
use Rattle.cedar_data.specs.declared.memory.Failure.{Failure}
use Rattle.cedar_data.specs.declared.memory.Failure.TheVariants.{Refused, NoMemory}
use Rattle.cedar_names.specs.declared.name.EntityType.{EntityType}
use Rattle.cedar_resolved.specs.declared.entity_type.ValidatorEntityType.{ValidatorEntityType}
use Rattle.cedar_resolved.specs.declared.schema.ValidatorSchema.{ValidatorSchema}
use Rattle.cedar_compat.specs.declared.broken.Broken.{Broken}
use Rattle.cedar_compat.specs.declared.fault.CompatFault.{CompatFault}
use Rattle.cedar_compat.specs.declared.kind.CompatKind.{CompatKind}
use Rattle.cedar_compat.specs.declared.kind.CompatKind.TheVariants as kind

-- a descendant that is taken away is one of the old entity type's, as it stands there
abbrev pub KeepsDescendant : ValidatorEntityType → CompatKind → Type 0
KeepsDescendant old (kind.DescendantRemoved ty) = SomePasses (λ below. ty ≡ below) old.descendants
KeepsDescendant old _ = ⊤

-- the entity type of the fault is one of the old schema's, as it stands there, and so is what is kept of its descendants
abbrev pub KeepsNames : ValidatorSchema → CompatFault → Type 0
KeepsNames old fault = SomePasses (λ e. (fault.ty ≡ e.0) × KeepsDescendant e.1 fault.kind) (types_of old)

-- the fault keeps the entity type itself, and what a call's refusal does
abbrev pub KeepsOf : EntityType → Result (Unit {0}) (Failure Broken) → CompatFault → Type 0
KeepsOf ty (Ok u) fault = ⊥
KeepsOf ty (Err NoMemory) fault = ⊥
KeepsOf ty (Err (Refused inner)) fault = (fault.ty ≡ ty) × (fault.kind ≡ inner.kind)
