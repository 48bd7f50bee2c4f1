-- SPDX-License-Identifier: Apache-2.0
-- The names that are kept on the way to a fault.
use Rattle.std.proofs.Common.{◌≡◌, List, ◌∷◌, sym, subst}
use Rattle.std.specs.declared.result.Result.{Result}
use Rattle.std.specs.declared.result.Result.TheVariants.{Ok, Err}
use Rattle.cedar_data.specs.Answers.{IfRefused}
use Rattle.cedar_data.specs.declared.memory.Failure.{Failure}
use Rattle.cedar_data.specs.declared.memory.Failure.TheVariants.{Refused, NoMemory}
use Rattle.cedar_names.specs.declared.name.EntityType.{EntityType}
use Rattle.cedar_resolved.specs.declared.entity_type.ValidatorEntityType.{ValidatorEntityType}
use Rattle.cedar_resolved.specs.declared.schema.ValidatorSchema.{ValidatorSchema}
use Rattle.cedar_checks.specs.of_world.Schemas.{EntityKind, Schema}
use Rattle.cedar_compat.specs.BreakChecks.{kind_check}
use Rattle.cedar_compat.specs.Changes.{break_of}
use Rattle.cedar_compat.specs.Checks.{Tells}
use Rattle.cedar_compat.specs.KeptNames.{KeepsDescendant, KeepsNames, KeepsOf}
use Rattle.cedar_compat.specs.declared.broken.Broken.{Broken}
use Rattle.cedar_compat.specs.declared.fault.CompatFault.{CompatFault}
use Rattle.cedar_compat.specs.declared.kind.CompatKind.{CompatKind}
use Rattle.cedar_compat.specs.declared.kind.CompatKind.TheVariants.{DescendantRemoved}
use Rattle.cedar_compat.proofs.KeptLaws.{kind-keeps}
use Rattle.cedar_compat.proofs.Standing.{StandsIn, StandsIn-here}
use Rattle.cedar_compat.proofs.TypeLoops.{PassesTypes, PassesTypes-kept}

-- a descendant that the loop has come to
keeps-here : (old : ValidatorEntityType) {left rest : List EntityType} {name : EntityType} (k : CompatKind) → StandsIn old.descendants left → left ≡ name ∷ rest → k ≡ DescendantRemoved name → KeepsDescendant old k
keeps-here old k sofar at_left is = subst (KeepsDescendant old) (sym is) (StandsIn-here sofar at_left)

pub descendant-kept : (old : ValidatorEntityType) {left rest : List EntityType} {name : EntityType} (x : Failure Broken) → StandsIn old.descendants left → left ≡ name ∷ rest
    → IfRefused {T = Unit {0}} (Err x) (λ broken. broken.kind ≡ DescendantRemoved name) → IfRefused {T = Unit {0}} (Err x) (λ broken. KeepsDescendant old broken.kind)
descendant-kept old (Refused broken) sofar at_left is = keeps-here old broken.kind sofar at_left is
descendant-kept old NoMemory sofar at_left is = tt

-- what the kind of an entity type refuses
pub kind-kept : (old : ValidatorEntityType) (before after : EntityKind) (x : Failure Broken) → Tells break_of (Err x) (kind_check before after) → IfRefused {T = Unit {0}} (Err x) (λ broken. KeepsDescendant old broken.kind)
kind-kept old before after (Refused broken) told = kind-keeps old before after broken told
kind-kept old before after NoMemory told = tt

-- a fault of the entity type that the loop has come to
keeps-type : (R : Schema) {S : ValidatorSchema} {names rest : List EntityType} {tys others : List ValidatorEntityType} {name : EntityType} {ty : ValidatorEntityType} (fault : CompatFault) (read : Result (Unit {0}) (Failure Broken))
    → PassesTypes R S names tys → names ≡ name ∷ rest → tys ≡ ty ∷ others → KeepsOf name read fault → IfRefused read (λ broken. KeepsDescendant ty broken.kind) → KeepsNames S fault
keeps-type R fault (Ok u) sofar keys values of keeps = absurd of
keeps-type R {ty = ty} fault (Err (Refused inner)) sofar keys values of keeps = PassesTypes-kept R fault sofar keys values of.0 (subst (KeepsDescendant ty) (sym of.1) keeps)
keeps-type R fault (Err NoMemory) sofar keys values of keeps = absurd of

pub type-kept : (R : Schema) {S : ValidatorSchema} {names rest : List EntityType} {tys others : List ValidatorEntityType} {name : EntityType} {ty : ValidatorEntityType} (x : Failure CompatFault) (read : Result (Unit {0}) (Failure Broken))
    → PassesTypes R S names tys → names ≡ name ∷ rest → tys ≡ ty ∷ others → IfRefused {T = Unit {0}} (Err x) (KeepsOf name read) → IfRefused read (λ broken. KeepsDescendant ty broken.kind) → IfRefused {T = Unit {0}} (Err x) (KeepsNames S)
type-kept R (Refused fault) read sofar keys values of keeps = keeps-type R fault read sofar keys values of keeps
type-kept R NoMemory read sofar keys values of keeps = tt
