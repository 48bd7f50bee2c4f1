-- SPDX-License-Identifier: Apache-2.0
use Rattle.std.proofs.Common.{◌≡◌, true, subst}
use Rattle.std.specs.List.{flat_map}
use Rattle.cedar_data.specs.Firsts.{IsFirst}
use Rattle.cedar_fragment_world.specs.FragmentFaults.{fragment_faults}
use Rattle.cedar_fragment_world.specs.of_convert_fragment.Views.{fragment_seen}
use Rattle.cedar_names.specs.Extensions.{extension_words}
use Rattle.cedar_phases.proofs.Carried.{carried, refused}
use Rattle.cedar_phases.specs.Holding.{world_of}
use Rattle.cedar_phases.specs.Kept.{KeepsDeclarations, is_missing, tells_declared}
use Rattle.cedar_phases.specs.of_resolved.declared.schema.ValidatorSchema.{ValidatorSchema}
use Rattle.cedar_schema.proofs.OtherFaults.{fragment_other, fragment_tells_none}
use Rattle.cedar_schema.specs.Kept.{KeepsDeclarationsOf, KeepsReferencesOf}
use Rattle.cedar_schema_error.specs.Told.{told}
use Rattle.cedar_schema_error.specs.declared.action_behavior.ActionBehavior.TheVariants.{ProhibitAttributes}
use Rattle.cedar_fragment_world.specs.of_definitions.Structures.{definitions_of}
use Rattle.cedar_schema.proofs.PlacesSeen.{placed_made}
use Rattle.cedar_schema.proofs.fragments.ValidatorSchemaFromFragment.from_fragment_with.Goals as goal

pub returns-in-Ok-clause-placed : goal.returns-in-Ok-clause-placed
returns-in-Ok-clause-placed c =
    placed_made c.args.fragment (flat_map definitions_of c.in-Ok.definitions.items) c.in-Ok.ensures.definitions c.from_schema_fragments.result c.from_schema_fragments.ensures.placed

pub returns-in-Err-clause-kept : goal.returns-in-Err-clause-kept
returns-in-Err-clause-kept c =
    carried ValidatorSchema ValidatorSchema (λ e. IsFirst (fragment_faults ProhibitAttributes (fragment_seen c.args.fragment)) (told e))
    (λ e. is_missing (told e) ≡ true → KeepsReferencesOf (extension_words c.args.extensions.now) c.args.fragment e)
    (λ e first is. absurd (fragment_other ProhibitAttributes (fragment_seen c.args.fragment) (told e) first is)) c.in-Err.failure c.in-Err.ensures.refused

pub returns-in-Ok-clause-as_declared : goal.returns-in-Ok-clause-as_declared
returns-in-Ok-clause-as_declared c =
    refused (KeepsDeclarations (world_of c.in-Ok.definitions.items c.args.extensions.now) (flat_map definitions_of c.in-Ok.definitions.items))
    (λ e. tells_declared (told e) ≡ true → KeepsDeclarationsOf (extension_words c.args.extensions.now) c.args.fragment e)
    (λ e kept is. (flat_map definitions_of c.in-Ok.definitions.items, c.in-Ok.ensures.definitions, subst (λ W. KeepsDeclarations W (flat_map definitions_of c.in-Ok.definitions.items) e) c.in-Ok.ensures.world kept))
    c.from_schema_fragments.result c.from_schema_fragments.ensures.as_declared

pub returns-in-Err-clause-as_declared : goal.returns-in-Err-clause-as_declared
returns-in-Err-clause-as_declared c =
    carried ValidatorSchema ValidatorSchema (λ e. IsFirst (fragment_faults ProhibitAttributes (fragment_seen c.args.fragment)) (told e))
    (λ e. tells_declared (told e) ≡ true → KeepsDeclarationsOf (extension_words c.args.extensions.now) c.args.fragment e)
    (λ e first is. absurd (fragment_tells_none ProhibitAttributes (fragment_seen c.args.fragment) (told e) first is)) c.in-Err.failure c.in-Err.ensures.refused
