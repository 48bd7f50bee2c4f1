-- SPDX-License-Identifier: Apache-2.0
use Rattle.std.specs.List.{flat_map}
use Rattle.cedar_declared.specs.Held.{names_of}
use Rattle.cedar_declared.specs.of_definitions.Structures.{definitions_of}
use Rattle.cedar_names.specs.Extensions.{extension_words}
use Rattle.cedar_phases.proofs.DeclaredWorld.{holds}
use Rattle.cedar_phases.proofs.Placing.{builtins_add_none}
use Rattle.cedar_phases.proofs.declaring.declare_all.Goals as goal

pub returns-clause-holds : goal.returns-clause-holds
returns-clause-holds c = holds c.args.fragments.items c.args.extensions.now c.args.own c.requires c.in_ok-builtins.builtins c.in_ok-definitions.definitions c.in_ok-all_defs.all_defs
    c.in_ok-builtins.ensures.definitions c.in_ok-definitions.ensures c.in_ok-all_defs.ensures

pub returns-clause-places : goal.returns-clause-places
returns-clause-places c = builtins_add_none (names_of c.args.own) (extension_words c.args.extensions.now) (flat_map definitions_of c.args.fragments.items) (definitions_of c.in_ok-builtins.builtins)
    (definitions_of c.in_ok-definitions.definitions) c.in_ok-builtins.ensures.definitions c.in_ok-definitions.ensures
