-- SPDX-License-Identifier: Apache-2.0
use Rattle.cedar_declared.specs.Held.{names_of}
use Rattle.cedar_shadowing.proofs.Shadowers.{other_shadows}
use Rattle.cedar_shadowing.proofs.types.shadows.Goals as goal

pub returns : goal.returns
returns c =
    other_shadows (names_of c.args.all_defs.now) c.args.name.now _ _ _ _ c.is_unqualified.ensures c.if-is_unqualified.false c.is_reserved.ensures c.if-is_reserved.false c.basename.ensures c.is_defined_alone.ensures
