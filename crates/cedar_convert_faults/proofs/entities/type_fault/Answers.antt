-- SPDX-License-Identifier: Apache-2.0
use Rattle.std.proofs.Common.{option_to_list}
use Rattle.cedar_tree.specs.Meanings.{type_tree}
use Rattle.cedar_convert_faults.specs.Conditions.{HasNoRepeat}
use Rattle.cedar_convert_faults.specs.TypeRepeats.{leftmost_repeat, repeat_fault}
use Rattle.cedar_convert_faults.proofs.DeclarationLaws.{empty_where, fine_type, type_fine}
use Rattle.cedar_convert_faults.proofs.entities.type_fault.Goals as goal

pub returns-clause-once : goal.returns-clause-once
returns-clause-once c =
    let t = type_tree c.args.ty.now in
    empty_where option_to_list (repeat_fault (leftmost_repeat t)) (HasNoRepeat t) (type_fine t) (fine_type t) c.find_repeat.result c.find_repeat.ensures
