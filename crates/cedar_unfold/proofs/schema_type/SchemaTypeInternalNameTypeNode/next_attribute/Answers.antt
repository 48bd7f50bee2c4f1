-- SPDX-License-Identifier: Apache-2.0
use Rattle.std.proofs.Common.{Some, None}
use Rattle.std.specs.Option.{option_copied}
use Rattle.cedar_names.specs.Components.{components}
use Rattle.cedar_unfold.proofs.SchemaTypes.{next_is, labels_ordered}
use Rattle.cedar_unfold.proofs.schema_type.SchemaTypeInternalNameTypeNode.next_attribute.Goals as goal

pub returns-in-Some-clause-next : goal.returns-in-Some-clause-next
returns-in-Some-clause-next c = next_is components c.args.self.now c.in-Variant.ty c.in-Variant.loc c.in-Record.fields c.in-Variant.is c.in-Record.is (option_copied c.args.after) (Some (c.in-Some.name.now, c.in-Some.attribute.now)) c.in-Some.ensures.next

pub returns-in-Some-clause-ordered : goal.returns-in-Some-clause-ordered
returns-in-Some-clause-ordered c = labels_ordered components c.args.self.now c.in-Variant.ty c.in-Variant.loc c.in-Record.fields c.in-Variant.is c.in-Record.is c.next_entry.ensures.ordered

pub returns-in-None-clause-next : goal.returns-in-None-clause-next
returns-in-None-clause-next c = next_is components c.args.self.now c.in-Variant.ty c.in-Variant.loc c.in-Record.fields c.in-Variant.is c.in-Record.is (option_copied c.args.after) None c.in-None.ensures.next

pub returns-in-None-clause-ordered : goal.returns-in-None-clause-ordered
returns-in-None-clause-ordered c = labels_ordered components c.args.self.now c.in-Variant.ty c.in-Variant.loc c.in-Record.fields c.in-Variant.is c.in-Record.is c.next_entry.ensures.ordered
