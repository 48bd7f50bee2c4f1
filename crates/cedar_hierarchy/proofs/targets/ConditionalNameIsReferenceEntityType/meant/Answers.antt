-- SPDX-License-Identifier: Apache-2.0
use Rattle.std.proofs.Common.{◌∙◌, Some, None}
use Rattle.cedar_outlines.specs.of_declared.Held.{names_of}
use Rattle.cedar_hierarchy.proofs.Answering.{through_ok}
use Rattle.cedar_hierarchy.proofs.Meant.{type_meant, type_told}
use Rattle.cedar_hierarchy.proofs.targets.ConditionalNameIsReferenceEntityType.meant.Goals as goal

pub returns-in-None : goal.returns-in-None
returns-in-None c = λ key. type_meant (names_of c.args.all_defs.now) c.args.self.now None key c.in-None.ensures

pub returns-in-Some : goal.returns-in-Some
returns-in-Some c =
    through_ok _ _ (λ o told key. type_told c.in-Some.name.now o told key ∙ type_meant (names_of c.args.all_defs.now) c.args.self.now (Some c.in-Some.name.now) key c.in-Some.ensures) c.type_named.result c.type_named.ensures
