-- SPDX-License-Identifier: Apache-2.0
use Rattle.std.proofs.Common.{ap, ◌∙◌, refl, ◌++◌, ◌∷◌, []}
use Rattle.cedar_declared.specs.Held.{names_of}
use Rattle.cedar_phases.proofs.MembershipLists.{pushed_entity, pushed_none, pushed_some}
use Rattle.cedar_phases.proofs.memberships.push_unless_entity.Goals as goal

pub returns-then-is_defined_as_entity : goal.returns-then-is_defined_as_entity
returns-then-is_defined_as_entity c =
    pushed_entity (names_of c.args.all_defs.now) c.args.reference.now c.in-Some.name.now _ c.args.names.now.items c.args.names.now.items
    c.in-Some.ensures c.is_defined_as_entity.ensures c.if-is_defined_as_entity.true refl

pub returns-in-None : goal.returns-in-None
returns-in-None c = pushed_none (names_of c.args.all_defs.now) c.args.reference.now c.args.names.now.items c.args.names.now.items c.in-None.ensures refl

pub returns-in_ok-push-in-Some : goal.returns-in_ok-push-in-Some
returns-in_ok-push-in-Some c =
    pushed_some (names_of c.args.all_defs.now) c.args.reference.now c.in-Some.name.now _ c.args.names.now.items c.push.new.self.items
    c.in-Some.ensures c.is_defined_as_entity.ensures c.if-is_defined_as_entity.false
    (c.in_ok-push-in-Some.ensures.items ∙ ap (λ n. c.args.names.now.items ++ n ∷ []) c.in_ok-name-in-Some.ensures)
