-- SPDX-License-Identifier: Apache-2.0
use Rattle.std.proofs.Common.{Some, sym, ap, ◌∙◌}
use Rattle.cedar_tree.proofs.DeepPlaces.{action_types}
use Rattle.cedar_tree.proofs.nesting.deep_in_action.Goals as goal

pub returns-in_default : goal.returns-in_default
returns-in_default c =
    action_types c.args.decl.now c.get-lines.result.now c.deep_in_app.result c.deep_in_lines.result c.as_slice.result.now (c.in-Some.is ∙ ap (λ lines. Some lines) (sym c.get-lines.ensures)) c.deep_in_app.ensures c.in_default.is c.as_slice.ensures c.deep_in_lines.ensures
