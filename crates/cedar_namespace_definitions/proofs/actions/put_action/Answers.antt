-- SPDX-License-Identifier: Apache-2.0
use Rattle.std.proofs.Common.{refl, ap, ◌∙◌}
use Rattle.std.specs.BTreeMap.{insert_entry}
use Rattle.cedar_names.specs.contracts.entity_uid.EntityUIDOrd.TheImpl as uid_order
use Rattle.cedar_namespace_definitions.proofs.Defines.{put_one}
use Rattle.cedar_namespace_definitions.specs.Definitions.{with_keys}
use Rattle.cedar_namespace_definitions.specs.NamesIn.{action_key, action_key_cmp}
use Rattle.cedar_namespace_definitions.proofs.actions.put_action.Goals as goal

pub returns : goal.returns
returns c =
    ap (with_keys action_key) c.in_ok-put.ensures.ok
    ∙ put_one uid_order.ghosts.cmp action_key_cmp action_key (λ a b. refl) c.args.made.now c.args.uid c.in_ok-fragment.fragment
    ∙ ap (insert_entry action_key_cmp (with_keys action_key c.args.made.now) (action_key c.args.uid)) c.in_ok-fragment.ensures
