-- SPDX-License-Identifier: Apache-2.0
use Rattle.std.proofs.Common.{sym, ◌∙◌}
use Rattle.std.specs.BTreeMap.{is_at}
use Rattle.cedar_schema_error.specs.FullNames.{uid_cmp, uid_in}
use Rattle.cedar_declared.proofs.Looked.{any_map}
use Rattle.cedar_declared.proofs.all_defs.AllDefs.is_defined_as_action.Goals as goal

pub returns : goal.returns
returns c = c.contains.ensures ∙ sym (any_map (is_at (uid_cmp (uid_in c.args.uid.now))) uid_in c.args.self.now.actions)
