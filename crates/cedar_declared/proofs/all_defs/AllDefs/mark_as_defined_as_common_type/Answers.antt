-- SPDX-License-Identifier: Apache-2.0
use Rattle.cedar_declared.proofs.Looked.{adds_name}
use Rattle.cedar_declared.proofs.all_defs.AllDefs.mark_as_defined_as_common_type.Goals as goal

pub returns-clause-adds : goal.returns-clause-adds
returns-clause-adds c = adds_name c.args.self.now.common_types c.insert.new.self c.args.name c.in_ok-insert.ensures.ok
