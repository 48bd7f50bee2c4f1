-- SPDX-License-Identifier: Apache-2.0
use Rattle.cedar_names.proofs.of_data.Rebuild.{insert_entry-last}
use Rattle.cedar_closure.proofs.closure.append_entry.Goals as goal

pub returns : goal.returns
returns g c =
    rw (insert_entry-last g.met.K.Ord.total c.args.entries.now.entries c.args.key c.args.value c.requires) at c.in_ok-insert.ensures.entries
