-- SPDX-License-Identifier: Apache-2.0
use Rattle.std.proofs.Common.{rules}
use Rattle.std.proofs.Output.{has_written_append, has_written_of_eq}
use Rattle.cedar_names.proofs.JoinLemmas.{joined-taken}
use Rattle.cedar_tree.proofs.path.PathDisplay.fmt.Goals as goal

pub returns-clause-writes : goal.returns-clause-writes
returns-clause-writes g c = λ plain ok.
    let name = c.args.self.now in
    has_written_of_eq _ _ _ _ _
    (joined-taken _ name.namespace c.loop-id.id-index name.basename c.as_slice-id-items.ensures c.loop-id-test.false)
    (has_written_append _ _ _ _ _ _ (c.loop-id.invariant plain) (search rules))
