-- SPDX-License-Identifier: Apache-2.0
use Rattle.std.proofs.Common.{ap, arith}
use Rattle.cedar_streams.proofs.Copied.{gives-past}
use Rattle.cedar_streams.proofs.mem_source.MemSourceSource.read.Goals as goal

pub returns-clause-bytes : goal.returns-clause-bytes
returns-clause-bytes c =
    let copied = c.copy_front-taken.ensures in
    gives-past _ _ _ _ _ _ _ _ c.deref-2.ensures.value (ap (λ s. s.left) c.self.view_is) copied.count (omega arith) copied.copied
