-- SPDX-License-Identifier: Apache-2.0
use Rattle.cedar_data.proofs.Exact.{one_ascending}
use Rattle.cedar_data.proofs.laws.one_list.Goals as goal

pub returns : goal.returns
returns g c = λ exact. one_ascending (record { total = g.met.K.Ord.total; exact = exact })
