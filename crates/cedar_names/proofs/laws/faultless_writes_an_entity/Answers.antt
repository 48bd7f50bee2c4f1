-- SPDX-License-Identifier: Apache-2.0
use Rattle.cedar_names.proofs.EntityTexts.{writes_where_faultless, faultless_where_writes}
use Rattle.cedar_names.proofs.laws.faultless_writes_an_entity.Goals as goal

pub returns : goal.returns
returns c = λ s. (writes_where_faultless s, faultless_where_writes s)
