-- SPDX-License-Identifier: Apache-2.0
use Rattle.cedar_compat_laws.proofs.EntitiesStay.{entities_stay}
use Rattle.cedar_compat_laws.proofs.laws.old_data_stays_valid.Goals as goal

pub returns : goal.returns
returns c = entities_stay
