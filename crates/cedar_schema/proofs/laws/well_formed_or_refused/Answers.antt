-- SPDX-License-Identifier: Apache-2.0
use Rattle.cedar_schema.proofs.Refusing.{well_formed_or_refused}
use Rattle.cedar_schema.proofs.laws.well_formed_or_refused.Goals as goal

pub returns : goal.returns
returns c = well_formed_or_refused
