-- SPDX-License-Identifier: Apache-2.0
use Rattle.cedar_refusal_laws.proofs.MadeKinds.{definition_kinds}
use Rattle.cedar_refusal_laws.proofs.laws.what_is_made_has_its_kinds.Goals as goal

pub returns-clause-definition : goal.returns-clause-definition
returns-clause-definition c = λ ns n d is. definition_kinds ns n d is
