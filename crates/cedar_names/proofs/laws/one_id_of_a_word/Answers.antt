-- SPDX-License-Identifier: Apache-2.0
use Rattle.cedar_names.proofs.Ids.{one_id, one_unreserved_id, one_any_id}
use Rattle.cedar_names.proofs.laws.one_id_of_a_word.Goals as goal

pub returns-clause-id : goal.returns-clause-id
returns-clause-id c = one_id

pub returns-clause-unreserved : goal.returns-clause-unreserved
returns-clause-unreserved c = one_unreserved_id

pub returns-clause-any : goal.returns-clause-any
returns-clause-any c = one_any_id
