-- SPDX-License-Identifier: Apache-2.0
use Rattle.std.proofs.Common.{rules}
use Rattle.cedar_json_types.proofs.NameLemmas.{named_id}
use Rattle.cedar_json_types.proofs.names.reference_of.Goals as goal

pub returns-in-Some-clause-shape : goal.returns-in-Some-clause-shape
returns-in-Some-clause-shape c = named_id c.args.text.now c.in-Some.id c.new.result (search rules) (search rules) (search rules)
