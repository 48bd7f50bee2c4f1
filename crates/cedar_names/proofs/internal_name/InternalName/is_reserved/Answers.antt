-- SPDX-License-Identifier: Apache-2.0
use Rattle.cedar_names.proofs.NameLemmas.{has_cedar-found, has_cedar-last}
use Rattle.cedar_names.proofs.internal_name.InternalName.is_reserved.Goals as goal
use Rattle.std.proofs.Common.{rules}

pub returns-then-any_cedar : goal.returns-then-any_cedar
returns-then-any_cedar c = search (rules, has_cedar-found)

pub returns-else-any_cedar : goal.returns-else-any_cedar
returns-else-any_cedar c = search (rules, has_cedar-last)
