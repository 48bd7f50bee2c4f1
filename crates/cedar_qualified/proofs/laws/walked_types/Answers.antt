-- SPDX-License-Identifier: Apache-2.0
use Rattle.cedar_qualified.proofs.WalkedTypes.{all_walked, type_walked}
use Rattle.cedar_qualified.proofs.RefusedTypes.{one_misses, type_misses}
use Rattle.cedar_qualified.proofs.laws.walked_types.Goals as goal

pub returns-clause-qualifies : goal.returns-clause-qualifies
returns-clause-qualifies g c names t u is = type_walked names t u is

pub returns-clause-all_qualify : goal.returns-clause-all_qualify
returns-clause-all_qualify g c names f es us is = all_walked names f es us is

pub returns-clause-refused : goal.returns-clause-refused
returns-clause-refused g c names t e is none = type_misses names t e is none

pub returns-clause-one_refused : goal.returns-clause-one_refused
returns-clause-one_refused g c names es e is none = one_misses names es e is none
