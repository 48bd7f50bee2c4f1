-- SPDX-License-Identifier: Apache-2.0
use Rattle.cedar_qualified.proofs.JobBridging.{cause_back, unfoldable_back, unfolded_back}
use Rattle.cedar_qualified.proofs.laws.full_jobs.Goals as goal

pub returns-clause-done : goal.returns-clause-done
returns-clause-done g c job full uses h u = unfoldable_back job full uses h u

pub returns-clause-refused : goal.returns-clause-refused
returns-clause-refused g c job full uses e h u = cause_back job full uses h e u

pub returns-clause-unfolded : goal.returns-clause-unfolded
returns-clause-unfolded g c job full uses commons used h u = unfolded_back job full uses h commons used u
