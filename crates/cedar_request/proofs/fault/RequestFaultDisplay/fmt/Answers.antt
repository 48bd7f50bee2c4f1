-- SPDX-License-Identifier: Apache-2.0
use Rattle.cedar_request.proofs.fault.RequestFaultDisplay.fmt.Goals as goal

pub returns-in-PrincipalNotAllowed-clause-writes : goal.returns-in-PrincipalNotAllowed-clause-writes
returns-in-PrincipalNotAllowed-clause-writes g c = rw c.in-PrincipalNotAllowed.is c.write_not_allowed.ensures

pub returns-in-ResourceNotAllowed-clause-writes : goal.returns-in-ResourceNotAllowed-clause-writes
returns-in-ResourceNotAllowed-clause-writes g c = rw c.in-ResourceNotAllowed.is c.write_not_allowed-in-ResourceNotAllowed.ensures
