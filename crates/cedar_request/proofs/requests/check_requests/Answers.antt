-- SPDX-License-Identifier: Apache-2.0
use Rattle.serde_json.specs.View.{view}
use Rattle.cedar_request.proofs.PassingRequests.{said-none, said-only}
use Rattle.cedar_request.proofs.requests.check_requests.Goals as goal

pub returns-clause-only : goal.returns-clause-only
returns-clause-only c = said-only c.args.schema.now (view c.args.v.now) c.check_list.result c.environments_once.ensures c.check_list.ensures

pub returns-clause-unfit : goal.returns-clause-unfit
returns-clause-unfit c = said-none c.args.schema.now (view c.args.v.now) c.check_list.result c.environments_once.ensures c.check_list.ensures
