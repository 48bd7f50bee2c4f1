-- SPDX-License-Identifier: Apache-2.0
use Rattle.std.proofs.Common.{◌≡◌, [], rules}
use Rattle.std.specs.Option.{option_copied}
use Rattle.cedar_resolved.specs.Schemas.{action_resources}
use Rattle.cedar_resolved.proofs.EnvironmentLemmas.{nothing_left}
use Rattle.cedar_resolved.proofs.request_env.ActionEnvs.take_first.Goals as goal

pub returns-in-None : goal.returns-in-None
returns-in-None c =
    let envs = c.args.self.now in
    let none : action_resources envs.action.now ≡ [] = search rules in
    let empty : envs.resources ≡ [] = search rules in
    let ended : c.next-2.new.self ≡ [] = search rules in (
      nothing_left (envs.name.now, envs.action.now) none (option_copied envs.principal) envs.resources envs.principals empty,
      nothing_left (envs.name.now, envs.action.now) none (option_copied c.next-self.result) c.next-2.new.self c.next-self.new.self ended,
    )
