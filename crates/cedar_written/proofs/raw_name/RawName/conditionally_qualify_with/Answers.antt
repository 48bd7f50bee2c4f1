-- SPDX-License-Identifier: Apache-2.0
use Rattle.std.proofs.Common.{IfOk, ◌≡◌, ◌∙◌, subst}
use Rattle.std.specs.Option.{option_copied}
use Rattle.cedar_written.proofs.Possible.{conditional-in}
use Rattle.cedar_written.proofs.raw_name.RawName.conditionally_qualify_with.Goals as goal

pub returns-clause-value : goal.returns-clause-value
returns-clause-value c =
    subst (λ made. IfOk c.conditionally_qualify_within.result (λ n. n ≡ made))
    (conditional-in (option_copied c.args.ns) _ c.args.reference_type c.args.self (c.as_ref.ensures.value ∙ c.in_ok-within.ensures))
    c.conditionally_qualify_within.ensures
