-- SPDX-License-Identifier: Apache-2.0
use Rattle.std.specs.String.{string_bytes}
use Rattle.cedar_fragment.specs.Printed.{print}
use Rattle.cedar_names.specs.Components.{components}
use Rattle.cedar_text.specs.Joining.{joined}
use Rattle.cedar_written.specs.Possibilities.{written}
use Rattle.cedar_reviews.proofs.PrintedNames.{told-is}
use Rattle.cedar_reviews.proofs.Colliding.{collisions-told}
use Rattle.cedar_reviews.proofs.printing.printed.Goals as goal

pub returns-in-Ok-clause-due : goal.returns-in-Ok-clause-due
returns-in-Ok-clause-due c = (c.in-Ok.ensures.none, told-is (λ n. joined (components (written n))) (print c.args.fragment) (string_bytes c.in-Ok.text) c.in-Ok.ensures.text)

pub returns-in-Err-Refused-clause-told : goal.returns-in-Err-Refused-clause-told
returns-in-Err-Refused-clause-told c =
    collisions-told c.args.fragment c.in-Err-Refused.error (rw c.in-Err-Refused.field-0-is at c.in-Err-Refused.ensures.refused) c.refused_by.result c.refused_by.ensures.told
