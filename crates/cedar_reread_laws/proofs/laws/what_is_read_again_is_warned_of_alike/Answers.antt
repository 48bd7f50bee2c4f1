-- SPDX-License-Identifier: Apache-2.0
use Rattle.std.proofs.Common.{◌∙◌}
use Rattle.cedar_reread_laws.proofs.Warned.{warned_again}
use Rattle.cedar_reread_laws.proofs.laws.what_is_read_again_is_warned_of_alike.Goals as goal

pub returns : goal.returns
returns c = λ F G extensions source given declares same. c.warnings_by_names.ensures.text source extensions G given declares ∙ warned_again extensions F G same
