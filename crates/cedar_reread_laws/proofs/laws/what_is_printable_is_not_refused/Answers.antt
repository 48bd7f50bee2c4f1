-- SPDX-License-Identifier: Apache-2.0
use Rattle.cedar_names.specs.Extensions.{extension_words}
use Rattle.cedar_reread_laws.proofs.NoCollisions.{no_collisions}
use Rattle.cedar_reread_laws.proofs.laws.what_is_printable_is_not_refused.Goals as goal

pub returns : goal.returns
returns c = λ F X printable. no_collisions F (extension_words X) printable
