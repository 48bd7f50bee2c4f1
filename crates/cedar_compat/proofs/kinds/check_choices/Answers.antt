-- SPDX-License-Identifier: Apache-2.0
use Rattle.cedar_text.specs.Lists.{elements}
use Rattle.cedar_compat.specs.Changes.{break_of}
use Rattle.cedar_compat.proofs.Choices.{each_searched}
use Rattle.cedar_compat.proofs.Told.{Tells-at}
use Rattle.cedar_compat.proofs.kinds.check_choices.Goals as goal

pub returns : goal.returns
returns c =
    Tells-at break_of c.check_each_choice.result (each_searched (elements c.args.new.now) c.in_ok-new.new (elements c.args.old.now) c.in_ok-new.ensures) c.check_each_choice.ensures
