-- SPDX-License-Identifier: Apache-2.0
use Rattle.std.proofs.Common.{[], ◌∷◌}
use Rattle.std.specs.Prelude.{codes}
use Rattle.cedar_types.specs.of_text.Lists.{elements}
use Rattle.cedar_print.specs.Annotations.{nameless}
use Rattle.cedar_print.specs.Pieces.{bracketed, quoted_alone, space, word}
use Rattle.cedar_print.proofs.Prints.{Shows-two}
use Rattle.cedar_fragment.proofs.display.write_choices.Goals as goal

pub returns : goal.returns
returns g c =
    Shows-two g.W.Write.write_str_gives nameless c.args.f.now c.write_str.new.self c.write_quoted_list.new.f c.write_quoted_list.result
    (space ∷ word (codes "enum") ∷ space ∷ []) (bracketed quoted_alone (elements c.args.choices.now))
    c.in_ok-write_str.ensures.writes c.write_quoted_list.ensures
