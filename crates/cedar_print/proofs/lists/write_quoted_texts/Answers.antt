-- SPDX-License-Identifier: Apache-2.0
use Rattle.std.proofs.Common.{subst}
use Rattle.cedar_print.specs.Annotations.{nameless}
use Rattle.cedar_print.specs.Pieces.{comma, following, quoted_alone}
use Rattle.cedar_print.proofs.Prints.{Shows, Shows-two}
use Rattle.cedar_print.proofs.lists.write_quoted_texts.Goals as goal

pub returns : goal.returns
returns g c =
    Shows-two g.W.Write.write_str_gives nameless c.args.f.now c.write_quoted.new.f c.write_other_texts.new.f c.write_other_texts.result
    (quoted_alone c.args.texts.now.head) (following comma quoted_alone c.args.texts.now.tail)
    c.in_ok-write_quoted.ensures
    (subst (λ ts. Shows g.W.Write.write_str_gives nameless c.write_quoted.new.f c.write_other_texts.result (following comma quoted_alone ts) c.write_other_texts.new.f) c.as_slice.ensures c.write_other_texts.ensures)
