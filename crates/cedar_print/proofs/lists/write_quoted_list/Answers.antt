-- SPDX-License-Identifier: Apache-2.0
use Rattle.std.proofs.Common.{[], ◌∷◌}
use Rattle.std.specs.Prelude.{codes}
use Rattle.cedar_names.specs.Lists.{elements}
use Rattle.cedar_print.specs.Annotations.{nameless}
use Rattle.cedar_print.specs.Pieces.{comma, mark, quoted_alone, separated}
use Rattle.cedar_print.proofs.Prints.{Shows-three}
use Rattle.cedar_print.proofs.lists.write_quoted_list.Goals as goal

pub returns : goal.returns
returns g c =
    Shows-three g.W.Write.write_str_gives nameless c.args.f.now c.write_str.new.self c.write_quoted_texts.new.f c.write_str-2.new.self c.write_str-2.result
    (mark (codes "[") ∷ []) (separated comma quoted_alone (elements c.args.texts.now)) (mark (codes "]") ∷ [])
    c.in_ok-write_str.ensures.writes c.in_ok-write_quoted_texts.ensures c.write_str-2.ensures.writes
