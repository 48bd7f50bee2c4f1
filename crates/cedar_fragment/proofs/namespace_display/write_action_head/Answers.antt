-- SPDX-License-Identifier: Apache-2.0
use Rattle.std.proofs.Common.{[], ◌∷◌, Some, sym, subst}
use Rattle.std.proofs.lemmas.List.{append-nil}
use Rattle.std.specs.Fmt.{DisplaysOnOk}
use Rattle.std.specs.Prelude.{codes}
use Rattle.cedar_print.specs.Annotations.{nameless}
use Rattle.cedar_print.specs.Pieces.{quoted, quoted_text, space, word}
use Rattle.cedar_print.proofs.Prints.{Shows-two}
use Rattle.cedar_fragment.proofs.namespace_display.write_action_head.Goals as goal

pub returns : goal.returns
returns g c =
    Shows-two g.W.Write.write_str_gives nameless c.args.f.now c.write_str.new.self c.fmt.new.f c.fmt.result
    (word (codes "action") ∷ space ∷ []) (quoted c.args.id.now ∷ [])
    c.in_ok-write_str.ensures.writes
    (subst (λ bs. DisplaysOnOk g.W.Write.write_str_gives c.write_str.new.self c.fmt.result (Some bs) c.fmt.new.f) (sym (append-nil (quoted_text c.args.id.now))) c.fmt.ensures.writes)
