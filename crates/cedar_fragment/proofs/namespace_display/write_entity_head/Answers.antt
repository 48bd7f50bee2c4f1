-- SPDX-License-Identifier: Apache-2.0
use Rattle.std.proofs.Common.{[], ◌∷◌, Some, sym, subst, ◌∙◌}
use Rattle.std.proofs.lemmas.List.{append-nil}
use Rattle.std.specs.Fmt.{DisplaysOnOk}
use Rattle.std.specs.Prelude.{codes}
use Rattle.cedar_types.specs.of_names.Identifiers.{unreserved_word}
use Rattle.cedar_print.specs.Annotations.{nameless}
use Rattle.cedar_print.specs.Pieces.{space, word}
use Rattle.cedar_print.proofs.Prints.{Shows-two}
use Rattle.cedar_fragment.proofs.namespace_display.write_entity_head.Goals as goal

pub returns : goal.returns
returns g c =
    let named = unreserved_word c.args.id.now in
    let same = c.as_ref.ensures ∙ sym (append-nil named) in
    Shows-two g.W.Write.write_str_gives nameless c.args.f.now c.write_str.new.self c.write_str-2.new.self c.write_str-2.result
    (word (codes "entity") ∷ space ∷ []) (word named ∷ [])
    c.in_ok-write_str.ensures.writes
    (subst (λ bs. DisplaysOnOk g.W.Write.write_str_gives c.write_str.new.self c.write_str-2.result (Some bs) c.write_str-2.new.self) same c.write_str-2.ensures.writes)
