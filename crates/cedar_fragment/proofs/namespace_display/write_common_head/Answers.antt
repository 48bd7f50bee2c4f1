-- SPDX-License-Identifier: Apache-2.0
use Rattle.std.proofs.Common.{[], ◌∷◌, Some, sym, subst, ◌∙◌, ap}
use Rattle.std.proofs.lemmas.List.{append-nil}
use Rattle.std.specs.Fmt.{DisplaysOnOk}
use Rattle.std.specs.Prelude.{codes}
use Rattle.std.specs.declared.result.Result.TheVariants.{Ok}
use Rattle.cedar_types.specs.of_names.Identifiers.{unreserved_word}
use Rattle.cedar_print.specs.Annotations.{nameless}
use Rattle.cedar_print.specs.Pieces.{mark, space, word}
use Rattle.cedar_print.proofs.Prints.{Shows-three}
use Rattle.cedar_written.specs.CommonTypeIds.{unreserved_of}
use Rattle.cedar_fragment.proofs.namespace_display.write_common_head.Goals as goal

pub returns : goal.returns
returns g c =
    let named = unreserved_word (unreserved_of c.args.id.now) in
    let same = c.as_ref-2.ensures ∙ ap unreserved_word c.as_ref.ensures ∙ sym (append-nil named) in
    Shows-three g.W.Write.write_str_gives nameless c.args.f.now c.write_str.new.self c.write_str-2.new.self c.write_str-3.new.self c.write_str-3.result
    (word (codes "type") ∷ space ∷ []) (word named ∷ []) (space ∷ mark (codes "=") ∷ space ∷ [])
    c.in_ok-write_str.ensures.writes
    (subst (λ bs. DisplaysOnOk g.W.Write.write_str_gives c.write_str.new.self (Ok tt) (Some bs) c.write_str-2.new.self) same c.in_ok-write_str-2.ensures.writes)
    c.write_str-3.ensures.writes
