-- SPDX-License-Identifier: Apache-2.0
use Rattle.std.proofs.Common.{◌≡◌, ◌∙◌, Some, sym, ap, subst}
use Rattle.cedar_names.specs.Identifiers.{unreserved_word}
use Rattle.cedar_text.specs.Failures.{IfRefused}
use Rattle.cedar_json_fault.specs.declared.json_fault.JsonFault.TheVariants as fault
use Rattle.cedar_json_types.specs.CommonIds.{reserved_fault}
use Rattle.cedar_json_types.specs.Faults.{here}
use Rattle.cedar_json_types.proofs.CommonIdLemmas.{is_free, is_reserved}
use Rattle.cedar_json_types.proofs.names.common_of.Goals as goal

pub returns-in-Ok-clause-clean : goal.returns-in-Ok-clause-clean
returns-in-Ok-clause-clean c = is_free (unreserved_word c.args.id) c.in-Ok.ensures.1

pub returns-in-Err-clause-refused : goal.returns-in-Err-clause-refused
returns-in-Err-clause-refused c =
    subst (λ r. IfRefused r (λ e. reserved_fault (unreserved_word c.args.id) ≡ Some e)) (sym c.refuse.ensures)
    (is_reserved c.args.id c.in-Err.ensures.1 ∙ ap (λ x. Some (here (fault.ReservedId x))) (sym c.in-Err.ensures.0))
