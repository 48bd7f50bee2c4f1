-- SPDX-License-Identifier: Apache-2.0
use Rattle.std.proofs.Common.{sym, ap, ◌∙◌, is_some}
use Rattle.cedar_data.specs.Maps.{get}
use Rattle.cedar_declared.proofs.Looked.{kept_alone, kept_whole}
use Rattle.cedar_declared.specs.Basenames.{id_cmp}
use Rattle.cedar_declared.proofs.type_names.TypeNames.contains.Goals as goal

pub returns-then-is_unqualified : goal.returns-then-is_unqualified
returns-then-is_unqualified c =
    c.contains_key.ensures ∙ ap (λ id. is_some (get id_cmp c.args.self.now.unqualified id)) c.basename.ensures
    ∙ sym (kept_alone c.args.self.now c.args.name.now _ c.is_unqualified.ensures c.if-is_unqualified.true)

pub returns-else-is_unqualified : goal.returns-else-is_unqualified
returns-else-is_unqualified c = c.contains.ensures ∙ sym (kept_whole c.args.self.now c.args.name.now _ c.is_unqualified.ensures c.if-is_unqualified.false)
