-- SPDX-License-Identifier: Apache-2.0
use Rattle.std.proofs.Common.{sym, ap, ◌∙◌}
use Rattle.std.specs.BTreeMap.{insert_entry}
use Rattle.cedar_names.specs.Components.{basename_of}
use Rattle.cedar_declared.specs.Basenames.{id_cmp}
use Rattle.cedar_declared.proofs.Looked.{with_alone}
use Rattle.cedar_declared.proofs.type_names.TypeNames.insert.Goals as goal

pub returns-in_ok-put-clause-ok : goal.returns-in_ok-put-clause-ok
returns-in_ok-put-clause-ok c =
    with_alone c.args.self.now c.args.name.now c.put.new.self (sym c.contains.ensures ∙ c.if-contains.false) (c.is_unqualified.ensures.0 c.if-is_unqualified.true)
    (c.in_ok-put.ensures.ok ∙ ap (λ id. insert_entry id_cmp c.args.self.now.unqualified id c.in_ok-loc.loc) (c.in_ok-id.ensures ∙ c.basename.ensures)
    ∙ ap (insert_entry id_cmp c.args.self.now.unqualified (basename_of c.args.name.now)) c.in_ok-loc.ensures)
