-- SPDX-License-Identifier: Apache-2.0
use Rattle.std.proofs.Common.{◌≡◌, Ok, Err, Result, sym, subst, ◌∙◌}
use Rattle.std.specs.BTreeMap.{insert_entry}
use Rattle.std.specs.Result.{OnOk}
use Rattle.cedar_data.specs.Maps.{Puts}
use Rattle.cedar_data.proofs.Puts.{get-insert_entry}
use Rattle.cedar_data.proofs.map.Map.insert.Goals as goal

on_ok : {T E P Q : Type 0} (r : Result T E) → (P → Q) → OnOk r P → OnOk r Q
on_ok (Ok x) f p = f p
on_ok (Err e) f p = tt

pub returns-clause-puts : goal.returns-clause-puts
returns-clause-puts g c =
    let cmp = g.K.Ord.cmp in
    let puts : c.insert.new.self ≡ insert_entry cmp c.args.self.now c.args.key c.args.value → Puts cmp c.args.self.now c.insert.new.self c.args.key c.args.value
    = λ is. subst (λ es. Puts cmp c.args.self.now es c.args.key c.args.value) (sym is) (get-insert_entry g.met.K.Ord.total c.args.self.now c.args.key c.args.value) in
    on_ok c.insert.result (λ is. puts (is ∙ (λ i. insert_entry cmp (c.self.view_is i) c.args.key c.args.value))) c.insert.ensures.ok
