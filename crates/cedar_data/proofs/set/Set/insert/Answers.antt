-- SPDX-License-Identifier: Apache-2.0
use Rattle.std.proofs.Common.{ap, sym, subst, ◌∙◌}
use Rattle.std.specs.BTreeMap.{is_at}
use Rattle.std.specs.BTreeSet.{insert_key}
use Rattle.std.specs.Option.{is_some}
use Rattle.cedar_data.specs.Maps.{Puts}
use Rattle.cedar_data.specs.Sets.{contains, Adds}
use Rattle.cedar_data.proofs.SetKeys.{is_some-lookup, keys_of-insert_entry}
use Rattle.cedar_data.proofs.Puts.{get-insert_entry, contains-keys_of, turned_not}
use Rattle.std.specs.Map.{keys_of}
use Rattle.cedar_data.proofs.set.Set.insert.Goals as goal

pub returns-clause-ok : goal.returns-clause-ok
returns-clause-ok g c =
    let cmp = g.K.Ord.cmp in
    ap keys_of c.in_ok-old.ensures.ok ∙ keys_of-insert_entry cmp c.self.inside.keys c.args.key tt ∙ ap (λ keys. insert_key cmp keys c.args.key) c.self.view_is

pub returns-clause-adds : goal.returns-clause-adds
returns-clause-adds g c =
    let cmp = g.K.Ord.cmp in
    let puts = subst (λ es. Puts cmp c.self.inside.keys es c.args.key tt) (sym c.in_ok-old.ensures.ok) (get-insert_entry g.met.K.Ord.total c.self.inside.keys c.args.key tt) in
    subst (λ keys. Adds cmp keys (keys_of c.insert.new.self) c.args.key) c.self.view_is (contains-keys_of g.met.K.Ord.total c.self.inside.keys c.insert.new.self c.args.key tt puts)

pub returns-clause-added : goal.returns-clause-added
returns-clause-added g c =
    let cmp = g.K.Ord.cmp in
    turned_not c.is_none.result (contains cmp c.args.self.now c.args.key)
    (sym c.is_none.ensures ∙ ap is_some c.in_ok-old.ensures.old ∙ is_some-lookup (is_at (cmp c.args.key)) c.self.inside.keys ∙ ap (λ keys. contains cmp keys c.args.key) c.self.view_is)
