-- SPDX-License-Identifier: Apache-2.0
use Rattle.std.proofs.Common.{sym}
use Rattle.cedar_closure.proofs.PlaceLemmas.{place-found, place-missing, searchable}
use Rattle.cedar_closure.proofs.key_graph.place.Goals as goal

pub returns-in-Ok : goal.returns-in-Ok
returns-in-Ok g c = sym (place-found g.met.K.Ord.total c.args.keys.now c.args.key.now c.in-Ok.at c.requires c.in-Ok.ensures.bound (c.in-Ok.ensures.ok c.args.key.now))

pub returns-in-Err : goal.returns-in-Err
returns-in-Err g c =
    sym (place-missing g.met.K.Ord.total c.args.keys.now c.args.key.now c.in-Err.field-0
    (c.in-Err.ensures.position (searchable g.met.K.Ord.total c.args.keys.now c.args.key.now c.requires)))
