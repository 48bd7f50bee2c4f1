-- SPDX-License-Identifier: Apache-2.0
use Rattle.std.proofs.Common.{refl, inl, ⊎_elim}
use Rattle.cedar_closure.specs.Places.{place}
use Rattle.cedar_closure.proofs.Links.{marks_later}
use Rattle.cedar_closure.proofs.closure.close_any_edges.Goals as goal

pub returns : goal.returns
returns g c =
    let none = c.requires.begun (c.has_edge.ensures c.if-has_edge.false) in
    record {
      leads = λ to. (λ h. inl h, λ h. ⊎_elim (λ x. x) (λ x. absurd (none to x)) h);
      ascends = c.requires.ascends;
      same_key = refl;
      same_rest = refl;
      returns = (λ h. cc, λ h. absurd (none c.args.key.now h));
      latest = marks_later (place g.K.Ord.cmp c.args.keys.now c.args.key.now) c.args.marks.now c.requires.earlier;
    }
