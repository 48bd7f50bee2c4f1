-- SPDX-License-Identifier: Apache-2.0
use Rattle.std.proofs.Common.{rules, ◌≡◌, ℕ, ◌<◌, Contains, [], length, get_or, refl, sym, ap, ◌∙◌, subst, arith}
use Rattle.std.proofs.lemmas.List.{get_or_read}
use Rattle.std.proofs.lemmas.List.Elements.{All-contains, Contains-append_right}
use Rattle.std.proofs.lemmas.List.Sorted.{All-permutation}
use Rattle.std.specs.List.Sorted.{IsPermutation}
use Rattle.cedar_closure.proofs.Visits.{All-from_contains, drop_first, Visited-same, Searched-start, Searched-next, Searched-end, Visited-fewer}
use Rattle.cedar_closure.proofs.reachable.reached_beyond.Goals as goal

pub loop-next-init : goal.loop-next-init
loop-next-init c =
    let row = get_or_read c.args.rows.now c.args.start c.index-rows-start.result c.requires.start c.index-rows-start.is [] in
    Searched-start c.requires.one_each (Visited-same (sym (c.as_slice.ensures ∙ row)) (sym c.new-found.ensures.items) refl refl c.in_ok-visit.ensures)

pub loop-next-preserved : goal.loop-next-preserved
loop-next-preserved c =
    let found = c.loop-next.found.items in
    let at = c.index-at.result.now in
    let inside : c.loop-next.next < length found = omega arith in
    let is : at ≡ get_or found c.loop-next.next 0 = get_or_read found c.loop-next.next at inside c.index-at.ensures 0 in
    let below : at < length c.args.rows.now = omega (arith, is, c.loop-next.invariant.as_long, c.loop-next.invariant.told.within c.loop-next.next 0 inside) in
    let row = get_or_read c.args.rows.now at c.index-rows-at.result below c.index-rows-at.is [] in
    Searched-next c.loop-next.invariant inside (Visited-same (sym (c.as_slice-in-loop-next.ensures ∙ row ∙ ap (λ i. get_or c.args.rows.now i []) is)) refl refl refl c.in_ok-visit-2.ensures)

pub loop-next-smaller : goal.loop-next-smaller
loop-next-smaller c = Visited-fewer c.loop-next.next c.in_ok-visit-2.ensures (omega arith)

pub returns : goal.returns
returns c =
    let s = c.loop-next.invariant in
    let own : c.len-own.result ≡ length c.visit.new.found.items = search rules in
    let rest = c.in_ok-further.ensures.tail ∙ drop_first c.len-own.result c.loop-next.found.items c.visit.new.found.items s.others own s.behind in
    let moved = subst (λ l. IsPermutation l c.sort_unstable.new.self.items) rest c.sort_unstable.ensures.permutation in
    let within : (j : ℕ) → Contains s.others j → j < length c.args.rows.now =
    λ j h. subst (λ n. j < n) s.as_long (All-contains (λ i. i < length c.loop-next.marks) c.loop-next.found.items j s.told.within (subst (λ f. Contains f j) (sym s.behind) (Contains-append_right c.visit.new.found.items s.others j h))) in
    record {
      reached = Searched-end s (omega arith) c.sort_unstable.new.self.items moved;
      within = All-permutation (λ j. j < length c.args.rows.now) s.others c.sort_unstable.new.self.items moved (All-from_contains (λ j. j < length c.args.rows.now) s.others within);
      latest = s.told.latest;
    }
