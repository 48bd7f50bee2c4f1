-- SPDX-License-Identifier: Apache-2.0
use Rattle.std.proofs.Common.{◌++◌, ◌∷◌, [], refl, sym, ap, ◌∙◌, append_assoc, arith, rules}
use Rattle.std.proofs.lemmas.List.Sums.{sum_by-cons}
use Rattle.std.specs.Map.{keys_of}
use Rattle.cedar_data.specs.Firsts.{FirstRefused}
use Rattle.cedar_data.proofs.Rebuild.{sorted_next_key}
use Rattle.cedar_schema_error.specs.Told.{told, told_use}
use Rattle.cedar_unfold.specs.Full.{Definitions, IsFull, by_place, meanings_of}
use Rattle.cedar_unfold.specs.Passing.{GivesUse}
use Rattle.cedar_unfold.specs.ResolvedViews.{resolved}
use Rattle.cedar_unfold.specs.Tables.{tabled}
use Rattle.cedar_unfolding.specs.UnfoldPhases.{UsePasses, UseRefuses}
use Rattle.cedar_unfolding.specs.Written.{all_nodes, nodes}
use Rattle.cedar_unfold.proofs.Gathering.{Gathering-next, Gathering-stop, Gathering-end, keys-push, map-push}
use Rattle.cedar_unfold.proofs.UseLemmas.{refused-weaker}
use Rattle.cedar_unfold.proofs.uses.unfolded_uses.Goals as goal

pub put_copy-requires : goal.put_copy-requires
put_copy-requires g c = sorted_next_key _ (keys_of c.loop-place.made) c.loop-place.invariant.0 (ap keys_of c.in-Some.ensures.steps) refl c.iter-place-items.ensures.ordered

pub loop-place-preserved : goal.loop-place-preserved
loop-place-preserved g c =
    let w = g.T.TypeNode.written in
    let first = ap (by_place w) c.in-Some.ensures.steps in
    let left = ap all_nodes first ∙ sum_by-cons (λ e. nodes e.1) (told_use c.in-Some.place.now, w c.in-Some.ty.now) (by_place w c.next.new.self) in (
      ap (λ m. keys_of m ++ keys_of c.next.new.self) c.in_ok-put_copy.ensures ∙ ap (λ ks. ks ++ keys_of c.next.new.self) (keys-push c.loop-place.made c.in-Some.place.now c.in_ok-found.found) ∙ append_assoc (keys_of c.loop-place.made) (c.in-Some.place.now ∷ []) (keys_of c.next.new.self) ∙ ap (λ l. keys_of c.loop-place.made ++ keys_of l) (sym c.in-Some.ensures.steps) ∙ c.loop-place.invariant.0,
      λ definitions full.
          let passes = c.in_ok-found.ensures.passes definitions full in
          Gathering-next (GivesUse (meanings_of definitions c.args.extensions.now)) (UsePasses (meanings_of definitions c.args.extensions.now)) (UseRefuses (meanings_of definitions c.args.extensions.now)) (c.loop-place.invariant.1 definitions full)
          (told_use c.in-Some.place.now, w c.in-Some.ty.now) (by_place w c.next.new.self) (told_use c.in-Some.place.now, resolved c.in_ok-found.found) (by_place resolved c.put_copy.new.made) first
          (ap (by_place resolved) c.in_ok-put_copy.ensures ∙ map-push told_use resolved c.loop-place.made c.in-Some.place.now c.in_ok-found.found)
          (refl, passes)
          (record { faultless = passes.faultless; resolved = resolved c.in_ok-found.found; unfolds = passes.unfolds; within = passes.within; fits = passes.fits }),
      omega (arith, left, c.loop-place.invariant.2, c.unfolded_use.ensures.counts),
    )

pub returns-clause-types : goal.returns-clause-types
returns-clause-types g c = λ definitions full.
    Gathering-end (GivesUse (meanings_of definitions c.args.extensions.now)) (UsePasses (meanings_of definitions c.args.extensions.now)) (UseRefuses (meanings_of definitions c.args.extensions.now)) (c.loop-place.invariant.1 definitions full) (ap (by_place g.T.TypeNode.written) c.in-None.ensures.steps.0)

pub returns-in_err-found-clause-refused : goal.returns-in_err-found-clause-refused
returns-in_err-found-clause-refused g c =
    let w = g.T.TypeNode.written in
    refused-weaker c.from_residual-in_err-found.result
    (λ e. (definitions : Definitions) → IsFull (meanings_of definitions c.args.extensions.now) (tabled c.args.table.now) → UseRefuses (meanings_of definitions c.args.extensions.now) (told_use c.in-Some.place.now, w c.in-Some.ty.now) (told e))
    (λ e. (definitions : Definitions) → IsFull (meanings_of definitions c.args.extensions.now) (tabled c.args.table.now) → FirstRefused (UsePasses (meanings_of definitions c.args.extensions.now)) (UseRefuses (meanings_of definitions c.args.extensions.now)) (by_place w c.args.uses.now) (told e))
    (λ e refuses definitions full.
    Gathering-stop (GivesUse (meanings_of definitions c.args.extensions.now)) (UsePasses (meanings_of definitions c.args.extensions.now)) (UseRefuses (meanings_of definitions c.args.extensions.now)) (c.loop-place.invariant.1 definitions full)
    (told_use c.in-Some.place.now, w c.in-Some.ty.now) (by_place w c.next.new.self) (told e) (ap (by_place w) c.in-Some.ensures.steps) (refuses definitions full))
    (search rules)
