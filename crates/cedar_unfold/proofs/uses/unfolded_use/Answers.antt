-- SPDX-License-Identifier: Apache-2.0
use Rattle.std.proofs.Common.{◌≡◌, sym, ap, ◌∙◌}
use Rattle.std.proofs.lemmas.Result.{IfOk-weaker}
use Rattle.cedar_schema_error.specs.Refusals.{ContextOrShapeNotRecord}
use Rattle.cedar_schema_error.specs.Told.{told, told_use}
use Rattle.cedar_unfold.specs.Full.{Definitions, IsFull, meanings_of}
use Rattle.cedar_unfold.specs.Notes.{noted, told_fault}
use Rattle.cedar_unfold.specs.Passing.{PassesAs}
use Rattle.cedar_unfold.specs.ResolvedViews.{resolved}
use Rattle.cedar_unfold.specs.Tables.{found_type, tabled}
use Rattle.cedar_unfolding.specs.UnfoldPhases.{Fits, UseRefuses}
use Rattle.cedar_unfold.proofs.UseLemmas.{refused-weaker, refused-fault, refused-deep, refused-misfit, passes}
use Rattle.cedar_unfold.proofs.uses.unfolded_use.Goals as goal

pub returns-in-Some-clause-refused : goal.returns-in-Some-clause-refused
returns-in-Some-clause-refused g c = λ definitions full.
    refused-fault c.args.extensions.now (tabled c.args.table.now) (told_use c.args.place.now) (g.T.TypeNode.written c.args.ty.now) definitions full
    (told_fault c.in-Some.fault) (told c.into_error.result) (sym (ap noted c.in-Some.is) ∙ c.in_ok-found.ensures.fault) c.into_error.ensures.tells

pub returns-in-Some-found-clause-passes : goal.returns-in-Some-found-clause-passes
returns-in-Some-found-clause-passes g c =
    IfOk-weaker c.fitting.result (λ ty. (ty ≡ c.in-Some-found.found.ty) × Fits (told_use c.args.place.now) (resolved c.in-Some-found.found.ty))
    (λ made. (definitions : Definitions) → IsFull (meanings_of definitions c.args.extensions.now) (tabled c.args.table.now) → PassesAs (meanings_of definitions c.args.extensions.now) (told_use c.args.place.now, g.T.TypeNode.written c.args.ty.now) (resolved made))
    (λ ty fits definitions full.
    passes c.args.extensions.now (tabled c.args.table.now) (told_use c.args.place.now) (g.T.TypeNode.written c.args.ty.now) definitions full
    (sym (ap noted c.in_default.is) ∙ c.in_ok-found.ensures.fault) (resolved c.in-Some-found.found.ty) (resolved ty) (sym (ap found_type c.in-Some-found.is) ∙ c.in_ok-found.ensures.is) (ap resolved fits.0) fits.1)
    c.fitting.ensures.ok

pub returns-in-Some-found-clause-refused : goal.returns-in-Some-found-clause-refused
returns-in-Some-found-clause-refused g c =
    refused-weaker c.fitting.result (λ e. (told e ≡ ContextOrShapeNotRecord (told_use c.args.place.now)) × (Fits (told_use c.args.place.now) (resolved c.in-Some-found.found.ty) → ⊥))
    (λ e. (definitions : Definitions) → IsFull (meanings_of definitions c.args.extensions.now) (tabled c.args.table.now) → UseRefuses (meanings_of definitions c.args.extensions.now) (told_use c.args.place.now, g.T.TypeNode.written c.args.ty.now) (told e))
    (λ e misfits definitions full.
    refused-misfit c.args.extensions.now (tabled c.args.table.now) (told_use c.args.place.now) (g.T.TypeNode.written c.args.ty.now) definitions full
    (sym (ap noted c.in_default.is) ∙ c.in_ok-found.ensures.fault) (resolved c.in-Some-found.found.ty) (told e) (sym (ap found_type c.in-Some-found.is) ∙ c.in_ok-found.ensures.is) misfits.1 misfits.0)
    c.fitting.ensures.refused

pub returns-in_ok-too_deep-in-None-clause-refused : goal.returns-in_ok-too_deep-in-None-clause-refused
returns-in_ok-too_deep-in-None-clause-refused g c = λ definitions full.
    refused-deep c.args.extensions.now (tabled c.args.table.now) (told_use c.args.place.now) (g.T.TypeNode.written c.args.ty.now) definitions full
    (sym (ap noted c.in_default.is) ∙ c.in_ok-found.ensures.fault) (told c.in_ok-too_deep-in-None.field-0) (sym (ap found_type c.in-None.is) ∙ c.in_ok-found.ensures.is) c.in_ok-too_deep-in-None.ensures.tells
