-- SPDX-License-Identifier: Apache-2.0
use Rattle.std.proofs.Common.{◌≡◌, Some, get_or, ap, sym, ◌∙◌}
use Rattle.cedar_data.specs.Maps.{get}
use Rattle.cedar_data.proofs.Places.{StandsAt-get, BelongsAt-get}
use Rattle.cedar_names.specs.Components.{basename_of, namespace_of}
use Rattle.cedar_declared.proofs.Basenames.{spaces_total}
use Rattle.cedar_declared.specs.Basenames.{is_among, space_cmp}
use Rattle.cedar_declared.proofs.spaces.Spaces.contains.Goals as goal

pub returns-in-Ok : goal.returns-in-Ok
returns-in-Ok c =
    let entry = c.index.result.now in
    let there = c.index.ensures ∙ ap (λ es. get_or es c.in-Ok.at entry) c.self.view_is in
    let found : Some entry.1 ≡ get space_cmp c.args.self.now (namespace_of c.args.name.now) =
    ap (λ e. Some e.1) there ∙ sym (StandsAt-get spaces_total c.as_slice.result.now c.in-Ok.ensures.found entry)
    ∙ ap (get space_cmp c.args.self.now) (c.as_slice.ensures.value ∙ c.namespace_components.ensures) in
    c.contains_near-found.ensures ∙ (λ i. is_among (found i) (c.basename.ensures i))

pub returns-in-Err : goal.returns-in-Err
returns-in-Err c =
    sym (ap (λ ns. is_among (get space_cmp c.args.self.now ns) (basename_of c.args.name.now)) (sym (c.as_slice.ensures.value ∙ c.namespace_components.ensures))
    ∙ ap (λ found. is_among found (basename_of c.args.name.now)) (BelongsAt-get spaces_total c.as_slice.result.now c.in-Err.ensures.missing))
