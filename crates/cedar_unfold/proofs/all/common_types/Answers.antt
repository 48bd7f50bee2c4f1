-- SPDX-License-Identifier: Apache-2.0
use Rattle.std.proofs.Common.{◌≡◌, ◌++◌, ◌∷◌, [], Some, refl, sym, ap, ◌∙◌, append_assoc}
use Rattle.std.specs.Map.{keys_of}
use Rattle.cedar_data.proofs.Rebuild.{sorted_next_key}
use Rattle.cedar_names.specs.Components.{components}
use Rattle.cedar_names.specs.Names.{internal_cmp}
use Rattle.cedar_unfold.specs.Finished.{common_of}
use Rattle.cedar_unfold.specs.Passing.{HasSome, HasType, LacksType}
use Rattle.cedar_unfold.specs.ResolvedViews.{resolved}
use Rattle.cedar_unfold.specs.Tables.{by_name, names_of, tabled}
use Rattle.cedar_unfold.proofs.Gathering.{Gathering-next, Gathering-end, keys-push, map-push}
use Rattle.cedar_unfold.proofs.all.common_types.Goals as goal

pub put_copy-requires : goal.put_copy-requires
put_copy-requires g c = sorted_next_key internal_cmp (keys_of c.loop-key.made) c.loop-key.invariant.0 (ap keys_of c.in-Some.ensures.steps) refl c.iter-key-items.ensures.ordered

pub loop-key-preserved : goal.loop-key-preserved
loop-key-preserved g c =
    let table = tabled c.args.table.now in
    let key = c.in-Some.key.now in
    let left = c.next.new.self in
    let has : common_of (table (components key)) ≡ Some (resolved c.in-Some-found_type.ty.now) = sym c.in-Some-found_type.ensures in (
      ap (λ m. keys_of m ++ keys_of left) c.in_ok-put_copy-in-Some-found_type.ensures ∙ ap (λ ks. ks ++ keys_of left) (keys-push c.loop-key.made key c.in_ok-dup-in-Some-found_type.field-0) ∙ append_assoc (keys_of c.loop-key.made) (key ∷ []) (keys_of left) ∙ ap (λ l. keys_of c.loop-key.made ++ keys_of l) (sym c.in-Some.ensures.steps) ∙ c.loop-key.invariant.0,
      Gathering-next (HasType table) (HasSome table) (LacksType table) c.loop-key.invariant.1 (components key) (names_of (keys_of left)) (components key, resolved c.in_ok-dup-in-Some-found_type.field-0) (by_name resolved c.put_copy.new.made)
          (ap (λ es. names_of (keys_of es)) c.in-Some.ensures.steps)
          (ap (by_name resolved) c.in_ok-put_copy-in-Some-found_type.ensures ∙ map-push components resolved c.loop-key.made key c.in_ok-dup-in-Some-found_type.field-0)
          (refl, has ∙ ap (λ t. Some (resolved t)) (sym c.in_ok-dup-in-Some-found_type.ensures))
          (resolved c.in-Some-found_type.ty.now, has),
    )

pub returns-clause-types : goal.returns-clause-types
returns-clause-types g c =
    let table = tabled c.args.table.now in
    Gathering-end (HasType table) (HasSome table) (LacksType table) c.loop-key.invariant.1 (ap (λ es. names_of (keys_of es)) c.in-None.ensures.steps.0)
