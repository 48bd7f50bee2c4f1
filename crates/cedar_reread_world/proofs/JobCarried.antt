-- SPDX-License-Identifier: Apache-2.0
-- Where the types of a world unfold, so do those of the world that is read again.
use Rattle.std.proofs.Common.{◌≡◌, ◌≤◌, ◌++◌, List, [], map, sym, ap, subst}
use Rattle.std.specs.BTreeMap.{is_at}
use Rattle.std.specs.List.{AllZip, flat_map}
use Rattle.cedar_data.specs.Firsts.{AllPass}
use Rattle.cedar_names.specs.Order.{words_cmp}
use Rattle.cedar_reread_world.specs.Rewritten.{ActionRewritten, EntityRewritten, NamespacesRewritten, Printable, SameKey, ShapeRewritten, TypeRewritten, enumerated, no_tags, standard, tags}
use Rattle.cedar_reread_world.proofs.Faultless.{faultless, no_cycle}
use Rattle.cedar_reread_world.proofs.SameNames.{Stands, actions_related, commons_related, types_related}
use Rattle.cedar_reread_world.proofs.TypesCarried.{carried, definition_carried, shape_carried}
use Rattle.cedar_reread_world.proofs.Zipped.{pass_zip, zip_append, zip_flat, zip_map}
use Rattle.cedar_schema_error.specs.FullNames.{FullName}
use Rattle.cedar_schema_error.specs.NameReferences.{NameReference}
use Rattle.cedar_schema_error.specs.Refusals.{Context, Shape, Tags, UsePlace}
use Rattle.cedar_shadowing.specs.Shadowing.{NoPair, ShadowsType}
use Rattle.cedar_sound.proofs.NothingMissed.{pass_weaker}
use Rattle.cedar_unfold.proofs.Filling.{found-passes}
use Rattle.cedar_unfold.specs.Faults.{faults}
use Rattle.cedar_unfold.specs.Resolved.{Resolved, deepest, nest}
use Rattle.cedar_unfold.specs.UnfoldPhases.{Fits, Unfoldable, UnfoldsWithin, UsePasses}
use Rattle.cedar_unfold.specs.Unfolds.{Unfolds}
use Rattle.cedar_unfold.specs.Written.{Written}
use Rattle.cedar_world.specs.Definitions.{EntityDefinition, shape_of, tags_of}
use Rattle.cedar_world.specs.Worlds.{World, actions, common_types, entity_types, job, meanings, own, uses}

-- what a type is read again as, by the place where it is used
abbrev pub RewrittenAt : UsePlace → Written NameReference → Written NameReference → Type 0
RewrittenAt (Shape name) t u = ShapeRewritten t u
RewrittenAt (Tags name) t u = TypeRewritten t u
RewrittenAt (Context uid) t u = ShapeRewritten t u

-- a use at the same place
pub record SameUse (before after : UsePlace × Written NameReference) : Type 0 where
  pub place : after.0 ≡ before.0
  pub type : RewrittenAt before.0 before.1 after.1

shape_uses : (n k : FullName) (d e : EntityDefinition NameReference) → k ≡ n → EntityRewritten d e → AllZip SameUse (map (λ t. (Shape n, t)) (shape_of d)) (map (λ t. (Shape k, t)) (shape_of e))
shape_uses n k _ _ is (standard s t) = (record { place = ap Shape is; type = s }, tt)
shape_uses n k _ _ is enumerated = tt

tags_uses : (n k : FullName) (d e : EntityDefinition NameReference) → k ≡ n → EntityRewritten d e → AllZip SameUse (map (λ t. (Tags n, t)) (tags_of d)) (map (λ t. (Tags k, t)) (tags_of e))
tags_uses n k _ _ is (standard s no_tags) = tt
tags_uses n k _ _ is (standard s (tags t)) = (record { place = ap Tags is; type = t }, tt)
tags_uses n k _ _ is enumerated = tt

module _ (W V : World) (same_extensions : V.extensions ≡ W.extensions) (rewrites : NamespacesRewritten W.namespaces V.namespaces) where
  -- uses are those of the first, each in turn
  pub uses_related : AllZip SameUse (uses W) (uses V)
  uses_related =
      let types = types_related W V same_extensions rewrites in
      zip_append SameUse (shapes W ++ tagged W) (shapes V ++ tagged V) (contexts W) (contexts V)
      (zip_append SameUse (shapes W) (shapes V) (tagged W) (tagged V)
      (zip_flat (SameKey EntityRewritten) SameUse (λ e. map (λ t. (Shape e.0, t)) (shape_of e.1)) (λ e. map (λ t. (Shape e.0, t)) (shape_of e.1))
      (λ x y h. shape_uses x.0 y.0 x.1 y.1 h.key h.value) (entity_types W) (entity_types V) types)
      (zip_flat (SameKey EntityRewritten) SameUse (λ e. map (λ t. (Tags e.0, t)) (tags_of e.1)) (λ e. map (λ t. (Tags e.0, t)) (tags_of e.1))
      (λ x y h. tags_uses x.0 y.0 x.1 y.1 h.key h.value) (entity_types W) (entity_types V) types))
      (zip_map (SameKey ActionRewritten) SameUse (λ a. (Context a.0, a.1.context)) (λ a. (Context a.0, a.1.context))
      (λ x y h. record { place = ap Context h.key; type = h.value.context }) (actions W) (actions V) (actions_related W V same_extensions rewrites))
    where
      shapes : World → List (UsePlace × Written NameReference)
      shapes U = flat_map (λ e. map (λ t. (Shape e.0, t)) (shape_of e.1)) (entity_types U)

      tagged : World → List (UsePlace × Written NameReference)
      tagged U = flat_map (λ e. map (λ t. (Tags e.0, t)) (tags_of e.1)) (entity_types U)

      contexts : World → List (UsePlace × Written NameReference)
      contexts U = map (λ a. (Context a.0, a.1.context)) (actions U)

  module _ (printable : Printable W) (apart : NoPair (ShadowsType (own W))) where
    passing : (p q : UsePlace) (u : Written NameReference) (T : Resolved) → q ≡ p → Unfolds (meanings V) u T → nest T ≤ deepest → Fits p T → UsePasses (meanings V) (q, u)
    passing p q u T is made within fits = record { faultless = faultless (meanings V) u T made; resolved = T; unfolds = made; within = within; fits = subst (λ p. Fits p T) (sym is) fits }

    use_passes : (p q : UsePlace) (t u : Written NameReference) → q ≡ p → RewrittenAt p t u → UsePasses (meanings W) (p, t) → UsePasses (meanings V) (q, u)
    use_passes (Shape n) q t u is h x = passing (Shape n) q u x.resolved is (shape_carried W V same_extensions rewrites printable apart t u x.resolved x.unfolds x.fits h) x.within x.fits
    use_passes (Tags n) q t u is h x = passing (Tags n) q u x.resolved is (carried W V same_extensions rewrites printable apart t u x.resolved x.unfolds h) x.within x.fits
    use_passes (Context n) q t u is h x = passing (Context n) q u x.resolved is (shape_carried W V same_extensions rewrites printable apart t u x.resolved x.unfolds x.fits h) x.within x.fits

    pub uses_pass : AllPass (UsePasses (meanings W)) (uses W) → AllPass (UsePasses (meanings V)) (uses V)
    uses_pass h = pass_zip (UsePasses (meanings W)) (UsePasses (meanings V)) SameUse (λ x y p r. use_passes x.0 y.0 x.1 y.1 r.place r.type p) (uses W) (uses V) h uses_related

    pub commons_unfold : AllPass (λ c. UnfoldsWithin (meanings W) c.1) (common_types W) → AllPass (λ c. UnfoldsWithin (meanings V) c.1) (common_types V)
    commons_unfold h = pass_zip (λ c. UnfoldsWithin (meanings W) c.1) (λ c. UnfoldsWithin (meanings V) c.1) (SameKey Stands)
        (λ x y p r. (p.0, definition_carried W V same_extensions rewrites printable apart x.1 y.1 p.0 p.1 r.value, p.2)) (common_types W) (common_types V) h (commons_related W V same_extensions rewrites)

    -- the job can be done
    pub job_there : Unfoldable (job W) → Unfoldable (job V)
    unfolding Unfoldable
    job_there h =
        let each = commons_unfold h.1.1.0 in (
          no_cycle (meanings V) (λ n t e. let made = found-passes (UnfoldsWithin (meanings V)) (is_at (words_cmp n)) (common_types V) t each e in (made.0, made.1)),
          (
            pass_weaker (λ c. UnfoldsWithin (meanings V) c.1) (λ c. faults (meanings V) c.1 ≡ []) (λ c made. faultless (meanings V) c.1 made.0 made.1) (common_types V) each,
            (each, (uses_pass h.1.1.1.0, tt)),
          ),
        )
