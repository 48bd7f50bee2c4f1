-- SPDX-License-Identifier: Apache-2.0
-- What stands at the places of uses after unfolding is what the uses unfold to.
use Rattle.std.proofs.Common.{◌≡◌, Bool, true, false, cond, IsTrue, List, [], ◌∷◌, Option, Some, None, refl, sym, ap, ◌∙◌, subst}
use Rattle.std.specs.BTreeMap.{is_at}
use Rattle.std.specs.List.{AllZip}
use Rattle.std.specs.Map.{lookup}
use Rattle.std.specs.Option.{option_map}
use Rattle.cedar_data.specs.Firsts.{AllPass}
use Rattle.cedar_hierarchy.specs.Uses.{type_at_use, use_cmp}
use Rattle.cedar_names.specs.declared.entity_uid.EntityUID.{EntityUID}
use Rattle.cedar_names.specs.declared.name.EntityType.{EntityType}
use Rattle.cedar_names.specs.Names.{entity_words}
use Rattle.cedar_phases.proofs.Chained.{lookup_through, unchanged}
use Rattle.cedar_qualified.proofs.AlikeLookups.{BothOrNeither, none_there, same_lookups, there_by}
use Rattle.cedar_schema_error.specs.FullNames.{FullName, Uid, uid_in}
use Rattle.cedar_schema_error.specs.NameReferences.{NameReference}
use Rattle.cedar_schema_error.specs.Refusals.{Context, Shape, Tags, UsePlace}
use Rattle.cedar_schema_error.specs.Told.{told_use}
use Rattle.cedar_schema_error.specs.declared.use_place.UsePlace as code
use Rattle.cedar_schema_error.specs.declared.use_place.UsePlace.TheVariants as place
use Rattle.cedar_sound.specs.Uses.{at_place, same_place}
use Rattle.cedar_types.specs.declared.ty.ResolvedType.{ResolvedType}
use Rattle.cedar_unfold.specs.Full.{by_place}
use Rattle.cedar_unfold.specs.Meanings.{Meanings}
use Rattle.cedar_unfold.specs.Resolved.{Resolved, is_record}
use Rattle.cedar_unfold.specs.ResolvedViews.{resolved}
use Rattle.cedar_unfold.specs.UnfoldPhases.{Fits, UnfoldsAt, UsePasses}
use Rattle.cedar_unfold.specs.Unfolds.{Unfolds}
use Rattle.cedar_unfold.specs.Written.{Written}
use Rattle.cedar_unfold.proofs.OneUnfolding.{one_type}
use Rattle.cedar_qualified.specs.of_world.Worlds.{World, job, meanings, uses}

-- places are one where what is told of them is
told_alike : (p q : code.UsePlace) → same_place (told_use p) (told_use q) ≡ is_at (use_cmp p) q
told_alike (place.Shape a) (place.Shape b) = refl
told_alike (place.Shape a) (place.Tags b) = refl
told_alike (place.Shape a) (place.Context b) = refl
told_alike (place.Tags a) (place.Shape b) = refl
told_alike (place.Tags a) (place.Tags b) = refl
told_alike (place.Tags a) (place.Context b) = refl
told_alike (place.Context a) (place.Shape b) = refl
told_alike (place.Context a) (place.Tags b) = refl
told_alike (place.Context a) (place.Context b) = refl

found_is : (used : List (code.UsePlace × ResolvedType)) (p : code.UsePlace) → at_place (told_use p) (by_place resolved used) ≡ option_map resolved (type_at_use used p)
found_is used p =
    lookup_through (same_place (told_use p)) told_use resolved used
    ∙ ap (λ (f : code.UsePlace → Bool). option_map resolved (lookup f used)) (λ i q. told_alike p q i)

module _ {N : Type 0} (m : Meanings N) (q : UsePlace) (strict : (p : UsePlace) (T : Resolved) → same_place q p ≡ true → Fits p T → IsTrue (is_record T)) where
  -- what stands at a place that asks for a record unfolds to one
  record_at : (es : List (UsePlace × Written N)) (t : Written N) → AllPass (UsePasses m) es → at_place q es ≡ Some t → (T : Resolved) × Unfolds m t T × IsTrue (is_record T)
  record_at [] t all found = absurd (cc)
  record_at (e ∷ es) t all found = by (same_place q e.0) refl found (record_at es t all.1)
    where
      by : (b : Bool) → same_place q e.0 ≡ b → cond b (Some e.1) (at_place q es) ≡ Some t → (at_place q es ≡ Some t → (T : Resolved) × Unfolds m t T × IsTrue (is_record T)) → (T : Resolved) × Unfolds m t T × IsTrue (is_record T)
      by true is found rest =
          let one : e.1 ≡ t = cc in
          (all.0.resolved, subst (λ t. Unfolds m t all.0.resolved) one all.0.unfolds, strict e.0 all.0.resolved is all.0.fits)
      by false is found rest = rest found

shape_strict : (n : FullName) (p : UsePlace) (T : Resolved) → same_place (Shape n) p ≡ true → Fits p T → IsTrue (is_record T)
shape_strict n (Shape m) T is fits = fits
shape_strict n (Tags m) T is fits = absurd (cc)
shape_strict n (Context u) T is fits = absurd (cc)

context_strict : (u : Uid) (p : UsePlace) (T : Resolved) → same_place (Context u) p ≡ true → Fits p T → IsTrue (is_record T)
context_strict u (Shape m) T is fits = absurd (cc)
context_strict u (Tags m) T is fits = absurd (cc)
context_strict u (Context v) T is fits = fits

module _ (W : World) (used : List (code.UsePlace × ResolvedType)) (unfolded : AllZip (UnfoldsAt (job W)) (uses W) (by_place resolved used)) where
  both : (p : code.UsePlace) → BothOrNeither (Unfolds (meanings W)) (at_place (told_use p) (uses W)) (at_place (told_use p) (by_place resolved used))
  both p = same_lookups (Unfolds (meanings W)) (same_place (told_use p)) (uses W) (by_place resolved used) unfolded

  -- a use of a type
  pub use_made : (p : code.UsePlace) (t : Written NameReference) → at_place (told_use p) (uses W) ≡ Some t → (ty : ResolvedType) × (type_at_use used p ≡ Some ty) × Unfolds (meanings W) t (resolved ty)
  use_made p t found =
      let there = there_by (Unfolds (meanings W)) (at_place (told_use p) (uses W)) (at_place (told_use p) (by_place resolved used)) t (both p) found in
      let made = unchanged resolved (type_at_use used p) there.0 (sym (found_is used p) ∙ there.1) in
      (made.0, made.1, subst (Unfolds (meanings W) t) (sym made.2) there.2)

  -- no use, where there is none
  pub no_use_made : (p : code.UsePlace) → at_place (told_use p) (uses W) ≡ None → type_at_use used p ≡ None
  no_use_made p none = by (type_at_use used p) (sym (found_is used p) ∙ none_there (Unfolds (meanings W)) (at_place (told_use p) (uses W)) (at_place (told_use p) (by_place resolved used)) (both p) none)
    where
      by : (o : Option ResolvedType) → option_map resolved o ≡ None → o ≡ None
      by None e = refl
      by (Some ty) e = absurd (cc)

  module _ (passes : AllPass (UsePasses (meanings W)) (uses W)) where
    is_one : (p : code.UsePlace) (t : Written NameReference) (ty : ResolvedType) → Unfolds (meanings W) t (resolved ty) → (T : Resolved) × Unfolds (meanings W) t T × IsTrue (is_record T) → IsTrue (is_record (resolved ty))
    is_one p t ty u r = subst (λ T. IsTrue (is_record T)) (one_type (meanings W) t r.0 (resolved ty) r.1 u) r.2

    -- a shape, which is a record
    pub shape_made : (e : EntityType) (t : Written NameReference) → at_place (Shape (entity_words e)) (uses W) ≡ Some t
        → (ty : ResolvedType) × (type_at_use used (place.Shape e) ≡ Some ty) × Unfolds (meanings W) t (resolved ty) × IsTrue (is_record (resolved ty))
    shape_made e t found =
        let made = use_made (place.Shape e) t found in
        (made.0, made.1, made.2, is_one (place.Shape e) t made.0 made.2 (record_at (meanings W) (Shape (entity_words e)) (shape_strict (entity_words e)) (uses W) t passes found))

    -- a context, which is one
    pub context_made : (u : EntityUID) (t : Written NameReference) → at_place (Context (uid_in u)) (uses W) ≡ Some t
        → (ty : ResolvedType) × (type_at_use used (place.Context u) ≡ Some ty) × Unfolds (meanings W) t (resolved ty) × IsTrue (is_record (resolved ty))
    context_made u t found =
        let made = use_made (place.Context u) t found in
        (made.0, made.1, made.2, is_one (place.Context u) t made.0 made.2 (record_at (meanings W) (Context (uid_in u)) (context_strict (uid_in u)) (uses W) t passes found))
