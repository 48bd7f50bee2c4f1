-- SPDX-License-Identifier: Apache-2.0
-- In the world that is read again, a rewritten type unfolds to what the type unfolds to.
use Rattle.std.proofs.Common.{◌≡◌, ◌||◌, ℕ, true, cond, List, Option, Some, None, codes, refl, ap, ◌∙◌, subst}
use Rattle.std.specs.Map.{keys_of}
use Rattle.cedar_data.specs.Sets.{contains}
use Rattle.cedar_declared.specs.Names.{Names, is_entity, target}
use Rattle.cedar_names.specs.Order.{words_cmp}
use Rattle.cedar_reread_world.specs.Rewritten.{AttributesRewritten, NamespacesRewritten, Printable, ShapeRewritten, TypeRewritten, builtin_reference}
use Rattle.cedar_reread_world.specs.Rewritten as read
use Rattle.cedar_reread_world.proofs.Builtins.{bool_says, extension_among, extension_says, long_says, string_says}
use Rattle.cedar_reread_world.proofs.DeclaredTypes.{builtin_declared, builtin_defined}
use Rattle.cedar_reread_world.proofs.Maps.{Says}
use Rattle.cedar_reread_world.proofs.SameNames.{Stands, commons_related, names_same, printable_there, rewritten, stays}
use Rattle.cedar_reread_world.proofs.TargetsKept.{common_read, entity_read, narrowed, same_read}
use Rattle.cedar_reread_world.proofs.Tests.{inside}
use Rattle.cedar_reread_world.proofs.Zipped.{Related, both, neither, zip_get}
use Rattle.cedar_schema_error.specs.FullNames.{FullName}
use Rattle.cedar_schema_error.specs.NameReferences.{NameReference}
use Rattle.cedar_shadowing.specs.Shadowing.{NoPair, ShadowsType}
use Rattle.cedar_sound.proofs.NameOrders.{names_exact}
use Rattle.cedar_text.specs.Words.{has_word}
use Rattle.cedar_unfold.specs.Meanings.{MeansCommon, MeansEntity, definition_of}
use Rattle.cedar_unfold.specs.Resolved.{Resolved, ResolvedAttributes, is_record}
use Rattle.cedar_unfold.specs.Unfolds.{Unfolds, UnfoldsEach, boolean, long, string, extension, set, closed, entity, common, either_common, either_entity, none, each}
use Rattle.cedar_unfold.specs.Written.{Written, WrittenAttributes}
use Rattle.cedar_unfold.specs.Written as written
use Rattle.cedar_world.specs.Worlds.{World, builtin_name, builtins, common_types, meanings, names, own}
use Rattle.cedar_written.specs.declared.reference_type.ReferenceType.TheVariants as kind

module _ (W V : World) (same_extensions : V.extensions ≡ W.extensions) (rewrites : NamespacesRewritten W.namespaces V.namespaces) (printable : Printable W) (apart : NoPair (ShadowsType (own W))) where
  -- names have the same targets
  targets_there : (r : NameReference) (n : FullName) → target (names W) r ≡ Some n → target (names V) r ≡ Some n
  targets_there r n e = ap (λ (N : Names). target N r) (names_same W V same_extensions rewrites) ∙ e

  found_there : (n : FullName) → Related Stands (definition_of (meanings W) n) (definition_of (meanings V) n)
  found_there n = zip_get words_cmp Stands (common_types W) (common_types V) n (commons_related W V same_extensions rewrites)

  -- what is no common type is none there
  undefined_there : (n : FullName) → definition_of (meanings W) n ≡ None → definition_of (meanings V) n ≡ None
  undefined_there n e = by (definition_of (meanings W) n) (definition_of (meanings V) n) (found_there n) e
    where
      by : (a b : Option (Written NameReference)) → Related Stands a b → a ≡ None → b ≡ None
      by _ _ neither e = refl
      by _ _ (both h) e = absurd (cc)

  -- a common type is one there, and so is its definition, rewritten or not
  pub record Definition (t : Written NameReference) (n : FullName) : Type 0 where
    pub is : Written NameReference
    pub defined : definition_of (meanings V) n ≡ Some is
    pub related : Stands t is

  defined_there : (t : Written NameReference) (n : FullName) → definition_of (meanings W) n ≡ Some t → Definition t n
  defined_there t n e = by (definition_of (meanings W) n) (definition_of (meanings V) n) (found_there n) e refl
    where
      by : (a b : Option (Written NameReference)) → Related Stands a b → a ≡ Some t → definition_of (meanings V) n ≡ b → Definition t n
      by _ _ neither e is = absurd (cc)
      by _ _ (both {v} {w} h) e is = record { is = w; defined = is; related = subst (λ v. Stands v w) (inside v t e) h }

  module _ (word : List ℕ) (t : Written NameReference) (says : Says names_exact (builtin_name word) (λ u. u ≡ t) (builtins V.extensions))
      (among : contains words_cmp (keys_of (builtins V.extensions)) (builtin_name word) ≡ true) where
    -- the reference to a builtin type means it
    builtin_means : MeansCommon (meanings V) (builtin_reference word) t
    builtin_means = record {
      name = builtin_name word;
      targeted = ap (λ b. cond (b || is_entity (names V) (builtin_name word)) (Some (builtin_name word)) None) (builtin_declared V (printable_there W V same_extensions rewrites printable) word t says among);
      defined = builtin_defined V (printable_there W V same_extensions rewrites printable) word t says among;
    }

  abbrev Carries : Written NameReference → Resolved → Type 0
  Carries u T = Unfolds (meanings V) u T

  -- of a definition, from what is known of it rewritten and as it is
  whichever : (t u : Written NameReference) (T : Resolved) → Stands t u → ((u : Written NameReference) → TypeRewritten t u → Carries u T) → Carries t T → Carries u T
  whichever _ _ T (rewritten {t} {u} h) f c = f u h
  whichever _ _ T stays f c = c

  module _ (r s : NameReference) (t : Written NameReference) (T : Resolved) (x : MeansCommon (meanings W) r t) (targeted : target (names V) s ≡ Some x.name)
      (f : (u : Written NameReference) → TypeRewritten t u → Carries u T) (c : Carries t T) where
    abbrev there : Definition t x.name
    there = defined_there t x.name x.defined

    as_common : MeansCommon (meanings V) s there.is
    as_common = record { name = x.name; targeted = targeted; defined = there.defined }

    -- a reference to a common type unfolds to what that type does
    by_either : Carries (written.EntityOrCommon s) T
    by_either = either_common as_common (whichever t there.is T there.related f c)

    by_common : Carries (written.CommonTypeRef s) T
    by_common = common as_common (whichever t there.is T there.related f c)

  entity_means : (r s : NameReference) (n : FullName) → MeansEntity (meanings W) r n → target (names V) s ≡ Some n → MeansEntity (meanings V) s n
  entity_means r s n x e = record { targeted = e; no_common = undefined_there n x.no_common; free = x.free }

  mutual
    -- a type as it is
    kept : (t : Written NameReference) (T : Resolved) → Unfolds (meanings W) t T → Carries t T
    kept _ _ boolean = boolean
    kept _ _ long = long
    kept _ _ string = string
    kept _ _ (extension {e} known) = extension (ap (λ ws. has_word ws e) same_extensions ∙ known)
    kept _ _ (set {t} {T} u) = set (kept t T u)
    kept _ _ (closed {ws} {rs} us) = closed (kept_each ws rs us)
    kept _ _ (entity {r} {name} e free) = entity (targets_there r name e) free
    kept _ _ (common {r} {t} {T} x u) = by_common r r t T x (targets_there r x.name x.targeted) (λ v h. carried t v T u h) (kept t T u)
    kept _ _ (either_common {r} {t} {T} x u) = by_either r r t T x (targets_there r x.name x.targeted) (λ v h. carried t v T u h) (kept t T u)
    kept _ _ (either_entity {r} {name} x) = either_entity (entity_means r r name x (targets_there r name x.targeted))

    kept_each : (ws : WrittenAttributes NameReference) (rs : ResolvedAttributes) → UnfoldsEach (meanings W) ws rs → UnfoldsEach (meanings V) ws rs
    kept_each _ _ none = none
    kept_each _ _ (each {t = t} {T} {ws} {rs} u us) = each (kept t T u) (kept_each ws rs us)

    -- a rewritten type
    pub carried : (t u : Written NameReference) (T : Resolved) → Unfolds (meanings W) t T → TypeRewritten t u → Carries u T
    carried _ _ _ boolean read.boolean = either_common (builtin_means (codes "Bool") written.Boolean (bool_says V.extensions (printable_there W V same_extensions rewrites printable).no_primitive_word) refl) boolean
    carried _ _ _ long read.long = either_common (builtin_means (codes "Long") written.Long (long_says V.extensions (printable_there W V same_extensions rewrites printable).no_primitive_word) refl) long
    carried _ _ _ string read.string = either_common (builtin_means (codes "String") written.String (string_says V.extensions (printable_there W V same_extensions rewrites printable).no_primitive_word) refl) string
    carried _ _ _ (extension {e} known) read.extension =
        let there : has_word V.extensions e ≡ true = ap (λ ws. has_word ws e) same_extensions ∙ known in
        either_common (builtin_means e (written.Extension e) (extension_says V.extensions (printable_there W V same_extensions rewrites printable).no_primitive_word e there) (extension_among V.extensions e there)) (extension there)
    carried _ _ _ (set {t} {T} u) (read.set {u = v} h) = set (carried t v T u h)
    carried _ _ _ (closed {ws} {rs} us) (read.record_of {us = vs} h) = closed (carried_each ws vs rs us h)
    carried _ _ _ (entity {r} {name} e free) (read.entity {s = s} h) =
        let is = entity_read W printable apart r s name h e in
        either_entity (record { targeted = targets_there s name is.0; no_common = undefined_there name is.1; free = free })
    carried _ _ _ (common {r} {t} {T} x u) (read.common {s = s} h) = by_either r s t T x (targets_there s x.name (common_read W printable apart r s x.name h x.targeted)) (λ v h. carried t v T u h) (kept t T u)
    carried _ _ _ (either_common {r} {t} {T} x u) (read.either {s = s} h) = by_either r s t T x (targets_there s x.name (same_read W printable apart kind.CommonOrEntity r s h ∙ x.targeted)) (λ v h. carried t v T u h) (kept t T u)
    carried _ _ _ (either_entity {r} {name} x) (read.either {s = s} h) = either_entity (entity_means r s name x (targets_there s name (same_read W printable apart kind.CommonOrEntity r s h ∙ x.targeted)))

    carried_each : (ws vs : WrittenAttributes NameReference) (rs : ResolvedAttributes) → UnfoldsEach (meanings W) ws rs → AttributesRewritten ws vs → UnfoldsEach (meanings V) vs rs
    carried_each _ _ _ none read.none = none
    carried_each _ _ _ (each {t = t} {T} {ws} {rs} u us) (read.each {u = v} {us = vs} h hs) = each (carried t v T u h) (carried_each ws vs rs us hs)

  -- a definition
  pub definition_carried : (t u : Written NameReference) (T : Resolved) → Unfolds (meanings W) t T → Stands t u → Unfolds (meanings V) u T
  definition_carried t u T d h = whichever t u T h (λ u h. carried t u T d h) (kept t T d)

  -- a whole shape or context, which is a record
  pub shape_carried : (t u : Written NameReference) (T : Resolved) → Unfolds (meanings W) t T → is_record T ≡ true → ShapeRewritten t u → Unfolds (meanings V) u T
  shape_carried _ _ _ boolean is h = absurd (cc)
  shape_carried _ _ _ long is h = absurd (cc)
  shape_carried _ _ _ string is h = absurd (cc)
  shape_carried _ _ _ (extension known) is h = absurd (cc)
  shape_carried _ _ _ (set u) is h = absurd (cc)
  shape_carried _ _ _ (entity e free) is h = absurd (cc)
  shape_carried _ _ _ (closed {ws} {rs} us) is (read.record_of {us = vs} h) = closed (carried_each ws vs rs us h)
  shape_carried _ _ _ (either_common {r} {t} {T} x u) is (read.either {s = s} h) = by_common r s t T x (targets_there s x.name (narrowed W printable apart r s x.name h t x.targeted x.defined)) (λ v h. carried t v T u h) (kept t T u)
  shape_carried _ _ _ (either_entity x) is (read.either h) = absurd (cc)
  shape_carried _ _ _ (common {r} {t} {T} x u) is (read.common {s = s} h) = by_common r s t T x (targets_there s x.name (same_read W printable apart kind.Common r s h ∙ x.targeted)) (λ v h. carried t v T u h) (kept t T u)
