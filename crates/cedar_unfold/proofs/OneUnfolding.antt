-- SPDX-License-Identifier: Apache-2.0
-- A written type unfolds to at most one type.
use Rattle.std.proofs.Common.{◌≡◌, false, Some, refl, sym, ap, ◌∙◌, subst}
use Rattle.std.proofs.lemmas.Option.{none-some}
use Rattle.cedar_schema_error.specs.FullNames.{FullName}
use Rattle.cedar_unfolding.specs.Meanings.{Meanings, MeansCommon, MeansEntity, definition_of}
use Rattle.cedar_unfolding.specs.Resolved.{Resolved, ResolvedAttributes}
use Rattle.cedar_unfolding.specs.Resolved as resolved
use Rattle.cedar_unfolding.specs.Unfolds.{Unfolds, UnfoldsEach, boolean, long, string, extension, set, closed, entity, common, either_common, either_entity, none, each}
use Rattle.cedar_unfolding.specs.Written.{Written, WrittenAttributes}
use Rattle.cedar_unfold.proofs.FollowingLemmas.{same_inside}

module _ {N : Type 0} (m : Meanings N) where
  same_target : (r : N) (a b : FullName) → m.target r ≡ Some a → m.target r ≡ Some b → a ≡ b
  same_target r a b is is' = same_inside a b (sym is ∙ is')

  same_common : (r : N) (t u : Written N) → MeansCommon m r t → MeansCommon m r u → t ≡ u
  same_common r t u x y = same_inside t u (sym x.defined ∙ ap (definition_of m) (same_target r x.name y.name x.targeted y.targeted) ∙ y.defined)

  not_both : (r : N) (t : Written N) (name : FullName) → MeansCommon m r t → MeansEntity m r name → ⊥
  not_both r t name x y = none-some t (sym y.no_common ∙ sym (ap (definition_of m) (same_target r x.name name x.targeted y.targeted)) ∙ x.defined)

  mutual
    pub one_type : (t : Written N) (a b : Resolved) → Unfolds m t a → Unfolds m t b → a ≡ b
    one_type _ _ _ boolean boolean = refl
    one_type _ _ _ long long = refl
    one_type _ _ _ string string = refl
    one_type _ _ _ (extension x) (extension y) = refl
    one_type _ _ _ (set {t} {T} x) (set {T = U} y) = ap resolved.Set (one_type t T U x y)
    one_type _ _ _ (closed {ws} {rs} x) (closed {rs = rs'} y) = ap (λ rs. resolved.Record rs false) (one_each ws rs rs' x y)
    one_type _ _ _ (entity {r} {name} x f) (entity {name = name'} y f') = ap resolved.Entity (same_target r name name' x y)
    one_type _ _ _ (common {r} {t} {T} x u) (common {t = t'} {T = U} y v) = one_type t T U u (subst (λ t. Unfolds m t U) (same_common r t' t y x) v)
    one_type _ _ _ (either_common {r} {t} {T} x u) (either_common {t = t'} {T = U} y v) = one_type t T U u (subst (λ t. Unfolds m t U) (same_common r t' t y x) v)
    one_type _ _ _ (either_common {r} {t} {T} x u) (either_entity {name = name} y) = absurd (not_both r t name x y)
    one_type _ _ _ (either_entity {r} {name} y) (either_common {t = t} x u) = absurd (not_both r t name x y)
    one_type _ _ _ (either_entity {r} {name} x) (either_entity {name = name'} y) = ap resolved.Entity (same_target r name name' x.targeted y.targeted)

    one_each : (ws : WrittenAttributes N) (a b : ResolvedAttributes) → UnfoldsEach m ws a → UnfoldsEach m ws b → a ≡ b
    one_each _ _ _ none none = refl
    one_each _ _ _ (each {name} {required} {t} {T} {ws} {rs} x xs) (each {T = U} {rs = rs'} y ys) = λ i. resolved.attribute name required (one_type t T U x y i) (one_each ws rs rs' xs ys i)
