-- SPDX-License-Identifier: Apache-2.0
-- A type and the one with targets in place of its references unfold alike.
use Rattle.std.proofs.Common.{◌≡◌, List, Some, sym, ap, ◌∙◌}
use Rattle.std.specs.List.{AllZip}
use Rattle.std.specs.BTreeMap.{is_at}
use Rattle.cedar_names.specs.Order.{words_cmp}
use Rattle.cedar_schema_error.specs.FullNames.{FullName}
use Rattle.cedar_world.specs.of_unfold.Meanings.{Meanings, definition_of, full_meanings}
use Rattle.cedar_world.specs.of_unfold.Resolved.{Resolved, ResolvedAttributes}
use Rattle.cedar_world.specs.of_unfold.Unfolds.{Unfolds, UnfoldsEach, boolean, long, string, extension, set, closed, entity, common, either_common, either_entity, none, each}
use Rattle.cedar_world.specs.of_unfold.Written.{Written, WrittenAttributes}
use Rattle.cedar_world.specs.Qualified.{Qualifies, QualifiesEach, QualifiesAt}
use Rattle.cedar_world.specs.Qualified as q
use Rattle.cedar_qualified.proofs.AlikeLookups.{BothOrNeither, back_by, none_back, none_there, same_lookups, there_by}

pub some_one : {A : Type 0} (a b : A) → Some a ≡ Some b → a ≡ b
some_one a b e = cc

module _ {N : Type 0} (m : Meanings N) (full : List (FullName × Written FullName)) (commons : AllZip (QualifiesAt m.target) m.common_types full) where
  abbrev m' : Meanings FullName
  m' = full_meanings full m.is_extension

  pub definitions : (name : FullName) → BothOrNeither (Qualifies m.target) (definition_of m name) (definition_of m' name)
  definitions name = same_lookups (Qualifies m.target) (is_at (words_cmp name)) m.common_types full commons

  one_name : {r : N} {a b : FullName} → m.target r ≡ Some a → m.target r ≡ Some b → a ≡ b
  one_name {a = a} {b = b} p p' = some_one a b (sym p ∙ p')

  -- so it unfolds there
  mutual
    pub unfolds_there : {t : Written N} {T : Resolved} → Unfolds m t T → (u : Written FullName) → Qualifies m.target t u → Unfolds m' u T
    unfolds_there boolean u q.boolean = boolean
    unfolds_there long u q.long = long
    unfolds_there string u q.string = string
    unfolds_there (extension known) u q.extension = extension known
    unfolds_there (set e) u (q.set f) = set (unfolds_there e _ f)
    unfolds_there (closed es) u (q.record_of fs) = closed (unfold_each_there es _ fs)
    unfolds_there (entity {name = name} a free) u (q.entity {name = name'} a') =
        entity {name = name} (ap Some (one_name a' a)) free
    unfolds_there (common {t = t} d e) u (q.common {name = name} a') =
        let found = there_by (Qualifies m.target) (definition_of m d.name) (definition_of m' d.name) t (definitions d.name) d.defined in
        common {t = found.0} (record { name = d.name; targeted = ap Some (one_name a' d.targeted); defined = found.1 }) (unfolds_there e found.0 found.2)
    unfolds_there (either_common {t = t} d e) u (q.either {name = name} a') =
        let found = there_by (Qualifies m.target) (definition_of m d.name) (definition_of m' d.name) t (definitions d.name) d.defined in
        either_common {t = found.0} (record { name = d.name; targeted = ap Some (one_name a' d.targeted); defined = found.1 }) (unfolds_there e found.0 found.2)
    unfolds_there (either_entity {name = name} d) u (q.either {name = name'} a') =
        either_entity {name = name} (record {
          targeted = ap Some (one_name a' d.targeted);
          no_common = none_there (Qualifies m.target) (definition_of m name) (definition_of m' name) (definitions name) d.no_common;
          free = d.free;
        })

    pub unfold_each_there : {ts : WrittenAttributes N} {Ts : ResolvedAttributes} → UnfoldsEach m ts Ts → (us : WrittenAttributes FullName) → QualifiesEach m.target ts us → UnfoldsEach m' us Ts
    unfold_each_there none us q.none = none
    unfold_each_there (each e es) us (q.each f fs) = each (unfolds_there e _ f) (unfold_each_there es _ fs)

  -- and from there back
  mutual
    pub unfolds_back : {u : Written FullName} {T : Resolved} → Unfolds m' u T → (t : Written N) → Qualifies m.target t u → Unfolds m t T
    unfolds_back boolean t q.boolean = boolean
    unfolds_back long t q.long = long
    unfolds_back string t q.string = string
    unfolds_back (extension known) t q.extension = extension known
    unfolds_back (set e) t (q.set f) = set (unfolds_back e _ f)
    unfolds_back (closed es) t (q.record_of fs) = closed (unfold_each_back es _ fs)
    unfolds_back (entity {name = name} a free) t (q.entity {name = name'} a') =
        entity {name = name} (a' ∙ a) free
    unfolds_back (common {t = u} d e) t (q.common {name = name} a') =
        let found = back_by (Qualifies m.target) (definition_of m d.name) (definition_of m' d.name) u (definitions d.name) d.defined in
        common {t = found.0} (record { name = d.name; targeted = a' ∙ d.targeted; defined = found.1 }) (unfolds_back e found.0 found.2)
    unfolds_back (either_common {t = u} d e) t (q.either {name = name} a') =
        let found = back_by (Qualifies m.target) (definition_of m d.name) (definition_of m' d.name) u (definitions d.name) d.defined in
        either_common {t = found.0} (record { name = d.name; targeted = a' ∙ d.targeted; defined = found.1 }) (unfolds_back e found.0 found.2)
    unfolds_back (either_entity {name = name} d) t (q.either {name = name'} a') =
        either_entity {name = name} (record {
          targeted = a' ∙ d.targeted;
          no_common = none_back (Qualifies m.target) (definition_of m name) (definition_of m' name) (definitions name) d.no_common;
          free = d.free;
        })

    pub unfold_each_back : {us : WrittenAttributes FullName} {Ts : ResolvedAttributes} → UnfoldsEach m' us Ts → (ts : WrittenAttributes N) → QualifiesEach m.target ts us → UnfoldsEach m ts Ts
    unfold_each_back none ts q.none = none
    unfold_each_back (each e es) ts (q.each f fs) = each (unfolds_back e _ f) (unfold_each_back es _ fs)
