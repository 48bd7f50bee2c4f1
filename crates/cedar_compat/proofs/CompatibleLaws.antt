-- SPDX-License-Identifier: Apache-2.0
-- A schema passes the check of another exactly where it takes nothing away from it.
use Rattle.std.proofs.Common.{◌≡◌, true, codes, Option, Some, None, refl, ap, ◌∙◌}
use Rattle.std.specs.declared.result.Result.TheVariants.{Ok}
use Rattle.cedar_data.specs.Firsts.{AllPass}
use Rattle.cedar_text.specs.Words.{has_word}
use Rattle.cedar_schema_error.specs.FullNames.{FullName}
use Rattle.cedar_unfold.specs.Resolved.{Resolved, no_attributes}
use Rattle.cedar_checks.specs.of_world.Schemas.{EntityKind, EnumeratedKind, Schema, SchemaEntity, StandardKind}
use Rattle.cedar_compat.specs.BreakChecks.{attributes_check, choice_check, descendant_check, each, found_check, kind_check, record_check, required_check, schema_check, tags_check, type_check, type_stays_check}
use Rattle.cedar_compat.specs.Changes.{choice_removed, descendant_removed}
use Rattle.cedar_compat.specs.Checks.{of_type}
use Rattle.cedar_compat.specs.Compatible.{Compatible, KindStays, TagsStay, TypeStays}
use Rattle.cedar_checks.specs.Lookups.{is_above, declared_type}
use Rattle.cedar_compat.proofs.CheckLaws.{both-pass, each-pass, pass-each, pass-test, pass-type, pass-under, test-pass, then-pass, type-pass, under-pass}
use Rattle.cedar_compat.proofs.WideningLaws.{pass-required, pass-widened, pass-widening, required-pass, widened-pass, widening-pass}

tags-pass : (old new : Option Resolved) → tags_check old new ≡ Ok tt → TagsStay old new
tags-pass None new is = tt
tags-pass (Some tags) None is = absurd (cc)
tags-pass (Some tags) (Some wider) is = widening-pass tags wider (under-pass (codes "tags") (type_check tags wider) is)

pass-tags : (old new : Option Resolved) → TagsStay old new → tags_check old new ≡ Ok tt
pass-tags None new stay = refl
pass-tags (Some tags) None stay = absurd stay
pass-tags (Some tags) (Some wider) stay = pass-under (codes "tags") (type_check tags wider) (pass-widening tags wider stay)

kind-pass : (old new : EntityKind) → kind_check old new ≡ Ok tt → KindStays old new
kind-pass (StandardKind fields is_open tags) (StandardKind wider tag new) is =
    let steps = both-pass (record_check fields wider) (λ _. tags_check tags new) is in
    let parts = both-pass (attributes_check fields wider) (λ _. required_check fields wider) steps.0 in
    (widened-pass fields wider parts.0, required-pass fields wider parts.1, tags-pass tags new steps.1)
kind-pass (StandardKind fields is_open tags) (EnumeratedKind choices) is = absurd (cc)
kind-pass (EnumeratedKind ids) (StandardKind wider tag new) is = required-pass no_attributes wider is
kind-pass (EnumeratedKind ids) (EnumeratedKind choices) is =
    each-pass (choice_check choices) ids (λ id passes. test-pass (has_word choices id) (choice_removed id) passes) is

pass-kind : (old new : EntityKind) → KindStays old new → kind_check old new ≡ Ok tt
pass-kind (StandardKind fields is_open tags) (StandardKind wider tag new) stays =
    then-pass (record_check fields wider) (λ _. tags_check tags new)
    (then-pass (attributes_check fields wider) (λ _. required_check fields wider) (pass-widened fields wider stays.0) (pass-required fields wider stays.1)) (pass-tags tags new stays.2)
pass-kind (StandardKind fields is_open tags) (EnumeratedKind choices) stays = absurd stays
pass-kind (EnumeratedKind ids) (StandardKind wider tag new) stays = pass-required no_attributes wider stays
pass-kind (EnumeratedKind ids) (EnumeratedKind choices) stays =
    pass-each (choice_check choices) ids (λ id holds. pass-test (has_word choices id) (choice_removed id) holds) stays

found-pass : (old : SchemaEntity) (o : Option SchemaEntity) → found_check old o ≡ Ok tt → (new : SchemaEntity) × (o ≡ Some new) × KindStays old.kind new.kind × AllPass (λ below. is_above new below ≡ true) old.descendants
found-pass old None is = absurd (cc)
found-pass old (Some new) is =
    let steps = both-pass (kind_check old.kind new.kind) (λ _. each (descendant_check new) old.descendants) is in
    (new, refl, kind-pass old.kind new.kind steps.0, each-pass (descendant_check new) old.descendants (λ below passes. test-pass (is_above new below) (descendant_removed below) passes) steps.1)

stays-pass : (R : Schema) (name : FullName) (old : SchemaEntity) → type_stays_check R name old ≡ Ok tt → TypeStays R name old
unfolding type_stays_check
stays-pass R name old is = found-pass old (declared_type R name) is

pass-stays : (R : Schema) (name : FullName) (old : SchemaEntity) → TypeStays R name old → type_stays_check R name old ≡ Ok tt
unfolding type_stays_check
pass-stays R name old stays =
    let new = stays.0 in
    ap (found_check old) stays.1
    ∙ then-pass (kind_check old.kind new.kind) (λ _. each (descendant_check new) old.descendants) (pass-kind old.kind new.kind stays.2)
    (pass-each (descendant_check new) old.descendants (λ below holds. pass-test (is_above new below) (descendant_removed below) holds) stays.3)

pub schema-pass : (S R : Schema) → schema_check S R ≡ Ok tt → Compatible S R
unfolding schema_check
schema-pass S R is =
    each-pass (λ e. of_type e.0 (type_stays_check R e.0 e.1)) S.entity_types (λ e passes. stays-pass R e.0 e.1 (type-pass e.0 (type_stays_check R e.0 e.1) passes)) is

pub pass-schema : (S R : Schema) → Compatible S R → schema_check S R ≡ Ok tt
unfolding schema_check
pass-schema S R stay =
    pass-each (λ e. of_type e.0 (type_stays_check R e.0 e.1)) S.entity_types (λ e stays. pass-type e.0 (type_stays_check R e.0 e.1) (pass-stays R e.0 e.1 stays)) stay
