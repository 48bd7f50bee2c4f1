-- SPDX-License-Identifier: Apache-2.0
-- A type passes the check of another exactly where that widens to it.
use Rattle.std.proofs.Common.{◌≡◌, ℕ, Bool, true, false, List, codes, Option, Some, None, refl, ap, ◌∙◌}
use Rattle.std.specs.declared.result.Result.TheVariants.{Ok}
use Rattle.cedar_names.proofs.NameOrder.{words_eq-decides}
use Rattle.cedar_names.specs.Order.{words_eq}
use Rattle.cedar_schema_error.specs.FullNames.{FullName}
use Rattle.cedar_unfold.specs.Resolved.{Resolved, ResolvedAttributes, Boolean, Long, String, Extension, Set, Record, Entity, no_attributes, attribute}
use Rattle.cedar_compat.specs.BreakChecks.{attribute_check, attributes_check, boolean_check, entity_check, extension_check, in_record, in_set, long_check, name_check, needed_check, record_check, required_check, string_check, type_check}
use Rattle.cedar_compat.specs.Changes.{now_required, type_changed}
use Rattle.cedar_compat.specs.Checks.{Check}
use Rattle.cedar_compat.specs.Widening.{HasWidened, NeedsNoMore, Widens, attribute_named, needs}
use Rattle.cedar_compat.proofs.CheckLaws.{both-pass, pass-test, pass-under, test-pass, then-pass, under-pass}

-- ---- the outermost layer

boolean-pass : (new : Resolved) → boolean_check new ≡ Ok tt → new ≡ Boolean
boolean-pass Boolean is = refl
boolean-pass Long is = absurd (cc)
boolean-pass String is = absurd (cc)
boolean-pass (Extension other) is = absurd (cc)
boolean-pass (Set element) is = absurd (cc)
boolean-pass (Record fields is_open) is = absurd (cc)
boolean-pass (Entity other) is = absurd (cc)

long-pass : (new : Resolved) → long_check new ≡ Ok tt → new ≡ Long
long-pass Boolean is = absurd (cc)
long-pass Long is = refl
long-pass String is = absurd (cc)
long-pass (Extension other) is = absurd (cc)
long-pass (Set element) is = absurd (cc)
long-pass (Record fields is_open) is = absurd (cc)
long-pass (Entity other) is = absurd (cc)

string-pass : (new : Resolved) → string_check new ≡ Ok tt → new ≡ String
string-pass Boolean is = absurd (cc)
string-pass Long is = absurd (cc)
string-pass String is = refl
string-pass (Extension other) is = absurd (cc)
string-pass (Set element) is = absurd (cc)
string-pass (Record fields is_open) is = absurd (cc)
string-pass (Entity other) is = absurd (cc)

same-name : (name found : FullName) → name_check name found ≡ Ok tt → found ≡ name
same-name name found is = (words_eq-decides found name).0 (test-pass (words_eq found name) type_changed is)

name-same : (name : FullName) → name_check name name ≡ Ok tt
name-same name = pass-test (words_eq name name) type_changed ((words_eq-decides name name).1 refl)

extension-pass : (name : FullName) (new : Resolved) → extension_check name new ≡ Ok tt → new ≡ Extension name
extension-pass name Boolean is = absurd (cc)
extension-pass name Long is = absurd (cc)
extension-pass name String is = absurd (cc)
extension-pass name (Extension found) is = ap Extension (same-name name found is)
extension-pass name (Set element) is = absurd (cc)
extension-pass name (Record fields is_open) is = absurd (cc)
extension-pass name (Entity other) is = absurd (cc)

entity-pass : (name : FullName) (new : Resolved) → entity_check name new ≡ Ok tt → new ≡ Entity name
entity-pass name Boolean is = absurd (cc)
entity-pass name Long is = absurd (cc)
entity-pass name String is = absurd (cc)
entity-pass name (Extension other) is = absurd (cc)
entity-pass name (Set element) is = absurd (cc)
entity-pass name (Record fields is_open) is = absurd (cc)
entity-pass name (Entity found) is = ap Entity (same-name name found is)

set-pass : (check : Resolved → Check) (new : Resolved) → in_set check new ≡ Ok tt → (wider : Resolved) × (new ≡ Set wider) × (check wider ≡ Ok tt)
set-pass check Boolean is = absurd (cc)
set-pass check Long is = absurd (cc)
set-pass check String is = absurd (cc)
set-pass check (Extension other) is = absurd (cc)
set-pass check (Set element) is = (element, refl, under-pass (codes "[]") (check element) is)
set-pass check (Record fields is_open) is = absurd (cc)
set-pass check (Entity other) is = absurd (cc)

record-pass : (check : ResolvedAttributes → Check) (new : Resolved) → in_record check new ≡ Ok tt → (wider : ResolvedAttributes) × ((tag : Bool) × (new ≡ Record wider tag)) × (check wider ≡ Ok tt)
record-pass check Boolean is = absurd (cc)
record-pass check Long is = absurd (cc)
record-pass check String is = absurd (cc)
record-pass check (Extension other) is = absurd (cc)
record-pass check (Set element) is = absurd (cc)
record-pass check (Record fields is_open) is = (fields, (is_open, refl), is)
record-pass check (Entity other) is = absurd (cc)

-- ---- what is required

need-pass : (old : ResolvedAttributes) (name : List ℕ) (required : Bool) → needed_check old name required ≡ Ok tt → required ≡ true → needs old name ≡ true
need-pass old name true is same = test-pass (needs old name) (now_required name) is
need-pass old name false is same = absurd (cc)

pass-need : (old : ResolvedAttributes) (name : List ℕ) (required : Bool) → (required ≡ true → needs old name ≡ true) → needed_check old name required ≡ Ok tt
pass-need old name true holds = pass-test (needs old name) (now_required name) (holds refl)
pass-need old name false holds = refl

pub required-pass : (old new : ResolvedAttributes) → required_check old new ≡ Ok tt → NeedsNoMore old new
required-pass old no_attributes is = tt
required-pass old (attribute name required ty others) is =
    let steps = both-pass (needed_check old name required) (λ _. required_check old others) is in
    (need-pass old name required steps.0, required-pass old others steps.1)

pub pass-required : (old new : ResolvedAttributes) → NeedsNoMore old new → required_check old new ≡ Ok tt
pass-required old no_attributes needs = refl
pass-required old (attribute name required ty others) needs =
    then-pass (needed_check old name required) (λ _. required_check old others) (pass-need old name required needs.0) (pass-required old others needs.1)

-- ---- types

there-pass : (name : List ℕ) (check : Resolved → Check) (o : Option (Bool × Resolved)) → attribute_check name check o ≡ Ok tt → (found : Bool × Resolved) × (o ≡ Some found) × (check found.1 ≡ Ok tt)
there-pass name check None is = absurd (cc)
there-pass name check (Some found) is = (found, refl, under-pass name (check found.1) is)

mutual
  pub widening-pass : (old new : Resolved) → type_check old new ≡ Ok tt → Widens old new
  widening-pass Boolean new is = boolean-pass new is
  widening-pass Long new is = long-pass new is
  widening-pass String new is = string-pass new is
  widening-pass (Extension name) new is = extension-pass name new is
  widening-pass (Set element) new is =
      let read = set-pass (type_check element) new is in
      (read.0, read.1, widening-pass element read.0 read.2)
  widening-pass (Record fields is_open) new is =
      let read = record-pass (record_check fields) new is in
      let steps = both-pass (attributes_check fields read.0) (λ _. required_check fields read.0) read.2 in
      (read.0, read.1, (widened-pass fields read.0 steps.0, required-pass fields read.0 steps.1))
  widening-pass (Entity name) new is = entity-pass name new is

  pub widened-pass : (fields new : ResolvedAttributes) → attributes_check fields new ≡ Ok tt → HasWidened fields new
  widened-pass no_attributes new is = tt
  widened-pass (attribute name required ty others) new is =
      let steps = both-pass (attribute_check name (type_check ty) (attribute_named new name)) (λ _. attributes_check others new) is in
      let there = there-pass name (type_check ty) (attribute_named new name) steps.0 in
      ((there.0, there.1, widening-pass ty there.0.1 there.2), widened-pass others new steps.1)

mutual
  pub pass-widening : (old new : Resolved) → Widens old new → type_check old new ≡ Ok tt
  pass-widening Boolean new widens = ap boolean_check widens
  pass-widening Long new widens = ap long_check widens
  pass-widening String new widens = ap string_check widens
  pass-widening (Extension name) new widens = ap (extension_check name) widens ∙ name-same name
  pass-widening (Set element) new widens =
      ap (in_set (type_check element)) widens.1 ∙ pass-under (codes "[]") (type_check element widens.0) (pass-widening element widens.0 widens.2)
  pass-widening (Record fields is_open) new widens =
      ap (in_record (record_check fields)) widens.1.1
      ∙ then-pass (attributes_check fields widens.0) (λ _. required_check fields widens.0) (pass-widened fields widens.0 widens.2.0) (pass-required fields widens.0 widens.2.1)
  pass-widening (Entity name) new widens = ap (entity_check name) widens ∙ name-same name

  pub pass-widened : (fields new : ResolvedAttributes) → HasWidened fields new → attributes_check fields new ≡ Ok tt
  pass-widened no_attributes new has = refl
  pass-widened (attribute name required ty others) new has =
      then-pass (attribute_check name (type_check ty) (attribute_named new name)) (λ _. attributes_check others new)
      (ap (attribute_check name (type_check ty)) has.0.1 ∙ pass-under name (type_check ty has.0.0.1) (pass-widening ty has.0.0.1 has.0.2)) (pass-widened others new has.1)
