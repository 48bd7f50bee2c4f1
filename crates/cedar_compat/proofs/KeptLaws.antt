-- SPDX-License-Identifier: Apache-2.0
-- Which names the breaks of parts keep: only one that takes a descendant away keeps one.
use Rattle.std.proofs.Common.{◌≡◌, ℕ, Bool, true, false, if◌then◌else◌, List, [], ◌∷◌, codes, Option, Some, None, subst}
use Rattle.std.specs.Prelude.{⊤}
use Rattle.std.specs.declared.result.Result.TheVariants.{Ok, Err}
use Rattle.cedar_checks.specs.of_world.Schemas.{EntityKind, EnumeratedKind, StandardKind}
use Rattle.cedar_data.specs.Answers.{and_then}
use Rattle.cedar_names.specs.Order.{words_eq}
use Rattle.cedar_resolved.specs.declared.entity_type.ValidatorEntityType.{ValidatorEntityType}
use Rattle.cedar_schema_error.specs.FullNames.{FullName}
use Rattle.cedar_text.specs.Words.{has_word}
use Rattle.cedar_unfold.specs.Resolved.{Resolved, ResolvedAttributes, Boolean, Long, String, Extension, Set, Record, Entity, no_attributes, attribute}
use Rattle.cedar_compat.specs.BreakChecks.{attribute_check, attributes_check, boolean_check, choice_check, each, entity_check, extension_check, in_record, in_set, kind_check, long_check, needed_check, record_check, required_check, string_check, tags_check, type_check}
use Rattle.cedar_compat.specs.Changes.{Change, break_of, change_of, choice_removed, descendant_removed, now_required, type_changed}
use Rattle.cedar_compat.specs.Checks.{Check, here, under}
use Rattle.cedar_compat.specs.KeptNames.{KeepsDescendant}
use Rattle.cedar_compat.specs.Widening.{attribute_named, needs}
use Rattle.cedar_compat.specs.declared.broken.Broken.{Broken}
use Rattle.cedar_compat.specs.declared.kind.CompatKind.{CompatKind}
use Rattle.cedar_compat.specs.declared.kind.CompatKind.TheVariants as kind

-- ---- changes that keep no name

abbrev KeepsNone : Change → Type 0
KeepsNone (descendant_removed ty) = ⊥
KeepsNone _ = ⊤

-- a check tells none but these
abbrev TellsNone : Check → Type 0
TellsNone (Ok u) = ⊤
TellsNone (Err b) = KeepsNone b.change

none-then : (part : Check) (more : Unit {0} → Check) → TellsNone part → TellsNone (more tt) → TellsNone (and_then part more)
none-then (Ok u) more first second = second
none-then (Err b) more first second = first

none-under : (k : List ℕ) (check : Check) → TellsNone check → TellsNone (under k check)
none-under k (Ok u) none = tt
none-under k (Err b) none = none

none-test : (b : Bool) (change : Change) → KeepsNone change → TellsNone (if b then Ok tt else here change)
none-test true change none = tt
none-test false change none = none

none-each : {A : Type 0} (check : A → Check) (xs : List A) → ((x : A) → TellsNone (check x)) → TellsNone (each check xs)
none-each check [] none = tt
none-each check (x ∷ xs) none = none-then (check x) (λ _. each check xs) (none x) (none-each check xs none)

-- ---- types

-- what holds of each outermost layer
by_layer : (P : Resolved → Type 0) → P Boolean → P Long → P String → ((name : FullName) → P (Extension name)) → ((element : Resolved) → P (Set element))
    → ((fields : ResolvedAttributes) (tag : Bool) → P (Record fields tag)) → ((name : FullName) → P (Entity name)) → (ty : Resolved) → P ty
by_layer P b l s x e r n Boolean = b
by_layer P b l s x e r n Long = l
by_layer P b l s x e r n String = s
by_layer P b l s x e r n (Extension name) = x name
by_layer P b l s x e r n (Set element) = e element
by_layer P b l s x e r n (Record fields tag) = r fields tag
by_layer P b l s x e r n (Entity name) = n name

none-boolean : (new : Resolved) → TellsNone (boolean_check new)
none-boolean = by_layer (λ new. TellsNone (boolean_check new)) tt tt tt (λ name. tt) (λ element. tt) (λ fields tag. tt) (λ name. tt)

none-long : (new : Resolved) → TellsNone (long_check new)
none-long = by_layer (λ new. TellsNone (long_check new)) tt tt tt (λ name. tt) (λ element. tt) (λ fields tag. tt) (λ name. tt)

none-string : (new : Resolved) → TellsNone (string_check new)
none-string = by_layer (λ new. TellsNone (string_check new)) tt tt tt (λ name. tt) (λ element. tt) (λ fields tag. tt) (λ name. tt)

none-extension : (name : FullName) (new : Resolved) → TellsNone (extension_check name new)
none-extension name = by_layer (λ new. TellsNone (extension_check name new)) tt tt tt (λ found. none-test (words_eq found name) type_changed tt) (λ element. tt) (λ fields tag. tt) (λ other. tt)

none-entity : (name : FullName) (new : Resolved) → TellsNone (entity_check name new)
none-entity name = by_layer (λ new. TellsNone (entity_check name new)) tt tt tt (λ other. tt) (λ element. tt) (λ fields tag. tt) (λ found. none-test (words_eq found name) type_changed tt)

none-set : (check : Resolved → Check) → ((wider : Resolved) → TellsNone (check wider)) → (new : Resolved) → TellsNone (in_set check new)
none-set check none = by_layer (λ new. TellsNone (in_set check new)) tt tt tt (λ name. tt) (λ wider. none-under (codes "[]") (check wider) (none wider)) (λ fields tag. tt) (λ name. tt)

none-record : (check : ResolvedAttributes → Check) → ((wider : ResolvedAttributes) → TellsNone (check wider)) → (new : Resolved) → TellsNone (in_record check new)
none-record check none = by_layer (λ new. TellsNone (in_record check new)) tt tt tt (λ name. tt) (λ element. tt) (λ fields tag. none fields) (λ name. tt)

none-needed : (old : ResolvedAttributes) (name : List ℕ) (required : Bool) → TellsNone (needed_check old name required)
none-needed old name true = none-test (needs old name) (now_required name) tt
none-needed old name false = tt

none-required : (old new : ResolvedAttributes) → TellsNone (required_check old new)
none-required old no_attributes = tt
none-required old (attribute name required ty others) =
    none-then (needed_check old name required) (λ _. required_check old others) (none-needed old name required) (none-required old others)

none-attribute : (name : List ℕ) (check : Resolved → Check) → ((new : Resolved) → TellsNone (check new)) → (found : Option (Bool × Resolved)) → TellsNone (attribute_check name check found)
none-attribute name check none None = tt
none-attribute name check none (Some found) = none-under name (check found.1) (none found.1)

mutual
  none-type : (old new : Resolved) → TellsNone (type_check old new)
  none-type Boolean new = none-boolean new
  none-type Long new = none-long new
  none-type String new = none-string new
  none-type (Extension name) new = none-extension name new
  none-type (Set element) new = none-set (type_check element) (none-type element) new
  none-type (Record fields is_open) new =
      none-record (record_check fields)
      (λ wider. none-then (attributes_check fields wider) (λ _. required_check fields wider) (none-attributes fields wider) (none-required fields wider)) new
  none-type (Entity name) new = none-entity name new

  none-attributes : (old new : ResolvedAttributes) → TellsNone (attributes_check old new)
  none-attributes no_attributes new = tt
  none-attributes (attribute name required ty others) new =
      none-then (attribute_check name (type_check ty) (attribute_named new name)) (λ _. attributes_check others new)
      (none-attribute name (type_check ty) (none-type ty) (attribute_named new name)) (none-attributes others new)

-- ---- kinds

none-tags : (old new : Option Resolved) → TellsNone (tags_check old new)
none-tags None new = tt
none-tags (Some tags) None = tt
none-tags (Some tags) (Some new) = none-under (codes "tags") (type_check tags new) (none-type tags new)

none-kind : (old new : EntityKind) → TellsNone (kind_check old new)
none-kind (StandardKind fields is_open tags) (StandardKind wider tag new) =
    none-then (record_check fields wider) (λ _. tags_check tags new)
    (none-then (attributes_check fields wider) (λ _. required_check fields wider) (none-attributes fields wider) (none-required fields wider)) (none-tags tags new)
none-kind (StandardKind fields is_open tags) (EnumeratedKind choices) = tt
none-kind (EnumeratedKind ids) (StandardKind wider tag new) = none-required no_attributes wider
none-kind (EnumeratedKind ids) (EnumeratedKind choices) =
    none-each (choice_check choices) ids (λ id. none-test (has_word choices id) (choice_removed id) tt)

-- what keeps no name
keeps-none : (old : ValidatorEntityType) (k : CompatKind) → KeepsNone (change_of k) → KeepsDescendant old k
keeps-none old kind.TypeRemoved none = tt
keeps-none old kind.BecameEnumerated none = tt
keeps-none old (kind.ChoiceRemoved id) none = tt
keeps-none old (kind.AttributeRemoved name) none = tt
keeps-none old (kind.NowRequired name) none = tt
keeps-none old kind.TypeChanged none = tt
keeps-none old kind.TagsRemoved none = tt
keeps-none old (kind.DescendantRemoved ty) none = absurd none

-- the break of a kind
pub kind-keeps : (old : ValidatorEntityType) (before after : EntityKind) (broken : Broken) → kind_check before after ≡ Err (break_of broken) → KeepsDescendant old broken.kind
kind-keeps old before after broken is = keeps-none old broken.kind (subst TellsNone is (none-kind before after))
