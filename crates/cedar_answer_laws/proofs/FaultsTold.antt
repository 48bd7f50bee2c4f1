-- SPDX-License-Identifier: Apache-2.0
-- What is said of a fault goes by what it tells, places aside.
use Rattle.std.proofs.Common.{◌≡◌, ℕ, List, ◌++◌, codes, decimal, refl, sym, ap, ◌∙◌}
use Rattle.cedar_text.specs.Escapes.{escaped}
use Rattle.cedar_text.specs.Joining.{joined}
use Rattle.cedar_names.specs.Names.{entity_words}
use Rattle.cedar_print.specs.Pieces.{quoted_text}
use Rattle.cedar_json_fault.specs.JsonTexts as json
use Rattle.cedar_schema_error.specs.FullNames.{FullName, Uid}
use Rattle.cedar_conform_fault.specs.FaultTexts as value
use Rattle.cedar_conform_fault.specs.FaultTexts.{path_text}
use Rattle.cedar_conform_fault.specs.Flaws.{Flaw, Misfit, flaw, misfit, wrong_kind, unknown_field, missing_field, invalid_name, out_of_range, unknown_type, wrong_type, no_choice, unknown_attribute, missing_attribute, tags_not_allowed, no_ancestor, enumerated_has_data, extension_value, repeated}
use Rattle.cedar_conform_fault.specs.declared.fault.Fault.{Fault}
use Rattle.cedar_conform_fault.specs.declared.kind.FaultKind.{FaultKind}
use Rattle.cedar_conform_fault.specs.declared.kind.FaultKind.TheVariants as kind
use Rattle.cedar_request.specs.FaultTexts.{request_fault_text}
use Rattle.cedar_request.specs.RequestFlaws as flaws
use Rattle.cedar_request.specs.RequestFlaws.{RequestFlaw, request_flaw}
use Rattle.cedar_request.specs.declared.fault.RequestFault.{RequestFault}
use Rattle.cedar_request.specs.declared.fault.RequestFault.TheVariants as fault
use Rattle.cedar_compat.specs.Changes.{Change, TypeBreak, change_of, type_break, type_removed, became_enumerated, choice_removed, attribute_removed, now_required, type_changed, tags_removed, descendant_removed}
use Rattle.cedar_compat.specs.FaultTexts as breaks
use Rattle.cedar_compat.specs.declared.fault.CompatFault.{CompatFault}
use Rattle.cedar_compat.specs.declared.kind.CompatKind.{CompatKind}
use Rattle.cedar_compat.specs.declared.kind.CompatKind.TheVariants as compat

-- ---- values

abbrev id_said : FullName → List ℕ → List ℕ
id_said ty id = joined ty ++ codes "::\"" ++ escaped id ++ codes "\""

abbrev flaw_said : Flaw → List ℕ
flaw_said (wrong_kind found wanted) = codes "expected " ++ json.kind_text wanted ++ codes ", found " ++ json.kind_text found
flaw_said (unknown_field field) = codes "unknown field `" ++ field ++ codes "`"
flaw_said (missing_field field) = codes "missing field `" ++ field ++ codes "`"
flaw_said (invalid_name text fault) = codes "invalid name `" ++ text ++ codes "`"
flaw_said out_of_range = codes "number is not a 64-bit integer"
flaw_said (unknown_type ty) = codes "unknown entity type `" ++ joined ty ++ codes "`"
flaw_said (wrong_type found wanted) = codes "expected entity type `" ++ joined wanted ++ codes "`, found `" ++ joined found ++ codes "`"
flaw_said (no_choice ty id) = quoted_text id ++ (codes " is not a choice of `" ++ joined ty ++ codes "`")
flaw_said (unknown_attribute name) = codes "unknown attribute `" ++ name ++ codes "`"
flaw_said (missing_attribute name) = codes "missing attribute `" ++ name ++ codes "`"
flaw_said tags_not_allowed = codes "tags are not allowed"
flaw_said (no_ancestor ty of) = codes "`" ++ joined ty ++ codes "`" ++ codes " is not an ancestor type of `" ++ joined of ++ codes "`"
flaw_said enumerated_has_data = codes "an enumerated entity has data"
flaw_said (extension_value name) = codes "extension values of `" ++ joined name ++ codes "` are not supported"
flaw_said (repeated ty id) = codes "entity " ++ id_said ty id ++ codes " is repeated"

flaw_same : (k : FaultKind) → value.kind_text k ≡ flaw_said (flaw k)
flaw_same (kind.WrongKind found wanted) = refl
flaw_same (kind.UnknownField field) = refl
flaw_same (kind.MissingField field) = refl
flaw_same (kind.InvalidName text fault) = refl
flaw_same kind.NumberOutOfRange = refl
flaw_same (kind.UnknownEntityType ty) = refl
flaw_same (kind.WrongEntityType found wanted) = refl
flaw_same (kind.NotAChoice ty id) = refl
flaw_same (kind.UnknownAttribute name) = refl
flaw_same (kind.MissingAttribute name) = refl
flaw_same kind.TagsNotAllowed = refl
flaw_same (kind.NotAnAncestor ty of) = refl
flaw_same kind.EnumeratedHasData = refl
flaw_same (kind.ExtensionValue name) = refl
flaw_same (kind.RepeatedEntity uid) = refl

abbrev misfit_said : Misfit → List ℕ
misfit_said m = codes "at " ++ path_text m.path ++ codes ": " ++ flaw_said m.flaw

misfit_same : (f : Fault) → value.fault_text f ≡ misfit_said (misfit f)
misfit_same f = ap (λ said. codes "at " ++ path_text f.path ++ codes ": " ++ said) (flaw_same f.kind)

pub misfits_alike : (f g : Fault) → misfit f ≡ misfit g → value.fault_text f ≡ value.fault_text g
misfits_alike f g same = misfit_same f ∙ ap misfit_said same ∙ sym (misfit_same g)

-- ---- requests

abbrev not_allowed_said : ℕ → FullName → List ℕ → Uid → List ℕ
not_allowed_said place ty word action = codes "at " ++ decimal place ++ codes ": `" ++ joined ty ++ codes "`" ++ (codes " is not a " ++ word ++ codes " type of " ++ id_said action.ty action.id)

abbrev request_said : RequestFlaw → List ℕ
request_said (flaws.value m) = misfit_said m
request_said (flaws.unknown_action place uid) = codes "at " ++ decimal place ++ (codes ": unknown action " ++ id_said uid.ty uid.id)
request_said (flaws.no_principal place action ty) = not_allowed_said place ty (codes "principal") action
request_said (flaws.no_resource place action ty) = not_allowed_said place ty (codes "resource") action

request_same : (f : RequestFault) → request_fault_text f ≡ request_said (request_flaw f)
request_same (fault.Value f) = misfit_same f
request_same (fault.UnknownAction place uid) = refl
request_same (fault.PrincipalNotAllowed place action ty) = refl
request_same (fault.ResourceNotAllowed place action ty) = refl

pub requests_alike : (f g : RequestFault) → request_flaw f ≡ request_flaw g → request_fault_text f ≡ request_fault_text g
requests_alike f g same = request_same f ∙ ap request_said same ∙ sym (request_same g)

-- ---- old and new

abbrev change_said : Change → List ℕ
change_said type_removed = codes "entity type removed"
change_said became_enumerated = codes "became enumerated"
change_said (choice_removed id) = breaks.choice_text id
change_said (attribute_removed name) = codes "attribute `" ++ name ++ codes "` removed"
change_said (now_required name) = codes "attribute `" ++ name ++ codes "` is now required"
change_said type_changed = codes "type changed"
change_said tags_removed = codes "tags removed"
change_said (descendant_removed ty) = codes "descendant `" ++ joined ty ++ codes "` removed"

change_same : (k : CompatKind) → breaks.kind_text k ≡ change_said (change_of k)
change_same compat.TypeRemoved = refl
change_same compat.BecameEnumerated = refl
change_same (compat.ChoiceRemoved id) = refl
change_same (compat.AttributeRemoved name) = refl
change_same (compat.NowRequired name) = refl
change_same compat.TypeChanged = refl
change_same compat.TagsRemoved = refl
change_same (compat.DescendantRemoved ty) = refl

abbrev break_said : TypeBreak → List ℕ
break_said b = joined b.ty ++ breaks.place_text b.path ++ codes ": " ++ change_said b.change

break_same : (f : CompatFault) → breaks.fault_text f ≡ break_said (type_break f)
break_same f = ap (λ said. joined (entity_words f.ty) ++ breaks.place_text f.path ++ codes ": " ++ said) (change_same f.kind)

pub breaks_alike : (f g : CompatFault) → type_break f ≡ type_break g → breaks.fault_text f ≡ breaks.fault_text g
breaks_alike f g same = break_same f ∙ ap break_said same ∙ sym (break_same g)
