-- SPDX-License-Identifier: Apache-2.0
-- From what checks of definitions answer to what is said of the world.
use Rattle.std.proofs.Common.{◌≡◌, ◌++◌, List, [], ◌∷◌, map, Some, None, inl, inr, refl, sym, ap, ◌∙◌, subst}
use Rattle.std.specs.Map.{keys_of}
use Rattle.std.proofs.lemmas.Option.{none-some}
use Rattle.cedar_data.specs.Firsts.{AllPass, FirstAgain, FirstRefused, NoneAgain}
use Rattle.cedar_declared.specs.Held.{names_of}
use Rattle.cedar_declared.specs.Names.{Names}
use Rattle.cedar_declared.specs.declared.all_defs.AllDefs.{AllDefs}
use Rattle.cedar_sound.specs.of_duplicates.Duplicates.{Action, AreOnce, CommonType, Declared, EntityType, IsTwice, same_declared}
use Rattle.cedar_sound.specs.of_duplicates.Duplicates as code
use Rattle.cedar_qualified.specs.of_missing.Undeclared.{Parent, missing_in_definition, missing_in_each, refusal_by, refusal_of}
use Rattle.cedar_names.specs.Components.{components}
use Rattle.cedar_names.specs.Names.{entity_words}
use Rattle.cedar_names.specs.declared.extensions.Extensions.{Extensions}
use Rattle.cedar_names.specs.declared.internal_name.InternalName.{InternalName}
use Rattle.cedar_phases.specs.Holding.{Definition, Holds}
use Rattle.cedar_qualified.proofs.MissedDefinitions.{actions_missed, reserved_meant, types_missed}
use Rattle.cedar_schema_error.specs.FullNames.{uid_in}
use Rattle.cedar_schema_error.specs.NameReferences.{action_reference_of, reference_of}
use Rattle.cedar_schema_error.specs.Refusals.{Refusal}
use Rattle.cedar_schema_error.specs.Told.{told}
use Rattle.cedar_schema_error.specs.declared.schema_error.SchemaError.{SchemaError}
use Rattle.cedar_sound.specs.References.{ReferencesPass, ReferencesRefuse, reference_phases}
use Rattle.cedar_sound.specs.Sound.{Duplicates, Passes, References, RefusesAt, all_declared, declared_in}
use Rattle.cedar_qualified.specs.of_world.DefinitionViews.{action_of, kind_in, namespace_in, type_in}
use Rattle.cedar_qualified.specs.of_world.Definitions.{Namespace}
use Rattle.cedar_qualified.specs.of_world.Missing.{missing_actions, missing_types, reserved_targets}
use Rattle.cedar_qualified.specs.of_world.Worlds.{World, all_namespaces, names}
use Rattle.cedar_written.specs.declared.conditional_name.ConditionalName.{ConditionalName}

same_inside : {A : Type 0} (x y : A) → Some x ≡ Some y → x ≡ y
same_inside x y e = cc

-- ---- references

module _ (names : Names) (all : List Namespace) where
  -- where nothing is refused, nothing is missing
  none_by : (ts : List ConditionalName) (us : List Parent) (ns : List InternalName) → refusal_by ts us ns ≡ None
      → map reference_of ts ≡ missing_types names all → map action_reference_of us ≡ missing_actions names all → map components ns ≡ reserved_targets names all
      → AllPass (ReferencesPass names all) reference_phases
  none_by (t ∷ ts) us ns e p q r = absurd (none-some _ (sym e))
  none_by [] (u ∷ us) ns e p q r = absurd (none-some _ (sym e))
  none_by [] [] (n ∷ ns) e p q r = absurd (none-some _ (sym e))
  none_by [] [] [] e p q r = (sym p, (sym q, (sym r, tt)))

  -- what is refused is missing
  some_by : (e : SchemaError) (ts : List ConditionalName) (us : List Parent) (ns : List InternalName) → refusal_by ts us ns ≡ Some e
      → map reference_of ts ≡ missing_types names all → map action_reference_of us ≡ missing_actions names all → map components ns ≡ reserved_targets names all
      → FirstRefused (ReferencesPass names all) (ReferencesRefuse names all) reference_phases (told e)
  some_by e (t ∷ ts) us ns is p q r = inl (reference_of t, map reference_of ts, sym (ap told (same_inside _ e is)), sym p)
  some_by e [] (u ∷ us) ns is p q r = inr (sym p, inl (action_reference_of u, map action_reference_of us, sym (ap told (same_inside _ e is)), sym q))
  some_by e [] [] (n ∷ ns) is p q r = inr (sym p, inr (sym q, inl (components n, sym (ap told (same_inside _ e is)), (map components ns, sym r))))
  some_by e [] [] [] is p q r = absurd (none-some e is)

-- ---- duplicates

names_told : {K J V W : Type 0} (kind : J → Declared) (name : K → J) (f : V → W) (es : List (K × V)) → map kind (keys_of (map (λ e. (name e.0, f e.1)) es)) ≡ map (λ e. kind (name e.0)) es
names_told kind name f [] = refl
names_told kind name f (e ∷ es) = ap (λ l. kind (name e.0) ∷ l) (names_told kind name f es)

declared_told : (d : Definition) → declared_in (namespace_in d) ≡ code.declared_in d
declared_told d = λ i. names_told CommonType components type_in d.common_types.defs i ++ (names_told EntityType entity_words kind_in d.entity_types.defs i ++ names_told Action uid_in action_of d.actions.actions i)

all_told : (ds : List Definition) → all_declared (map namespace_in ds) ≡ code.all_declared ds
all_told [] = refl
all_told (d ∷ ds) = λ i. declared_told d i ++ all_told ds i

-- ---- of the world

module _ (W : World) (all_defs : AllDefs) (ds : List Definition) (X : Extensions) (h : Holds W all_defs ds X) where
  types_are : map reference_of (missing_in_each (missing_in_definition (names_of all_defs)) ds).types ≡ missing_types (names W) (all_namespaces W)
  types_are = types_missed (names_of all_defs) (names W) h.names_agree ds ∙ ap (missing_types (names W)) h.namespaces_are

  actions_are : map action_reference_of (missing_in_each (missing_in_definition (names_of all_defs)) ds).actions ≡ missing_actions (names W) (all_namespaces W)
  actions_are = actions_missed (names_of all_defs) (names W) h.names_agree ds ∙ ap (missing_actions (names W)) h.namespaces_are

  reserved_are : map components (missing_in_each (missing_in_definition (names_of all_defs)) ds).reserved ≡ reserved_targets (names W) (all_namespaces W)
  reserved_are = reserved_meant (names_of all_defs) (names W) h.names_agree ds ∙ ap (reserved_targets (names W)) h.namespaces_are

  pub references_pass : refusal_of (missing_in_each (missing_in_definition (names_of all_defs)) ds) ≡ None → Passes W References
  references_pass none =
      let m = missing_in_each (missing_in_definition (names_of all_defs)) ds in
      none_by (names W) (all_namespaces W) m.types m.actions m.reserved none types_are actions_are reserved_are

  pub references_refuse : (e : SchemaError) → refusal_of (missing_in_each (missing_in_definition (names_of all_defs)) ds) ≡ Some e → RefusesAt W References (told e)
  references_refuse e is =
      let m = missing_in_each (missing_in_definition (names_of all_defs)) ds in
      some_by (names W) (all_namespaces W) e m.types m.actions m.reserved is types_are actions_are reserved_are

  declared_are : code.all_declared ds ≡ all_declared (all_namespaces W)
  declared_are = sym (all_told ds) ∙ ap all_declared h.namespaces_are

  pub duplicates_pass : AreOnce ds → Passes W Duplicates
  duplicates_pass once = subst (λ l. NoneAgain same_declared [] l) declared_are once

  pub duplicates_refuse : (e : Refusal) → IsTwice ds e → RefusesAt W Duplicates e
  duplicates_refuse e twice = (twice.0, twice.1, subst (λ l. FirstAgain same_declared [] l twice.0) declared_are twice.2)
