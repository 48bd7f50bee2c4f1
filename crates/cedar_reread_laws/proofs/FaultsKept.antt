-- SPDX-License-Identifier: Apache-2.0
-- A fragment that is read again has the faults that it had, and so has one without its places.
use Rattle.std.proofs.Common.{◌≡◌, ◌++◌, Bool, List, [], ◌∷◌, map, codes, if◌then◌else◌, true, false, Option, Some, None, is_some, refl, sym, ap, ap₂, ◌∙◌, append-nil}
use Rattle.std.proofs.lemmas.List.Concat.{flat_map-append}
use Rattle.std.specs.List.{AllByRecursion, filter, flat_map}
use Rattle.std.specs.Map.{keys_of}
use Rattle.std.specs.Str.{bytes_eq}
use Rattle.cedar_types.specs.declared.value.ValueMap.{ValueMap}
use Rattle.cedar_schema_error.specs.FullNames.{FullName}
use Rattle.cedar_schema_error.specs.Refusals.{Refusal, ActionEntityTypeDeclared}
use Rattle.cedar_schema_error.specs.declared.action_behavior.ActionBehavior.{ActionBehavior}
use Rattle.cedar_schema_error.specs.declared.action_behavior.ActionBehavior.TheVariants.{PermitAttributes, ProhibitAttributes}
use Rattle.cedar_namespace_definitions.specs.Faults.{all_refused, attribute_faults, prohibited}
use Rattle.cedar_tree.specs.Trees.{ByKey, Text}
use Rattle.cedar_tree.specs.Unplaced.{annotations_unplaced}
use Rattle.cedar_convert_fragment.specs.Fragments.{ActionContent, ByName, Declared, Definition, EntityContent, Fragment, TypeAt}
use Rattle.cedar_fragment_world.specs.FragmentWorlds.{action_type, action_uid}
use Rattle.cedar_fragment_world.specs.FragmentFaults.{action_faults, action_types, declaration_faults, definition_faults, each_fault, entity_faults, fragment_faults, reserved_in, with_attributes}
use Rattle.cedar_reread.specs.Placeless.{action_placeless, definition_placeless, entity_placeless, placeless}
use Rattle.cedar_reread.specs.Rereading.{action_reread, definition_reread, entity_reread, namespace_reread, reread, under_reread}
use Rattle.cedar_reread_laws.proofs.Wholes.{HasNoAttributes}

-- contents that are changed, under the same names
abbrev Changed : {A : Type 0} → (Declared A → Declared A) → ByName A → ByName A
Changed f es = map (λ e. (e.0, f e.1)) es

module _ (f : Declared EntityContent → Declared EntityContent) (g : Declared ActionContent → Declared ActionContent) (same : (a : Declared ActionContent) → (g a).content.attributes ≡ a.content.attributes) where
  types_kept : (es : ByName EntityContent) → action_types (Changed f es) ≡ action_types es
  types_kept [] = refl
  types_kept (e ∷ es) = by (bytes_eq e.0 (codes "Action")) (types_kept es)
    where
      by : (t : Bool) → action_types (Changed f es) ≡ action_types es
          → map {A = Text × Declared EntityContent} (λ e. ActionEntityTypeDeclared) (if t then (e.0, f e.1) ∷ filter (λ e. bytes_eq e.0 (codes "Action")) (Changed f es) else filter (λ e. bytes_eq e.0 (codes "Action")) (Changed f es))
          ≡ map {A = Text × Declared EntityContent} (λ e. ActionEntityTypeDeclared) (if t then e ∷ filter (λ e. bytes_eq e.0 (codes "Action")) es else filter (λ e. bytes_eq e.0 (codes "Action")) es)
      by true rest = ap (λ l. ActionEntityTypeDeclared ∷ l) rest
      by false rest = rest

  attributes_kept : (es : ByName ActionContent) → with_attributes (Changed g es) ≡ with_attributes es
  attributes_kept [] = refl
  attributes_kept (e ∷ es) = by (is_some (g e.1).content.attributes) (is_some e.1.content.attributes) (ap is_some (same e.1)) (attributes_kept es)
    where
      by : (t u : Bool) → t ≡ u → with_attributes (Changed g es) ≡ with_attributes es
          → keys_of (if t then (e.0, g e.1) ∷ filter (λ a. is_some a.1.content.attributes) (Changed g es) else filter (λ a. is_some a.1.content.attributes) (Changed g es))
          ≡ keys_of (if u then e ∷ filter (λ a. is_some a.1.content.attributes) es else filter (λ a. is_some a.1.content.attributes) es)
      by true true is rest = ap (λ l. e.0 ∷ l) rest
      by false false is rest = rest
      by true false is rest = cc
      by false true is rest = cc

  actions_kept : (ns : Option FullName) (es : ByName ActionContent) → flat_map (action_faults ns) (Changed g es) ≡ flat_map (action_faults ns) es
  actions_kept ns [] = refl
  actions_kept ns (e ∷ es) = ap₂ (λ (a b : List Refusal). a ++ b) (ap (λ o. reserved_in ns (action_type ns) ++ attribute_faults (action_uid ns e.0) o) (same e.1)) (actions_kept ns es)

  entities_kept : (ns : Option FullName) (es : ByName EntityContent) → flat_map (entity_faults ns) (Changed f es) ≡ flat_map (entity_faults ns) es
  entities_kept ns [] = refl
  entities_kept ns (e ∷ es) = ap (λ l. entity_faults ns e ++ l) (entities_kept ns es)

  definition_kept : (behavior : ActionBehavior) (ns : Option FullName) (commons : ByName TypeAt) (annotations : ByKey) (d : Definition)
      → definition_faults behavior (ns, record { common_types = commons; entity_types = Changed f d.entity_types; actions = Changed g d.actions; annotations = annotations }) ≡ definition_faults behavior (ns, d)
  definition_kept behavior ns commons annotations d =
      λ i. (types_kept d.entity_types i ++ prohibited behavior (attributes_kept d.actions i)) ++ (actions_kept ns d.actions i ++ entities_kept ns d.entity_types i)

reread_kept : (behavior : ActionBehavior) (ns : Option FullName) (d : Definition) (annotations : ByKey) → definition_faults behavior (ns, definition_reread d annotations) ≡ definition_faults behavior (ns, d)
reread_kept behavior ns d annotations =
    definition_kept (λ e. record { content = entity_reread e.content; annotations = e.annotations; loc = e.loc }) (λ a. record { content = action_reread a.content; annotations = a.annotations; loc = a.loc }) (λ a. refl) behavior ns (definition_reread d annotations).common_types annotations d

unnamed_kept : (behavior : ActionBehavior) (commons : ByName TypeAt) (entities : ByName EntityContent) (actions : ByName ActionContent) (annotations : ByKey)
    → fragment_faults behavior (under_reread None (record { common_types = commons; entity_types = entities; actions = actions; annotations = annotations }))
    ≡ definition_faults behavior (None, record { common_types = commons; entity_types = entities; actions = actions; annotations = annotations })
unnamed_kept behavior [] [] [] annotations = by behavior
  where
    by : (behavior : ActionBehavior) → [] ≡ definition_faults behavior (None, record { common_types = []; entity_types = []; actions = []; annotations = annotations })
    by PermitAttributes = refl
    by ProhibitAttributes = refl
unnamed_kept behavior (c ∷ commons) entities actions annotations = append-nil _ ∙ reread_kept behavior None (record { common_types = c ∷ commons; entity_types = entities; actions = actions; annotations = annotations }) []
unnamed_kept behavior [] (e ∷ entities) actions annotations = append-nil _ ∙ reread_kept behavior None (record { common_types = []; entity_types = e ∷ entities; actions = actions; annotations = annotations }) []
unnamed_kept behavior [] [] (a ∷ actions) annotations = append-nil _ ∙ reread_kept behavior None (record { common_types = []; entity_types = []; actions = a ∷ actions; annotations = annotations }) []

namespace_kept : (behavior : ActionBehavior) (n : Option (List Text) × Definition) → fragment_faults behavior (namespace_reread n) ≡ definition_faults behavior n
namespace_kept behavior (None, d) = unnamed_kept behavior d.common_types d.entity_types d.actions d.annotations
namespace_kept behavior (Some words, d) = append-nil _ ∙ reread_kept behavior (Some words) d d.annotations

pub faults_reread : (behavior : ActionBehavior) (F : Fragment) → fragment_faults behavior (reread F) ≡ fragment_faults behavior F
faults_reread behavior [] = refl
faults_reread behavior (n ∷ F) = flat_map-append (definition_faults behavior) (namespace_reread n) (reread F) ∙ ap₂ (λ (a b : List Refusal). a ++ b) (namespace_kept behavior n) (faults_reread behavior F)

placeless_kept : (behavior : ActionBehavior) (n : Option (List Text) × Definition) → definition_faults behavior (n.0, definition_placeless n.1) ≡ definition_faults behavior n
placeless_kept behavior n =
    definition_kept (λ e. record { content = entity_placeless e.content; annotations = annotations_unplaced e.annotations; loc = None }) (λ a. record { content = action_placeless a.content; annotations = annotations_unplaced a.annotations; loc = None }) (λ a. refl) behavior n.0 (definition_placeless n.1).common_types (definition_placeless n.1).annotations n.1

faults_placeless : (behavior : ActionBehavior) (F : Fragment) → fragment_faults behavior (placeless F) ≡ fragment_faults behavior F
faults_placeless behavior [] = refl
faults_placeless behavior (n ∷ F) = ap₂ (λ (a b : List Refusal). a ++ b) (placeless_kept behavior n) (faults_placeless behavior F)

-- fragments that are the same without places have the same faults
pub same_faults : (behavior : ActionBehavior) (F G : Fragment) → placeless F ≡ placeless G → fragment_faults behavior F ≡ fragment_faults behavior G
same_faults behavior F G same = sym (faults_placeless behavior F) ∙ ap (fragment_faults behavior) same ∙ faults_placeless behavior G

-- ---- no attributes

no_first : {A : Type 0} (xs ys : List A) → xs ++ ys ≡ [] → xs ≡ []
no_first [] ys e = refl
no_first (x ∷ xs) ys e = cc

no_second : {A : Type 0} (xs ys : List A) → xs ++ ys ≡ [] → ys ≡ []
no_second [] ys e = e
no_second (x ∷ xs) ys e = cc

not_refused : (ids : List Text) → all_refused ids ≡ [] → ids ≡ []
not_refused [] e = refl
not_refused (id ∷ ids) e = cc

none_have : (es : ByName ActionContent) → with_attributes es ≡ [] → AllByRecursion {X = Text × Declared ActionContent} (λ e. HasNoAttributes e.1.content) es
none_have [] e = tt
none_have (a ∷ es) e = by a.1.content.attributes refl e (none_have es)
  where
    by : (o : Option ValueMap) → a.1.content.attributes ≡ o → keys_of (if is_some o then a ∷ filter (λ a. is_some a.1.content.attributes) es else filter (λ a. is_some a.1.content.attributes) es) ≡ []
        → (with_attributes es ≡ [] → AllByRecursion {X = Text × Declared ActionContent} (λ e. HasNoAttributes e.1.content) es)
        → AllByRecursion {X = Text × Declared ActionContent} (λ e. HasNoAttributes e.1.content) (a ∷ es)
    by None is e rest = (is, rest e)
    by (Some v) is e rest = cc

-- where attributes are prohibited, a fragment without faults has none
pub no_attributes : (F : Fragment) → fragment_faults ProhibitAttributes F ≡ [] → AllByRecursion (λ n. AllByRecursion (λ e. HasNoAttributes e.1.content) n.1.actions) F
no_attributes [] e = tt
no_attributes (n ∷ F) e =
    let here = no_first (definition_faults ProhibitAttributes n) (fragment_faults ProhibitAttributes F) e in
    let declarations = no_first (declaration_faults ProhibitAttributes n.1) (each_fault n.0 n.1) here in
    let refused = no_second (action_types n.1.entity_types) (prohibited ProhibitAttributes (with_attributes n.1.actions)) declarations in
    (none_have n.1.actions (not_refused (with_attributes n.1.actions) refused), no_attributes F (no_second (definition_faults ProhibitAttributes n) (fragment_faults ProhibitAttributes F) e))
