-- SPDX-License-Identifier: Apache-2.0
-- A sound fragment whose maps ascend may be written, where JSON has the words to say it.
use Rattle.std.proofs.Common.{◌≡◌, ℕ, List, [], ◌∷◌, Option, Some, None, false}
use Rattle.std.specs.Prelude.{IfSome}
use Rattle.std.specs.List.{AllByRecursion}
use Rattle.cedar_tree.specs.Trees.{Text}
use Rattle.cedar_written.specs.CommonTypeIds.{is_reserved_basename}
use Rattle.cedar_written.specs.declared.raw_name.RawName.{RawName}
use Rattle.cedar_fragment.specs.ActionUids.{over_raw}
use Rattle.cedar_fragment.specs.declared.definitions.Fragment as held
use Rattle.cedar_convert_fragment.specs.Fragments.{ActionContent, AppliesTo, ByName, Declared, Definition, EntityContent, Fragment, Listed, Shaped, TypeAt}
use Rattle.cedar_convert_fragment.specs.Views.{fragment_seen}
use Rattle.cedar_in_order.specs.InOrder.{DefinitionInOrder, FragmentInOrder, InOrder, TypeInOrder}
use Rattle.cedar_reread.specs.EachType.{EachOfAction, EachOfDefinition, EachOfEntity, EachType}
use Rattle.cedar_reread_laws.proofs.FaultsKept.{no_attributes}
use Rattle.cedar_reread_laws.proofs.SoundParts.{ActionIsSound, DefinitionIsSound, EntityIsSound, PartsAreSound, ShapeIsSound, TypeIsSound, parts_sound}
use Rattle.cedar_schema_error.specs.declared.action_behavior.ActionBehavior.TheVariants.{ProhibitAttributes}
use Rattle.cedar_schema_json.specs.Fragments.{SoundFragment}
use Rattle.cedar_json_written_laws.specs.Writable.{WritableFragment}
use Rattle.cedar_json_schema_laws.specs.Bare.{IsBare}
use Rattle.cedar_json_schema_laws.specs.TypeWords.{IsNoWord, OfAction, OfDefinition, OfEntity}
use Rattle.cedar_json_schema_laws.proofs.DeclaredTypes.{ShapeFits}
use Rattle.cedar_json_schema_laws.proofs.SeenFragments.{ActionFits, AnyKey, CommonFits, DefinitionFits, EntityFits, EntryIs, FreeKey, NamespaceFits}
use Rattle.cedar_json_schema_laws.proofs.SeenTypes.{Fits}
use Rattle.cedar_json_schema_laws.proofs.WritableFragments.{fragment_writable}
use Rattle.cedar_json_held_laws.specs.Readable.{IsReadable, NamesNoType}
use Rattle.cedar_json_held_laws.proofs.HeldTypes.{is_no_word, shape_fits, type_fits}

-- ---- contents

tags_fit : (tags : Option TypeAt) → IfSome tags TypeInOrder → IfSome tags NamesNoType → IfSome tags TypeIsSound → IfSome tags (Fits 129)
tags_fit None sorted other sound = tt
tags_fit (Some t) sorted other sound = type_fits t sorted other sound.1

entity_fits : (c : EntityContent) → EachOfEntity TypeInOrder c → EachOfEntity NamesNoType c → EntityIsSound c → EntityFits c
entity_fits (Shaped parents shape tags) sorted other sound = (shape_fits shape sorted.0 other.0 sound.0.1.1, tags_fit tags sorted.1 other.1 sound.1)
entity_fits (Listed ids) sorted other sound = tt

applies_fit : (a : Option AppliesTo) → IfSome a (λ applies. TypeInOrder applies.context) → IfSome a (λ applies. NamesNoType applies.context) → IfSome a (λ applies. ShapeIsSound applies.context) → IfSome a (λ applies. ShapeFits applies.context)
applies_fit None sorted other sound = tt
applies_fit (Some a) sorted other sound = shape_fits a.context sorted other sound.1.1

entity_other : (c : EntityContent) → EachOfEntity NamesNoType c → OfEntity IsNoWord c
entity_other (Shaped parents shape tags) other = is_no_word shape other.0
entity_other (Listed ids) other = tt

action_other : (a : Option AppliesTo) → IfSome a (λ applies. NamesNoType applies.context) → IfSome a (λ applies. IsNoWord applies.context)
action_other None other = tt
action_other (Some a) other = is_no_word a.context other

-- ---- declarations by name

commons_fit : (es : ByName TypeAt) → AllByRecursion (λ e. TypeInOrder e.1.content) es → AllByRecursion (λ e. NamesNoType e.1.content) es → AllByRecursion (λ e. TypeIsSound e.1.content) es
    → AllByRecursion (λ e. is_reserved_basename e.0 ≡ false) es → AllByRecursion (λ e. InOrder e.1.annotations) es → AllByRecursion (EntryIs FreeKey CommonFits) es
commons_fit [] sorted other sound free annotated = tt
commons_fit (e ∷ es) sorted other sound free annotated =
    ((free.0, type_fits e.1.content sorted.0 other.0 sound.0.1, annotated.0), commons_fit es sorted.1 other.1 sound.1 free.1 annotated.1)

entities_fit : (es : ByName EntityContent) → AllByRecursion (λ e. EachOfEntity TypeInOrder e.1.content) es → AllByRecursion (λ e. EachOfEntity NamesNoType e.1.content) es → AllByRecursion (λ e. EntityIsSound e.1.content) es
    → AllByRecursion (λ e. InOrder e.1.annotations) es → AllByRecursion (EntryIs AnyKey EntityFits) es
entities_fit [] sorted other sound annotated = tt
entities_fit (e ∷ es) sorted other sound annotated = ((tt, entity_fits e.1.content sorted.0 other.0 sound.0, annotated.0), entities_fit es sorted.1 other.1 sound.1 annotated.1)

actions_fit : (es : ByName ActionContent) → AllByRecursion (λ e. e.1.content.attributes ≡ None) es → AllByRecursion (λ e. EachOfAction TypeInOrder e.1.content) es → AllByRecursion (λ e. EachOfAction NamesNoType e.1.content) es
    → AllByRecursion (λ e. ActionIsSound e.1.content) es → AllByRecursion (λ e. InOrder e.1.annotations) es → AllByRecursion (EntryIs AnyKey ActionFits) es
actions_fit [] none sorted other sound annotated = tt
actions_fit (e ∷ es) none sorted other sound annotated =
    ((tt, (none.0, applies_fit e.1.content.applies_to sorted.0 other.0 sound.0), annotated.0), actions_fit es none.1 sorted.1 other.1 sound.1 annotated.1)

entities_other : (es : ByName EntityContent) → AllByRecursion (λ e. EachOfEntity NamesNoType e.1.content) es → AllByRecursion {X = Text × Declared EntityContent} (λ e. OfEntity IsNoWord e.1.content) es
entities_other [] other = tt
entities_other (e ∷ es) other = (entity_other e.1.content other.0, entities_other es other.1)

actions_other : (es : ByName ActionContent) → AllByRecursion (λ e. EachOfAction NamesNoType e.1.content) es → AllByRecursion {X = Text × Declared ActionContent} (λ e. OfAction IsNoWord e.1.content) es
actions_other [] other = tt
actions_other (e ∷ es) other = (action_other e.1.content.applies_to other.0, actions_other es other.1)

-- ---- namespaces

definition_fits : (d : Definition) → DefinitionInOrder d → EachOfDefinition TypeInOrder d → EachOfDefinition NamesNoType d → DefinitionIsSound d
    → AllByRecursion (λ e. is_reserved_basename e.0 ≡ false) d.common_types → AllByRecursion (λ e. e.1.content.attributes ≡ None) d.actions → DefinitionFits d
definition_fits d ordered sorted other sound free none = (
  (ordered.0.0, commons_fit d.common_types sorted.0 other.0 sound.0 free ordered.0.1),
  (ordered.1.0, entities_fit d.entity_types sorted.1 other.1 sound.1 ordered.1.1),
  (ordered.2.0, actions_fit d.actions none sorted.2 other.2 sound.2 ordered.2.1),
  ordered.3,
)

each_fits : (F : Fragment) → AllByRecursion (λ n. DefinitionInOrder n.1) F → EachType TypeInOrder F → EachType NamesNoType F → PartsAreSound F
    → AllByRecursion (λ n. AllByRecursion (λ e. is_reserved_basename e.0 ≡ false) n.1.common_types) F → AllByRecursion (λ n. AllByRecursion (λ e. e.1.content.attributes ≡ None) n.1.actions) F
    → AllByRecursion (λ n. IsBare n.0 n.1.annotations) F → AllByRecursion NamespaceFits F
each_fits [] ordered sorted other sound free none bare = tt
each_fits (n ∷ F) ordered sorted other sound free none bare =
    ((bare.0, definition_fits n.1 ordered.0 sorted.0 other.0 sound.0 free.0 none.0), each_fits F ordered.1 sorted.1 other.1 sound.1 free.1 none.1 bare.1)

each_other : (F : Fragment) → EachType NamesNoType F → AllByRecursion {X = Option (List Text) × Definition} (λ n. OfDefinition IsNoWord n.1) F
each_other [] other = tt
each_other (n ∷ F) other =
    let here = other.0 in
    ((entities_other n.1.entity_types here.1, actions_other n.1.actions here.2), each_other F other.1)

-- a fragment that is held
pub held_writable : (F : held.Fragment RawName over_raw) → FragmentInOrder (fragment_seen F) → (extensions : List (List ℕ)) → IsReadable (fragment_seen F) → SoundFragment ProhibitAttributes extensions (fragment_seen F) → WritableFragment F
held_writable F ordered extensions readable sound =
    let seen = fragment_seen F in
    fragment_writable F
    (ordered.namespaces, each_fits seen ordered.definitions ordered.types readable.no_words (parts_sound seen extensions sound.sound) readable.no_reserved (no_attributes seen sound.faultless) readable.bare)
    (each_other seen readable.no_words)
