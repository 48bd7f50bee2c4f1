-- SPDX-License-Identifier: Apache-2.0
-- A printable fragment whose parts are sound, and whose names are free of `__cedar`, is read back as a whole.
use Rattle.std.proofs.Common.{◌≡◌, false, List, [], ◌∷◌, Option, Some, None, IfSome}
use Rattle.std.specs.List.{AllByRecursion}
use Rattle.cedar_data.specs.Maps.{IsSortedMap}
use Rattle.cedar_text.specs.Words.{is_cedar}
use Rattle.cedar_tree.specs.Trees.{Text}
use Rattle.cedar_written.specs.CommonTypeIds.{is_reserved_basename}
use Rattle.cedar_convert_faults.specs.Gathering.{namespace_cmp}
use Rattle.cedar_convert_fragment.specs.Fragments.{ActionContent, AppliesTo, ByName, Declared, Definition, EntityContent, Fragment, NameAt, TypeAt, Shaped, Listed}
use Rattle.cedar_reread.specs.EachType.{EachOfAction, EachOfDefinition, EachOfEntity, Nests, NestsAtMost}
use Rattle.cedar_reread_declares.specs.Rereadable.{RereadableAction, RereadableActionEntry, RereadableApplies, RereadableClauses, RereadableCommonEntry, RereadableEntity, RereadableEntityEntry, RereadableName, RereadableNamespace, RereadableShape, Rereadable}
use Rattle.cedar_reread_print.specs.Fits.{ActionFits, DefinitionFits, EntityFits, NamedFits, NamespaceFits, ShapeFits, Fits}
use Rattle.cedar_in_order.specs.InOrder.{DefinitionInOrder, InOrder, TypeInOrder}
use Rattle.cedar_reread_laws.specs.Printable.{SaysAction, SaysApplies, SaysLists}
use Rattle.cedar_reread_laws.proofs.Conditions.{shape_fits, shape_rereadable, type_fits, type_rereadable}
use Rattle.cedar_reread_laws.proofs.SoundParts.{ActionIsSound, DefinitionIsSound, EntityIsSound, ShapeIsSound, TypeIsSound}
use Rattle.cedar_reread_laws.proofs.WorldReread.{HasShapes, IsReread}

-- the names that a namespace declares, and its own, are free of `__cedar`
abbrev pub AreFree : {A : Type 0} → ByName A → Type 0
AreFree entries = AllByRecursion (λ e. is_cedar e.0 ≡ false) entries

abbrev pub NamespaceIsFree : Option (List Text) × Definition → Type 0
NamespaceIsFree n = RereadableName n.0 × AreFree n.1.common_types × AreFree n.1.entity_types

abbrev pub HasNoAttributes : ActionContent → Type 0
HasNoAttributes a = a.attributes ≡ None

-- ---- contents

entity_rereadable : (c : EntityContent) → EachOfEntity TypeInOrder c → EntityIsSound c → RereadableEntity c
entity_rereadable (Shaped parents shape None) ordered sound = (shape_rereadable shape ordered.0 sound.0, tt)
entity_rereadable (Shaped parents shape (Some ty)) ordered sound = (shape_rereadable shape ordered.0 sound.0, type_rereadable ty ordered.1 sound.1.0)
entity_rereadable (Listed ids) ordered sound = tt

clauses_rereadable : (ps rs : List NameAt) (context : TypeAt) → SaysLists ps rs context → TypeInOrder context → ShapeIsSound context → RereadableClauses ps rs context
clauses_rereadable [] [] context says ordered sound = says
clauses_rereadable [] (r ∷ rs) context says ordered sound = absurd says
clauses_rereadable (p ∷ ps) [] context says ordered sound = absurd says
clauses_rereadable (p ∷ ps) (r ∷ rs) context says ordered sound = shape_rereadable context ordered sound

action_rereadable : (a : ActionContent) → HasNoAttributes a → SaysAction a → EachOfAction TypeInOrder a → ActionIsSound a → RereadableAction a
action_rereadable a none says ordered sound = (none, by a.applies_to says ordered sound)
  where
    by : (o : Option AppliesTo) → IfSome o SaysApplies → IfSome o (λ applies. TypeInOrder applies.context) → IfSome o (λ applies. ShapeIsSound applies.context) → IfSome o RereadableApplies
    by None says ordered sound = tt
    by (Some a) says ordered sound = clauses_rereadable a.principals a.resources a.context says ordered sound

entity_fits : (c : EntityContent) → EachOfEntity TypeInOrder c → EntityIsSound c → EntityFits 128 c
entity_fits (Shaped parents shape None) ordered sound = (shape_fits shape ordered.0 sound.0, tt)
entity_fits (Shaped parents shape (Some ty)) ordered sound = (shape_fits shape ordered.0 sound.0, type_fits ty ordered.1 sound.1)
entity_fits (Listed ids) ordered sound = tt

action_fits : (a : ActionContent) → EachOfAction TypeInOrder a → ActionIsSound a → ActionFits 128 a
action_fits a ordered sound = by a.applies_to ordered sound
  where
    by : (o : Option AppliesTo) → IfSome o (λ applies. TypeInOrder applies.context) → IfSome o (λ applies. ShapeIsSound applies.context) → IfSome o (λ applies. ShapeFits 128 applies.context)
    by None ordered sound = tt
    by (Some a) ordered sound = shape_fits a.context ordered sound

entity_nests : (c : EntityContent) → EntityIsSound c → EachOfEntity (Nests 128) c
entity_nests (Shaped parents shape None) sound = (sound.0.1.1, tt)
entity_nests (Shaped parents shape (Some ty)) sound = (sound.0.1.1, sound.1.1)
entity_nests (Listed ids) sound = tt

action_nests : (a : ActionContent) → ActionIsSound a → EachOfAction (Nests 128) a
action_nests a sound = by a.applies_to sound
  where
    by : (o : Option AppliesTo) → IfSome o (λ applies. ShapeIsSound applies.context) → IfSome o (λ applies. Nests 128 applies.context)
    by None sound = tt
    by (Some a) sound = sound.1.1

-- ---- each of several

module _ {X : Type 0} where
  all_two : (P Q R : X → Type 0) (xs : List X) → ((x : X) → P x → Q x → R x) → AllByRecursion P xs → AllByRecursion Q xs → AllByRecursion R xs
  all_two P Q R [] f p q = tt
  all_two P Q R (x ∷ xs) f p q = (f x p.0 q.0, all_two P Q R xs f p.1 q.1)

  pub all_one : (P R : X → Type 0) (xs : List X) → ((x : X) → P x → R x) → AllByRecursion P xs → AllByRecursion R xs
  all_one P R [] f p = tt
  all_one P R (x ∷ xs) f p = (f x p.0, all_one P R xs f p.1)

  pub all_both : (P Q : X → Type 0) (xs : List X) → AllByRecursion P xs → AllByRecursion Q xs → AllByRecursion (λ x. P x × Q x) xs
  all_both P Q [] p q = tt
  all_both P Q (x ∷ xs) p q = ((p.0, q.0), all_both P Q xs p.1 q.1)

-- ---- namespaces

-- what is known of a namespace
pub record IsKnown (n : Option (List Text) × Definition) : Type 0 where
  pub free : NamespaceIsFree n
  pub ordered : DefinitionInOrder n.1
  pub types : EachOfDefinition TypeInOrder n.1
  pub reserved : AllByRecursion (λ e. is_reserved_basename e.0 ≡ false) n.1.common_types
  pub says : AllByRecursion (λ e. SaysAction e.1.content) n.1.actions
  pub bare : AllByRecursion (λ e. HasNoAttributes e.1.content) n.1.actions
  pub sound : DefinitionIsSound n.1

commons_known : (es : ByName TypeAt) → AreFree es → AllByRecursion {X = Text × Declared TypeAt} (λ e. is_reserved_basename e.0 ≡ false) es → AllByRecursion {X = Text × Declared TypeAt} (λ e. TypeInOrder e.1.content) es
    → AllByRecursion {X = Text × Declared TypeAt} (λ e. TypeIsSound e.1.content) es → AllByRecursion RereadableCommonEntry es
commons_known [] free reserved ordered sound = tt
commons_known (e ∷ es) free reserved ordered sound = ((free.0, reserved.0, type_rereadable e.1.content ordered.0 sound.0.0), commons_known es free.1 reserved.1 ordered.1 sound.1)

entities_known : (es : ByName EntityContent) → AreFree es → AllByRecursion {X = Text × Declared EntityContent} (λ e. EachOfEntity TypeInOrder e.1.content) es
    → AllByRecursion {X = Text × Declared EntityContent} (λ e. EntityIsSound e.1.content) es → AllByRecursion RereadableEntityEntry es
entities_known [] free ordered sound = tt
entities_known (e ∷ es) free ordered sound = ((free.0, entity_rereadable e.1.content ordered.0 sound.0), entities_known es free.1 ordered.1 sound.1)

actions_known : (es : ByName ActionContent) → AllByRecursion {X = Text × Declared ActionContent} (λ e. HasNoAttributes e.1.content) es → AllByRecursion {X = Text × Declared ActionContent} (λ e. SaysAction e.1.content) es
    → AllByRecursion {X = Text × Declared ActionContent} (λ e. EachOfAction TypeInOrder e.1.content) es → AllByRecursion {X = Text × Declared ActionContent} (λ e. ActionIsSound e.1.content) es → AllByRecursion RereadableActionEntry es
actions_known [] none says ordered sound = tt
actions_known (e ∷ es) none says ordered sound = (action_rereadable e.1.content none.0 says.0 ordered.0 sound.0, actions_known es none.1 says.1 ordered.1 sound.1)

namespace_rereadable : (n : Option (List Text) × Definition) → IsKnown n → RereadableNamespace n
namespace_rereadable n k = (
  k.free.0,
  (
    (k.ordered.0.0, commons_known n.1.common_types k.free.1 k.reserved k.types.0 k.sound.0),
    (k.ordered.1.0, entities_known n.1.entity_types k.free.2 k.types.1 k.sound.1),
    (k.ordered.2.0, actions_known n.1.actions k.bare k.says k.types.2 k.sound.2),
  ),
)

-- the annotations and the types of declarations of one kind
entries_fit : {A : Type 0} (P Q R : A → Type 0) (es : ByName A) → ((a : A) → P a → Q a → R a) → AllByRecursion {X = Text × Declared A} (λ e. InOrder e.1.annotations) es
    → AllByRecursion {X = Text × Declared A} (λ e. P e.1.content) es → AllByRecursion {X = Text × Declared A} (λ e. Q e.1.content) es
    → AllByRecursion {X = Text × Declared A} (λ e. InOrder e.1.annotations × R e.1.content) es
entries_fit P Q R [] f ordered p q = tt
entries_fit P Q R (e ∷ es) f ordered p q = ((ordered.0, f e.1.content p.0 q.0), entries_fit P Q R es f ordered.1 p.1 q.1)

definition_fits : (d : Definition) → DefinitionInOrder d → EachOfDefinition TypeInOrder d → DefinitionIsSound d → DefinitionFits 128 d
definition_fits d ordered types sound = (
  entries_fit TypeInOrder TypeIsSound _ d.common_types type_fits ordered.0.1 types.0 sound.0,
  entries_fit (EachOfEntity TypeInOrder) EntityIsSound _ d.entity_types entity_fits ordered.1.1 types.1 sound.1,
  entries_fit (EachOfAction TypeInOrder) ActionIsSound _ d.actions action_fits ordered.2.1 types.2 sound.2,
)

named_fits : (name : Option (List Text)) (d : Definition) → DefinitionInOrder d → NamedFits 128 name d
named_fits None d ordered = tt
named_fits (Some words) d ordered = ordered.3

namespace_fits : (n : Option (List Text) × Definition) → IsKnown n → NamespaceFits 128 n
namespace_fits n k = (named_fits n.0 n.1 k.ordered, definition_fits n.1 k.ordered k.types k.sound)

definition_nests : (d : Definition) → DefinitionIsSound d → EachOfDefinition (Nests 128) d
definition_nests d sound = (
  all_one (λ e. TypeIsSound e.1.content) (λ e. Nests 128 e.1.content) d.common_types (λ e is. is.1) sound.0,
  all_one (λ e. EntityIsSound e.1.content) (λ e. EachOfEntity (Nests 128) e.1.content) d.entity_types (λ e is. entity_nests e.1.content is) sound.1,
  all_one (λ e. ActionIsSound e.1.content) (λ e. EachOfAction (Nests 128) e.1.content) d.actions (λ e is. action_nests e.1.content is) sound.2,
)

-- shapes and contexts alone
context_shape : (o : Option AppliesTo) → IfSome o (λ applies. TypeInOrder applies.context) → IfSome o (λ applies. ShapeIsSound applies.context) → IfSome o (λ applies. RereadableShape applies.context)
context_shape None ordered sound = tt
context_shape (Some a) ordered sound = shape_rereadable a.context ordered sound

definition_shapes : (d : Definition) → EachOfDefinition TypeInOrder d → DefinitionIsSound d → HasShapes d
definition_shapes d types sound = (
  all_two (λ e. EachOfEntity TypeInOrder e.1.content) (λ e. EntityIsSound e.1.content) (λ e. RereadableEntity e.1.content) d.entity_types (λ e. entity_rereadable e.1.content) types.1 sound.1,
  all_two (λ e. EachOfAction TypeInOrder e.1.content) (λ e. ActionIsSound e.1.content) (λ e. IfSome e.1.content.applies_to (λ applies. RereadableShape applies.context)) d.actions (λ e. context_shape e.1.content.applies_to) types.2 sound.2,
)

-- ---- the whole

module _ (F : Fragment) (known : AllByRecursion IsKnown F) where
  pub is_rereadable : IsSortedMap namespace_cmp F → Rereadable F
  is_rereadable ordered = record { in_order = ordered; namespaces = all_one IsKnown RereadableNamespace F namespace_rereadable known }

  pub fits : Fits 128 F
  fits = all_one IsKnown (NamespaceFits 128) F namespace_fits known

  pub nests : NestsAtMost 128 F
  nests = all_one IsKnown (λ n. EachOfDefinition (Nests 128) n.1) F (λ n k. definition_nests n.1 k.sound) known

  pub is_reread : AllByRecursion IsReread F
  is_reread = all_one IsKnown IsReread F (λ n k. (k.free.0, definition_shapes n.1 k.types k.sound)) known
