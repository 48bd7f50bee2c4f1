-- SPDX-License-Identifier: Apache-2.0
-- What the declarations of a namespace give of each kind.
use Rattle.std.proofs.Common.{◌≡◌, ◌++◌, false, List, [], ◌∷◌, map, flat_map, refl, ap, ◌∙◌, append-nil, Some}
use Rattle.std.proofs.lemmas.List.Concat.{flat_map-append}
use Rattle.std.specs.Prelude.{⊤}
use Rattle.std.specs.List.{AllByRecursion}
use Rattle.std.specs.Map.{keys_of}
use Rattle.cedar_text.specs.Words.{is_cedar}
use Rattle.cedar_tree.specs.Trees.{Annotated, ByKey, Declaration, Entity, Node, Place, Text}
use Rattle.cedar_tree.specs.Unplaced.{annotations_unplaced, nowhere}
use Rattle.cedar_convert_faults.specs.Bindings.{action_names, common_names, entity_names, names_in}
use Rattle.cedar_convert_faults.specs.Repeats.{Names, words_of}
use Rattle.cedar_convert_fragment.specs.Declares.{action_content, actions, commons, each, entities, entity_content, free_names, given, type_of}
use Rattle.cedar_convert_fragment.specs.Fragments.{ActionContent, ByName, Declared, Definition, EntityContent, TypeAt, Shaped, Listed}
use Rattle.cedar_reread.specs.TreesRead.{action_entry_read, action_read, bare, common_entry_read, declarations_read, entity_entry_read, entity_read, type_read}
use Rattle.cedar_reread_declares.specs.Rereadable.{RereadableCommonEntry, RereadableEntityEntry}

abbrev pub Noted : Type 0
Noted = Annotated (Node Declaration)

-- ---- lists of what declarations give

module _ {B : Type 0} (f : Noted → List B) where
  -- of each kind apart
  apart : (d : Definition) → flat_map f (declarations_read d) ≡ flat_map f (map common_entry_read d.common_types) ++ (flat_map f (map entity_entry_read d.entity_types) ++ flat_map f (map action_entry_read d.actions))
  apart d =
      let cs = map common_entry_read d.common_types in
      let es = map entity_entry_read d.entity_types in
      let us = map action_entry_read d.actions in
      flat_map-append f cs (es ++ us) ∙ ap (λ (l : List B). flat_map f cs ++ l) (flat_map-append f es us)

  module _ {A : Type 0} (read : A → Noted) where
    nothing : ((e : A) → f (read e) ≡ []) → (es : List A) → flat_map f (map read es) ≡ []
    nothing none [] = refl
    nothing none (e ∷ es) = rw (none e) (nothing none es)

    one_each : (P : A → Type 0) (g : A → B) → ((e : A) → P e → f (read e) ≡ g e ∷ []) → (es : List A) → AllByRecursion P es → flat_map f (map read es) ≡ map g es
    one_each P g one [] all = refl
    one_each P g one (e ∷ es) all =
        let first = one e all.0 in
        let others = one_each P g one es all.1 in
        λ i. first i ++ others i

-- ---- what is declared by name

-- what is read of a content with its name, where f says what its declaration declares
abbrev pub entry_declared : {A : Type 0} → (Text → A → A) → Text × Declared A → Text × Declared A
entry_declared declare e = (e.0, record { content = declare e.0 e.1.content; annotations = annotations_unplaced e.1.annotations; loc = Some nowhere })

-- what the declaration of each kind declares
abbrev pub common_again : Text → TypeAt → TypeAt
common_again name t = type_of (type_read t) nowhere

abbrev pub entity_again : Text → EntityContent → EntityContent
entity_again name content = entity_content (entity_read name content)

abbrev pub action_again : Text → ActionContent → ActionContent
action_again id a = action_content (action_read id a)

abbrev of_kind : {A : Type 0} → (Declaration → ByKey → Place → ByName A) → Noted → ByName A
of_kind kind d = kind d.item.node d.annotations d.item.loc

free : (name : Text) → is_cedar name ≡ false → free_names (bare name ∷ []) ≡ name ∷ []
free name e = rw e refl

entity_name : (name : Text) (content : EntityContent) → entity_names (Entity (entity_read name content)) ≡ bare name ∷ []
entity_name name (Shaped parents shape tags) = refl
entity_name name (Listed ids) = refl

one_common : (e : Text × Declared TypeAt) → RereadableCommonEntry e → of_kind commons (common_entry_read e) ≡ entry_declared common_again e ∷ []
one_common e is = ap (λ (ns : List Text). each ns (common_again e.0 e.1.content) (annotations_unplaced e.1.annotations) nowhere) (free e.0 is.0)

one_entity : (e : Text × Declared EntityContent) → RereadableEntityEntry e → of_kind entities (entity_entry_read e) ≡ entry_declared entity_again e ∷ []
one_entity e is =
    ap (λ (ns : List Text). each ns (entity_again e.0 e.1.content) (annotations_unplaced e.1.annotations) nowhere) (ap free_names (entity_name e.0 e.1.content) ∙ free e.0 is.0)

pub given_commons : (d : Definition) → AllByRecursion RereadableCommonEntry d.common_types → given commons (declarations_read d) ≡ map (entry_declared common_again) d.common_types
given_commons d all =
    let f : Noted → ByName TypeAt = of_kind commons in
    let first = one_each f common_entry_read RereadableCommonEntry (entry_declared common_again) one_common d.common_types all in
    let second = nothing f entity_entry_read (λ e. refl) d.entity_types in
    let third = nothing f action_entry_read (λ e. refl) d.actions in
    apart f d ∙ (λ i. first i ++ (second i ++ third i)) ∙ append-nil (map (entry_declared common_again) d.common_types)

pub given_entities : (d : Definition) → AllByRecursion RereadableEntityEntry d.entity_types → given entities (declarations_read d) ≡ map (entry_declared entity_again) d.entity_types
given_entities d all =
    let f : Noted → ByName EntityContent = of_kind entities in
    let first = nothing f common_entry_read (λ e. refl) d.common_types in
    let second = one_each f entity_entry_read RereadableEntityEntry (entry_declared entity_again) one_entity d.entity_types all in
    let third = nothing f action_entry_read (λ e. refl) d.actions in
    apart f d ∙ (λ i. first i ++ (second i ++ third i)) ∙ append-nil (map (entry_declared entity_again) d.entity_types)

any : {A : Type 0} (es : List A) → AllByRecursion (λ e. ⊤) es
any [] = tt
any (e ∷ es) = (tt, any es)

pub given_actions : (d : Definition) → given actions (declarations_read d) ≡ map (entry_declared action_again) d.actions
given_actions d =
    let f : Noted → ByName ActionContent = of_kind actions in
    let first = nothing f common_entry_read (λ e. refl) d.common_types in
    let second = nothing f entity_entry_read (λ e. refl) d.entity_types in
    let third = one_each f action_entry_read (λ e. ⊤) (entry_declared action_again) (λ e is. refl) d.actions (any d.actions) in
    apart f d ∙ (λ i. first i ++ (second i ++ third i))

-- ---- names

abbrev pub named : {A : Type 0} → Text × Declared A → Node Text
named e = bare e.0

pub words_named : {A : Type 0} (es : ByName A) → words_of (map named es) ≡ keys_of es
words_named [] = refl
words_named (e ∷ es) = ap (λ (ks : List Text). e.0 ∷ ks) (words_named es)

pub common_names_are : (d : Definition) → names_in common_names (declarations_read d) ≡ map named d.common_types
common_names_are d =
    let f : Noted → Names = λ n. common_names n.item.node in
    let first = one_each f common_entry_read (λ e. ⊤) named (λ e is. refl) d.common_types (any d.common_types) in
    let second = nothing f entity_entry_read (λ e. refl) d.entity_types in
    let third = nothing f action_entry_read (λ e. refl) d.actions in
    apart f d ∙ (λ i. first i ++ (second i ++ third i)) ∙ append-nil (map named d.common_types)

pub entity_names_are : (d : Definition) → names_in entity_names (declarations_read d) ≡ map named d.entity_types
entity_names_are d =
    let f : Noted → Names = λ n. entity_names n.item.node in
    let first = nothing f common_entry_read (λ e. refl) d.common_types in
    let second = one_each f entity_entry_read (λ e. ⊤) named (λ e is. entity_name e.0 e.1.content) d.entity_types (any d.entity_types) in
    let third = nothing f action_entry_read (λ e. refl) d.actions in
    apart f d ∙ (λ i. first i ++ (second i ++ third i)) ∙ append-nil (map named d.entity_types)

pub action_names_are : (d : Definition) → names_in action_names (declarations_read d) ≡ map named d.actions
action_names_are d =
    let f : Noted → Names = λ n. action_names n.item.node in
    let first = nothing f common_entry_read (λ e. refl) d.common_types in
    let second = nothing f entity_entry_read (λ e. refl) d.entity_types in
    let third = one_each f action_entry_read (λ e. ⊤) named (λ e is. refl) d.actions (any d.actions) in
    apart f d ∙ (λ i. first i ++ (second i ++ third i))
