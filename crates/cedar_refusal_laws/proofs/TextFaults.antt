-- SPDX-License-Identifier: Apache-2.0
-- Neither a definition of a text nor a type of its world is refused for what only JSON or code comes to.
use Rattle.std.proofs.Common.{◌≡◌, ◌++◌, ◌||◌, Bool, true, false, List, [], ◌∷◌, Option, Some, None, if◌then◌else◌, refl, sym, ap, subst}
use Rattle.std.specs.Cmp.Lexicographic.{bytes_decides}
use Rattle.std.specs.List.{filter}
use Rattle.std.specs.Map.{keys_of}
use Rattle.std.specs.Option.{is_some}
use Rattle.std.specs.Str.{bytes_eq}
use Rattle.cedar_data.specs.Firsts.{AllPass}
use Rattle.cedar_names.specs.Components.{has_cedar}
use Rattle.cedar_names.specs.of_text.Words.{has_word, primitive_words}
use Rattle.cedar_tree.specs.Trees.{Text}
use Rattle.cedar_fragment_world.specs.of_convert_fragment.Fragments.{Definition, Fragment}
use Rattle.cedar_fragment_world.specs.FragmentFaults.{definition_faults, is_reserved, reserved_in, with_attributes}
use Rattle.cedar_fragment_world.specs.FragmentWorlds.{action_uid, namespace_of, world_of_fragment}
use Rattle.cedar_fragment_world.specs.of_namespace_definitions.Faults.{attribute_faults, prohibited}
use Rattle.cedar_sound.proofs.NothingMissed.{pass_map, pass_weaker}
use Rattle.cedar_schema_error.specs.FullNames.{FullName}
use Rattle.cedar_schema_error.specs.NameReferences.{NameReference}
use Rattle.cedar_schema_error.specs.Refusals.{Refusal, ReservedName}
use Rattle.cedar_schema_error.specs.declared.action_behavior.ActionBehavior.TheVariants.{ProhibitAttributes}
use Rattle.cedar_world.specs.of_declared.Names.{Names}
use Rattle.cedar_world.specs.of_unfold.Faults.{common_fault, either_fault, entity_fault, extension_fault, faults, of_target, open_fault, reserved_fault}
use Rattle.cedar_world.specs.of_unfold.Meanings.{is_common}
use Rattle.cedar_world.specs.of_unfold.Written.{Written}
use Rattle.cedar_world.specs.Worlds.{World, alias, aliases, builtins, common_types, extension_type, is_free, meanings, own, uses}
use Rattle.cedar_refusal_laws.specs.NotOfTexts.{never_of_texts}
use Rattle.cedar_refusal_laws.specs.Parts.{Any}
use Rattle.cedar_refusal_laws.proofs.Causes.{Fails}
use Rattle.cedar_refusal_laws.proofs.DefinitionFaults.{definition_fails}
use Rattle.cedar_refusal_laws.proofs.EachFault.{each_fault}
use Rattle.cedar_refusal_laws.proofs.Members.{none_kept, pass_each_item}
use Rattle.cedar_refusal_laws.proofs.TextTypes.{ActionIsWritten, IsClosed, IsKnown, IsWrittenOut, namespace_known}
use Rattle.cedar_refusal_laws.proofs.TypesKept.{NamespaceHas, commons_have, uses_have}

-- a refusal to which a text may come
abbrev OfTexts : Refusal → Type 0
OfTexts = Fails never_of_texts

-- ---- definitions

module _ (extensions : List Text) (n : Option FullName × Definition) (is : IsWrittenOut extensions n.1) where
  reserved_of_texts : (name : FullName) → AllPass OfTexts (reserved_in n.0 name)
  reserved_of_texts name = by (is_reserved n.0)
    where
      by : (b : Bool) → AllPass OfTexts (if b then ReservedName name ∷ [] else [])
      by true = (refl, tt)
      by false = tt

  none_has_attributes : with_attributes n.1.actions ≡ []
  none_has_attributes = ap keys_of (none_kept (λ a. is_some a.1.content.attributes) n.1.actions
      (pass_weaker (λ a. ActionIsWritten extensions a.1.content) (λ a. is_some a.1.content.attributes ≡ false) (λ a w. ap is_some w.bare) n.1.actions is.of_actions))

  pub definition_of_texts : AllPass OfTexts (definition_faults ProhibitAttributes n)
  definition_of_texts = definition_fails never_of_texts ProhibitAttributes n (record {
    of_types = refl;
    of_names = reserved_of_texts;
    of_actions = subst (λ ids. AllPass OfTexts (prohibited ProhibitAttributes ids)) (sym none_has_attributes) tt;
    of_attributes = pass_weaker (λ a. ActionIsWritten extensions a.1.content) (λ a. AllPass OfTexts (attribute_faults (action_uid n.0 a.0) a.1.content.attributes))
        (λ a w. subst (λ values. AllPass OfTexts (attribute_faults (action_uid n.0 a.0) values)) (sym w.bare) tt) n.1.actions is.of_actions;
  })

-- ---- faults of types

open_of_texts : (is_open : Bool) → IsClosed is_open → AllPass OfTexts (open_fault is_open)
open_of_texts true closed = let clash : true ≡ false = closed in absurd (cc)
open_of_texts false closed = tt

reserved_fails : (b : Bool) (name : FullName) → AllPass OfTexts (reserved_fault b name)
reserved_fails true name = (refl, tt)
reserved_fails false name = tt

either_fails : (b : Bool) (name : FullName) → AllPass OfTexts (either_fault b name)
either_fails true name = tt
either_fails false name = reserved_fails (has_cedar name) name

common_fails : (b : Bool) (name : FullName) → AllPass OfTexts (common_fault b name)
common_fails true name = tt
common_fails false name = (refl, tt)

target_fails : (f : FullName → List Refusal) → ((name : FullName) → AllPass OfTexts (f name)) → (o : Option FullName) → AllPass OfTexts (of_target f o)
target_fails f each None = tt
target_fails f each (Some name) = each name

module _ (W : World) where
  type_of_texts : (t : Written NameReference) → IsKnown W.extensions t → AllPass OfTexts (faults (meanings W) t)
  type_of_texts = each_fault IsClosed (λ e. has_word W.extensions e ≡ true) (λ k. Any) (meanings W) OfTexts (record {
    of_record = open_of_texts;
    of_extension = λ e known. subst (λ b. AllPass OfTexts (extension_fault b e)) (sym known) tt;
    of_entity = λ r any. target_fails entity_fault (λ name. reserved_fails (has_cedar name) name) ((meanings W).target r);
    of_either = λ r any. target_fails (λ name. either_fault (is_common (meanings W) name) name) (λ name. either_fails (is_common (meanings W) name) name) ((meanings W).target r);
    of_common = λ r any. target_fails (λ name. common_fault (is_common (meanings W) name) name) (λ name. common_fails (is_common (meanings W) name) name) ((meanings W).target r);
  })

-- ---- builtin types

known_behind : (x : Text) (words some : List Text) → AllPass (λ w. has_word words w ≡ true) some → AllPass (λ w. has_word (x ∷ words) w ≡ true) some
known_behind x words [] all = tt
known_behind x words (w ∷ some) all = (by (bytes_eq w x) all.0, known_behind x words some all.1)
  where
    by : (b : Bool) → has_word words w ≡ true → (b || has_word words w) ≡ true
    by true is = refl
    by false is = is

-- each word of a list stands in it
each_stands : (words : List Text) → AllPass (λ w. has_word words w ≡ true) words
each_stands [] = tt
each_stands (w ∷ words) = (ap (λ b. b || has_word words w) ((bytes_decides w w).1 refl), known_behind w words words (each_stands words))

builtins_known : (extensions : List Text) → AllPass (λ c. IsKnown extensions c.1) (builtins extensions)
builtins_known extensions = (tt, (tt, (tt, pass_map (λ c. IsKnown extensions c.1) extension_type extensions (each_stands extensions))))

aliases_known : (declared : Names) (extensions : List Text) → AllPass (λ c. IsKnown extensions c.1) (aliases declared extensions)
aliases_known declared extensions = pass_map (λ c. IsKnown extensions c.1) alias (filter (is_free declared) (primitive_words ++ extensions))
    (pass_each_item (λ word. IsKnown extensions (alias word).1) (λ word. tt) (filter (is_free declared) (primitive_words ++ extensions)))

-- ---- the world of a fragment

module _ (F : Fragment) (extensions : List Text) (is : AllPass (λ n. IsWrittenOut extensions n.1) F) where
  abbrev W : World
  W = world_of_fragment F extensions

  each_known : AllPass (NamespaceHas (IsKnown extensions)) W.namespaces
  each_known = pass_map (NamespaceHas (IsKnown extensions)) namespace_of F (pass_weaker (λ n. IsWrittenOut extensions n.1) (λ n. NamespaceHas (IsKnown extensions) (namespace_of n)) (namespace_known extensions) F is)

  pub commons_of_texts : AllPass (λ c. AllPass OfTexts (faults (meanings W) c.1)) (common_types W)
  commons_of_texts = pass_weaker (λ c. IsKnown extensions c.1) (λ c. AllPass OfTexts (faults (meanings W) c.1)) (λ c. type_of_texts W c.1) (common_types W)
      (commons_have (IsKnown extensions) W each_known (builtins_known extensions) (aliases_known (own W) extensions))

  pub uses_of_texts : AllPass (λ u. AllPass OfTexts (faults (meanings W) u.1)) (uses W)
  uses_of_texts = pass_weaker (λ u. IsKnown extensions u.1) (λ u. AllPass OfTexts (faults (meanings W) u.1)) (λ u. type_of_texts W u.1) (uses W)
      (uses_have (IsKnown extensions) W each_known (builtins_known extensions) (aliases_known (own W) extensions))
