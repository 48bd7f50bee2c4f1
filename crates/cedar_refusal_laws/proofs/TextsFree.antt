-- SPDX-License-Identifier: Apache-2.0
-- The fragment that a text declares has no `__cedar` in the names of its namespaces and entity types, so no cause of the text is one of wrong kinds.
use Rattle.std.proofs.Common.{◌≡◌, ℕ, Bool, true, false, cond, List, [], ◌∷◌, Option, Some, None, refl, sym, ◌∙◌, subst}
use Rattle.cedar_data.specs.Firsts.{AllPass}
use Rattle.cedar_names.specs.Order.{word_cmp}
use Rattle.cedar_names.specs.of_text.Words.{is_cedar}
use Rattle.cedar_tree.specs.Trees.{Action, ByKey, Common, Declaration, Entity, Enum, Node, Path, Place, Standard, Text}
use Rattle.cedar_fragment_world.specs.of_convert_faults.Gathering.{Declarations, Gathered, namespace_cmp, namespace_name, namespaces_of}
use Rattle.cedar_fragment_world.specs.of_convert_fragment.Declares.{declared_by, declared_in, definition_of, each, entities, entity_content, fragment_of, free_name, free_names, given, is_reserved_name}
use Rattle.cedar_fragment_world.specs.of_convert_fragment.Fragments.{Declared, Definition, EntityContent}
use Rattle.cedar_fragment_world.specs.FragmentFaults.{is_reserved}
use Rattle.cedar_schema.specs.Texts.{TextCause}
use Rattle.cedar_schema_error.specs.Told.{told}
use Rattle.cedar_schema_error.specs.declared.action_behavior.ActionBehavior.TheVariants.{ProhibitAttributes}
use Rattle.cedar_schema_error.specs.declared.schema_error.SchemaError.{SchemaError}
use Rattle.cedar_schema.specs.of_schema_errors.declared.schema_error.CedarSchemaError.TheVariants.{Schema}
use Rattle.cedar_sound.proofs.NothingMissed.{pass_flat, pass_map, pass_map_of, pass_weaker}
use Rattle.cedar_refusal_laws.specs.NeverComing.{never_comes}
use Rattle.cedar_refusal_laws.proofs.FragmentKinds.{IsFreeNamespace, fragment_other}
use Rattle.cedar_refusal_laws.proofs.Members.{pass_both, pass_each_item, pass_keys}

-- ---- entity types

-- entity types of which none is named `__cedar`
abbrev AreFreeTypes : List (Text × Declared EntityContent) → Type 0
AreFreeTypes es = AllPass (λ e. is_cedar e.0 ≡ false) es

name_free : (n : Node Text) → AllPass (λ w. is_cedar w ≡ false) (free_name n)
name_free n = by (is_cedar n.node) refl
  where
    by : (b : Bool) → is_cedar n.node ≡ b → AllPass (λ w. is_cedar w ≡ false) (cond b [] (n.node ∷ []))
    by true is = tt
    by false is = (is, tt)

each_free : (names : List (Node Text)) (content : EntityContent) (annotations : ByKey) (loc : Place) → AreFreeTypes (each (free_names names) content annotations loc)
each_free names content annotations loc =
    pass_map (λ e. is_cedar e.0 ≡ false) (λ n. (n, record { content = content; annotations = annotations; loc = Some loc })) (free_names names)
    (pass_flat (λ w. is_cedar w ≡ false) free_name names (pass_each_item (λ n. AllPass (λ w. is_cedar w ≡ false) (free_name n)) name_free names))

entities_free : (d : Declaration) (annotations : ByKey) (loc : Place) → AreFreeTypes (entities d annotations loc)
entities_free (Entity (Standard e)) annotations loc = each_free e.names (entity_content (Standard e)) annotations loc
entities_free (Entity (Enum e)) annotations loc = each_free e.names (entity_content (Enum e)) annotations loc
entities_free (Action a) annotations loc = tt
entities_free (Common t) annotations loc = tt

types_free : (annotations : ByKey) (decls : Declarations) → AreFreeTypes (definition_of annotations decls).entity_types
types_free annotations decls = pass_keys word_cmp (λ w. is_cedar w ≡ false) (given entities decls)
    (pass_flat (λ e. is_cedar e.0 ≡ false) (λ d. entities d.item.node d.annotations d.item.loc) decls
    (pass_each_item (λ d. AreFreeTypes (entities d.item.node d.annotations d.item.loc)) (λ d. entities_free d.item.node d.annotations d.item.loc) decls))

-- ---- namespaces

same_reserved : (name : Option Path) (annotations : ByKey) (decls : Declarations) → is_reserved (namespace_name (record { name = name; annotations = annotations; decls = decls })) ≡ is_reserved_name name
same_reserved None annotations decls = refl
same_reserved (Some path) annotations decls = refl

declared_free : (g : Gathered) → AllPass IsFreeNamespace (declared_in g)
declared_free g = by (is_reserved_name g.name) refl
  where
    by : (b : Bool) → is_reserved_name g.name ≡ b → AllPass IsFreeNamespace (cond b [] ((namespace_name g, definition_of g.annotations g.decls) ∷ []))
    by true is = tt
    by false is = (record { name = same_reserved g.name g.annotations g.decls ∙ is; entity_types = types_free g.annotations g.decls }, tt)

pub gathered_free : (gs : List Gathered) → AllPass IsFreeNamespace (fragment_of gs)
gathered_free gs =
    let all = pass_flat IsFreeNamespace declared_in gs (pass_each_item (λ g. AllPass IsFreeNamespace (declared_in g)) declared_free gs) in
    pass_both (λ n. is_reserved n.0 ≡ false) (λ n. AreFreeTypes n.1.entity_types) IsFreeNamespace (λ n name types. record { name = name; entity_types = types }) (fragment_of gs)
    (pass_keys namespace_cmp (λ name. is_reserved name ≡ false) (declared_by gs) (pass_weaker IsFreeNamespace (λ n. is_reserved n.0 ≡ false) (λ n h. h.name) (declared_by gs) all))
    (pass_map_of namespace_cmp (λ (d : Definition). AreFreeTypes d.entity_types) (declared_by gs) (pass_weaker IsFreeNamespace (λ n. AreFreeTypes n.1.entity_types) (λ n h. h.entity_types) (declared_by gs) all))

pub text_ruled_out : (text : List ℕ) (extensions : List (List ℕ)) (e : SchemaError) → TextCause text extensions (Schema e) → never_comes (told e) ≡ false
text_ruled_out text extensions e cause = fragment_other ProhibitAttributes extensions cause.0 (told e) (subst (AllPass IsFreeNamespace) (sym cause.2.declares.fragment_is) (gathered_free (namespaces_of cause.2.tree))) cause.3
