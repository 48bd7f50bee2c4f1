-- SPDX-License-Identifier: Apache-2.0
-- What the clauses of an `appliesTo` say, as it is seen.
use Rattle.std.proofs.Common.{◌≡◌, false, List, [], ◌++◌, map, Option, Some, None, unwrap_or, refl, sym, ap, ◌∙◌}
use Rattle.std.proofs.lemmas.List.{append-nil}
use Rattle.std.specs.Option.{option_or}
use Rattle.cedar_text.specs.declared.node.Node.{Node}
use Rattle.cedar_tree.specs.Meanings.{app_tree, node_of}
use Rattle.cedar_tree.specs.Trees.{PR, Principal, Resource}
use Rattle.cedar_tree.specs.declared.declaration.AppDecl.{AppDecl}
use Rattle.cedar_fragment.specs.Shapes.{shape_of, type_of_shape}
use Rattle.cedar_fragment.specs.declared.attributes_or_context.AttributesOrContext.{AttributesOrContext}
use Rattle.cedar_fragment.specs.declared.definitions.ApplySpec.{ApplySpec}
use Rattle.cedar_written.proofs.TypeFolds.{fold-Record, fold-Variant, fold-record_of}
use Rattle.cedar_written.specs.WrittenTypes.{empty_record}
use Rattle.cedar_written.specs.declared.raw_name.RawName.{RawName}
use Rattle.cedar_written.specs.declared.ty.SchemaType.TheVariants as type
use Rattle.cedar_written.specs.declared.ty.TypeVariant.TheVariants as variant
use Rattle.cedar_convert_faults.specs.Faults.{Clauses}
use Rattle.cedar_convert_declarations.specs.Applied.{applied_seen, context_seen}
use Rattle.cedar_convert_fragment.specs.Declares.{applies_to, empty_context, first_context, listed_of}
use Rattle.cedar_convert_fragment.specs.Fragments as seen
use Rattle.cedar_convert_fragment.specs.Fragments.{NameAt, TypeAt}
use Rattle.cedar_convert_fragment.specs.Views.{apply_seen, name_at, see_attribute, see_form, see_record, see_type, type_seen}
use Rattle.cedar_convert_declarations.specs.declared.applying.Applied.{Applied}

-- the empty record
seen-empty : type_seen (type.Variant (variant.Record empty_record) None) ≡ empty_context
seen-empty =
    fold-Variant see_type see_form see_record see_attribute (variant.Record empty_record) None
    ∙ ap (λ f. seen.written f None) (fold-Record see_type see_form see_record see_attribute empty_record ∙ fold-record_of see_type see_form see_record see_attribute [] false)

-- without a context, and with one
pub apply-empty : (a : Applied) (context : AttributesOrContext RawName) → a.context ≡ None → context ≡ shape_of (type.Variant (variant.Record empty_record) None)
    → apply_seen (record { resource_types = a.resources; principal_types = a.principals; context = context }) ≡ applied_seen a
apply-empty a context none is =
    let at : type_seen (type_of_shape context) ≡ unwrap_or (context_seen a.context) empty_context =
    ap (λ c. type_seen (type_of_shape c)) is ∙ seen-empty ∙ sym (ap (λ c. unwrap_or (context_seen c) empty_context) none) in
    ap (λ t. record { resources = map name_at a.resources; principals = map name_at a.principals; context = t }) at

pub apply-some : (a : Applied) (context : AttributesOrContext RawName) → a.context ≡ Some context → apply_seen (record { resource_types = a.resources; principal_types = a.principals; context = context }) ≡ applied_seen a
apply-some a context is = ap (λ t. record { resources = map name_at a.resources; principals = map name_at a.principals; context = t }) (sym (ap (λ c. unwrap_or (context_seen c) empty_context) is))

pub ruleset with_contexts = (apply-empty, apply-some)

-- one clause more
pub context-next : (old new here rest all : Option TypeAt) → option_or old (option_or here rest) ≡ all → new ≡ option_or old here → option_or new rest ≡ all
context-next old new here rest all so_far is = ap (λ c. option_or c rest) is ∙ three old here rest ∙ so_far
  where
    three : (a b c : Option TypeAt) → option_or (option_or a b) c ≡ option_or a (option_or b c)
    three None b c = refl
    three (Some x) b c = refl

-- after the last
or-none : (a : Option TypeAt) → option_or a None ≡ a
or-none None = refl
or-none (Some x) = refl

pub context-end : (new all : Option TypeAt) (left : List (Node AppDecl)) → left ≡ [] → option_or new (first_context (map (node_of app_tree) left)) ≡ all → new ≡ all
context-end new all left none so_far = sym (or-none new) ∙ ap (λ l. option_or new (first_context (map (node_of app_tree) l))) (sym none) ∙ so_far

pub names-end : (kind : PR) (new all : List NameAt) (left : List (Node AppDecl)) → left ≡ [] → new ++ listed_of kind (map (node_of app_tree) left) ≡ all → new ≡ all
names-end kind new all left none so_far = sym (append-nil new) ∙ ap (λ l. new ++ listed_of kind (map (node_of app_tree) l)) (sym none) ∙ so_far

pub ruleset clauses = (context-next, context-end, names-end)

-- all clauses, where there was nothing before
pub apply-all : (a : Applied) (first others : List RawName) (cs : Clauses) (made : ApplySpec RawName) → first ≡ [] → others ≡ [] → map name_at a.principals ≡ map name_at first ++ listed_of Principal cs → map name_at a.resources ≡ map name_at others ++ listed_of Resource cs
    → context_seen a.context ≡ first_context cs → apply_seen made ≡ applied_seen a → apply_seen made ≡ applies_to cs
apply-all a first others cs made no_first no_others p r c is =
    let principals : map name_at a.principals ≡ listed_of Principal cs = p ∙ ap (λ l. map name_at l ++ listed_of Principal cs) no_first in
    let resources : map name_at a.resources ≡ listed_of Resource cs = r ∙ ap (λ l. map name_at l ++ listed_of Resource cs) no_others in
    is ∙ (λ i. record { resources = resources i; principals = principals i; context = unwrap_or (c i) empty_context })

pub ruleset all_clauses = (apply-all)

-- a context that is kept unless there is one
pub context-kept : (old new : Option (AttributesOrContext RawName)) (context : AttributesOrContext RawName) (content : TypeAt) → new ≡ option_or old (Some context) → type_seen (type_of_shape context) ≡ content → context_seen new ≡ option_or (context_seen old) (Some content)
context-kept None new context content put is = ap context_seen put ∙ ap Some is
context-kept (Some x) new context content put is = ap context_seen put

pub ruleset kept = (context-kept)
