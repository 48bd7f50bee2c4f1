-- SPDX-License-Identifier: Apache-2.0
-- The namespaces of schemas without places, and the fragments that these declare.
use Rattle.std.proofs.Common.{◌≡◌, Bool, true, false, cond, List, [], ◌∷◌, ◌++◌, map, Option, Some, None, option_map, refl, sym, ap, ◌∙◌}
use Rattle.std.specs.List.{list_any}
use Rattle.cedar_data.specs.Maps.{map_of}
use Rattle.cedar_data.proofs.MapsMade.{map-map_of}
use Rattle.cedar_text.proofs.Members.{map-append}
use Rattle.cedar_text.specs.Words.{is_cedar}
use Rattle.cedar_tree.specs.Trees.{ByKey, Path, Schema, Text}
use Rattle.cedar_tree.specs.Unplaced.{annotated_unplaced, annotations_unplaced, anywhere, decl_unplaced, namespace_unplaced, schema_unplaced, unplaced}
use Rattle.cedar_convert_faults.specs.Gathering.{Declarations, Gathered, loose, loose_declarations, named, named_namespaces, namespace_cmp, namespaces_of, unnamed}
use Rattle.cedar_convert_fragment.specs.Declares.{declared_by, declared_in, definition_of, fragment_of}
use Rattle.cedar_convert_fragment.specs.Fragments.{Definition, Fragment}
use Rattle.cedar_convert_laws.specs.Unplaced.{definition_unplaced, fragment_unplaced}
use Rattle.cedar_convert_laws.proofs.ByKind.{decls_unplaced, definition_moved}
use Rattle.cedar_convert_laws.proofs.Lists.{moved_lists}

-- a namespace without places
abbrev pub gathered_unplaced : Gathered → Gathered
gathered_unplaced g = record { name = option_map anywhere g.name; annotations = annotations_unplaced g.annotations; decls = decls_unplaced g.decls }

abbrev definition_entry : Option (List Text) × Definition → Option (List Text) × Definition
definition_entry e = (e.0, definition_unplaced e.1)

declared_moved : (g : Gathered) → declared_in (gathered_unplaced g) ≡ map definition_entry (declared_in g)
declared_moved g = by g.name g.annotations g.decls
  where
    here : (b : Bool) (name : Option (List Text)) (d d' : Definition) → d ≡ definition_unplaced d' → ◌≡◌ {A = Fragment} (cond b [] ((name, d) ∷ [])) (map definition_entry (cond b [] ((name, d') ∷ [])))
    here true name d d' is = refl
    here false name d d' is = ap (λ x. (name, x) ∷ []) is

    by : (name : Option Path) (annotations : ByKey) (decls : Declarations)
        → declared_in (gathered_unplaced (record { name = name; annotations = annotations; decls = decls })) ≡ map definition_entry (declared_in (record { name = name; annotations = annotations; decls = decls }))
    by None annotations decls = ap (λ x. (None, x) ∷ []) (definition_moved annotations decls)
    by (Some path) annotations decls =
        here (list_any is_cedar path.node) (Some path.node) (definition_of (annotations_unplaced annotations) (decls_unplaced decls)) (definition_of annotations decls) (definition_moved annotations decls)

pub fragment_moved : (gs : List Gathered) → fragment_of (map gathered_unplaced gs) ≡ fragment_unplaced (fragment_of gs)
fragment_moved gs =
    ap (map_of namespace_cmp) (moved_lists gathered_unplaced declared_in declared_in definition_entry declared_moved gs)
    ∙ sym (map-map_of namespace_cmp namespace_cmp (λ k. k) definition_unplaced (λ a b. refl) (declared_by gs))

named_moved : (name : Option Path) (annotations : ByKey) (decls : Declarations) → named (option_map anywhere name) (annotations_unplaced annotations) (decls_unplaced decls) ≡ map gathered_unplaced (named name annotations decls)
named_moved None annotations decls = refl
named_moved (Some path) annotations decls = refl

loose_moved : (name : Option Path) (decls : Declarations) → loose (option_map anywhere name) (decls_unplaced decls) ≡ decls_unplaced (loose name decls)
loose_moved None decls = refl
loose_moved (Some path) decls = refl

unnamed_moved : (decls : Declarations) → unnamed (decls_unplaced decls) ≡ map gathered_unplaced (unnamed decls)
unnamed_moved [] = refl
unnamed_moved (d ∷ decls) = refl

pub namespaces_moved : (s : Schema) → namespaces_of (schema_unplaced s) ≡ map gathered_unplaced (namespaces_of s)
namespaces_moved s =
    let all_named : named_namespaces (schema_unplaced s) ≡ map gathered_unplaced (named_namespaces s) =
    moved_lists (annotated_unplaced namespace_unplaced) (λ n. named n.item.name n.annotations n.item.decls) (λ n. named n.item.name n.annotations n.item.decls) gathered_unplaced (λ n. named_moved n.item.name n.annotations n.item.decls) s in
    let all_loose : loose_declarations (schema_unplaced s) ≡ decls_unplaced (loose_declarations s) =
    moved_lists (annotated_unplaced namespace_unplaced) (λ n. loose n.item.name n.item.decls) (λ n. loose n.item.name n.item.decls) (annotated_unplaced (unplaced decl_unplaced)) (λ n. loose_moved n.item.name n.item.decls) s in
    (λ i. all_named i ++ (ap unnamed all_loose ∙ unnamed_moved (loose_declarations s)) i)
    ∙ sym (map-append gathered_unplaced (named_namespaces s) (unnamed (loose_declarations s)))
