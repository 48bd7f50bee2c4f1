-- SPDX-License-Identifier: Apache-2.0
-- The types that written types declare, level by level.
use Rattle.std.proofs.Common.{◌≡◌, ℕ, false, List, [], ◌∷◌, fold, Option, Some, refl, sym, ap, ◌∙◌}
use Rattle.std.specs.BTreeMap.{insert_entry}
use Rattle.cedar_data.specs.Maps.{map_of, map_values}
use Rattle.cedar_data.proofs.MapsMade.{map-insert_entry}
use Rattle.cedar_names.specs.Order.{word_cmp}
use Rattle.cedar_text.specs.declared.location.Loc.{Loc}
use Rattle.cedar_text.specs.declared.node.Node.{Node}
use Rattle.cedar_tree.specs.Meanings.{annotations_tree, attr_level, attrs_tree, node_of, type_level, type_tree}
use Rattle.cedar_tree.specs.Paths.{name_of_path}
use Rattle.cedar_tree.specs.Trees as tree
use Rattle.cedar_tree.specs.Trees.{TypeTree}
use Rattle.cedar_tree.specs.declared.annotated.Annotated as noted
use Rattle.cedar_tree.specs.declared.path.Path as names
use Rattle.cedar_tree.specs.declared.ty.AttrDecl as attribute
use Rattle.cedar_tree.specs.declared.ty.AttrDecl.{fold_out-AttrDecl}
use Rattle.cedar_tree.specs.declared.ty.«Type».{«Type»}
use Rattle.cedar_tree.specs.declared.ty.«Type».TheVariants as parsed
use Rattle.cedar_convert_fragment.proofs.TypeTrees.{tree_of_set, tree_of_name, tree_of_record}
use Rattle.cedar_written.proofs.TypeFolds.{fold-Variant, fold-CommonTypeRef, fold-Set, fold-Record, fold-EntityOrCommon, fold-record_of, fold-attribute_of}
use Rattle.cedar_written.proofs.TypeInduction.{record_of, attribute_of}
use Rattle.cedar_written.specs.Possibilities.{raw_name}
use Rattle.cedar_written.specs.declared.raw_name.RawName.{RawName}
use Rattle.cedar_written.specs.declared.ty.SchemaType.{SchemaType}
use Rattle.cedar_written.specs.declared.ty.SchemaType.TheVariants as type
use Rattle.cedar_written.specs.declared.ty.TypeVariant.{TypeVariant}
use Rattle.cedar_written.specs.declared.ty.TypeVariant.TheVariants as variant
use Rattle.cedar_written.specs.declared.ty.RecordType.{RecordType}
use Rattle.cedar_written.specs.declared.ty.TypeOfAttribute.{TypeOfAttribute}
use Rattle.cedar_convert_fragment.specs.Declares.{entries_of, record_form, type_at, type_of}
use Rattle.cedar_convert_fragment.specs.Fragments as seen
use Rattle.cedar_convert_fragment.specs.Fragments.{FieldAt, Form, TypeAt}
use Rattle.cedar_convert_fragment.specs.Views.{attribute_seen, form_seen, name_at, record_seen, see_attribute, see_form, see_record, see_type, type_seen}

-- attributes as they are written
abbrev pub Written : Type 0
Written = Node (noted.Annotated attribute.AttrDecl)

-- a type that is written out is seen by its form
pub seen-Variant : (v : TypeVariant RawName) (loc : Option Loc) → type_seen (type.Variant v loc) ≡ seen.written (form_seen v) loc
seen-Variant v loc = fold-Variant see_type see_form see_record see_attribute v loc

pub seen-CommonTypeRef : (name : RawName) (loc : Option Loc) → type_seen (type.CommonTypeRef name loc) ≡ seen.common_type (name_at name) loc
seen-CommonTypeRef name loc = fold-CommonTypeRef see_type see_form see_record see_attribute name loc

pub seen-Record : (r : RecordType RawName) → form_seen (variant.Record r) ≡ record_seen r
seen-Record r = fold-Record see_type see_form see_record see_attribute r

-- a set
pub declared-set : (ty : Node «Type») (element moved : Node «Type») (made boxed : SchemaType RawName) → ty.node ≡ parsed.Set element → moved ≡ element → boxed ≡ made → type_seen made ≡ type_at (node_of type_tree moved)
    → type_seen (type.Variant (variant.Set boxed) (Some ty.loc)) ≡ type_at (node_of type_tree ty)
declared-set ty element moved made boxed is same box inner =
    seen-Variant (variant.Set boxed) (Some ty.loc)
    ∙ ap (λ f. seen.written f (Some ty.loc)) (fold-Set see_type see_form see_record see_attribute boxed)
    ∙ ap (λ t. seen.written (seen.set_of (type_seen t)) (Some ty.loc)) box
    ∙ ap (λ t. seen.written (seen.set_of t) (Some ty.loc)) inner
    ∙ ap (λ (e : Node «Type»). seen.written (seen.set_of (type_of (type_tree e.node) e.loc)) (Some ty.loc)) same
    ∙ sym (ap (λ t. type_of t ty.loc) (ap type_tree is ∙ tree_of_set element))

-- a name
pub declared-name : (ty : Node «Type») (path : names.Path) (name : RawName) → ty.node ≡ parsed.Ident path → name ≡ raw_name (name_of_path path)
    → type_seen (type.Variant (variant.EntityOrCommon name) (Some ty.loc)) ≡ type_at (node_of type_tree ty)
declared-name ty path name is named =
    seen-Variant (variant.EntityOrCommon name) (Some ty.loc)
    ∙ ap (λ f. seen.written f (Some ty.loc)) (fold-EntityOrCommon see_type see_form see_record see_attribute name)
    ∙ ap (λ n. seen.written (seen.entity_or_common (name_at n)) (Some ty.loc)) named
    ∙ sym (ap (λ t. type_of t ty.loc) (ap type_tree is ∙ tree_of_name path))

-- a record at a place
pub declared-attributes : (attrs : List Written) (made : RecordType RawName) (loc : Loc) → record_seen made ≡ record_form (attrs_tree attrs)
    → type_seen (type.Variant (variant.Record made) (Some loc)) ≡ seen.written (record_form (attrs_tree attrs)) (Some loc)
declared-attributes attrs made loc is =
    seen-Variant (variant.Record made) (Some loc) ∙ ap (λ f. seen.written f (Some loc)) (seen-Record made ∙ is)

pub declared-record : (ty : Node «Type») (attrs : List Written) (made : RecordType RawName) → ty.node ≡ parsed.Record attrs → record_seen made ≡ record_form (attrs_tree attrs)
    → type_seen (type.Variant (variant.Record made) (Some ty.loc)) ≡ type_at (node_of type_tree ty)
declared-record ty attrs made is inner =
    declared-attributes attrs made ty.loc inner ∙ sym (ap (λ t. type_of t ty.loc) (ap type_tree is ∙ tree_of_record attrs))

-- a name as a whole shape
pub declared-common : (path : names.Path) (name : RawName) (loc place : Loc) → name ≡ raw_name (name_of_path path) → loc ≡ place → type_seen (type.CommonTypeRef name (Some loc)) ≡ seen.common_type (name_at (raw_name (name_of_path path))) (Some place)
declared-common path name loc place named at = seen-CommonTypeRef name (Some loc) ∙ (λ i. seen.common_type (name_at (named i)) (Some (at i)))

-- entries put into a map one after another
abbrev pub put_all : List (List ℕ × FieldAt) → List (List ℕ × FieldAt) → List (List ℕ × FieldAt)
put_all es pairs = fold (λ m e. insert_entry word_cmp m e.0 e.1) es pairs

-- the attributes of a map, as they are seen
abbrev pub attributes_seen : List (List ℕ × TypeOfAttribute RawName) → List (List ℕ × FieldAt)
attributes_seen es = map_values attribute_seen es

-- the attributes so far, with those that are left put in, are all
pub record Gives (all left : List Written) (made : List (List ℕ × TypeOfAttribute RawName)) : Type 0 where
  pub gives : put_all (attributes_seen made) (entries_of (attrs_tree left)) ≡ map_of word_cmp (entries_of (attrs_tree all))

-- the entry of an attribute
abbrev pub entry_of : Written → List ℕ × FieldAt
entry_of a = (a.node.item.name.node, record { ty = type_at (node_of type_tree a.node.item.ty); annotations = annotations_tree a.node.annotations; required = a.node.item.required })

entries-more : (a : Written) (rest : List Written) → entries_of (attrs_tree (a ∷ rest)) ≡ entry_of a ∷ entries_of (attrs_tree rest)
entries-more a rest =
    ap (λ (t : tree.AttrDecl). (t.name.node, record { ty = type_of t.ty.node t.ty.loc; annotations = annotations_tree a.node.annotations; required = t.required }) ∷ entries_of (attrs_tree rest))
    (fold_out-AttrDecl TypeTree tree.AttrDecl type_level attr_level a.node.item)

-- before the first
pub Gives-start : (all left : List Written) (made : List (List ℕ × TypeOfAttribute RawName)) → made ≡ [] → left ≡ all → Gives all left made
Gives-start all left made none whole =
    record { gives = ap (λ m. put_all (attributes_seen m) (entries_of (attrs_tree left))) none ∙ ap (λ l. map_of word_cmp (entries_of (attrs_tree l))) whole }

-- an attribute more
pub Gives-next : {all left rest : List Written} {made more : List (List ℕ × TypeOfAttribute RawName)} (a : Written) (ty : SchemaType RawName) → Gives all left made → left ≡ a ∷ rest
    → type_seen ty ≡ type_at (node_of type_tree a.node.item.ty) → more ≡ insert_entry word_cmp made a.node.item.name.node (attribute_of ty a.node.annotations a.node.item.required) → Gives all rest more
Gives-next {all} {left} {rest} {made} {more} a ty gives first is put =
    let new = attribute_of ty a.node.annotations a.node.item.required in
    let content : attribute_seen new ≡ (entry_of a).1 =
    fold-attribute_of see_type see_form see_record see_attribute ty a.node.annotations a.node.item.required
    ∙ ap (λ t. record { ty = t; annotations = annotations_tree a.node.annotations; required = a.node.item.required }) is in
    let inserted : attributes_seen more ≡ insert_entry word_cmp (attributes_seen made) a.node.item.name.node (entry_of a).1 =
    ap attributes_seen put ∙ map-insert_entry word_cmp word_cmp (λ k. k) attribute_seen (λ x y. refl) made a.node.item.name.node new
    ∙ ap (insert_entry word_cmp (attributes_seen made) a.node.item.name.node) content in
    record {
      gives = ap (λ es. put_all es (entries_of (attrs_tree rest))) inserted
          ∙ ap (put_all (attributes_seen made)) (sym (entries-more a rest))
          ∙ ap (λ l. put_all (attributes_seen made) (entries_of (attrs_tree l))) (sym first) ∙ gives.gives;
    }

-- after the last
pub Gives-end : {all left : List Written} {made : List (List ℕ × TypeOfAttribute RawName)} → Gives all left made → left ≡ [] → record_seen (record_of made false) ≡ record_form (attrs_tree all)
Gives-end {all} {left} {made} gives none =
    fold-record_of see_type see_form see_record see_attribute made false
    ∙ ap (λ es. seen.record_of (seen.fields es) false) (ap (λ l. put_all (attributes_seen made) (entries_of (attrs_tree l))) (sym none) ∙ gives.gives)

pub ruleset declaring = (declared-set, declared-name, declared-attributes, declared-record, declared-common, Gives-start, Gives-next, Gives-end)
