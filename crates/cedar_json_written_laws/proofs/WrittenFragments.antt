-- SPDX-License-Identifier: Apache-2.0
-- What is written of a fragment has its shape.
use Rattle.std.proofs.Common.{◌≡◌, ℕ, if◌then◌else◌, List, [], ◌∷◌, map, codes, Option, Some, None, option_map, option_and_then, refl, sym, ap, ◌∙◌, subst}
use Rattle.std.proofs.lemmas.Cmp.{lists_total, nat_list_cmp_total, on_total}
use Rattle.std.proofs.lemmas.Option.{none-some}
use Rattle.std.specs.Cmp.{IsTotalOrder}
use Rattle.std.specs.Cmp.Lexicographic.{bytes_decides, options_total, slice_cmp, texts_ties}
use Rattle.std.specs.List.{AllByRecursion}
use Rattle.std.specs.List.Sorted.{IsStrictlySortedBy}
use Rattle.std.specs.Map.{keys_of}
use Rattle.std.specs.Option.{option_cmp}
use Rattle.std.specs.Ordering.{is_eq, nat_cmp}
use Rattle.std.specs.declared.cmp.Ordering.{Ordering}
use Rattle.std.specs.declared.cmp.Ordering.TheVariants.{Less, Equal}
use Rattle.serde_json.specs.Data.{Data}
use Rattle.serde_json.specs.Find.{as_object, get}
use Rattle.cedar_data.specs.Maps.{IsSortedMap, map_of}
use Rattle.cedar_text.specs.Faults.{no_unreserved_id}
use Rattle.cedar_text.specs.Joining.{joined}
use Rattle.cedar_text.specs.NormalNames.{name_fault, parts}
use Rattle.cedar_text.specs.declared.fault.NameFault.TheVariants.{Empty}
use Rattle.cedar_names.specs.Names.{name_cmp, name_words}
use Rattle.cedar_names.specs.declared.name.Name.{Name}
use Rattle.cedar_names.proofs.NameOrder.{name_cmp-equal}
use Rattle.cedar_written.specs.declared.raw_name.RawName.{RawName}
use Rattle.cedar_fragment.specs.ActionUids.{over_raw}
use Rattle.cedar_fragment.specs.declared.definitions.Fragment.{Fragment}
use Rattle.cedar_fragment.specs.declared.definitions.NamespaceDefinition.{NamespaceDefinition}
use Rattle.cedar_json_fault.specs.declared.json_fault.JsonFault.TheVariants as fault
use Rattle.cedar_json_types.specs.Faults.{here}
use Rattle.cedar_json_namespaces.specs.Namespaces.{IsFragment, NamesNamespace, NamespaceEntry, has_members, noted_fault}
use Rattle.cedar_json_write.specs.Written.{annotations_json, fragment_json, if_any, namespace_json, namespace_text, put_all}
use Rattle.serde_json.specs.Data.{no_members}
use Rattle.cedar_json_written_laws.specs.Unplaced.{fragment_unplaced, namespace_unplaced, path_unplaced}
use Rattle.cedar_json_written_laws.specs.Writable.{IsBareUnnamed, WritableEntry, WritableFragment}
use Rattle.cedar_json_written_laws.proofs.Fields.{field_at}
use Rattle.cedar_json_written_laws.proofs.Reordered.{AllTold, map_of-shuffled, members_told}
use Rattle.cedar_json_written_laws.proofs.Texts.{path_read}
use Rattle.cedar_json_written_laws.proofs.WrittenNamespaces.{namespace_written, notes_found}

abbrev Definition : Type 0
Definition = NamespaceDefinition RawName over_raw

-- a name without its place
abbrev path_bare : Option Name → Option Name
path_bare name = option_map path_unplaced name

abbrev path_cmp : Option Name → Option Name → Ordering
path_cmp = option_cmp name_cmp

-- ---- the names of namespaces

-- a name is no empty text
named : (n : Name) → joined (name_words n) ≡ [] → ⊥
named n is = let none : name_fault no_unreserved_id [] ≡ None = subst (λ t. name_fault no_unreserved_id t ≡ None) is (path_read n).0 in none-some Empty (sym none)

path_written : (name : Option Name) → NamesNamespace (namespace_text name) (path_bare name)
path_written None = refl
path_written (Some n) = let read = path_read n in (read.0, read.1, refl)

-- names of one text are one
path_ties : (a b : Option Name) → namespace_text a ≡ namespace_text b → path_cmp a b ≡ Equal
path_ties None None same = refl
path_ties None (Some n) same = absurd (named n (sym same))
path_ties (Some n) None same = absurd (named n same)
path_ties (Some n) (Some m) same = (name_cmp-equal n m).1 ((path_read n).1 ∙ ap parts same ∙ sym (path_read m).1)

ties : (a b : Option Name) → slice_cmp nat_cmp (namespace_text a) (namespace_text b) ≡ Equal → path_cmp a b ≡ Equal
ties a b tied = path_ties a b ((bytes_decides (namespace_text a) (namespace_text b)).0 (texts_ties (namespace_text a) (namespace_text b) ∙ ap is_eq tied))

path_total : IsTotalOrder path_cmp
path_total = options_total (on_total name_words (lists_total nat_list_cmp_total))

same_text : (name : Option Name) → namespace_text name ≡ namespace_text (path_bare name)
same_text None = refl
same_text (Some n) = refl

same_order : (a b : Option Name) → path_cmp (path_bare a) (path_bare b) ≡ path_cmp a b
same_order None None = refl
same_order None (Some m) = refl
same_order (Some n) None = refl
same_order (Some n) (Some m) = refl

-- ---- the order of the namespaces

abbrev bare : List (Option Name × Definition) → List (Option Name × Definition)
bare es = map (λ e. (path_bare e.0, namespace_unplaced e.1)) es

below_bare : (name : Option Name) (es : List (Option Name × Definition)) → AllByRecursion (λ k. path_cmp name k ≡ Less) (keys_of es) → AllByRecursion (λ k. path_cmp (path_bare name) k ≡ Less) (keys_of (bare es))
below_bare name [] below = tt
below_bare name (e ∷ es) below = (same_order name e.0 ∙ below.0, below_bare name es below.1)

sorted_bare : (es : List (Option Name × Definition)) → IsSortedMap path_cmp es → IsSortedMap path_cmp (bare es)
unfolding IsStrictlySortedBy
sorted_bare [] sorted = tt
sorted_bare (e ∷ es) sorted = (below_bare e.0 es sorted.0, sorted_bare es sorted.1)

-- ---- the entries

some_text : (s : List ℕ) (d : Data) → (s ≡ [] → ⊥) → noted_fault s d ≡ None
some_text [] d some = absurd (some refl)
some_text (b ∷ bs) d some = refl

none_noted : (name : Option Name) (n : Definition) → IsBareUnnamed name n → noted_fault (namespace_text name) (namespace_json n) ≡ None
none_noted None n none =
    let absent : get (codes "annotations") (namespace_json n) ≡ None = notes_found n ∙ ap (λ es. field_at (codes "annotations") (if_any (codes "annotations") annotations_json es)) none in
    ap (λ o. if has_members (option_and_then as_object o) then Some (here fault.AnnotationsOnEmptyNamespace) else None) absent
none_noted (Some m) n is = some_text (joined (name_words m)) (namespace_json n) (named m)

mix : (k : List ℕ) (d e : Data) (j : Option Name) (w : Definition) (i : Option Name) (x : Definition) → NamespaceEntry k e i x → NamespaceEntry k d j w → NamespaceEntry k d i w
mix k d e j w i x old new = (old.0, new.1, new.2)

all_entries : (es : List (Option Name × Definition)) → AllByRecursion WritableEntry es → AllTold namespace_text NamespaceEntry mix namespace_text namespace_json path_bare namespace_unplaced es
all_entries [] all = tt
all_entries (e ∷ es) all = ((same_text e.0, (path_written e.0, namespace_written e.1 all.0.1, none_noted e.0 e.1 all.0.0)), all_entries es all.1)

pub fragment_written : (f : Fragment RawName over_raw) → WritableFragment f → IsFragment (fragment_json f) (fragment_unplaced f)
fragment_written f writable =
    let text_cmp = λ (a b : Option Name). slice_cmp nat_cmp (namespace_text a) (namespace_text b) in (
      put_all (map (λ e. (namespace_text e.0, namespace_json e.1)) f.0) no_members,
      refl,
      (
        map_of text_cmp (bare f.0),
        members_told namespace_text NamespaceEntry mix namespace_text namespace_json path_bare namespace_unplaced f.0 (all_entries f.0 writable.1),
        map_of-shuffled text_cmp path_cmp path_total ties (bare f.0) (sorted_bare f.0 writable.0),
      ),
    )
