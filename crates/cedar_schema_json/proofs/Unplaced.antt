-- SPDX-License-Identifier: Apache-2.0
-- A value in JSON has the shape of a fragment without places, and so the schema of it has none.
use Rattle.std.proofs.Common.{◌≡◌, ℕ, List, [], ◌∷◌, None, Result, Ok, Err, IfOk, map, fold, sym, subst}
use Rattle.std.specs.BTreeMap.{insert_entry}
use Rattle.std.specs.Cmp.Lexicographic.{slice_cmp}
use Rattle.std.specs.List.{flat_map}
use Rattle.std.specs.Option.{option_cmp}
use Rattle.std.specs.Ordering.{match_ordering, nat_cmp}
use Rattle.std.specs.declared.cmp.Ordering.{Ordering}
use Rattle.std.specs.declared.cmp.Ordering.TheVariants.{Less, Equal, Greater}
use Rattle.serde_json.specs.Data.{Data, Members, no_members, member}
use Rattle.cedar_convert_fragment.specs.Views.{definition_seen, fragment_seen, namespace_words}
use Rattle.cedar_data.proofs.Passing.{AllPass-append, AllPass-map}
use Rattle.cedar_data.specs.Firsts.{AllPass}
use Rattle.cedar_fragment.specs.ActionUids.{over_raw}
use Rattle.cedar_fragment.specs.declared.definitions.Fragment.{Fragment}
use Rattle.cedar_fragment.specs.declared.definitions.NamespaceDefinition.{NamespaceDefinition}
use Rattle.cedar_json.specs.TextFaults.{IsFragmentText}
use Rattle.cedar_json_laws.specs.of_json_namespaces.Namespaces.{IsFragment, IsNamespace, NamespaceEntry, id_cmp}
use Rattle.cedar_json_read.specs.Declarations.{IsAction, IsEntityType}
use Rattle.cedar_json_types.specs.Parts.{Identifies}
use Rattle.cedar_json_types.specs.Shapes.{EachMember, Entry, MapOf}
use Rattle.cedar_names.specs.Names.{name_cmp}
use Rattle.cedar_resolved.specs.declared.schema.ValidatorSchema.{ValidatorSchema}
use Rattle.cedar_schema.proofs.Placing.{unplaced_among}
use Rattle.cedar_schema.specs.DeclaredPlaces.{action_places, entity_places, places_of}
use Rattle.cedar_schema.specs.Places.{IsPlaced, IsUnplaced}
use Rattle.cedar_written.specs.declared.raw_name.RawName.{RawName}

-- ---- lists and maps

module _ {A B : Type 0} (P : B → Type 0) where
  all_seen : (f : A → B) (xs : List A) → AllPass (λ x. P (f x)) xs → AllPass P (map f xs)
  all_seen f [] all = tt
  all_seen f (x ∷ xs) all = (all.0, all_seen f xs all.1)

  all_gathered : (f : A → List B) (xs : List A) → AllPass (λ x. AllPass P (f x)) xs → AllPass P (flat_map f xs)
  all_gathered f [] all = tt
  all_gathered f (x ∷ xs) all = AllPass-append P (f x) (flat_map f xs) all.0 (all_gathered f xs all.1)

module _ {K V : Type 0} (cmp : K → K → Ordering) (Q : V → Type 0) where
  all_insert : (es : List (K × V)) (k : K) (v : V) → AllPass (λ e. Q e.1) es → Q v → AllPass (λ e. Q e.1) (insert_entry cmp es k v)
  all_insert [] k v all q = (q, tt)
  all_insert (e ∷ es) k v all q = by (cmp k e.0) (all_insert es k v all.1 q)
    where
      by : (o : Ordering) → AllPass (λ e. Q e.1) (insert_entry cmp es k v) → AllPass (λ e. Q e.1) (match_ordering o ((k, v) ∷ e ∷ es) ((e.0, v) ∷ es) (e ∷ insert_entry cmp es k v))
      by Less rest = (q, all)
      by Equal rest = (q, all.1)
      by Greater rest = (all.0, rest)

  all_from : (es pairs : List (K × V)) → AllPass (λ e. Q e.1) es → AllPass (λ e. Q e.1) pairs → AllPass (λ e. Q e.1) (fold (λ es pair. insert_entry cmp es pair.0 pair.1) es pairs)
  all_from es [] all more = all
  all_from es (p ∷ pairs) all more = all_from (insert_entry cmp es p.0 p.1) pairs (all_insert es p.0 p.1 all more.0) more.1

  module _ (P : List ℕ → Data → K → V → Type 0) (each : (s : List ℕ) (d : Data) (k : K) (v : V) → P s d k v → Q v) where
    all_members : (ms : Members) (es : List (K × V)) → EachMember P ms es → AllPass (λ e. Q e.1) es
    all_members no_members [] is = tt
    all_members no_members (e ∷ es) is = absurd is
    all_members (member s d ms) [] is = absurd is
    all_members (member s d ms) (e ∷ es) is = (each s d e.0 e.1 is.0, all_members ms es is.1)

    -- what holds of the value of each member holds of each value of the map that they are
    all_of_map : (d : Data) (m : List (K × V)) → MapOf cmp P d m → AllPass (λ e. Q e.1) m
    all_of_map d m is = subst (AllPass (λ e. Q e.1)) (sym is.2.2) (all_from [] is.2.0 tt (all_members is.0 is.2.0 is.2.1))

-- ---- shapes

-- no entity type and no action that a namespace declares has a place
abbrev IsBare : NamespaceDefinition RawName over_raw → Type 0
IsBare n = AllPass (λ e. e.1.loc ≡ None) n.entity_types × AllPass (λ a. a.1.loc ≡ None) n.actions

namespace_bare : (d : Data) (n : NamespaceDefinition RawName over_raw) → IsNamespace d n → IsBare n
namespace_bare d n is = (
  all_of_map id_cmp (λ e. e.loc ≡ None) (Entry Identifies IsEntityType) (λ s d k e is. is.1.3) is.2.0 n.entity_types is.2.2,
  all_of_map (slice_cmp nat_cmp) (λ a. a.loc ≡ None) (Entry (λ k t. t ≡ k) IsAction) (λ s d k a is. is.1.5) is.3.0 n.actions is.3.2,
)

namespaces_bare : (d : Data) (f : Fragment RawName over_raw) → IsFragment d f → AllPass (λ e. IsBare e.1) f.0
namespaces_bare d f is = all_of_map (option_cmp name_cmp) IsBare NamespaceEntry (λ s d name n is. namespace_bare d n is.1) d f.0 is

-- so the places of the fragment are none
types_unplaced : (f : Fragment RawName over_raw) → AllPass (λ e. IsBare e.1) f.0 → AllPass (λ p. p.1 ≡ None) (places_of (fragment_seen f)).entity_types
types_unplaced f bare =
    all_gathered (λ p. p.1 ≡ None) entity_places (fragment_seen f) (all_seen (λ n. AllPass (λ p. p.1 ≡ None) (entity_places n)) (λ e. (namespace_words e.0, definition_seen e.1)) f.0
    (AllPass-map (λ e bare. all_seen (λ p. p.1 ≡ None) _ (definition_seen e.1).entity_types (all_seen (λ s. s.1.loc ≡ None) _ e.1.entity_types bare.0)) f.0 bare))

actions_unplaced : (f : Fragment RawName over_raw) → AllPass (λ e. IsBare e.1) f.0 → AllPass (λ p. p.1 ≡ None) (places_of (fragment_seen f)).actions
actions_unplaced f bare =
    all_gathered (λ p. p.1 ≡ None) action_places (fragment_seen f) (all_seen (λ n. AllPass (λ p. p.1 ≡ None) (action_places n)) (λ e. (namespace_words e.0, definition_seen e.1)) f.0
    (AllPass-map (λ e bare. all_seen (λ p. p.1 ≡ None) _ (definition_seen e.1).actions (all_seen (λ s. s.1.loc ≡ None) _ e.1.actions bare.1)) f.0 bare))

-- a schema that is placed by it has none
pub unplaced : (d : Data) (f : Fragment RawName over_raw) → IsFragment d f → {E : Type 0} (r : Result ValidatorSchema E) → IfOk r (IsPlaced (places_of (fragment_seen f))) → IfOk r IsUnplaced
unplaced d f is (Ok S) placed = unplaced_among (places_of (fragment_seen f)) (types_unplaced f (namespaces_bare d f is)) (actions_unplaced f (namespaces_bare d f is)) S placed
unplaced d f is (Err e) placed = tt

-- so with a text
pub text_unplaced : (text : List ℕ) (f : Fragment RawName over_raw) → IsFragmentText text f → {E : Type 0} (r : Result ValidatorSchema E) → IfOk r (IsPlaced (places_of (fragment_seen f))) → IfOk r IsUnplaced
text_unplaced text f is r placed = unplaced is.0 f is.3 r placed
