-- SPDX-License-Identifier: Apache-2.0
-- Names that are declared alike as far as a name of a schema can tell are declared alike, where only such names are declared.
use Rattle.std.proofs.Common.{◌≡◌, ◌++◌, ◌||◌, Bool, true, false, cond, List, [], ◌∷◌, Option, map, refl, sym, ap, ◌∙◌, subst}
use Rattle.std.specs.BTreeMap.{is_at}
use Rattle.std.specs.Cmp.{Equal-is}
use Rattle.std.specs.Cmp.Lexicographic.{bytes_decides, texts_ties}
use Rattle.std.specs.List.{filter, flat_map}
use Rattle.std.specs.Map.{keys_of}
use Rattle.std.specs.Ordering.{is_eq, ordering_then}
use Rattle.std.specs.declared.cmp.Ordering.{Ordering}
use Rattle.std.specs.declared.cmp.Ordering.TheVariants.{Less, Equal, Greater}
use Rattle.cedar_data.specs.Firsts.{AllPass}
use Rattle.cedar_data.specs.Sets.{contains}
use Rattle.cedar_missing.specs.of_declared.Gathering.{declared_names}
use Rattle.cedar_missing.specs.of_declared.Held.{names_of, single_names, type_names}
use Rattle.cedar_missing.specs.of_declared.Names.{SameNames}
use Rattle.cedar_missing.specs.of_declared.declared.all_defs.AllDefs.{AllDefs}
use Rattle.cedar_missing.specs.of_declared.declared.type_names.TypeNames.{TypeNames}
use Rattle.cedar_missing.specs.of_definitions.declared.structures.ValidatorNamespaceDef.{ValidatorNamespaceDef}
use Rattle.cedar_fragment.specs.ActionUids.{over_conditional}
use Rattle.cedar_names.proofs.NameOrder.{words_cmp-equal}
use Rattle.cedar_names.specs.Components.{components, internal_name}
use Rattle.cedar_names.specs.Names.{entity_words, internal_of, name_of}
use Rattle.cedar_names.specs.Order.{word_cmp, words_cmp}
use Rattle.cedar_names.specs.declared.id.Id.{Id}
use Rattle.cedar_text.specs.declared.location.Loc.{Loc}
use Rattle.cedar_schema_error.specs.FullNames.{FullName, Uid, is_qualified, uid_cmp, uid_in}
use Rattle.cedar_world.specs.DefinitionViews.{action_of, kind_in, namespace_in, type_in}
use Rattle.cedar_world.specs.Worlds.{names_in}
use Rattle.cedar_written.specs.declared.conditional_name.ConditionalName.{ConditionalName}
use Rattle.cedar_qualified.specs.Agreeing.{AgreeingNames}
use Rattle.cedar_qualified.proofs.Seen.{same_given}

either : (b c : Bool) → (b || c) ≡ true → b ≡ false → c ≡ true
either true c is off = let p : true ≡ false = off in absurd (cc)
either false c is off = is

-- keys, each of which is that of an item
module _ {X K : Type 0} (key : X → K) where
  abbrev Keyed : List K → Type 0
  Keyed ks = AllPass (λ k. (x : X) × (key x ≡ k)) ks

  keyed_map : {Y : Type 0} (item : Y → X) (ys : List Y) → Keyed (map (λ y. key (item y)) ys)
  keyed_map item [] = tt
  keyed_map item (y ∷ ys) = ((item y, refl), keyed_map item ys)

  keyed-append : (ks ls : List K) → Keyed ks → Keyed ls → Keyed (ks ++ ls)
  keyed-append [] ls all more = more
  keyed-append (k ∷ ks) ls all more = (all.0, keyed-append ks ls all.1 more)

  keyed_filter : (p : K → Bool) (ks : List K) → Keyed ks → Keyed (filter p ks)
  keyed_filter p [] all = tt
  keyed_filter p (k ∷ ks) all = by (p k) (keyed_filter p ks all.1)
    where
      by : (b : Bool) → Keyed (filter p ks) → Keyed (cond b (k ∷ filter p ks) (filter p ks))
      by true rest = (all.0, rest)
      by false rest = rest

  keyed_flat : {D : Type 0} (ks : D → List K) → ((d : D) → Keyed (ks d)) → (ds : List D) → Keyed (flat_map ks ds)
  keyed_flat ks each [] = tt
  keyed_flat ks each (d ∷ ds) = keyed-append (ks d) (flat_map ks ds) (each d) (keyed_flat ks each ds)

  module _ (cmp : K → K → Ordering) (tied : (k l : K) → cmp k l ≡ Equal → k ≡ l) where
    -- a key that they have is that of an item
    item_at : (ks : List K) (k : K) → Keyed ks → contains cmp ks k ≡ true → (x : X) × (key x ≡ k)
    item_at [] k all is = let p : false ≡ true = is in absurd (cc)
    item_at (l ∷ ks) k all is = by (is_at (cmp k) l) refl (λ rest. item_at ks k all.1 rest)
      where
        by : (b : Bool) → is_at (cmp k) l ≡ b → (contains cmp ks k ≡ true → (x : X) × (key x ≡ k)) → (x : X) × (key x ≡ k)
        by true here rest = (all.0.0, all.0.1 ∙ sym (tied k l ((Equal-is (cmp k l)).0 here)))
        by false here rest = rest (either (is_at (cmp k) l) (contains cmp ks k) is here)

    -- what agrees on the keys of items agrees on all keys
    pub agreeing : (ks ls : List K) → Keyed ks → Keyed ls → ((x : X) → contains cmp ks (key x) ≡ contains cmp ls (key x)) → (k : K) → contains cmp ks k ≡ contains cmp ls k
    agreeing ks ls all more same k = by (contains cmp ks k) (contains cmp ls k) refl refl
      where
        at : (x : X) → key x ≡ k → contains cmp ks k ≡ contains cmp ls k
        at x is = sym (ap (contains cmp ks) is) ∙ same x ∙ ap (contains cmp ls) is

        by : (b c : Bool) → contains cmp ks k ≡ b → contains cmp ls k ≡ c → b ≡ c
        by true true p q = refl
        by false false p q = refl
        by true false p q = let found = item_at ks k all p in sym p ∙ at found.0 found.1 ∙ q
        by false true p q = let found = item_at ls k more q in sym p ∙ at found.0 found.1 ∙ q

-- ids that are tied are the same
first_tied : (o p : Ordering) → ordering_then o p ≡ Equal → o ≡ Equal
first_tied Equal p is = refl
first_tied Less p is = is
first_tied Greater p is = is

second_tied : (o p : Ordering) → ordering_then o p ≡ Equal → p ≡ Equal
second_tied Equal p is = is
second_tied Less p is = let q : Less ≡ Equal = is in absurd (cc)
second_tied Greater p is = let q : Greater ≡ Equal = is in absurd (cc)

uid_tied : (u v : Uid) → uid_cmp u v ≡ Equal → u ≡ v
uid_tied u v is = λ i. record { ty = types i; id = ids i }
  where
    types : u.ty ≡ v.ty
    types = (words_cmp-equal u.ty v.ty).0 (first_tied (words_cmp u.ty v.ty) (word_cmp u.id v.id) is)

    ids : u.id ≡ v.id
    ids = (bytes_decides u.id v.id).0 (texts_ties u.id v.id ∙ ap is_eq (second_tied (words_cmp u.ty v.ty) (word_cmp u.id v.id) is))

name_tied : (m n : FullName) → words_cmp m n ≡ Equal → m ≡ n
name_tied m n = (words_cmp-equal m n).0

-- a definition of code
abbrev Definition : Type 0
Definition = ValidatorNamespaceDef ConditionalName ConditionalName over_conditional

keys_seen : {K V J W : Type 0} (f : K → J) (g : V → W) (es : List (K × V)) → map (λ e. f e.0) es ≡ keys_of (map (λ e. (f e.0, g e.1)) es)
keys_seen f g [] = refl
keys_seen f g (e ∷ es) = ap (λ l. f e.0 ∷ l) (keys_seen f g es)

-- the declared names are those of the namespaces
names_seen : (ds : List Definition) → declared_names ds ≡ names_in (map namespace_in ds)
names_seen ds = λ i. record {
  entity_types = same_given (λ (d : Definition). map (λ e. entity_words e.0) d.entity_types.defs) namespace_in (λ ns. keys_of ns.entity_types) (λ d. keys_seen entity_words kind_in d.entity_types.defs) ds i;
  common_types = same_given (λ (d : Definition). map (λ e. components e.0) d.common_types.defs) namespace_in (λ ns. keys_of ns.common_types) (λ d. keys_seen components type_in d.common_types.defs) ds i;
  actions = same_given (λ (d : Definition). map (λ e. uid_in e.0) d.actions.actions) namespace_in (λ ns. keys_of ns.actions) (λ d. keys_seen uid_in action_of d.actions.actions) ds i;
}

held_types : (t : TypeNames) → Keyed components (type_names t)
held_types t =
    keyed-append components (single_names t.unqualified) (filter is_qualified (map components t.qualified))
    (keyed_map components (λ (e : Id × Option Loc). internal_name e.0 [] e.1) t.unqualified)
    (keyed_filter components is_qualified (map components t.qualified) (keyed_map components (λ n. n) t.qualified))

pub names_agree : (d : AllDefs) (ds : List Definition) → SameNames (names_of d) (declared_names ds) → AgreeingNames (names_of d) (names_in (map namespace_in ds))
names_agree d ds same = subst (λ names. AgreeingNames (names_of d) names) (names_seen ds) (record {
  entity = agreeing components words_cmp name_tied (names_of d).entity_types (declared_names ds).entity_types (held_types d.entity_types)
      (keyed_flat components (λ (d : Definition). map (λ e. entity_words e.0) d.entity_types.defs) (λ d. keyed_map components (λ e. internal_of (name_of e.0)) d.entity_types.defs) ds) same.entity;
  common = agreeing components words_cmp name_tied (names_of d).common_types (declared_names ds).common_types (held_types d.common_types)
      (keyed_flat components (λ (d : Definition). map (λ e. components e.0) d.common_types.defs) (λ d. keyed_map components (λ e. e.0) d.common_types.defs) ds) same.common;
  action = agreeing uid_in uid_cmp uid_tied (names_of d).actions (declared_names ds).actions (keyed_map uid_in (λ u. u) d.actions)
      (keyed_flat uid_in (λ (d : Definition). map (λ e. uid_in e.0) d.actions.actions) (λ d. keyed_map uid_in (λ e. e.0) d.actions.actions) ds) same.action;
})
