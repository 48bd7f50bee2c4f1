-- SPDX-License-Identifier: Apache-2.0
-- Where nothing is declared twice, what holds of the entries of a map holds of all that it is made of.
use Rattle.std.proofs.Common.{◌≡◌, ◌++◌, ◌||◌, Bool, true, false, cond, List, [], ◌∷◌, map, refl, sym, ◌∙◌, subst}
use Rattle.std.proofs.lemmas.List.{append-nil}
use Rattle.std.proofs.lemmas.List.Folds.{list_any-append}
use Rattle.std.specs.BTreeMap.{insert_entry, is_at}
use Rattle.std.specs.List.{flat_map, list_any}
use Rattle.std.specs.Map.{keys_of}
use Rattle.std.specs.Ordering.{is_eq, match_ordering}
use Rattle.std.specs.declared.cmp.Ordering.{Ordering}
use Rattle.std.specs.declared.cmp.Ordering.TheVariants.{Less, Equal, Greater}
use Rattle.cedar_data.proofs.Exact.{IsExact}
use Rattle.cedar_data.proofs.Puts.{contains-keys_of, get-insert_entry}
use Rattle.cedar_data.specs.Firsts.{AllPass, NoneAgain}
use Rattle.cedar_data.specs.Maps.{map_of}
use Rattle.cedar_data.specs.Sets.{contains}
use Rattle.cedar_duplicates.specs.Duplicates.{Action, CommonType, Declared, EntityType, same_declared}
use Rattle.cedar_reread_world.proofs.Maps.{put}
use Rattle.cedar_reread_world.proofs.Tests.{or_left, or_right}
use Rattle.cedar_schema_error.specs.FullNames.{FullName, Uid}
use Rattle.cedar_schema_error.specs.NameReferences.{ActionReference, NameReference}
use Rattle.cedar_sound.proofs.NameOrders.{names_exact, uids_exact}
use Rattle.cedar_sound.specs.Sound.{all_declared, declared_in}
use Rattle.cedar_unfold.specs.Written.{Written}
use Rattle.cedar_world.specs.Definitions.{ActionDefinition, EntityDefinition, Namespace}
use Rattle.cedar_world.specs.Worlds.{actions_in, common_types_in, entity_types_in}

module _ {K V : Type 0} (wrap : K → Declared) where
  -- the wrapped keys of the pairs stand among what is declared, in order
  data Among : List (K × V) → List Declared → Type 0 where
    stop : Among [] []
    skip : {d : Declared} {ps : List (K × V)} {ds : List Declared} → Among ps ds → Among ps (d ∷ ds)
    here : (p : K × V) {ps : List (K × V)} {ds : List Declared} → Among ps ds → Among (p ∷ ps) (wrap p.0 ∷ ds)

  among_none : (ds : List Declared) → Among [] ds
  among_none [] = stop
  among_none (d ∷ ds) = skip (among_none ds)

  among_keys : (ps : List (K × V)) → Among ps (map wrap (keys_of ps))
  among_keys [] = stop
  among_keys (p ∷ ps) = here p (among_keys ps)

  among_append : (ps qs : List (K × V)) (ds es : List Declared) → Among ps ds → Among qs es → Among (ps ++ qs) (ds ++ es)
  among_append _ qs _ es stop b = b
  among_append _ qs _ es (skip {ps = ps} {ds} a) b = skip (among_append ps qs ds es a b)
  among_append _ qs _ es (here p {ps} {ds} a) b = here p (among_append ps qs ds es a b)

  among_all : (f : Namespace → List (K × V)) → ((ns : Namespace) → Among (f ns) (declared_in ns)) → (all : List Namespace) → Among (flat_map f all) (all_declared all)
  among_all f each [] = stop
  among_all f each (ns ∷ all) = among_append (f ns) (flat_map f all) (declared_in ns) (all_declared all) (each ns) (among_all f each all)

  module _ {cmp : K → K → Ordering} (exact : IsExact cmp) (same : (a b : K) → same_declared (wrap a) (wrap b) ≡ is_at (cmp b) a) (P : K × V → Type 0) where
    -- none of the pairs replaces an entry
    abbrev Distinct : List (K × V) → List (K × V) → Type 0
    Distinct es [] = Unit {0}
    Distinct es (p ∷ ps) = (contains cmp (keys_of es) p.0 ≡ false) × Distinct (insert_entry cmp es p.0 p.1) ps

    out_of : (es : List (K × V)) (k : K) (v : V) → contains cmp (keys_of es) k ≡ false → AllPass P (insert_entry cmp es k v) → P (k, v) × AllPass P es
    out_of [] k v new all = (all.0, tt)
    out_of (e ∷ es) k v new all = by (cmp k e.0) new all (out_of es k v)
      where
        by : (o : Ordering) → (is_eq o || contains cmp (keys_of es) k) ≡ false → AllPass P (match_ordering o ((k, v) ∷ e ∷ es) ((e.0, v) ∷ es) (e ∷ insert_entry cmp es k v))
            → (contains cmp (keys_of es) k ≡ false → AllPass P (insert_entry cmp es k v) → P (k, v) × AllPass P es) → P (k, v) × AllPass P (e ∷ es)
        by Less new all rest = (all.0, all.1)
        by Equal new all rest = absurd (cc)
        by Greater new all rest = let both = rest new all.1 in (both.0, (all.0, both.1))

    each_put : (es ps : List (K × V)) → Distinct es ps → AllPass P (put exact es ps) → AllPass P es × AllPass P ps
    each_put es [] d all = (all, tt)
    each_put es (p ∷ ps) d all =
        let rest = each_put (insert_entry cmp es p.0 p.1) ps d.1 all in
        let one = out_of es p.0 p.1 d.0 rest.0 in
        (one.1, (one.0, rest.1))

    -- the keys of the entries are among what was declared before
    abbrev Known : List (K × V) → List Declared → Type 0
    Known es before = (k : K) → contains cmp (keys_of es) k ≡ true → list_any (same_declared (wrap k)) before ≡ true

    known_more : (es : List (K × V)) (before : List Declared) (d : Declared) → Known es before → Known es (before ++ d ∷ [])
    known_more es before d known k e = list_any-append (same_declared (wrap k)) before (d ∷ []) ∙ or_left (list_any (same_declared (wrap k)) before) (same_declared (wrap k) d || false) (known k e)

    known_put : (es : List (K × V)) (p : K × V) (before : List Declared) → Known es before → Known (insert_entry cmp es p.0 p.1) (before ++ wrap p.0 ∷ [])
    known_put es p before known k e = list_any-append (same_declared (wrap k)) before (wrap p.0 ∷ [])
        ∙ by (is_at (cmp p.0) k) refl (sym (contains-keys_of exact.total es (insert_entry cmp es p.0 p.1) p.0 p.1 (get-insert_entry exact.total es p.0 p.1) k) ∙ e)
      where
        by : (b : Bool) → is_at (cmp p.0) k ≡ b → cond b true (contains cmp (keys_of es) k) ≡ true → (list_any (same_declared (wrap k)) before || (same_declared (wrap k) (wrap p.0) || false)) ≡ true
        by true is e = or_right (list_any (same_declared (wrap k)) before) (same_declared (wrap k) (wrap p.0) || false) (or_left (same_declared (wrap k) (wrap p.0)) false (same k p.0 ∙ is))
        by false is e = or_left (list_any (same_declared (wrap k)) before) (same_declared (wrap k) (wrap p.0) || false) (known k e)

    new_key : (es : List (K × V)) (k : K) (before : List Declared) → Known es before → list_any (same_declared (wrap k)) before ≡ false → contains cmp (keys_of es) k ≡ false
    new_key es k before known none = by (contains cmp (keys_of es) k) refl
      where
        by : (b : Bool) → contains cmp (keys_of es) k ≡ b → b ≡ false
        by true is = sym (known k is) ∙ none
        by false is = refl

    distinct : (es ps : List (K × V)) (before ds : List Declared) → Among ps ds → NoneAgain same_declared before ds → Known es before → Distinct es ps
    distinct es _ before _ stop none known = tt
    distinct es _ before _ (skip {d} {ps} {ds} a) none known = distinct es ps (before ++ d ∷ []) ds a none.1 (known_more es before d known)
    distinct es _ before _ (here p {ps} {ds} a) none known =
        (new_key es p.0 before known none.0, distinct (insert_entry cmp es p.0 p.1) ps (before ++ wrap p.0 ∷ []) ds a none.1 (known_put es p before known))

    nothing_known : Known [] []
    nothing_known k e = e

    -- what holds of the entries of the map holds of each pair
    each_pair : (ps : List (K × V)) (ds : List Declared) → Among ps ds → NoneAgain same_declared [] ds → AllPass P (map_of cmp ps) → AllPass P ps
    each_pair ps ds a none all = (each_put [] ps (distinct [] ps [] ds a none nothing_known) all).1

module _ (all : List Namespace) (once : NoneAgain same_declared [] (all_declared all)) where
  pub each_common : (P : FullName × Written NameReference → Type 0) → AllPass P (common_types_in all) → AllPass P (flat_map (λ ns. ns.common_types) all)
  each_common P h = each_pair CommonType names_exact (λ a b. refl) P (flat_map (λ ns. ns.common_types) all) (all_declared all) (among_all CommonType (λ ns. ns.common_types) of_one all) once h
    where
      of_one : (ns : Namespace) → Among CommonType ns.common_types (declared_in ns)
      of_one ns = subst (λ l. Among CommonType l (declared_in ns)) (append-nil ns.common_types)
          (among_append CommonType ns.common_types [] (map CommonType (keys_of ns.common_types)) (map EntityType (keys_of ns.entity_types) ++ map Action (keys_of ns.actions))
          (among_keys CommonType ns.common_types) (among_none CommonType (map EntityType (keys_of ns.entity_types) ++ map Action (keys_of ns.actions))))

  pub each_entity_type : (P : FullName × EntityDefinition NameReference → Type 0) → AllPass P (entity_types_in all) → AllPass P (flat_map (λ ns. ns.entity_types) all)
  each_entity_type P h = each_pair EntityType names_exact (λ a b. refl) P (flat_map (λ ns. ns.entity_types) all) (all_declared all) (among_all EntityType (λ ns. ns.entity_types) of_one all) once h
    where
      of_one : (ns : Namespace) → Among EntityType ns.entity_types (declared_in ns)
      of_one ns = subst (λ l. Among EntityType l (declared_in ns)) (append-nil ns.entity_types)
          (among_append EntityType [] (ns.entity_types ++ []) (map CommonType (keys_of ns.common_types)) (map EntityType (keys_of ns.entity_types) ++ map Action (keys_of ns.actions))
          (among_none EntityType (map CommonType (keys_of ns.common_types)))
          (among_append EntityType ns.entity_types [] (map EntityType (keys_of ns.entity_types)) (map Action (keys_of ns.actions))
          (among_keys EntityType ns.entity_types) (among_none EntityType (map Action (keys_of ns.actions)))))

  pub each_action : (P : Uid × ActionDefinition NameReference ActionReference → Type 0) → AllPass P (actions_in all) → AllPass P (flat_map (λ ns. ns.actions) all)
  each_action P h = each_pair Action uids_exact (λ a b. refl) P (flat_map (λ ns. ns.actions) all) (all_declared all) (among_all Action (λ ns. ns.actions) of_one all) once h
    where
      of_one : (ns : Namespace) → Among Action ns.actions (declared_in ns)
      of_one ns = among_append Action [] ns.actions (map CommonType (keys_of ns.common_types)) (map EntityType (keys_of ns.entity_types) ++ map Action (keys_of ns.actions))
          (among_none Action (map CommonType (keys_of ns.common_types)))
          (among_append Action [] ns.actions (map EntityType (keys_of ns.entity_types)) (map Action (keys_of ns.actions))
          (among_none Action (map EntityType (keys_of ns.entity_types))) (among_keys Action ns.actions))
