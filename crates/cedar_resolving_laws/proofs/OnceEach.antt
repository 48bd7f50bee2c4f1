-- SPDX-License-Identifier: Apache-2.0
-- Nothing stands twice, in whatever order; and so the keys of what is declared differ.
use Rattle.std.proofs.Common.{◌≡◌, ◌||◌, ◌++◌, Bool, true, false, List, [], ◌∷◌, map, Option, Some, None, refl, sym, ap, ◌∙◌, subst}
use Rattle.std.proofs.lemmas.List.Folds.{list_any-append}
use Rattle.std.specs.BTreeMap.{is_at}
use Rattle.std.proofs.lemmas.List.{append-nil}
use Rattle.std.proofs.lemmas.List.Elements.{filter_map-append}
use Rattle.std.specs.List.{cons_option, filter_map, flat_map, list_any}
use Rattle.std.specs.Map.{keys_of}
use Rattle.std.specs.Ordering.{is_eq, ordering_reverse}
use Rattle.std.specs.declared.cmp.Ordering.{Ordering}
use Rattle.std.specs.declared.cmp.Ordering.TheVariants.{Less, Equal, Greater}
use Rattle.cedar_data.specs.Firsts.{AllPass, NoneAgain}
use Rattle.cedar_duplicates.specs.Duplicates.{Action, CommonType, Declared, EntityType, same_declared}
use Rattle.cedar_names.specs.Order.{words_cmp}
use Rattle.cedar_resolving_laws.proofs.Reordering.{Each2}
use Rattle.cedar_schema_error.specs.FullNames.{FullName, Uid, uid_cmp}
use Rattle.cedar_phases.specs.of_sound.Sound.{all_declared, declared_in}
use Rattle.cedar_phases.proofs.of_sound.NameOrders.{names_exact, uids_exact}
use Rattle.cedar_world.specs.Definitions.{Namespace}

module _ {A : Type 0} (same : A → A → Bool) where
  -- the second of two is not the first
  abbrev pub Apart : A → A → Type 0
  Apart x y = same y x ≡ false

  left_false : (a b : Bool) → (a || b) ≡ false → a ≡ false
  left_false true b e = e
  left_false false b e = refl

  right_false : (a b : Bool) → (a || b) ≡ false → b ≡ false
  right_false true b e = absurd (cc)
  right_false false b e = e

  -- none of these is one of those before
  outside : (before xs : List A) → NoneAgain same before xs → AllPass (λ x. list_any (same x) before ≡ false) xs
  outside before [] n = tt
  outside before (x ∷ xs) n = (n.0, dropped xs (outside (before ++ x ∷ []) xs n.1))
    where
      dropped : (ys : List A) → AllPass (λ y. list_any (same y) (before ++ x ∷ []) ≡ false) ys → AllPass (λ y. list_any (same y) before ≡ false) ys
      dropped [] h = tt
      dropped (y ∷ ys) h = (left_false (list_any (same y) before) (list_any (same y) (x ∷ [])) (sym (list_any-append (same y) before (x ∷ [])) ∙ h.0), dropped ys h.1)

  last_apart : (before : List A) (x : A) (ys : List A) → AllPass (λ y. list_any (same y) (before ++ x ∷ []) ≡ false) ys → AllPass (Apart x) ys
  last_apart before x [] h = tt
  last_apart before x (y ∷ ys) h = (left_false (same y x) false (right_false (list_any (same y) before) (list_any (same y) (x ∷ [])) (sym (list_any-append (same y) before (x ∷ [])) ∙ h.0)), last_apart before x ys h.1)

  -- so each two are apart
  pub apart_each : (before xs : List A) → NoneAgain same before xs → Each2 Apart xs
  apart_each before [] n = tt
  apart_each before (x ∷ xs) n = (last_apart before x xs (outside (before ++ x ∷ []) xs n.1), apart_each (before ++ x ∷ []) xs n.1)

  or_false : (a b : Bool) → a ≡ false → b ≡ false → (a || b) ≡ false
  or_false true b p q = absurd (cc)
  or_false false b p q = q

  -- and the other way round
  none_again : (before xs : List A) → AllPass (λ x. list_any (same x) before ≡ false) xs → Each2 Apart xs → NoneAgain same before xs
  none_again before [] out h = tt
  none_again before (x ∷ xs) out h = (out.0, none_again (before ++ x ∷ []) xs (added xs out.1 h.0) h.1)
    where
      added : (ys : List A) → AllPass (λ y. list_any (same y) before ≡ false) ys → AllPass (Apart x) ys → AllPass (λ y. list_any (same y) (before ++ x ∷ []) ≡ false) ys
      added [] p q = tt
      added (y ∷ ys) p q = (list_any-append (same y) before (x ∷ []) ∙ or_false (list_any (same y) before) (list_any (same y) (x ∷ [])) p.0 (or_false (same y x) false q.0 refl), added ys p.1 q.1)

  pub once_of_apart : (xs : List A) → Each2 Apart xs → NoneAgain same [] xs
  once_of_apart xs h = none_again [] xs (all_out xs) h
    where
      all_out : (xs : List A) → AllPass (λ x. list_any (same x) [] ≡ false) xs
      all_out [] = tt
      all_out (x ∷ xs) = (refl, all_out xs)

eq_turned : (o : Ordering) → is_eq (ordering_reverse o) ≡ is_eq o
eq_turned Less = refl
eq_turned Equal = refl
eq_turned Greater = refl

-- what is declared is one as the other is
same_turned : (a b : Declared) → same_declared a b ≡ same_declared b a
same_turned (CommonType a) (CommonType b) = ap is_eq (names_exact.total.antisymm b a) ∙ eq_turned (words_cmp a b)
same_turned (EntityType a) (EntityType b) = ap is_eq (names_exact.total.antisymm b a) ∙ eq_turned (words_cmp a b)
same_turned (Action a) (Action b) = ap is_eq (uids_exact.total.antisymm b a) ∙ eq_turned (uid_cmp a b)
same_turned (CommonType a) (EntityType b) = refl
same_turned (CommonType a) (Action b) = refl
same_turned (EntityType a) (CommonType b) = refl
same_turned (EntityType a) (Action b) = refl
same_turned (Action a) (CommonType b) = refl
same_turned (Action a) (EntityType b) = refl

pub apart_turned : (a b : Declared) → Apart same_declared a b → Apart same_declared b a
apart_turned a b h = same_turned a b ∙ h

-- ---- the keys of each kind

module _ {J : Type 0} (kept : Declared → Option J) where
  keeps_all : (f : J → Declared) → ((j : J) → kept (f j) ≡ Some j) → (js : List J) → filter_map kept (map f js) ≡ js
  keeps_all f is [] = refl
  keeps_all f is (j ∷ js) = λ i. cons_option (is j i) (keeps_all f is js i)

  keeps_none : {X : Type 0} (f : X → Declared) → ((x : X) → kept (f x) ≡ None) → (xs : List X) → filter_map kept (map f xs) ≡ []
  keeps_none f is [] = refl
  keeps_none f is (x ∷ xs) = λ i. cons_option (is x i) (keeps_none f is xs i)

  module _ (P : J → J → Type 0) (keeps : (a b : Declared) (x y : J) → Apart same_declared a b → kept a ≡ Some x → kept b ≡ Some y → P x y) where
    pass_kept : (a : Declared) (x : J) → kept a ≡ Some x → (bs : List Declared) → AllPass (Apart same_declared a) bs → AllPass (P x) (filter_map kept bs)
    pass_kept a x is [] h = tt
    pass_kept a x is (b ∷ bs) h = by (kept b) refl (pass_kept a x is bs h.1)
      where
        by : (o : Option J) → kept b ≡ o → AllPass (P x) (filter_map kept bs) → AllPass (P x) (cons_option o (filter_map kept bs))
        by None e rest = rest
        by (Some y) e rest = (keeps a b x y h.0 is e, rest)

    -- what is kept of each two
    each2_kept : (ds : List Declared) → Each2 (Apart same_declared) ds → Each2 P (filter_map kept ds)
    each2_kept [] h = tt
    each2_kept (d ∷ ds) h = by (kept d) refl (each2_kept ds h.1)
      where
        by : (o : Option J) → kept d ≡ o → Each2 P (filter_map kept ds) → Each2 P (cons_option o (filter_map kept ds))
        by None e rest = rest
        by (Some x) e rest = (pass_kept d x e ds h.0, rest)

  -- what is kept of namespaces is what f gives of each
  kept_of_all : (f : Namespace → List J) → ((ns : Namespace) → filter_map kept (declared_in ns) ≡ f ns) → (all : List Namespace) → filter_map kept (all_declared all) ≡ flat_map f all
  kept_of_all f is [] = refl
  kept_of_all f is (ns ∷ all) = filter_map-append kept (declared_in ns) (all_declared all) ∙ (λ i. is ns i ++ kept_of_all f is all i)

keys_append : {K V : Type 0} (xs ys : List (K × V)) → keys_of (xs ++ ys) ≡ keys_of xs ++ keys_of ys
keys_append [] ys = refl
keys_append (x ∷ xs) ys = ap (λ ks. x.0 ∷ ks) (keys_append xs ys)

pub keys_flat : {X K V : Type 0} (f : X → List (K × V)) (xs : List X) → keys_of (flat_map f xs) ≡ flat_map (λ x. keys_of (f x)) xs
keys_flat f [] = refl
keys_flat f (x ∷ xs) = keys_append (f x) (flat_map f xs) ∙ ap (λ ks. keys_of (f x) ++ ks) (keys_flat f xs)

-- of each two keys, so of each two entries
entries_pass : {K V : Type 0} (P : K → K → Type 0) (x : K) (es : List (K × V)) → AllPass (P x) (keys_of es) → AllPass (λ e. P x e.0) es
entries_pass P x [] h = tt
entries_pass P x (e ∷ es) h = (h.0, entries_pass P x es h.1)

entries_each2 : {K V : Type 0} (P : K → K → Type 0) (es : List (K × V)) → Each2 P (keys_of es) → Each2 (λ a b. P a.0 b.0) es
entries_each2 P [] h = tt
entries_each2 P (e ∷ es) h = (entries_pass P e.0 es h.0, entries_each2 P es h.1)

-- names that differ
abbrev pub NamesDiffer : FullName → FullName → Type 0
NamesDiffer a b = words_cmp a b ≡ Equal → ⊥

abbrev pub UidsDiffer : Uid → Uid → Type 0
UidsDiffer a b = uid_cmp a b ≡ Equal → ⊥

common_of : Declared → Option FullName
common_of (CommonType n) = Some n
common_of (EntityType n) = None
common_of (Action u) = None

entity_of : Declared → Option FullName
entity_of (CommonType n) = None
entity_of (EntityType n) = Some n
entity_of (Action u) = None

action_of : Declared → Option Uid
action_of (CommonType n) = None
action_of (EntityType n) = None
action_of (Action u) = Some u

no_true : false ≡ true → ⊥
no_true e = absurd (cc)

inside : {A : Type 0} (a b : A) → Some a ≡ Some b → a ≡ b
inside a b e = cc

names_apart : (a b x y : FullName) → is_at (words_cmp a) b ≡ false → a ≡ x → b ≡ y → words_cmp x y ≡ Equal → ⊥
names_apart a b x y h p q is = no_true (sym h ∙ ap is_eq ((λ i. words_cmp (p i) (q i)) ∙ is))

uids_apart : (a b x y : Uid) → is_at (uid_cmp a) b ≡ false → a ≡ x → b ≡ y → uid_cmp x y ≡ Equal → ⊥
uids_apart a b x y h p q is = no_true (sym h ∙ ap is_eq ((λ i. uid_cmp (p i) (q i)) ∙ is))

commons_differ : (a b : Declared) (x y : FullName) → Apart same_declared a b → common_of a ≡ Some x → common_of b ≡ Some y → NamesDiffer x y
unfolding common_of
commons_differ (CommonType a) (CommonType b) x y h p q = names_apart a b x y h (inside a x p) (inside b y q)
commons_differ (CommonType a) (EntityType b) x y h p q = absurd (cc)
commons_differ (CommonType a) (Action b) x y h p q = absurd (cc)
commons_differ (EntityType a) b x y h p q = absurd (cc)
commons_differ (Action a) b x y h p q = absurd (cc)

entities_differ : (a b : Declared) (x y : FullName) → Apart same_declared a b → entity_of a ≡ Some x → entity_of b ≡ Some y → NamesDiffer x y
unfolding entity_of
entities_differ (EntityType a) (EntityType b) x y h p q = names_apart a b x y h (inside a x p) (inside b y q)
entities_differ (EntityType a) (CommonType b) x y h p q = absurd (cc)
entities_differ (EntityType a) (Action b) x y h p q = absurd (cc)
entities_differ (CommonType a) b x y h p q = absurd (cc)
entities_differ (Action a) b x y h p q = absurd (cc)

actions_differ : (a b : Declared) (x y : Uid) → Apart same_declared a b → action_of a ≡ Some x → action_of b ≡ Some y → UidsDiffer x y
unfolding action_of
actions_differ (Action a) (Action b) x y h p q = uids_apart a b x y h (inside a x p) (inside b y q)
actions_differ (Action a) (CommonType b) x y h p q = absurd (cc)
actions_differ (Action a) (EntityType b) x y h p q = absurd (cc)
actions_differ (CommonType a) b x y h p q = absurd (cc)
actions_differ (EntityType a) b x y h p q = absurd (cc)

commons_kept : (ns : Namespace) → filter_map common_of (declared_in ns) ≡ keys_of ns.common_types
unfolding common_of
commons_kept ns =
    filter_map-append common_of (map CommonType (keys_of ns.common_types)) (map EntityType (keys_of ns.entity_types) ++ map Action (keys_of ns.actions))
    ∙ (λ i. keeps_all common_of CommonType (λ n. refl) (keys_of ns.common_types) i ++ (filter_map-append common_of (map EntityType (keys_of ns.entity_types)) (map Action (keys_of ns.actions))
    ∙ (λ j. keeps_none common_of EntityType (λ n. refl) (keys_of ns.entity_types) j ++ keeps_none common_of Action (λ u. refl) (keys_of ns.actions) j)) i)
    ∙ append-nil (keys_of ns.common_types)

entities_kept : (ns : Namespace) → filter_map entity_of (declared_in ns) ≡ keys_of ns.entity_types
unfolding entity_of
entities_kept ns =
    filter_map-append entity_of (map CommonType (keys_of ns.common_types)) (map EntityType (keys_of ns.entity_types) ++ map Action (keys_of ns.actions))
    ∙ (λ i. keeps_none entity_of CommonType (λ n. refl) (keys_of ns.common_types) i ++ (filter_map-append entity_of (map EntityType (keys_of ns.entity_types)) (map Action (keys_of ns.actions))
    ∙ (λ j. keeps_all entity_of EntityType (λ n. refl) (keys_of ns.entity_types) j ++ keeps_none entity_of Action (λ u. refl) (keys_of ns.actions) j)) i)
    ∙ append-nil (keys_of ns.entity_types)

actions_kept : (ns : Namespace) → filter_map action_of (declared_in ns) ≡ keys_of ns.actions
unfolding action_of
actions_kept ns =
    filter_map-append action_of (map CommonType (keys_of ns.common_types)) (map EntityType (keys_of ns.entity_types) ++ map Action (keys_of ns.actions))
    ∙ (λ i. keeps_none action_of CommonType (λ n. refl) (keys_of ns.common_types) i ++ (filter_map-append action_of (map EntityType (keys_of ns.entity_types)) (map Action (keys_of ns.actions))
    ∙ (λ j. keeps_none action_of EntityType (λ n. refl) (keys_of ns.entity_types) j ++ keeps_all action_of Action (λ u. refl) (keys_of ns.actions) j)) i)

module _ (all : List Namespace) (once : Each2 (Apart same_declared) (all_declared all)) where
  -- common types, entity types and actions have names that differ
  pub commons_each : Each2 (λ a b. NamesDiffer a.0 b.0) (flat_map (λ ns. ns.common_types) all)
  commons_each = entries_each2 NamesDiffer (flat_map (λ ns. ns.common_types) all)
      (subst (Each2 NamesDiffer) (kept_of_all common_of (λ ns. keys_of ns.common_types) commons_kept all ∙ sym (keys_flat (λ (ns : Namespace). ns.common_types) all)) (each2_kept common_of NamesDiffer commons_differ (all_declared all) once))

  pub entities_each : Each2 (λ a b. NamesDiffer a.0 b.0) (flat_map (λ ns. ns.entity_types) all)
  entities_each = entries_each2 NamesDiffer (flat_map (λ ns. ns.entity_types) all)
      (subst (Each2 NamesDiffer) (kept_of_all entity_of (λ ns. keys_of ns.entity_types) entities_kept all ∙ sym (keys_flat (λ (ns : Namespace). ns.entity_types) all)) (each2_kept entity_of NamesDiffer entities_differ (all_declared all) once))

  pub actions_each : Each2 (λ a b. UidsDiffer a.0 b.0) (flat_map (λ ns. ns.actions) all)
  actions_each = entries_each2 UidsDiffer (flat_map (λ ns. ns.actions) all)
      (subst (Each2 UidsDiffer) (kept_of_all action_of (λ ns. keys_of ns.actions) actions_kept all ∙ sym (keys_flat (λ (ns : Namespace). ns.actions) all)) (each2_kept action_of UidsDiffer actions_differ (all_declared all) once))
