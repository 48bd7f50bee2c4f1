-- SPDX-License-Identifier: Apache-2.0
-- Ancestors of actions, noted one after another.
use Rattle.std.proofs.Common.{◌≡◌, ◌||◌, Bool, true, false, cond, List, [], ◌∷◌, ◌++◌, Some, None, filter, refl, sym, ap, ◌∙◌, subst, append_assoc}
use Rattle.std.proofs.lemmas.Cmp.{eq_by_cmp_equiv}
use Rattle.std.proofs.lemmas.List.{append-nil}
use Rattle.std.specs.BTreeMap.{is_at}
use Rattle.std.specs.List.{AllByRecursion}
use Rattle.std.specs.List.Sorted.{IsStrictlySortedBy}
use Rattle.std.specs.Map.{keys_of, lookup}
use Rattle.std.specs.Option.{unwrap_or}
use Rattle.std.specs.Ordering.{is_eq}
use Rattle.std.specs.declared.cmp.Ordering.TheVariants.{Less}
use Rattle.cedar_data.specs.Maps.{get}
use Rattle.cedar_data.specs.Sets.{contains}
use Rattle.cedar_names.specs.declared.entity_uid.EntityUID.{EntityUID}
use Rattle.cedar_resolved.proofs.EnvironmentCounts.{uid_total}
use Rattle.cedar_resolved.proofs.KeyCounts.{not_above}
use Rattle.cedar_resolved.specs.Ancestors.{noted_of, one_where}
use Rattle.cedar_resolved.specs.Queries.{action_is_above, actions_above}
use Rattle.cedar_resolved.specs.Schemas.{uid_cmp}
use Rattle.cedar_resolved.specs.declared.action.ValidatorActionId.{ValidatorActionId}

abbrev Noted : Type 0
Noted = List (EntityUID × List EntityUID)

-- the ancestors of an action taken out, one more put behind them, and all put back
pub put_behind : (old mid new : Noted) (uid ancestor : EntityUID) (before after : List EntityUID)
    → before ≡ noted_of old uid → after ≡ before ++ ancestor ∷ []
    → ((other : EntityUID) → get uid_cmp mid other ≡ cond (is_at (uid_cmp uid) other) None (get uid_cmp old other))
    → ((other : EntityUID) → get uid_cmp new other ≡ cond (is_at (uid_cmp uid) other) (Some after) (get uid_cmp mid other))
    → (other : EntityUID) → noted_of new other ≡ noted_of old other ++ one_where (is_at (uid_cmp other) uid) ancestor
put_behind old mid new uid ancestor before after taken behind out put other = by (is_at (uid_cmp uid) other) refl
  where
    by : (t : Bool) → is_at (uid_cmp uid) other ≡ t → noted_of new other ≡ noted_of old other ++ one_where (is_at (uid_cmp other) uid) ancestor
    by true e =
        let found : get uid_cmp new other ≡ Some after = put other ∙ ap (λ t. cond t (Some after) (get uid_cmp mid other)) e in
        let same : get uid_cmp old uid ≡ get uid_cmp old other = ap (λ test. lookup test old) (λ i k. (eq_by_cmp_equiv uid_total).congr uid other k e i) in
        ap (λ o. unwrap_or o []) found
        ∙ behind
        ∙ ap (λ names. names ++ ancestor ∷ []) (taken ∙ ap (λ o. unwrap_or o []) same)
        ∙ ap (λ t. noted_of old other ++ one_where t ancestor) (sym ((eq_by_cmp_equiv uid_total).symm other uid ∙ e))
    by false e =
        ap (λ o. unwrap_or o []) (put other ∙ ap (λ t. cond t (Some after) (get uid_cmp mid other)) e ∙ out other ∙ ap (λ t. cond t None (get uid_cmp old other)) e)
        ∙ sym (append-nil (noted_of old other))
        ∙ ap (λ t. noted_of old other ++ one_where t ancestor) (sym ((eq_by_cmp_equiv uid_total).symm other uid ∙ e))

-- of keys above one that is equal to q, none is equal to q
none_equal : (q k : EntityUID) (ks : List EntityUID) → is_at (uid_cmp q) k ≡ true → AllByRecursion (λ x. uid_cmp k x ≡ Less) ks → contains uid_cmp ks q ≡ false
none_equal q k [] same all = refl
none_equal q k (x ∷ ks) same all =
    ap (λ t. t || contains uid_cmp ks q) (not_above uid_total q k x same all.0) ∙ none_equal q k ks same all.1

-- one where the first test holds, and then one where the second does
one_of_two : (t s : Bool) (key : EntityUID) → (t ≡ true → s ≡ false) → one_where t key ++ one_where s key ≡ one_where (t || s) key
one_of_two true s key apart = ap (λ b. key ∷ one_where b key) (apart refl)
one_of_two false s key apart = refl

-- the action is noted of its first descendants; once noted of those that are left, it is noted of all
pub record Notes (name : EntityUID) (all left : List EntityUID) (old now : Noted) : Type 0 where
  pub ascends : IsStrictlySortedBy uid_cmp left
  pub told : (uid : EntityUID) → noted_of now uid ++ one_where (contains uid_cmp left uid) name ≡ noted_of old uid ++ one_where (contains uid_cmp all uid) name

-- noted of the next one
pub notes_next : (name : EntityUID) (all left rest : List EntityUID) (next key ancestor : EntityUID) (old now new : Noted)
    → left ≡ next ∷ rest → key ≡ next → ancestor ≡ name
    → ((uid : EntityUID) → noted_of new uid ≡ noted_of now uid ++ one_where (is_at (uid_cmp uid) key) ancestor)
    → Notes name all left old now → Notes name all rest old new
unfolding IsStrictlySortedBy
notes_next name all left rest next key ancestor old now new first same named put notes =
    record {
      ascends = ordered.1;
      told = λ uid.
          ap (λ names. names ++ one_where (contains uid_cmp rest uid) name) (put uid ∙ (λ i. noted_of now uid ++ one_where (is_at (uid_cmp uid) (same i)) (named i)))
          ∙ append_assoc (noted_of now uid) (one_where (is_at (uid_cmp uid) next) name) (one_where (contains uid_cmp rest uid) name)
          ∙ ap (λ names. noted_of now uid ++ names) (one_of_two (is_at (uid_cmp uid) next) (contains uid_cmp rest uid) name (λ e. none_equal uid next rest e ordered.0))
          ∙ ap (λ ks. noted_of now uid ++ one_where (contains uid_cmp ks uid) name) (sym first)
          ∙ notes.told uid;
    }
  where
    ordered : IsStrictlySortedBy uid_cmp (next ∷ rest)
    ordered = subst (λ ks. IsStrictlySortedBy uid_cmp ks) first notes.ascends

-- one action more noted of its descendants
pub action_noted : (uid : EntityUID) (left rest : List (EntityUID × ValidatorActionId)) (name : EntityUID) (action : ValidatorActionId) (now new : Noted) (whole : List EntityUID)
    → left ≡ (name, action) ∷ rest
    → noted_of new uid ≡ noted_of now uid ++ one_where (action_is_above uid (name, action)) name
    → noted_of now uid ++ actions_above uid left ≡ whole
    → noted_of new uid ++ actions_above uid rest ≡ whole
action_noted uid left rest name action now new whole first put so_far =
    ap (λ names. names ++ actions_above uid rest) put
    ∙ append_assoc (noted_of now uid) (one_where (action_is_above uid (name, action)) name) (actions_above uid rest)
    ∙ ap (λ names. noted_of now uid ++ names) (by (action_is_above uid (name, action)))
    ∙ ap (λ es. noted_of now uid ++ actions_above uid es) (sym first)
    ∙ so_far
  where
    by : (t : Bool) → one_where t name ++ actions_above uid rest ≡ keys_of (cond t ((name, action) ∷ filter (action_is_above uid) rest) (filter (action_is_above uid) rest))
    by true = refl
    by false = refl

-- the ancestors of the actions that are left are noted
abbrev pub AllNoted : List (EntityUID × ValidatorActionId) → Noted → List (EntityUID × ValidatorActionId) → Type 0
AllNoted actions noted left = AllByRecursion (λ e. noted_of noted e.0 ≡ actions_above e.0 actions) left

-- they stay noted where those of an action below are taken out
pub still_noted : (actions rest : List (EntityUID × ValidatorActionId)) (name : EntityUID) (old new : Noted)
    → AllByRecursion (λ k. uid_cmp name k ≡ Less) (keys_of rest)
    → ((other : EntityUID) → get uid_cmp new other ≡ cond (is_at (uid_cmp name) other) None (get uid_cmp old other))
    → AllNoted actions old rest → AllNoted actions new rest
still_noted actions [] name old new below out noted = tt
still_noted actions (e ∷ rest) name old new below out noted = (
  ap (λ o. unwrap_or o []) (out e.0 ∙ ap (λ o. cond (is_eq o) None (get uid_cmp old e.0)) below.0) ∙ noted.0,
  still_noted actions rest name old new below.1 out noted.1,
)

-- what is noted from the beginning is noted of all that are left
pub noted_at_first : (actions left : List (EntityUID × ValidatorActionId)) (noted : Noted) → ((uid : EntityUID) → noted_of noted uid ≡ actions_above uid actions) → AllNoted actions noted left
noted_at_first actions [] noted told = tt
noted_at_first actions (e ∷ left) noted told = (told e.0, noted_at_first actions left noted told)
