-- SPDX-License-Identifier: Apache-2.0
-- Whether a chain of steps leads from one item to another is decided where steps are, and where all that have one are listed.
use Rattle.std.proofs.Common.{◌≡◌, ◌↔◌, ◌⊎◌, inl, inr, Bool, true, false, ◌||◌, ◌&&◌, if◌then◌else◌, IsTrue, List, [], ◌∷◌, refl, sym, ap, ◌∙◌, subst, ⊎_elim}
use Rattle.std.proofs.lemmas.Cmp.{tied_itself}
use Rattle.std.proofs.lemmas.List.Kept.{IsStrictlySortedBy-filter}
use Rattle.std.specs.BTreeMap.{is_at}
use Rattle.std.specs.Cmp.{Equal-is}
use Rattle.std.specs.List.{filter}
use Rattle.std.specs.List.Sorted.{IsStrictlySortedBy}
use Rattle.std.specs.Ordering.{is_eq}
use Rattle.std.specs.declared.cmp.Ordering.{Ordering}
use Rattle.cedar_types.specs.of_closure.Chains.{Reaches, one, more}
use Rattle.cedar_data.proofs.Exact.{IsExact}
use Rattle.cedar_data.specs.Firsts.{SomePasses}
use Rattle.cedar_data.specs.Sets.{IsSetOf, contains}

-- ---- booleans

pub either_true : (x y : Bool) → (x || y) ≡ true → (x ≡ true) ⊎ (y ≡ true)
either_true true y e = inl refl
either_true false y e = inr e

both_true : (x y : Bool) → (x && y) ≡ true → (x ≡ true) × (y ≡ true)
both_true true y e = (refl, e)
both_true false y e = absurd (cc)

pub first_true : (x y : Bool) → x ≡ true → (x || y) ≡ true
first_true x y e = ap (λ b. b || y) e

pub second_true : (x y : Bool) → y ≡ true → (x || y) ≡ true
second_true true y e = refl
second_true false y e = e

and_true : (x y : Bool) → x ≡ true → y ≡ true → (x && y) ≡ true
and_true x y d e = ap (λ b. b && y) d ∙ e

never : false ≡ true → ⊥
never e = cc

-- ---- chains

-- one chain behind another
joined : {A : Type 0} {Step : A → A → Type 0} {a b c : A} → Reaches Step a b → Reaches Step b c → Reaches Step a c
joined (one s) r = more s r
joined (more s q) r = more s (joined q r)

-- x is one of the list
abbrev pub Among : {A : Type 0} → List A → A → Type 0
Among xs x = SomePasses (λ y. y ≡ x) xs

-- a chain between whose ends only these stand
data Through {A : Type 0} (Step : A → A → Type 0) (ns : List A) : A → A → Type 0 where
  direct : {a b : A} → Step a b → Through Step ns a b
  past : {a b c : A} → Step a c → Among ns c → Through Step ns c b → Through Step ns a b

module _ {A : Type 0} {Step : A → A → Type 0} (n : A) (ns : List A) where
  -- behind an item that is the first of them
  behind : {b c : A} → n ≡ c → Through Step ns c b ⊎ (Through Step ns c n × Through Step ns n b) → Through Step ns n b
  behind {b} same (inl t) = subst (λ x. Through Step ns x b) (sym same) t
  behind same (inr p) = p.1

  -- before others
  before : {a b c : A} → Step a c → Among ns c → Through Step ns c b ⊎ (Through Step ns c n × Through Step ns n b) → Through Step ns a b ⊎ (Through Step ns a n × Through Step ns n b)
  before s among (inl t) = inl (past s among t)
  before s among (inr p) = inr (past s among p.0, p.1)

  -- a chain passes the first of them or not
  parted : {a b : A} → Through Step (n ∷ ns) a b → Through Step ns a b ⊎ (Through Step ns a n × Through Step ns n b)
  parted (direct s) = inl (direct s)
  parted (past {a} s (inl same) r) = inr (direct (subst (Step a) (sym same) s), behind same (parted r))
  parted (past s (inr among) r) = before s among (parted r)

module _ {A : Type 0} (Step : A → A → Type 0) (step : A → A → Bool) (decides : (a b : A) → IsTrue (step a b) ↔ Step a b) where
  -- whether a chain leads from one to another, between whose ends only these stand
  abbrev pub via : List A → A → A → Bool
  via [] a b = step a b
  via (n ∷ ns) a b = via ns a b || (via ns a n && via ns n b)

  via-leads : (ns : List A) (a b : A) → via ns a b ≡ true → Reaches Step a b
  via-leads [] a b is = one ((decides a b).0 is)
  via-leads (n ∷ ns) a b is = ⊎_elim (via-leads ns a b)
      (λ h. let p = both_true (via ns a n) (via ns n b) h in joined (via-leads ns a n p.0) (via-leads ns n b p.1))
      (either_true (via ns a b) (via ns a n && via ns n b) is)

  through-via : (ns : List A) (a b : A) → Through Step ns a b → via ns a b ≡ true
  through-via [] a b (direct s) = (decides a b).1 s
  through-via [] a b (past s none r) = absurd none
  through-via (n ∷ ns) a b t = ⊎_elim
      (λ h. first_true (via ns a b) (via ns a n && via ns n b) (through-via ns a b h))
      (λ h. second_true (via ns a b) (via ns a n && via ns n b) (and_true (via ns a n) (via ns n b) (through-via ns a n h.0) (through-via ns n b h.1)))
      (parted n ns t)

  module _ (nodes : List A) (sources : (a b : A) → Step a b → Among nodes a) where
    source : {a b : A} → Reaches Step a b → Among nodes a
    source {a} (one {b = b} s) = sources a b s
    source {a} (more {b = b} s r) = sources a b s

    through : {a b : A} → Reaches Step a b → Through Step nodes a b
    through (one s) = direct s
    through (more s r) = past s (source r) (through r)

    -- a chain leads from one to another where this says so
    pub reached : (a b : A) → IsTrue (via nodes a b) ↔ Reaches Step a b
    reached a b = (via-leads nodes a b, λ r. through-via nodes a b (through r))

-- ---- sets

module _ {A : Type 0} {cmp : A → A → Ordering} (order : IsExact cmp) where
  pub at-same : (key x : A) → is_at (cmp key) x ≡ true → x ≡ key
  at-same key x is = sym (order.exact key x ((Equal-is (cmp key x)).0 is))

  pub same-at : (key x : A) → x ≡ key → is_at (cmp key) x ≡ true
  same-at key x same = ap (λ y. is_at (cmp key) y) same ∙ ap is_eq (tied_itself order.total key)

  pub among-found : (key : A) (xs : List A) → contains cmp xs key ≡ true → Among xs key
  among-found key [] is = absurd (cc)
  among-found key (x ∷ xs) is = ⊎_elim (λ h. inl (at-same key x h)) (λ h. inr (among-found key xs h)) (either_true (is_at (cmp key) x) (contains cmp xs key) is)

  pub found-among : (key : A) (xs : List A) → Among xs key → contains cmp xs key ≡ true
  found-among key [] none = absurd none
  found-among key (x ∷ xs) (inl same) = first_true (is_at (cmp key) x) (contains cmp xs key) (same-at key x same)
  found-among key (x ∷ xs) (inr among) = second_true (is_at (cmp key) x) (contains cmp xs key) (found-among key xs among)

  module _ (p : A → Bool) where
    kept : (key : A) (xs : List A) → Among xs key → p key ≡ true → Among (filter p xs) key
    kept key [] none is = absurd none
    kept key (x ∷ xs) among is = by (p x) refl among (λ rest. kept key xs rest is)
      where
        by : (b : Bool) → p x ≡ b → Among (x ∷ xs) key → (Among xs key → Among (filter p xs) key) → Among (if b then x ∷ filter p xs else filter p xs) key
        by true at (inl same) later = inl same
        by true at (inr rest) later = inr (later rest)
        by false at (inl same) later = absurd (never (sym at ∙ ap p same ∙ is))
        by false at (inr rest) later = later rest

    passed : (key : A) (xs : List A) → Among (filter p xs) key → p key ≡ true
    passed key [] none = absurd none
    passed key (x ∷ xs) among = by (p x) refl among (passed key xs)
      where
        by : (b : Bool) → p x ≡ b → Among (if b then x ∷ filter p xs else filter p xs) key → (Among (filter p xs) key → p key ≡ true) → p key ≡ true
        by true at (inl same) later = sym (ap p same) ∙ at
        by true at (inr rest) later = later rest
        by false at rest later = later rest

  -- those of the list that pass a test are the set of those of which it decides that, where all of these stand in the list
  pub filtered_set : (p : A → Bool) (P : A → Type 0) → ((key : A) → IsTrue (p key) ↔ P key) → (xs : List A) → IsStrictlySortedBy cmp xs → ((key : A) → P key → Among xs key) → IsSetOf cmp P (filter p xs)
  filtered_set p P decides xs ascends all = record {
    ascends = IsStrictlySortedBy-filter cmp p xs ascends;
    members = λ key. (
      λ is. (decides key).0 (passed p key xs (among-found key (filter p xs) is)),
      λ holds. found-among key (filter p xs) (kept p key xs (all key holds) ((decides key).1 holds)),
    );
  }
