-- SPDX-License-Identifier: Apache-2.0
-- Where no fault is found in an `appliesTo`, it has one list of each kind and at most one context, and the other way round.
use Rattle.std.proofs.Common.{◌≡◌, ℕ, Bool, true, false, cond, List, [], ◌∷◌, ◌++◌, filter, find, Option, Some, None, option_map, refl, sym, ap, ◌∙◌, append_assoc, subst}
use Rattle.std.specs.List.{AllByRecursion}
use Rattle.cedar_tree.specs.Trees.{Node, Place, Path, PR, Principal, Resource, AppDecl, Types, Context}
use Rattle.cedar_convert_errors.specs.declared.faults.ToJsonSchemaError.{ToJsonSchemaError}
use Rattle.cedar_convert_faults.specs.Conditions.{Applies, IsAtMostOne, IsOneList, lists_of, types_listed}
use Rattle.cedar_convert_faults.specs.Faults.{Clauses, applies_faults, clause_faults, fault_behind, faults_behind, first_place, is_context, is_like, lists_types, missing_at, missing_types, own_faults, same_scope}
use Rattle.cedar_convert_faults.specs.TypeRepeats.{repeat_fault, shape_repeat}
use Rattle.cedar_convert_faults.proofs.FaultLaws.{nothing_found, nothing_to_find}
use Rattle.cedar_convert_faults.proofs.ReadClauses.{place_added, place_kept}

-- what is wrong with a clause that is a context
abbrev pub context_faults : AppDecl → List ToJsonSchemaError
context_faults (Types which types) = []
context_faults (Context c) = repeat_fault (shape_repeat c)

-- clauses that pass a test
abbrev passing : (AppDecl → Bool) → Clauses → Clauses
passing p cs = filter (λ c. p c.node) cs

-- a kind of clauses: what passes is like each other that passes
abbrev IsKind : (AppDecl → Bool) → Type 0
IsKind p = (c : AppDecl) → p c ≡ true → is_like c ≡ p

lists_kind : (kind : PR) → IsKind (lists_types kind)
lists_kind kind (Types which types) same = ap lists_types (by which.node kind same)
  where
    by : (which kind : PR) → same_scope kind which ≡ true → which ≡ kind
    by Principal Principal same = refl
    by Resource Principal same = cc
    by Principal Resource same = cc
    by Resource Resource same = refl
lists_kind kind (Context c) same = cc

context_kind : IsKind is_context
context_kind (Types which types) same = cc
context_kind (Context c) same = refl

-- a clause is like itself
like_itself : (c : AppDecl) → is_like c c ≡ true
like_itself (Types which types) = by which.node
  where
    by : (kind : PR) → same_scope kind kind ≡ true
    by Principal = refl
    by Resource = refl
like_itself (Context c) = refl

-- of what a clause is like, there is a kind
like_kind : (c : AppDecl) → IsKind (is_like c)
like_kind (Types which types) = lists_kind which.node
like_kind (Context c) = context_kind

-- the first place where none passes, and where some do
no_place : (p : AppDecl → Bool) (cs : Clauses) → first_place p cs ≡ None → passing p cs ≡ []
no_place p [] e = refl
no_place p (c ∷ cs) e = by (p c.node) e (no_place p cs)
  where
    by : (b : Bool) → option_map (λ (d : Node AppDecl). d.loc) (cond b (Some c) (find (λ d. p d.node) cs)) ≡ None → (first_place p cs ≡ None → passing p cs ≡ []) → cond b (c ∷ passing p cs) (passing p cs) ≡ []
    by true e more = cc
    by false e more = more e

placeless : (p : AppDecl → Bool) (cs : Clauses) → passing p cs ≡ [] → first_place p cs ≡ None
placeless p [] e = refl
placeless p (c ∷ cs) e = by (p c.node) e (placeless p cs)
  where
    by : (b : Bool) → cond b (c ∷ passing p cs) (passing p cs) ≡ [] → (passing p cs ≡ [] → first_place p cs ≡ None) → option_map (λ (d : Node AppDecl). d.loc) (cond b (Some c) (find (λ d. p d.node) cs)) ≡ None
    by true e more = cc
    by false e more = more e

-- nothing is wrong with a clause exactly where none of its kind is before it and nothing is wrong with it alone
fine_before : (name : Node (List ℕ)) (first : Option Place) (c : Node AppDecl) → fault_behind name first c ≡ [] → (first ≡ None) × (own_faults name c.node c.loc ≡ [])
fine_before name None c e = (refl, (nothing_found ([] ∷ own_faults name c.node c.loc ∷ []) e).1.0)
fine_before name (Some place) c e = cc

-- nothing is wrong with the first, nor with the others
both_fine : (name : Node (List ℕ)) (before : Clauses) (c : Node AppDecl) (cs : Clauses) → faults_behind name before (c ∷ cs) ≡ [] → (clause_faults name before c ≡ []) × (faults_behind name (before ++ c ∷ []) cs ≡ [])
both_fine name before c cs e = let all = nothing_found (clause_faults name before c ∷ faults_behind name (before ++ c ∷ []) cs ∷ []) e in (all.0, all.1.0)

-- nothing is wrong with any clause alone
each_fine : (name : Node (List ℕ)) (before left : Clauses) → faults_behind name before left ≡ [] → AllByRecursion (λ c. own_faults name c.node c.loc ≡ []) left
each_fine name before [] e = tt
each_fine name before (c ∷ left) e =
    let both = both_fine name before c left e in
    ((fine_before name (first_place (is_like c.node) before) c both.0).1, each_fine name (before ++ c ∷ []) left both.1)

module _ (p : AppDecl → Bool) (kind : IsKind p) (name : Node (List ℕ)) where
  -- where one was before, none follows
  none_follows : (before left : Clauses) (place : Place) → first_place p before ≡ Some place → faults_behind name before left ≡ [] → passing p left ≡ []
  none_follows before [] place at e = refl
  none_follows before (c ∷ left) place at e = by (p c.node) refl (none_follows (before ++ c ∷ []) left place)
    where
      by : (b : Bool) → p c.node ≡ b → (first_place p (before ++ c ∷ []) ≡ Some place → faults_behind name (before ++ c ∷ []) left ≡ [] → passing p left ≡ []) → cond b (c ∷ passing p left) (passing p left) ≡ []
      by true is more =
          let none = (fine_before name (first_place (is_like c.node) before) c (both_fine name before c left e).0).0 in
          let not_there : Some place ≡ None = sym at ∙ ap (λ q. first_place q before) (sym (kind c.node is)) ∙ none in
          cc
      by false is more = more (place_kept p before c is ∙ at) (both_fine name before c left e).1

  -- where none was before, at most one follows
  one_follows : (before left : Clauses) → first_place p before ≡ None → faults_behind name before left ≡ [] → IsAtMostOne (passing p left)
  one_follows before [] none e = tt
  one_follows before (c ∷ left) none e = by (p c.node) refl (one_follows (before ++ c ∷ []) left)
    where
      by : (b : Bool) → p c.node ≡ b → (first_place p (before ++ c ∷ []) ≡ None → faults_behind name (before ++ c ∷ []) left ≡ [] → IsAtMostOne (passing p left)) → IsAtMostOne (cond b (c ∷ passing p left) (passing p left))
      by true is more = subst (λ cs. IsAtMostOne (c ∷ cs)) (sym (none_follows (before ++ c ∷ []) left c.loc (place_added p before c is none) (both_fine name before c left e).1)) tt
      by false is more = more (place_kept p before c is ∙ none) (both_fine name before c left e).1

-- what passes among clauses and others
passing-append : (p : AppDecl → Bool) (xs ys : Clauses) → passing p (xs ++ ys) ≡ passing p xs ++ passing p ys
passing-append p [] ys = refl
passing-append p (x ∷ xs) ys = by (p x.node) (passing-append p xs ys)
  where
    by : (b : Bool) → passing p (xs ++ ys) ≡ passing p xs ++ passing p ys → cond b (x ∷ passing p (xs ++ ys)) (passing p (xs ++ ys)) ≡ cond b (x ∷ passing p xs) (passing p xs) ++ passing p ys
    by true h = ap (λ l. x ∷ l) h
    by false h = h

-- before one that passes, where at most one does, none does
first_alone : (xs : Clauses) (c : Node AppDecl) (ys : Clauses) → IsAtMostOne (xs ++ c ∷ ys) → xs ≡ []
first_alone [] c ys one = refl
first_alone (x ∷ []) c ys one = absurd one
first_alone (x ∷ y ∷ xs) c ys one = absurd one

-- what holds of each kind of clauses
abbrev AtMostOnes : Clauses → Type 0
AtMostOnes cs = (c : AppDecl) → IsAtMostOne (passing (is_like c) cs)

-- where at most one of each kind stands, and nothing is wrong with any alone, nothing is wrong
all_fine : (name : Node (List ℕ)) (before left : Clauses) → AtMostOnes (before ++ left) → AllByRecursion (λ c. own_faults name c.node c.loc ≡ []) left → faults_behind name before left ≡ []
all_fine name before [] ones fine = refl
all_fine name before (c ∷ left) ones fine =
    let like = is_like c.node in
    let split : passing like (before ++ c ∷ left) ≡ passing like before ++ c ∷ passing like left =
    passing-append like before (c ∷ left) ∙ ap (λ b. passing like before ++ cond b (c ∷ passing like left) (passing like left)) (like_itself c.node) in
    let none : first_place like before ≡ None =
    placeless like before (first_alone (passing like before) c (passing like left) (subst (λ cs. IsAtMostOne cs) split (ones c.node))) in
    let here : clause_faults name before c ≡ [] =
    ap (λ q. fault_behind name q c) none ∙ nothing_to_find ([] ∷ own_faults name c.node c.loc ∷ []) (refl, (fine.0, tt)) in
    let rest = all_fine name (before ++ c ∷ []) left (λ d. subst (λ cs. IsAtMostOne (passing (is_like d) cs)) (sym (append_assoc before (c ∷ []) left)) (ones d)) fine.1 in
    nothing_to_find (clause_faults name before c ∷ faults_behind name (before ++ c ∷ []) left ∷ []) (here, (rest, tt))

-- no list of a kind is missing exactly where there is one
missing_none : (name : Node (List ℕ)) (kind : PR) (cs : Clauses) → missing_types name kind cs ≡ [] → passing (lists_types kind) cs ≡ [] → ⊥
missing_none name kind cs e none = let no : _ ∷ [] ≡ [] = sym (ap (missing_at name kind) (placeless (lists_types kind) cs none)) ∙ e in cc

none_missing : (name : Node (List ℕ)) (kind : PR) (cs : Clauses) → (passing (lists_types kind) cs ≡ [] → ⊥) → missing_types name kind cs ≡ []
none_missing name kind cs some = by (first_place (lists_types kind) cs) refl
  where
    by : (q : Option Place) → first_place (lists_types kind) cs ≡ q → missing_at name kind q ≡ []
    by None at = absurd (some (no_place (lists_types kind) cs at))
    by (Some place) at = refl

-- what holds of all holds of those that pass
kept : (p : AppDecl → Bool) (P : Node AppDecl → Type 0) (cs : Clauses) → AllByRecursion P cs → AllByRecursion (λ c. (p c.node ≡ true) × P c) (passing p cs)
kept p P [] all = tt
kept p P (c ∷ cs) all = by (p c.node) refl (kept p P cs all.1)
  where
    by : (b : Bool) → p c.node ≡ b → AllByRecursion (λ c. (p c.node ≡ true) × P c) (passing p cs) → AllByRecursion (λ c. (p c.node ≡ true) × P c) (cond b (c ∷ passing p cs) (passing p cs))
    by true is more = ((is, all.0), more)
    by false is more = more

-- and the other way round
passed : (p : AppDecl → Bool) (P : Node AppDecl → Type 0) (cs : Clauses) → AllByRecursion P (passing p cs) → AllByRecursion (λ c. p c.node ≡ true → P c) cs
passed p P [] all = tt
passed p P (c ∷ cs) all = by (p c.node) refl all (passed p P cs)
  where
    by : (b : Bool) → p c.node ≡ b → AllByRecursion P (cond b (c ∷ passing p cs) (passing p cs)) → (AllByRecursion P (passing p cs) → AllByRecursion (λ c. p c.node ≡ true → P c) cs) → AllByRecursion (λ c. p c.node ≡ true → P c) (c ∷ cs)
    by true is all more = ((λ _. all.0), more all.1)
    by false is all more = ((λ yes. let no : true ≡ false = sym yes ∙ is in cc), more all)

-- a list of types that is alone
abbrev IsFull : Node AppDecl → Type 0
IsFull c = types_listed c.node ≡ [] → ⊥

full : (name : Node (List ℕ)) (kind : PR) (c : AppDecl) (place : Place) → lists_types kind c ≡ true → own_faults name c place ≡ [] → types_listed c ≡ [] → ⊥
full name kind (Types which []) place lists fine none = cc
full name kind (Types which (path ∷ paths)) place lists fine none = cc
full name kind (Context c) place lists fine none = cc

one_list : (name : Node (List ℕ)) (kind : PR) (cs : Clauses) → IsAtMostOne cs → (cs ≡ [] → ⊥) → AllByRecursion (λ c. (lists_types kind c.node ≡ true) × (own_faults name c.node c.loc ≡ [])) cs → IsOneList cs
one_list name kind [] one some all = some refl
one_list name kind (c ∷ []) one some all = full name kind c.node c.loc all.0.0 all.0.1
one_list name kind (c ∷ d ∷ others) one some all = one

list_alone : (cs : Clauses) → IsOneList cs → IsAtMostOne cs
list_alone [] one = absurd one
list_alone (c ∷ []) one = tt
list_alone (c ∷ d ∷ others) one = one

list_there : (cs : Clauses) → IsOneList cs → cs ≡ [] → ⊥
list_there [] one e = one
list_there (c ∷ cs) one e = cc

list_full : (cs : Clauses) → IsOneList cs → AllByRecursion IsFull cs
list_full [] one = tt
list_full (c ∷ []) one = (one, tt)
list_full (c ∷ d ∷ others) one = absurd one

abbrev steps : Node (List ℕ) → Clauses → List (List ToJsonSchemaError)
steps name cs = faults_behind name [] cs ∷ missing_types name Resource cs ∷ missing_types name Principal cs ∷ []

-- no clause has a fault alone
abbrev AreFine : Node (List ℕ) → Clauses → Type 0
AreFine name cs = AllByRecursion (λ c. own_faults name c.node c.loc ≡ []) cs

pub applies_fine : (name : Node (List ℕ)) (cs : Clauses) → applies_faults name cs ≡ [] → Applies cs × AllByRecursion (λ c. own_faults name c.node c.loc ≡ []) cs
applies_fine name cs e =
    let all = nothing_found (steps name cs) e in
    let fine : AreFine name cs = each_fine name [] cs all.0 in (
      record {
        principals = one_list name Principal (lists_of Principal cs) (one_follows (lists_types Principal) (lists_kind Principal) name [] cs refl all.0) (missing_none name Principal cs all.1.1.0) (kept (lists_types Principal) (λ c. own_faults name c.node c.loc ≡ []) cs fine);
        resources = one_list name Resource (lists_of Resource cs) (one_follows (lists_types Resource) (lists_kind Resource) name [] cs refl all.0) (missing_none name Resource cs all.1.0) (kept (lists_types Resource) (λ c. own_faults name c.node c.loc ≡ []) cs fine);
        contexts = one_follows is_context context_kind name [] cs refl all.0;
      },
      fine,
    )

-- the record of each context has no repeat
own_fine : (name : Node (List ℕ)) (c : Node AppDecl) → (lists_types Principal c.node ≡ true → IsFull c) → (lists_types Resource c.node ≡ true → IsFull c) → context_faults c.node ≡ [] → own_faults name c.node c.loc ≡ []
own_fine name c principals resources none = by c.node principals resources none
  where
    of_list : (kind : PR) (which : Node PR) (types : List Path) → which.node ≡ kind → (types ≡ [] → ⊥) → own_faults name (Types which types) c.loc ≡ []
    of_list kind which [] is some = absurd (some refl)
    of_list kind which (path ∷ paths) is some = refl

    of_kind : (which : Node PR) (types : List Path) (kind : PR) → which.node ≡ kind → (lists_types Principal (Types which types) ≡ true → types ≡ [] → ⊥) → (lists_types Resource (Types which types) ≡ true → types ≡ [] → ⊥) → own_faults name (Types which types) c.loc ≡ []
    of_kind which types Principal is p r = of_list Principal which types is (p (ap (same_scope Principal) is))
    of_kind which types Resource is p r = of_list Resource which types is (r (ap (same_scope Resource) is))

    by : (d : AppDecl) → (lists_types Principal d ≡ true → types_listed d ≡ [] → ⊥) → (lists_types Resource d ≡ true → types_listed d ≡ [] → ⊥) → context_faults d ≡ [] → own_faults name d c.loc ≡ []
    by (Types which types) p r none = of_kind which types which.node refl p r
    by (Context d) p r none = none

all_own : (name : Node (List ℕ)) (cs : Clauses) → AllByRecursion (λ c. lists_types Principal c.node ≡ true → IsFull c) cs → AllByRecursion (λ c. lists_types Resource c.node ≡ true → IsFull c) cs
    → AllByRecursion (λ c. context_faults c.node ≡ []) cs → AreFine name cs
all_own name [] p r none = tt
all_own name (c ∷ cs) p r none = (own_fine name c p.0 r.0 none.0, all_own name cs p.1 r.1 none.1)

ones : (cs : Clauses) → Applies cs → AtMostOnes cs
ones cs a (Types which types) = by which.node
  where
    by : (kind : PR) → IsAtMostOne (passing (lists_types kind) cs)
    by Principal = list_alone (lists_of Principal cs) a.principals
    by Resource = list_alone (lists_of Resource cs) a.resources
ones cs a (Context c) = a.contexts

pub fine_applies : (name : Node (List ℕ)) (cs : Clauses) → Applies cs → AllByRecursion (λ c. context_faults c.node ≡ []) cs → applies_faults name cs ≡ []
fine_applies name cs a none =
    let full_of : (kind : PR) → IsOneList (lists_of kind cs) → AllByRecursion (λ c. lists_types kind c.node ≡ true → IsFull c) cs = λ kind one. passed (lists_types kind) IsFull cs (list_full (lists_of kind cs) one) in
    let fine : AreFine name cs = all_own name cs (full_of Principal a.principals) (full_of Resource a.resources) none in
    nothing_to_find (steps name cs) (
      all_fine name [] cs (ones cs a) fine,
      (
        none_missing name Resource cs (list_there (lists_of Resource cs) a.resources),
        (none_missing name Principal cs (list_there (lists_of Principal cs) a.principals), tt),
      ),
    )
