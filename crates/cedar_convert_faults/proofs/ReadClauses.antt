-- SPDX-License-Identifier: Apache-2.0
-- The loop over the clauses of an `appliesTo`: those that were read, and the first fault among those that are left.
use Rattle.std.proofs.Common.{◌≡◌, ℕ, Bool, true, false, cond, List, [], ◌∷◌, ◌++◌, find, Option, Some, None, option_map, refl, sym, ap, ◌∙◌, append_assoc}
use Rattle.std.proofs.lemmas.List.{append-nil}
use Rattle.std.specs.Option.{option_copied}
use Rattle.cedar_tree.specs.Trees.{Node, Place, AppDecl, Principal, Resource}
use Rattle.cedar_convert_errors.specs.declared.faults.ToJsonSchemaError.{ToJsonSchemaError}
use Rattle.cedar_convert_faults.specs.Faults.{Clauses, applies_faults, clause_faults, fault_behind, faults_behind, first_place, is_like, missing_types}
use Rattle.cedar_convert_faults.specs.Lists.{first_found}
use Rattle.cedar_convert_faults.specs.Remembering.{Remembers}
use Rattle.cedar_convert_faults.specs.declared.clauses.Seen.{Seen}

module _ (passes : AppDecl → Bool) where
  -- a clause that passes behind others of which none does
  pub place_added : (before : Clauses) (c : Node AppDecl) → passes c.node ≡ true → first_place passes before ≡ None → first_place passes (before ++ c ∷ []) ≡ Some c.loc
  place_added [] c is none = ap (λ b. option_map (λ (d : Node AppDecl). d.loc) (cond b (Some c) None)) is
  place_added (b ∷ before) c is none = by (passes b.node) none (place_added before c is)
    where
      by : (t : Bool) → option_map (λ (d : Node AppDecl). d.loc) (cond t (Some b) (find (λ d. passes d.node) before)) ≡ None
          → (first_place passes before ≡ None → first_place passes (before ++ c ∷ []) ≡ Some c.loc)
          → option_map (λ (d : Node AppDecl). d.loc) (cond t (Some b) (find (λ d. passes d.node) (before ++ c ∷ []))) ≡ Some c.loc
      by true none more = cc
      by false none more = more none

  -- a clause that doesn't pass
  pub place_kept : (before : Clauses) (c : Node AppDecl) → passes c.node ≡ false → first_place passes (before ++ c ∷ []) ≡ first_place passes before
  place_kept [] c is = ap (λ b. option_map (λ (d : Node AppDecl). d.loc) (cond b (Some c) None)) is
  place_kept (b ∷ before) c is = by (passes b.node) (place_kept before c is)
    where
      by : (t : Bool) → first_place passes (before ++ c ∷ []) ≡ first_place passes before
          → option_map (λ (d : Node AppDecl). d.loc) (cond t (Some b) (find (λ d. passes d.node) (before ++ c ∷ []))) ≡ option_map (λ (d : Node AppDecl). d.loc) (cond t (Some b) (find (λ d. passes d.node) before))
      by true more = refl
      by false more = more

pub ruleset placing = (place_added, place_kept)

one_step : {A : Type 0} (found : List A) → first_found (found ∷ []) ≡ found
one_step [] = refl
one_step (x ∷ xs) = refl

-- the clauses that were read, and the first fault of all
pub record Reads (name : Node (List ℕ)) (all : Clauses) (seen : Seen) (left : Clauses) : Type 0 where
  pub before : Clauses
  pub remembers : Remembers seen before
  pub split : before ++ left ≡ all
  pub is : faults_behind name before left ≡ faults_behind name [] all

pub Reads-start : (name : Node (List ℕ)) (all left : Clauses) (seen : Seen) → option_copied seen.principal ≡ None → option_copied seen.resource ≡ None → option_copied seen.context ≡ None → left ≡ all → Reads name all seen left
Reads-start name all left seen p r c whole = record {
  before = [];
  remembers = record { principal = p; resource = r; context = c };
  split = whole;
  is = ap (faults_behind name []) whole;
}

-- a faulty clause
pub Reads-found : {name : Node (List ℕ)} {all left rest : Clauses} {seen : Seen} (c : Node AppDecl) (first : Option Place) (fault : ToJsonSchemaError) → Reads name all seen left → left ≡ c ∷ rest
    → ((before : Clauses) → Remembers seen before → first ≡ first_place (is_like c.node) before) → fault ∷ [] ≡ fault_behind name first c → fault ∷ [] ≡ applies_faults name all
Reads-found {name} {all} {left} {rest} c first fault r next at told =
    let here : fault ∷ [] ≡ clause_faults name r.before c = told ∙ ap (λ p. fault_behind name p c) (at r.before r.remembers) in
    let of_all : fault ∷ [] ≡ faults_behind name [] all =
    ap (λ l. first_found (l ∷ faults_behind name (r.before ++ c ∷ []) rest ∷ [])) here ∙ ap (faults_behind name r.before) (sym next) ∙ r.is in
    ap (λ l. first_found (l ∷ missing_types name Resource all ∷ missing_types name Principal all ∷ [])) of_all

-- no step finds anything, the first neither
found_none : {A : Type 0} (one : List A) (steps : List (List A)) → [] ≡ first_found (one ∷ steps) → [] ≡ one
found_none [] steps e = refl
found_none (x ∷ xs) steps e = cc

none_twice : (name : Node (List ℕ)) (c : Node AppDecl) (first : Option Place) → [] ≡ fault_behind name first c → first ≡ None
none_twice name c None e = refl
none_twice name c (Some place) e = cc

-- a clause without fault
pub Reads-next : {name : Node (List ℕ)} {all left rest : Clauses} {seen seen' : Seen} (c : Node AppDecl) (first : Option Place) → Reads name all seen left → left ≡ c ∷ rest
    → ((before : Clauses) → Remembers seen before → first ≡ first_place (is_like c.node) before) → [] ≡ fault_behind name first c
    → ((before : Clauses) → Remembers seen before → first_place (is_like c.node) before ≡ None → Remembers seen' (before ++ c ∷ [])) → Reads name all seen' rest
Reads-next {name} {all} {left} {rest} c first r next at told more =
    let here : [] ≡ clause_faults name r.before c = told ∙ ap (λ p. fault_behind name p c) (at r.before r.remembers) in
    record {
      before = r.before ++ c ∷ [];
      remembers = more r.before r.remembers (sym (at r.before r.remembers) ∙ none_twice name c first told);
      split = append_assoc r.before (c ∷ []) rest ∙ ap (λ l. r.before ++ l) (sym next) ∙ r.split;
      is = sym (one_step (faults_behind name (r.before ++ c ∷ []) rest))
          ∙ ap (λ l. first_found (l ∷ faults_behind name (r.before ++ c ∷ []) rest ∷ [])) here
          ∙ ap (faults_behind name r.before) (sym next) ∙ r.is;
    }

-- after the last
pub Reads-end : {name : Node (List ℕ)} {all left : Clauses} {seen : Seen} (found : List ToJsonSchemaError) → Reads name all seen left → left ≡ []
    → ((before : Clauses) → Remembers seen before → found ≡ first_found (missing_types name Resource before ∷ missing_types name Principal before ∷ [])) → found ≡ applies_faults name all
Reads-end {name} {all} {left} found r none told =
    let whole : r.before ≡ all = sym (append-nil r.before) ∙ ap (λ l. r.before ++ l) (sym none) ∙ r.split in
    let nothing : [] ≡ faults_behind name [] all = ap (faults_behind name r.before) (sym none) ∙ r.is in
    told r.before r.remembers ∙ ap (λ cs. first_found (missing_types name Resource cs ∷ missing_types name Principal cs ∷ [])) whole
    ∙ ap (λ l. first_found (l ∷ missing_types name Resource all ∷ missing_types name Principal all ∷ [])) nothing

pub ruleset reading = (Reads-start, Reads-found, Reads-next, Reads-end)
