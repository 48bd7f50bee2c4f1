-- SPDX-License-Identifier: Apache-2.0
-- Loops that read the members of an object as the entries of a map.
use Rattle.std.proofs.Common.{◌≡◌, ℕ, List, [], ◌∷◌, ◌++◌, fold, Option, Some, None, String, Global, string_bytes, refl, sym, ap, ◌∙◌, subst, append_assoc, append-nil}
use Rattle.std.specs.BTreeMap.{insert_entry}
use Rattle.std.specs.declared.cmp.Ordering.{Ordering}
use Rattle.cedar_data.specs.Maps.{map_of}
use Rattle.serde_json.specs.Data.{Data, no_members}
use Rattle.serde_json.specs.View.{view, members_view}
use Rattle.serde_json.specs.declared.value.Value.{Value}
use Rattle.cedar_json_fault.specs.declared.json_error.JsonDeserializationError.{JsonDeserializationError}
use Rattle.cedar_json_types.specs.Faults.{Fault, members_fault}
use Rattle.cedar_json_types.specs.Shapes.{EachMember, MapMembers}
use Rattle.cedar_json_types.proofs.Chains.{first-skip, first-here}

abbrev pub Member : Type 0
Member = String Global × Value

-- a loop over `whole` that has `left` before it has read each member that it has passed into the map, and found no fault
pub record ReadsMembers {K V : Type 0} (cmp : K → K → Ordering) (P : List ℕ → Data → K → V → Type 0) (fault : List ℕ → Data → Fault) (whole left : List Member) (made : List (K × V)) : Type 0 where
  pub done : List Member
  pub split : done ++ left ≡ whole
  pub entries : List (K × V)
  pub shapes : EachMember P (members_view done) entries
  pub map : made ≡ map_of cmp entries
  pub clean : members_fault fault (members_view whole) ≡ members_fault fault (members_view left)

module _ {K V : Type 0} where
  EachMember-next : (P : List ℕ → Data → K → V → Type 0) (done : List Member) (entries : List (K × V)) (m : Member) (k : K) (v : V) → EachMember P (members_view done) entries → P (string_bytes m.0) (view m.1) k v → EachMember P (members_view (done ++ m ∷ [])) (entries ++ (k, v) ∷ [])
  EachMember-next P [] [] m k v each is = (is, tt)
  EachMember-next P [] (e ∷ entries) m k v each is = absurd each
  EachMember-next P (d ∷ done) [] m k v each is = absurd each
  EachMember-next P (d ∷ done) (e ∷ entries) m k v each is = (each.0, EachMember-next P done entries m k v each.1 is)

  fold-next : (cmp : K → K → Ordering) (start : List (K × V)) (entries : List (K × V)) (k : K) (v : V) → fold (λ es pair. insert_entry cmp es pair.0 pair.1) start (entries ++ (k, v) ∷ []) ≡ insert_entry cmp (fold (λ es pair. insert_entry cmp es pair.0 pair.1) start entries) k v
  fold-next cmp start [] k v = refl
  fold-next cmp start (e ∷ entries) k v = fold-next cmp (insert_entry cmp start e.0 e.1) entries k v

  -- before the first member
  pub ReadsMembers-start : (cmp : K → K → Ordering) (P : List ℕ → Data → K → V → Type 0) (fault : List ℕ → Data → Fault) (whole left : List Member) (made : List (K × V)) → left ≡ whole → made ≡ [] → ReadsMembers cmp P fault whole left made
  ReadsMembers-start cmp P fault whole left made all none = record {
    done = [];
    split = all;
    entries = [];
    shapes = tt;
    map = none;
    clean = ap (λ es. members_fault fault (members_view es)) (sym all);
  }

  -- one member more
  pub ReadsMembers-next : {cmp : K → K → Ordering} {P : List ℕ → Data → K → V → Type 0} {fault : List ℕ → Data → Fault} {whole left rest : List Member} {made more : List (K × V)} {key : String Global} {value : Value} {k : K} {v : V}
      → ReadsMembers cmp P fault whole left made → left ≡ (key, value) ∷ rest → P (string_bytes key) (view value) k v → fault (string_bytes key) (view value) ≡ None → more ≡ insert_entry cmp made k v → ReadsMembers cmp P fault whole rest more
  ReadsMembers-next {cmp} {P} {fault} {whole} {left} {rest} {made} {more} {key} {value} {k} {v} sofar at_left shape none put = record {
    done = sofar.done ++ (key, value) ∷ [];
    split = append_assoc sofar.done ((key, value) ∷ []) rest ∙ ap (λ l. sofar.done ++ l) (sym at_left) ∙ sofar.split;
    entries = sofar.entries ++ (k, v) ∷ [];
    shapes = EachMember-next P sofar.done sofar.entries (key, value) k v sofar.shapes shape;
    map = put ∙ ap (λ m. insert_entry cmp m k v) sofar.map ∙ sym (fold-next cmp [] sofar.entries k v);
    clean = sofar.clean ∙ ap (λ es. members_fault fault (members_view es)) at_left ∙ first-skip _ _ _ none refl;
  }

  -- after the last
  pub ReadsMembers-shapes : {cmp : K → K → Ordering} {P : List ℕ → Data → K → V → Type 0} {fault : List ℕ → Data → Fault} {whole left : List Member} {made : List (K × V)} → ReadsMembers cmp P fault whole left made → left ≡ [] → MapMembers cmp P (members_view whole) made
  ReadsMembers-shapes {cmp} {P} sofar none = (sofar.entries, subst (λ es. EachMember P (members_view es) sofar.entries) (sym (append-nil sofar.done) ∙ ap (λ l. sofar.done ++ l) (sym none) ∙ sofar.split) sofar.shapes, sofar.map)

  pub ReadsMembers-clean : {cmp : K → K → Ordering} {P : List ℕ → Data → K → V → Type 0} {fault : List ℕ → Data → Fault} {whole left : List Member} {made : List (K × V)} → ReadsMembers cmp P fault whole left made → left ≡ [] → members_fault fault (members_view whole) ≡ None
  ReadsMembers-clean {fault = fault} sofar none = sofar.clean ∙ ap (λ es. members_fault fault (members_view es)) none

  -- a fault of the next member
  pub ReadsMembers-fault : {cmp : K → K → Ordering} {P : List ℕ → Data → K → V → Type 0} {fault : List ℕ → Data → Fault} {whole left rest : List Member} {made : List (K × V)} {key : String Global} {value : Value} {e : JsonDeserializationError}
      → ReadsMembers cmp P fault whole left made → left ≡ (key, value) ∷ rest → fault (string_bytes key) (view value) ≡ Some e → members_fault fault (members_view whole) ≡ Some e
  ReadsMembers-fault {fault = fault} sofar at_left found = sofar.clean ∙ ap (λ es. members_fault fault (members_view es)) at_left ∙ first-here _ _ _ found

pub ruleset reads_members = (ReadsMembers-start, ReadsMembers-next, ReadsMembers-shapes, ReadsMembers-clean, ReadsMembers-fault)
