-- SPDX-License-Identifier: Apache-2.0
-- A namespace is put back with more said of it.
use Rattle.std.proofs.Common.{◌≡◌, Bool, true, false, cond, List, Option, Some, option_map, refl, ap, ◌∙◌, subst}
use Rattle.std.specs.BTreeMap.{insert_entry}
use Rattle.std.specs.Option.{option_cmp, unwrap_or}
use Rattle.cedar_data.specs.Maps.{get}
use Rattle.cedar_names.specs.Names.{name_cmp}
use Rattle.cedar_names.specs.declared.name.Name.{Name}
use Rattle.cedar_merge.specs.Joining.{AddsNamespace, ClashesAt, ConflictsAt, Finds, Joins, Keeps, again, clash_place, conflict_place, is_in, nothing, otherwise, said_of}
use Rattle.cedar_merge.specs.Lookups.{Definition, Path, at, path_cmp, path_of}
use Rattle.cedar_merge.specs.Merged.{note_cmp, place_cmp}
use Rattle.cedar_merge.specs.declared.joined.Found.{Found}
use Rattle.cedar_merge.specs.declared.joined.Joined.{Joined}
use Rattle.cedar_merge.proofs.Orders.{by_path, paths_exact}
use Rattle.cedar_merge.proofs.Words.{at-insert, get-at}

twice : {A : Type 0} (b : Bool) (x y o : A) → cond b x (cond b y o) ≡ cond b x o
twice true x y o = refl
twice false x y o = refl

-- what was said of it is taken
pub taken : (before : List (Option Name × Joined)) (path copy : Option Name) (was : Option Joined) (joined : Joined) → copy ≡ path → was ≡ get (option_cmp name_cmp) before copy → joined ≡ unwrap_or was nothing
    → joined ≡ said_of before (path_of path)
taken before path copy was joined same is begins =
    begins ∙ ap (λ o. unwrap_or o nothing) (is ∙ ap (get (option_cmp name_cmp) before) same ∙ get-at paths_exact path_of by_path before path)

-- and nothing is left
pub left_empty : (before mid : List (Option Name × Joined)) (path copy : Option Name) (fresh : Joined) → copy ≡ path → fresh ≡ nothing → mid ≡ insert_entry (option_cmp name_cmp) before copy fresh
    → (ns : Path) → at path_cmp path_of mid ns ≡ cond (is_in path ns) (Some nothing) (at path_cmp path_of before ns)
left_empty before mid path copy fresh same none put ns =
    ap (λ es. at path_cmp path_of es ns) (put ∙ (λ i. insert_entry (option_cmp name_cmp) before (same i) (none i))) ∙ at-insert paths_exact path_of by_path before path nothing ns

-- and then more is put there
pub adds_namespace : (path : Option Name) (d : Definition) (before mid now : List (Option Name × Joined)) (found finds : Found) (start joined : Joined)
    → start ≡ said_of before (path_of path) → ((ns : Path) → at path_cmp path_of mid ns ≡ cond (is_in path ns) (Some nothing) (at path_cmp path_of before ns))
    → Joins path start d joined
    → Finds place_cmp (again path start.definition d) (option_map clash_place found.clash) (option_map clash_place finds.clash)
    → Finds note_cmp (otherwise path start.notes d.annotations) (option_map conflict_place found.conflict) (option_map conflict_place finds.conflict)
    → Keeps (ClashesAt path (again path start.definition d)) found.clash finds.clash → Keeps (ConflictsAt path (otherwise path start.notes d.annotations)) found.conflict finds.conflict
    → now ≡ insert_entry (option_cmp name_cmp) mid path joined
    → AddsNamespace path d before found now finds
adds_namespace path d before mid now found finds start joined said left joins clash conflict kept_clash kept_conflict puts = record {
  joined = joined;
  put = λ ns.
      ap (λ es. at path_cmp path_of es ns) puts ∙ at-insert paths_exact path_of by_path mid path joined ns
      ∙ ap (cond (is_in path ns) (Some joined)) (left ns)
      ∙ twice (is_in path ns) (Some joined) (Some nothing) (at path_cmp path_of before ns);
  joins = subst (λ j. Joins path j d joined) said joins;
  clash = subst (λ j. Finds place_cmp (again path j.definition d) (option_map clash_place found.clash) (option_map clash_place finds.clash)) said clash;
  conflict = subst (λ j. Finds note_cmp (otherwise path j.notes d.annotations) (option_map conflict_place found.conflict) (option_map conflict_place finds.conflict)) said conflict;
  kept_clash = subst (λ j. Keeps (ClashesAt path (again path j.definition d)) found.clash finds.clash) said kept_clash;
  kept_conflict = subst (λ j. Keeps (ConflictsAt path (otherwise path j.notes d.annotations)) found.conflict finds.conflict) said kept_conflict;
}
