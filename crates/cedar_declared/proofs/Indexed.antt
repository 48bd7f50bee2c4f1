-- SPDX-License-Identifier: Apache-2.0
-- A loop that indexes actions by their ids.
use Rattle.std.proofs.Common.{◌≡◌, ◌&&◌, ℕ, Bool, true, false, not, cond, List, [], ◌∷◌, map, Option, Some, IfSome, refl, sym, ap, ◌∙◌, subst}
use Rattle.std.proofs.lemmas.Cmp.{eq_by_cmp_equiv, nat_list_cmp_total}
use Rattle.std.specs.BTreeMap.{is_at}
use Rattle.std.specs.Cmp.Lexicographic.{bytes_decides, texts_ties}
use Rattle.std.specs.Map.{lookup}
use Rattle.std.specs.Option.{option_map}
use Rattle.std.specs.Ordering.{is_eq}
use Rattle.cedar_data.specs.Firsts.{AllPass}
use Rattle.cedar_data.specs.Maps.{Puts, get}
use Rattle.cedar_names.specs.EntityUids.{eid_of, eid_text}
use Rattle.cedar_names.specs.Order.{word_cmp}
use Rattle.cedar_names.specs.declared.entity_uid.Eid.{Eid}
use Rattle.cedar_names.specs.declared.entity_uid.EntityUID.{EntityUID}
use Rattle.cedar_schema_error.specs.FullNames.{Uid, is_qualified, uid_cmp, uid_in}
use Rattle.cedar_schema_error.specs.KeptDeclarations.{IsAmong}
use Rattle.cedar_declared.proofs.Among.{each_among}
use Rattle.cedar_declared.specs.Alone.{IndexesActions, eid_cmp, improves, indexed, is_alone, least_alone, pick, pick_all, precedes}

-- a loop over `whole` that has `left` before it has made this index: what those that are left improve is what all give
pub record Indexing (whole left : List EntityUID) (index : List (Eid × EntityUID)) : Type 0 where
  pub is : (id : Eid) → pick_all (is_alone (eid_text id)) uid_cmp (indexed index id) (map uid_in left) ≡ least_alone (map uid_in whole) (eid_text id)
  pub held : (id : Eid) → IfSome (get eid_cmp index id) (IsAmong whole)
  pub left_held : AllPass (IsAmong whole) left

-- equal words are one
same_word : (x y : List ℕ) → is_eq (word_cmp x y) ≡ true → x ≡ y
same_word x y e = (bytes_decides x y).0 (texts_ties x y ∙ e)

-- an id is found by its text
abbrev at_text : List (Eid × EntityUID) → List ℕ → Option Uid
at_text index text = option_map uid_in (lookup (λ k. is_eq (word_cmp text (eid_text k))) index)

module _ (index : List (Eid × EntityUID)) (u : EntityUID) (id : Eid) where
  by_bools : (q : Bool) (p : Option Uid → Bool) (o o' : Option Uid) → o ≡ o' → cond ((not q && true) && p o) (Some (uid_in u)) o ≡ cond (not q && p o') (Some (uid_in u)) o'
  by_bools true p o o' same = same
  by_bools false p o o' same = ap (λ o. cond (p o) (Some (uid_in u)) o) same

  by_others : (q : Bool) (b : Bool) (o : Option Uid) → cond ((not q && false) && b) (Some (uid_in u)) o ≡ o
  by_others true b o = refl
  by_others false b o = refl

  -- what is picked at an id
  picked : (b : Bool) → is_at (word_cmp (eid_text id)) (uid_in u).id ≡ b
      → pick (is_alone (eid_text id)) uid_cmp (indexed index id) (uid_in u) ≡ cond b (cond (improves index u) (Some (uid_in u)) (indexed index (eid_of u))) (indexed index id)
  picked true is =
      ap (λ b. cond ((not (is_qualified (uid_in u).ty) && b) && precedes (is_alone (eid_text id)) uid_cmp (uid_in u) (indexed index id)) (Some (uid_in u)) (indexed index id)) is
      ∙ by_bools (is_qualified (uid_in u).ty) (precedes (is_alone (uid_in u).id) uid_cmp (uid_in u)) (indexed index id) (indexed index (eid_of u))
      (ap (at_text index) (same_word (eid_text id) (eid_text (eid_of u)) is))
  picked false is =
      ap (λ b. cond ((not (is_qualified (uid_in u).ty) && b) && precedes (is_alone (eid_text id)) uid_cmp (uid_in u) (indexed index id)) (Some (uid_in u)) (indexed index id)) is
      ∙ by_others (is_qualified (uid_in u).ty) (precedes (is_alone (eid_text id)) uid_cmp (uid_in u) (indexed index id)) (indexed index id)

  same_found : (b : Bool) → is_at (word_cmp (eid_text id)) (uid_in u).id ≡ b → cond b (indexed index (eid_of u)) (indexed index id) ≡ indexed index id
  same_found true is = sym (ap (at_text index) (same_word (eid_text id) (eid_text (eid_of u)) is))
  same_found false is = refl

  -- where it improves nothing, the index stays
  kept : improves index u ≡ false → indexed index id ≡ pick (is_alone (eid_text id)) uid_cmp (indexed index id) (uid_in u)
  kept none =
      sym (picked (is_at (word_cmp (eid_text id)) (uid_in u).id) refl
      ∙ ap (λ d. cond (is_at (word_cmp (eid_text id)) (uid_in u).id) (cond d (Some (uid_in u)) (indexed index (eid_of u))) (indexed index id)) none
      ∙ same_found (is_at (word_cmp (eid_text id)) (uid_in u).id) refl)

  mapped : (b : Bool) (o : Option EntityUID) → option_map uid_in (cond b (Some u) o) ≡ cond b (Some (uid_in u)) (option_map uid_in o)
  mapped true o = refl
  mapped false o = refl

  -- where it improves the index, it is put there
  put : improves index u ≡ true → option_map uid_in (cond (is_at (eid_cmp (eid_of u)) id) (Some u) (get eid_cmp index id)) ≡ pick (is_alone (eid_text id)) uid_cmp (indexed index id) (uid_in u)
  put some =
      mapped (is_at (eid_cmp (eid_of u)) id) (get eid_cmp index id)
      ∙ ap (λ b. cond b (Some (uid_in u)) (indexed index id)) ((eq_by_cmp_equiv nat_list_cmp_total).symm (eid_text (eid_of u)) (eid_text id))
      ∙ sym (picked (is_at (word_cmp (eid_text id)) (uid_in u).id) refl
      ∙ ap (λ d. cond (is_at (word_cmp (eid_text id)) (uid_in u).id) (cond d (Some (uid_in u)) (indexed index (eid_of u))) (indexed index id)) some)

next_index : {whole left rest : List EntityUID} {index more : List (Eid × EntityUID)} {u : EntityUID} → Indexing whole left index → left ≡ u ∷ rest → ((id : Eid) → indexed more id ≡ pick (is_alone (eid_text id)) uid_cmp (indexed index id) (uid_in u))
    → ((id : Eid) → IfSome (get eid_cmp more id) (IsAmong whole)) → Indexing whole rest more
next_index {whole = whole} {rest = rest} {index = index} {u = u} sofar first is held = record {
  is = λ id. ap (λ o. pick_all (is_alone (eid_text id)) uid_cmp o (map uid_in rest)) (is id)
      ∙ sym (ap (λ l. pick_all (is_alone (eid_text id)) uid_cmp (indexed index id) (map uid_in l)) first) ∙ sofar.is id;
  held = held;
  left_held = (subst (AllPass (IsAmong whole)) first sofar.left_held).1;
}

-- one that improves nothing
pub Indexing-kept : {whole left rest : List EntityUID} {index : List (Eid × EntityUID)} {u : EntityUID} (b : Bool) → Indexing whole left index → left ≡ u ∷ rest → b ≡ improves index u → b ≡ false → Indexing whole rest index
Indexing-kept {index = index} {u = u} b sofar first is fails = next_index sofar first (λ id. kept index u id (sym is ∙ fails)) sofar.held

-- of two of which each is there, one is there
either_held : (P : EntityUID → Type 0) (b : Bool) (v : EntityUID) (o : Option EntityUID) → P v → IfSome o P → IfSome (cond b (Some v) o) P
either_held P true v o this other = this
either_held P false v o this other = other

-- one that is put
pub Indexing-put : {whole left rest : List EntityUID} {index more : List (Eid × EntityUID)} {u : EntityUID} (b : Bool) (v : EntityUID) (e : Eid) → Indexing whole left index → left ≡ u ∷ rest → b ≡ improves index u → b ≡ true → v ≡ u → e ≡ eid_of u → Puts eid_cmp index more e v → Indexing whole rest more
Indexing-put {whole = whole} {index = index} {u = u} b v e sofar first is holds copied of puts =
    next_index sofar first (λ id.
    ap (option_map uid_in) (puts id ∙ (λ i. cond (is_at (eid_cmp (of i)) id) (Some (copied i)) (get eid_cmp index id))) ∙ put index u id (sym is ∙ holds))
    (λ id. subst (λ (o : Option EntityUID). IfSome o (IsAmong whole)) (sym (puts id))
    (either_held (IsAmong whole) (is_at (eid_cmp e) id) v (get eid_cmp index id) (subst (IsAmong whole) (sym copied) (subst (AllPass (IsAmong whole)) first sofar.left_held).0) (sofar.held id)))

-- before the first
pub Indexing-start : (whole left : List EntityUID) (index : List (Eid × EntityUID)) → left ≡ whole → index ≡ [] → Indexing whole left index
Indexing-start whole left index all none = record {
  is = λ id. (λ i. pick_all (is_alone (eid_text id)) uid_cmp (indexed (none i) id) (map uid_in (all i)));
  held = λ id. subst (λ (l : List (Eid × EntityUID)). IfSome (get eid_cmp l id) (IsAmong whole)) (sym none) tt;
  left_held = subst (AllPass (IsAmong whole)) (sym all) (each_among whole);
}

-- after the last
pub Indexing-end : {whole left : List EntityUID} {index : List (Eid × EntityUID)} → Indexing whole left index → left ≡ [] → IndexesActions whole index
Indexing-end {index = index} sofar none = record {
  least = λ id. sym (ap (λ l. pick_all (is_alone (eid_text id)) uid_cmp (indexed index id) (map uid_in l)) none) ∙ sofar.is id;
  held = sofar.held;
}

-- what is found at an id
module _ (index : List (Eid × EntityUID)) (own us : List EntityUID) (id : Eid) (found : Option EntityUID) (is : IndexesActions own index) (same : own ≡ us) (got : found ≡ get eid_cmp index id) where
  pub least_found : option_map uid_in found ≡ least_alone (map uid_in us) (eid_text id)
  least_found = ap (option_map uid_in) got ∙ is.least id ∙ ap (λ us. least_alone (map uid_in us) (eid_text id)) same

  pub held_found : IfSome found (IsAmong us)
  held_found = subst (λ (o : Option EntityUID). IfSome o (IsAmong us)) (sym got) (subst (λ (us : List EntityUID). IfSome (get eid_cmp index id) (IsAmong us)) same (is.held id))

pub ruleset index_loop = (Indexing-start, Indexing-kept, Indexing-put, Indexing-end)
