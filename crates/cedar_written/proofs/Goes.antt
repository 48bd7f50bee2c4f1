-- SPDX-License-Identifier: Apache-2.0
-- Loops that take each value of a map through a function that may refuse.
use Rattle.std.proofs.Common.{◌≡◌, List, [], ◌∷◌, ◌++◌, map, refl, sym, ap, ◌∙◌, subst, append_assoc}
use Rattle.std.proofs.lemmas.List.{append-nil}
use Rattle.std.specs.declared.result.Result.{Result}
use Rattle.std.specs.declared.result.Result.TheVariants.{Ok, Err}
use Rattle.std.specs.declared.cmp.Ordering.{Ordering}
use Rattle.std.specs.List.Sorted.{IsStrictlySortedBy}
use Rattle.std.specs.Map.{keys_of}
use Rattle.cedar_print.specs.of_data.declared.memory.Failure.{Failure}
use Rattle.cedar_print.specs.of_data.declared.memory.Failure.TheVariants.{Refused, NoMemory}
use Rattle.cedar_print.specs.of_data.Maps.{IsSortedMap, map_values}
use Rattle.cedar_print.proofs.of_data.Rebuild.{sorted_next}
use Rattle.cedar_written.specs.Answers.{Answers, and_then, all_items, all_values}

-- a refusal of a part is a refusal of the whole
pub Answers-refused : {A T E : Type 0} (x : Failure E) (part : Result A E) (whole : Result T E) → Answers (Err x) part → ((e : E) → part ≡ Err e → whole ≡ Err e) → Answers (Err x) whole
Answers-refused (Refused e) part whole is so = so e is
Answers-refused NoMemory part whole is so = tt

-- a value after the values so far
abbrev pub after : {X E : Type 0} → List X → Result (List X) E → Result (List X) E
after made r = and_then r (λ vs. Ok (made ++ vs))

after-none : {X E : Type 0} (r : Result (List X) E) → r ≡ after [] r
after-none (Ok vs) = refl
after-none (Err e) = refl

after-one : {X E : Type 0} (made : List X) (x : X) (r : Result (List X) E) → after made (and_then r (λ vs. Ok (x ∷ vs))) ≡ after (made ++ x ∷ []) r
after-one made x (Ok vs) = ap Ok (sym (append_assoc made (x ∷ []) vs))
after-one made x (Err e) = refl

-- a loop over `whole` that has passed `done` and has `left` before it has made these entries
pub record Goes {K V W E : Type 0} (f : V → Result W E) (whole left : List (K × V)) (made : List (K × W)) : Type 0 where
  pub done : List (K × V)
  pub split : done ++ left ≡ whole
  pub keys : keys_of made ≡ keys_of done
  pub is : all_values (map_values f whole) ≡ after made (all_values (map_values f left))

keys_of-push : {K W : Type 0} (xs : List (K × W)) (k : K) (w : W) → keys_of (xs ++ (k, w) ∷ []) ≡ keys_of xs ++ k ∷ []
keys_of-push [] k w = refl
keys_of-push (x ∷ xs) k w = ap (λ ks. x.0 ∷ ks) (keys_of-push xs k w)

-- what comes of the entries that are left, where the next one gives this
at_next : {K V W E : Type 0} (f : V → Result W E) (made : List (K × W)) {left rest : List (K × V)} {next : K} {value : V} (r : Result W E) → left ≡ (next, value) ∷ rest → f value ≡ r
    → after made (all_values (map_values f left)) ≡ after made (and_then r (λ w. and_then (all_values (map_values f rest)) (λ ws. Ok ((next, w) ∷ ws))))
at_next f made {rest = rest} {next = next} r first gives =
    ap (λ es. after made (all_values (map_values f es))) first ∙ ap (λ r. after made (and_then r (λ w. and_then (all_values (map_values f rest)) (λ ws. Ok ((next, w) ∷ ws))))) gives

module _ {K V W E : Type 0} where
  -- before the first entry
  pub Goes-start : (f : V → Result W E) (whole left : List (K × V)) (made : List (K × W)) → left ≡ whole → made ≡ [] → Goes f whole left made
  Goes-start f whole left made all none = record {
    done = [];
    split = all;
    keys = ap keys_of none;
    is = ap (λ es. all_values (map_values f es)) (sym all) ∙ after-none (all_values (map_values f left)) ∙ ap (λ m. after m (all_values (map_values f left))) (sym none);
  }

  -- one entry more
  pub Goes-next : {f : V → Result W E} {whole left rest : List (K × V)} {made more : List (K × W)} {key next : K} {value : V} {new : W} → Goes f whole left made → left ≡ (next, value) ∷ rest → key ≡ next → f value ≡ Ok new → more ≡ made ++ (key, new) ∷ [] → Goes f whole rest more
  Goes-next {f} {whole} {left} {rest} {made} {more} {key} {next} {value} {new} sofar first same gives pushed =
      let here : more ≡ made ++ (next, new) ∷ [] = pushed ∙ ap (λ k. made ++ (k, new) ∷ []) same in
      record {
        done = sofar.done ++ (next, value) ∷ [];
        split = append_assoc sofar.done ((next, value) ∷ []) rest ∙ ap (λ l. sofar.done ++ l) (sym first) ∙ sofar.split;
        keys = ap keys_of here ∙ keys_of-push made next new ∙ ap (λ ks. ks ++ next ∷ []) sofar.keys ∙ sym (keys_of-push sofar.done next value);
        is = sofar.is ∙ at_next f made (Ok new) first gives ∙ after-one made (next, new) (all_values (map_values f rest)) ∙ ap (λ m. after m (all_values (map_values f rest))) (sym here);
      }

  -- after the last
  pub Goes-end : {f : V → Result W E} {whole left : List (K × V)} {made : List (K × W)} → Goes f whole left made → left ≡ [] → all_values (map_values f whole) ≡ Ok made
  Goes-end {f} {made = made} sofar none = sofar.is ∙ ap (λ es. after made (all_values (map_values f es))) none ∙ ap Ok (append-nil made)

  -- a refusal
  pub Goes-refused : {f : V → Result W E} {whole left rest : List (K × V)} {made : List (K × W)} {next : K} {value : V} (x : Failure E) → Goes f whole left made → left ≡ (next, value) ∷ rest → Answers (Err x) (f value) → Answers (Err x) (all_values (map_values f whole))
  Goes-refused {f} {whole} {made = made} {value = value} x sofar first refused = Answers-refused x (f value) (all_values (map_values f whole)) refused (λ e is. sofar.is ∙ at_next f made (Err e) first is)

  -- the keys made so far and the next one ascend
  pub Goes-sorted : (cmp : K → K → Ordering) {f : V → Result W E} {whole left rest : List (K × V)} {made : List (K × W)} {key next : K} {value : V} → Goes f whole left made → left ≡ (next, value) ∷ rest → key ≡ next → IsSortedMap cmp whole → IsStrictlySortedBy cmp (keys_of made ++ key ∷ [])
  Goes-sorted cmp {key = key} sofar first same sorted =
      subst (λ ks. IsStrictlySortedBy cmp (ks ++ key ∷ [])) (sym sofar.keys) (sorted_next cmp sofar.done sofar.split first same sorted)

-- a loop over a list that has `left` before it has made these items
pub record GoesOn {V W E : Type 0} (f : V → Result W E) (whole left : List V) (made : List W) : Type 0 where
  pub is : all_items (map f whole) ≡ after made (all_items (map f left))

-- what comes of the items that are left, where the next one gives this
item_next : {V W E : Type 0} (f : V → Result W E) (made : List W) {left rest : List V} {next : V} (r : Result W E) → left ≡ next ∷ rest → f next ≡ r
    → after made (all_items (map f left)) ≡ after made (and_then r (λ w. and_then (all_items (map f rest)) (λ ws. Ok (w ∷ ws))))
item_next f made {rest = rest} r first gives =
    ap (λ xs. after made (all_items (map f xs))) first ∙ ap (λ r. after made (and_then r (λ w. and_then (all_items (map f rest)) (λ ws. Ok (w ∷ ws))))) gives

module _ {V W E : Type 0} where
  -- before the first item
  pub GoesOn-start : (f : V → Result W E) (whole left : List V) (made : List W) → left ≡ whole → made ≡ [] → GoesOn f whole left made
  GoesOn-start f whole left made all none = record {
    is = ap (λ xs. all_items (map f xs)) (sym all) ∙ after-none (all_items (map f left)) ∙ ap (λ m. after m (all_items (map f left))) (sym none);
  }

  -- one item more
  pub GoesOn-next : {f : V → Result W E} {whole left rest : List V} {made more : List W} {next : V} {new : W} → GoesOn f whole left made → left ≡ next ∷ rest → f next ≡ Ok new → more ≡ made ++ new ∷ [] → GoesOn f whole rest more
  GoesOn-next {f} {rest = rest} {made = made} {new = new} sofar first gives pushed = record {
    is = sofar.is ∙ item_next f made (Ok new) first gives ∙ after-one made new (all_items (map f rest)) ∙ ap (λ m. after m (all_items (map f rest))) (sym pushed);
  }

  -- after the last
  pub GoesOn-end : {f : V → Result W E} {whole left : List V} {made : List W} → GoesOn f whole left made → left ≡ [] → all_items (map f whole) ≡ Ok made
  GoesOn-end {f} {made = made} sofar none = sofar.is ∙ ap (λ xs. after made (all_items (map f xs))) none ∙ ap Ok (append-nil made)

  -- a refusal
  pub GoesOn-refused : {f : V → Result W E} {whole left rest : List V} {made : List W} {next : V} (x : Failure E) → GoesOn f whole left made → left ≡ next ∷ rest → Answers (Err x) (f next) → Answers (Err x) (all_items (map f whole))
  GoesOn-refused {f} {whole} {made = made} {next = next} x sofar first refused = Answers-refused x (f next) (all_items (map f whole)) refused (λ e is. sofar.is ∙ item_next f made (Err e) first is)

pub ruleset goes = (Goes-start, Goes-next, Goes-end, Goes-refused, Goes-sorted, GoesOn-start, GoesOn-next, GoesOn-end, GoesOn-refused, Answers-refused)
