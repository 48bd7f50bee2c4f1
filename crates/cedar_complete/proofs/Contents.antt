-- SPDX-License-Identifier: Apache-2.0
-- Loops that take references, and what holds them, through what may refuse, where what is made is told as something else.
use Rattle.std.proofs.Common.{◌≡◌, List, [], ◌∷◌, ◌++◌, map, fold, refl, sym, ap, ◌∙◌, subst}
use Rattle.std.proofs.lemmas.List.{map-append, map-id}
use Rattle.std.specs.BTreeSet.{insert_key}
use Rattle.std.specs.List.Sorted.{IsStrictlySortedBy}
use Rattle.std.specs.Map.{keys_of}
use Rattle.std.specs.Ordering.{match_ordering}
use Rattle.std.specs.declared.cmp.Ordering.{Ordering}
use Rattle.std.specs.declared.cmp.Ordering.TheVariants.{Less, Equal, Greater}
use Rattle.std.specs.declared.result.Result.{Result}
use Rattle.std.specs.declared.result.Result.TheVariants.{Ok, Err}
use Rattle.cedar_data.specs.Maps.{IsSortedMap, map_values}
use Rattle.cedar_data.specs.declared.memory.Failure.{Failure}
use Rattle.cedar_written.specs.Answers.{Answers, all_items, all_values, and_then}
use Rattle.cedar_written.proofs.Goes.{Answers-refused, Goes, Goes-end, Goes-next, Goes-refused, Goes-sorted, Goes-start, GoesOn, GoesOn-end, GoesOn-next, GoesOn-refused, GoesOn-start}
use Rattle.cedar_complete.specs.Completed.{through_set}

keys_of-values : {K V W : Type 0} (f : V → W) (es : List (K × V)) → keys_of (map_values f es) ≡ keys_of es
keys_of-values f [] = refl
keys_of-values f (e ∷ es) = ap (λ ks. e.0 ∷ ks) (keys_of-values f es)

-- a loop over `whole` that has `left` before it has made these entries
pub record Contents {K V W C E : Type 0} (content : W → C) (f : V → Result C E) (whole left : List (K × V)) (made : List (K × W)) : Type 0 where
  pub goes : Goes f whole left (map_values content made)

module _ {K V W C E : Type 0} where
  -- before the first entry
  pub Contents-start : (content : W → C) (f : V → Result C E) (whole left : List (K × V)) (made : List (K × W)) → left ≡ whole → made ≡ [] → Contents content f whole left made
  Contents-start content f whole left made all none = record { goes = Goes-start f whole left (map_values content made) all (ap (map_values content) none) }

  -- one entry more
  pub Contents-next : {content : W → C} {f : V → Result C E} {whole left rest : List (K × V)} {made more : List (K × W)} {key next : K} {value : V} {new : W} → Contents content f whole left made → left ≡ (next, value) ∷ rest → key ≡ next → f value ≡ Ok (content new) → more ≡ made ++ (key, new) ∷ []
      → Contents content f whole rest more
  Contents-next {content} {made = made} {key = key} {new = new} sofar first same gives pushed = record {
    goes = Goes-next sofar.goes first same gives (ap (map_values content) pushed ∙ map-append (λ e. (e.0, content e.1)) made ((key, new) ∷ []));
  }

  -- the keys made so far and the next one ascend
  pub Contents-sorted : (cmp : K → K → Ordering) {content : W → C} {f : V → Result C E} {whole left rest : List (K × V)} {made : List (K × W)} {key next : K} {value : V} → Contents content f whole left made → left ≡ (next, value) ∷ rest → key ≡ next → IsSortedMap cmp whole
      → IsStrictlySortedBy cmp (keys_of made ++ key ∷ [])
  Contents-sorted cmp {content} {made = made} {key = key} sofar first same sorted =
      subst (λ ks. IsStrictlySortedBy cmp (ks ++ key ∷ [])) (keys_of-values content made) (Goes-sorted cmp sofar.goes first same sorted)

  -- a refusal
  pub Contents-refused : {content : W → C} {f : V → Result C E} {whole left rest : List (K × V)} {made : List (K × W)} {next : K} {value : V} (x : Failure E) → Contents content f whole left made → left ≡ (next, value) ∷ rest → Answers (Err x) (f value) → Answers (Err x) (all_values (map_values f whole))
  Contents-refused x sofar first refused = Goes-refused x sofar.goes first refused

  -- after the last
  pub Contents-end : {content : W → C} {f : V → Result C E} {whole left : List (K × V)} {made : List (K × W)} → Contents content f whole left made → left ≡ [] → all_values (map_values f whole) ≡ Ok (map_values content made)
  Contents-end sofar none = Goes-end sofar.goes none

-- what comes of these references where this set was made before
abbrev pub set_on : {A B E : Type 0} → (B → B → Ordering) → (A → Result B E) → List B → List A → Result (List B) E
set_on cmp f made xs = and_then (all_items (map f xs)) (λ ys. Ok (fold (insert_key cmp) made ys))

-- a set told as another in the same order, with one more
pub map-insert : {F C : Type 0} (cmp : F → F → Ordering) (order : C → C → Ordering) (content : F → C) → ((a b : F) → cmp a b ≡ order (content a) (content b))
    → (ks : List F) (k : F) → map content (insert_key cmp ks k) ≡ insert_key order (map content ks) (content k)
map-insert cmp order content same [] k = refl
map-insert {F} {C} cmp order content same (x ∷ ks) k =
    by (cmp k x) (map-insert cmp order content same ks k)
    ∙ ap (λ o. match_ordering o (content k ∷ content x ∷ map content ks) (content x ∷ map content ks) (content x ∷ insert_key order (map content ks) (content k))) (same k x)
  where
    by : (o : Ordering) → map content (insert_key cmp ks k) ≡ insert_key order (map content ks) (content k)
        → map content (match_ordering o (k ∷ x ∷ ks) (x ∷ ks) (x ∷ insert_key cmp ks k))
        ≡ match_ordering o (content k ∷ content x ∷ map content ks) (content x ∷ map content ks) (content x ∷ insert_key order (map content ks) (content k))
    by Less ih = refl
    by Equal ih = refl
    by Greater ih = ap (λ l. content x ∷ l) ih

made_next : {B E : Type 0} (cmp : B → B → Ordering) (made : List B) (y : B) (r : Result (List B) E) → and_then (and_then r (λ ys. Ok (y ∷ ys))) (λ ys. Ok (fold (insert_key cmp) made ys)) ≡ and_then r (λ ys. Ok (fold (insert_key cmp) (insert_key cmp made y) ys))
made_next cmp made y (Ok ys) = refl
made_next cmp made y (Err e) = refl

-- a loop over `whole` that has `left` before it has made this set
pub record MakesSet {A B F E : Type 0} (content : F → B) (cmp : B → B → Ordering) (f : A → Result B E) (whole left : List A) (made : List F) : Type 0 where
  pub is : set_on cmp f (map content made) left ≡ through_set cmp f whole

at_next : {A B E : Type 0} (cmp : B → B → Ordering) (f : A → Result B E) (made : List B) (left rest : List A) (next : A) (r : Result B E) → left ≡ next ∷ rest → f next ≡ r
    → set_on cmp f made left ≡ and_then (and_then r (λ y. and_then (all_items (map f rest)) (λ ys. Ok (y ∷ ys)))) (λ ys. Ok (fold (insert_key cmp) made ys))
at_next cmp f made left rest next r first gives =
    ap (set_on cmp f made) first
    ∙ ap (λ r. and_then (and_then r (λ y. and_then (all_items (map f rest)) (λ ys. Ok (y ∷ ys)))) (λ ys. Ok (fold (insert_key cmp) made ys))) gives

module _ {A B F E : Type 0} where
  -- before the first
  pub MakesSet-start : (content : F → B) (cmp : B → B → Ordering) (f : A → Result B E) (whole left : List A) (made : List F) → left ≡ whole → made ≡ [] → MakesSet content cmp f whole left made
  MakesSet-start content cmp f whole left made all none = record { is = λ i. set_on cmp f (map content (none i)) (all i) }

  -- one more
  pub MakesSet-next : {content : F → B} {cmp : B → B → Ordering} {f : A → Result B E} {whole left rest : List A} {made more : List F} {next : A} (order : F → F → Ordering) (y : F) → ((a b : F) → order a b ≡ cmp (content a) (content b))
      → MakesSet content cmp f whole left made → left ≡ next ∷ rest → f next ≡ Ok (content y) → more ≡ insert_key order made y → MakesSet content cmp f whole rest more
  MakesSet-next {content} {cmp} {f} {left = left} {rest = rest} {made = made} {next = next} order y same sofar first gives put = record {
    is = ap (λ m. set_on cmp f m rest) (ap (map content) put ∙ map-insert order cmp content same made y)
        ∙ sym (made_next cmp (map content made) (content y) (all_items (map f rest)))
        ∙ sym (at_next cmp f (map content made) left rest next (Ok (content y)) first gives) ∙ sofar.is;
  }

  -- a refusal
  pub MakesSet-refused : {content : F → B} {cmp : B → B → Ordering} {f : A → Result B E} {whole left rest : List A} {made : List F} {next : A} (x : Failure E) → MakesSet content cmp f whole left made → left ≡ next ∷ rest → Answers (Err x) (f next) → Answers (Err x) (through_set cmp f whole)
  MakesSet-refused {content} {cmp} {f} {whole} {left} {rest} {made} {next} x sofar first refused =
      Answers-refused x (f next) (through_set cmp f whole) refused (λ e is. sym sofar.is ∙ at_next cmp f (map content made) left rest next (Err e) first is)

  -- after the last
  pub MakesSet-end : {content : F → B} {cmp : B → B → Ordering} {f : A → Result B E} {whole left : List A} {made : List F} → MakesSet content cmp f whole left made → left ≡ [] → through_set cmp f whole ≡ Ok (map content made)
  MakesSet-end {content} {cmp} {f} {made = made} sofar none = sym sofar.is ∙ ap (set_on cmp f (map content made)) none

-- a loop over a list that has `left` before it has made these items
pub record Lists {A F C E : Type 0} (content : F → C) (f : A → Result C E) (whole left : List A) (made : List F) : Type 0 where
  pub goes : GoesOn f whole left (map content made)

module _ {A F C E : Type 0} where
  -- before the first
  pub Lists-start : (content : F → C) (f : A → Result C E) (whole left : List A) (made : List F) → left ≡ whole → made ≡ [] → Lists content f whole left made
  Lists-start content f whole left made all none = record { goes = GoesOn-start f whole left (map content made) all (ap (map content) none) }

  -- one more
  pub Lists-next : {content : F → C} {f : A → Result C E} {whole left rest : List A} {made more : List F} {next : A} (new : F) → Lists content f whole left made → left ≡ next ∷ rest → f next ≡ Ok (content new) → more ≡ made ++ new ∷ [] → Lists content f whole rest more
  Lists-next {content} {made = made} new sofar first gives pushed = record {
    goes = GoesOn-next sofar.goes first gives (ap (map content) pushed ∙ map-append content made (new ∷ []));
  }

  -- a refusal
  pub Lists-refused : {content : F → C} {f : A → Result C E} {whole left rest : List A} {made : List F} {next : A} (x : Failure E) → Lists content f whole left made → left ≡ next ∷ rest → Answers (Err x) (f next) → Answers (Err x) (all_items (map f whole))
  Lists-refused x sofar first refused = GoesOn-refused x sofar.goes first refused

  -- after the last
  pub Lists-end : {content : F → C} {f : A → Result C E} {whole left : List A} {made : List F} → Lists content f whole left made → left ≡ [] → all_items (map f whole) ≡ Ok (map content made)
  Lists-end sofar none = GoesOn-end sofar.goes none

pub map_values-id : {K V : Type 0} (es : List (K × V)) → map_values {K = K} {V = V} {W = V} (λ v. v) es ≡ es
map_values-id [] = refl
map_values-id (e ∷ es) = ap (λ es. e ∷ es) (map_values-id es)

pub ruleset contents = (Contents-start, Contents-next, Contents-sorted, Contents-refused, Contents-end, MakesSet-start, MakesSet-next, MakesSet-refused, MakesSet-end, Answers-refused)

pub ruleset listed = (Lists-start, Lists-next, Lists-refused, Lists-end)

pub ruleset parts = (map-id, map_values-id, Answers-refused)
