-- SPDX-License-Identifier: Apache-2.0
-- Writing pieces one after another, and loops that write those of each item.
use Rattle.std.proofs.Common.{◌≡◌, ◌<◌, ℕ, ◌+◌, Bool, true, false, length, take, get_or, List, [], ◌∷◌, ◌++◌, refl, sym, ap, ◌∙◌, subst, append_assoc, Option}
use Rattle.std.proofs.Output.{displays_on_IsOk_append, displays_on_ok_of_eq, writes_in_calls_nil}
use Rattle.std.proofs.lemmas.List.{append-nil, take_more}
use Rattle.std.proofs.lemmas.List.Concat.{flat_map-append}
use Rattle.std.specs.Prelude.{IsOk}
use Rattle.std.specs.Fmt.{DisplaysOnOk}
use Rattle.std.specs.List.{flat_map}
use Rattle.std.specs.declared.fmt.Error.{Error}
use Rattle.std.specs.declared.fmt.Formatter.{Formatter}
use Rattle.std.specs.declared.result.Result.{Result}
use Rattle.std.specs.declared.result.Result.TheVariants.{Ok}
use Rattle.cedar_print.specs.Pieces.{Pieces, text_of, following, separated, unless_first}
use Rattle.cedar_print.proofs.Texts.{text_of-append}

-- whether nothing has been written yet
abbrev is_nil : {T : Type 0} → List T → Bool
is_nil [] = true
is_nil (t ∷ ts) = false

not_nil : {T : Type 0} (ts : List T) (t : T) → false ≡ is_nil (ts ++ t ∷ [])
not_nil [] t = refl
not_nil (u ∷ ts) t = refl

module _ {W : Type 0} (took : W → List ℕ → W → Type 0) {N : Type 0} (shown : N → Option (List ℕ)) where
  -- these pieces are written
  abbrev pub Shows : Formatter W → Result (Unit {0}) Error → Pieces N → Formatter W → Type 0
  Shows f r ps g = DisplaysOnOk took f r (text_of shown ps) g

  -- nothing is written
  pub Shows-nothing : (f : Formatter W) → Shows f (Ok tt) [] f
  Shows-nothing f = λ plain ok. record { wrote = writes_in_calls_nil took _; plain = plain }

  -- pieces behind others
  pub Shows-then : (f g h : Formatter W) (r s : Result (Unit {0}) Error) (xs ys : Pieces N) → (IsOk s → IsOk r) → Shows f r xs g → Shows g s ys h → Shows f s (xs ++ ys) h
  Shows-then f g h r s xs ys ok first second =
      displays_on_ok_of_eq took f h s _ _ (sym (text_of-append shown xs ys)) (displays_on_IsOk_append took f g h r s (text_of shown xs) (text_of shown ys) ok first second)

  -- pieces behind others, where the first call succeeds
  pub Shows-two : (f g h : Formatter W) (r : Result (Unit {0}) Error) (xs ys : Pieces N) → Shows f (Ok tt) xs g → Shows g r ys h → Shows f r (xs ++ ys) h
  Shows-two f g h r xs ys = Shows-then f g h (Ok tt) r xs ys (λ ok. refl)

  -- the same of three
  pub Shows-three : (f g h k : Formatter W) (r : Result (Unit {0}) Error) (xs ys zs : Pieces N) → Shows f (Ok tt) xs g → Shows g (Ok tt) ys h → Shows h r zs k → Shows f r (xs ++ (ys ++ zs)) k
  Shows-three f g h k r xs ys zs first second third = Shows-two f g k r xs (ys ++ zs) first (Shows-two g h k r ys zs second third)

  -- the same of four
  pub Shows-four : (f g h k m : Formatter W) (r : Result (Unit {0}) Error) (ws xs ys zs : Pieces N) → Shows f (Ok tt) ws g → Shows g (Ok tt) xs h → Shows h (Ok tt) ys k → Shows k r zs m → Shows f r (ws ++ (xs ++ (ys ++ zs))) m
  Shows-four f g h k m r ws xs ys zs first second third fourth = Shows-two f g m r ws (xs ++ (ys ++ zs)) first (Shows-three g h k m r xs ys zs second third fourth)

  -- a loop over `whole` that has written the pieces of `done` and has `left` before it
  pub record Prints {T : Type 0} (parts : T → Pieces N) (whole left : List T) (f g : Formatter W) : Type 0 where
    pub done : List T
    pub split : done ++ left ≡ whole
    pub is : Shows f (Ok tt) (flat_map parts done) g

  module _ {T : Type 0} where
    -- one item more of a slice
    pub Shows-more : (parts : T → Pieces N) (xs : List T) (i : ℕ) (item : T) (f g h : Formatter W) → i < length xs → item ≡ get_or xs i item → Shows f (Ok tt) (flat_map parts (take i xs)) g → Shows g (Ok tt) (parts item) h → Shows f (Ok tt) (flat_map parts (take (i + 1) xs)) h
    Shows-more parts xs i item f g h within is sofar more =
        subst (λ (ps : Pieces N). Shows f (Ok tt) ps h)
        (sym (ap (λ ts. flat_map parts ts) (take_more xs i item within ∙ ap (λ t. take i xs ++ t ∷ []) (sym is)) ∙ flat_map-append parts (take i xs) (item ∷ []) ∙ ap (λ ps. flat_map parts (take i xs) ++ ps) (append-nil (parts item))))
        (Shows-two f g h (Ok tt) (flat_map parts (take i xs)) (parts item) sofar more)

    -- before the first item
    pub Prints-start : (parts : T → Pieces N) (whole left : List T) (f g : Formatter W) → left ≡ whole → g ≡ f → Prints parts whole left f g
    Prints-start parts whole left f g all same = record {
      done = [];
      split = all;
      is = subst (λ (x : Formatter W). Shows f (Ok tt) [] x) (sym same) (Shows-nothing f);
    }

    -- one item more
    pub Prints-next : {parts : T → Pieces N} {whole left rest : List T} {f g h : Formatter W} {item : T} → Prints parts whole left f g → left ≡ item ∷ rest → Shows g (Ok tt) (parts item) h → Prints parts whole rest f h
    Prints-next {parts} {whole} {left} {rest} {f} {g} {h} {item} sofar first more = record {
      done = sofar.done ++ item ∷ [];
      split = append_assoc sofar.done (item ∷ []) rest ∙ ap (λ l. sofar.done ++ l) (sym first) ∙ sofar.split;
      is = subst (λ (ps : Pieces N). Shows f (Ok tt) ps h)
          (sym (flat_map-append parts sofar.done (item ∷ []) ∙ ap (λ ps. flat_map parts sofar.done ++ ps) (append-nil (parts item))))
          (Shows-then f g h (Ok tt) (Ok tt) (flat_map parts sofar.done) (parts item) (λ ok. ok) sofar.is more);
    }

    -- after the last
    pub Prints-end : {parts : T → Pieces N} {whole left : List T} {f g : Formatter W} → Prints parts whole left f g → left ≡ [] → Shows f (Ok tt) (flat_map parts whole) g
    Prints-end {parts} {whole} {left} {f} {g} sofar none =
        let all : sofar.done ≡ whole = sym (append-nil sofar.done) ∙ ap (λ l. sofar.done ++ l) (sym none) ∙ sofar.split in
        subst (λ (ts : List T). Shows f (Ok tt) (flat_map parts ts) g) all sofar.is

  -- a loop that has written the pieces of `done` with a separator between them; whether the next item is the first
  pub record Separates {T : Type 0} (separator : Pieces N) (parts : T → Pieces N) (whole left : List T) (is_first : Bool) (f g : Formatter W) : Type 0 where
    pub done : List T
    pub split : done ++ left ≡ whole
    pub none : is_first ≡ is_nil done
    pub is : Shows f (Ok tt) (separated separator parts done) g

  module _ {T : Type 0} where
    -- before the first item
    pub Separates-start : (separator : Pieces N) (parts : T → Pieces N) (whole left : List T) (f g : Formatter W) → left ≡ whole → g ≡ f → Separates separator parts whole left true f g
    Separates-start separator parts whole left f g all same = record {
      done = [];
      split = all;
      none = refl;
      is = subst (λ (x : Formatter W). Shows f (Ok tt) [] x) (sym same) (Shows-nothing f);
    }

    one_more : (separator : Pieces N) (parts : T → Pieces N) (done : List T) (item : T) → separated separator parts (done ++ item ∷ []) ≡ separated separator parts done ++ (unless_first (is_nil done) separator ++ parts item)
    one_more separator parts [] item = append-nil (parts item)
    one_more separator parts (d ∷ ds) item =
        ap (λ ps. parts d ++ ps) (flat_map-append (λ t. separator ++ parts t) ds (item ∷ []) ∙ ap (λ ps. following separator parts ds ++ ps) (append-nil (separator ++ parts item)))
        ∙ sym (append_assoc (parts d) (following separator parts ds) (separator ++ parts item))

    -- one item more
    pub Separates-next : {separator : Pieces N} {parts : T → Pieces N} {whole left rest : List T} {is_first : Bool} {f g k : Formatter W} {item : T} (h : Formatter W) → Separates separator parts whole left is_first f g → left ≡ item ∷ rest → Shows g (Ok tt) (unless_first is_first separator) h → Shows h (Ok tt) (parts item) k → Separates separator parts whole rest false f k
    Separates-next {separator} {parts} {whole} {left} {rest} {is_first} {f} {g} {k} {item} h sofar first between more = record {
      done = sofar.done ++ item ∷ [];
      split = append_assoc sofar.done (item ∷ []) rest ∙ ap (λ l. sofar.done ++ l) (sym first) ∙ sofar.split;
      none = not_nil sofar.done item;
      is = subst (λ (ps : Pieces N). Shows f (Ok tt) ps k) (sym (one_more separator parts sofar.done item))
          (Shows-three f g h k (Ok tt) (separated separator parts sofar.done) (unless_first (is_nil sofar.done) separator) (parts item) sofar.is
          (subst (λ (b : Bool). Shows g (Ok tt) (unless_first b separator) h) sofar.none between) more);
    }

    -- after the last
    pub Separates-end : {separator : Pieces N} {parts : T → Pieces N} {whole left : List T} {is_first : Bool} {f g : Formatter W} → Separates separator parts whole left is_first f g → left ≡ [] → Shows f (Ok tt) (separated separator parts whole) g
    Separates-end {separator} {parts} {whole} {left} {f = f} {g = g} sofar none =
        let all : sofar.done ≡ whole = sym (append-nil sofar.done) ∙ ap (λ l. sofar.done ++ l) (sym none) ∙ sofar.split in
        subst (λ (ts : List T). Shows f (Ok tt) (separated separator parts ts) g) all sofar.is

pub ruleset prints = (Prints-start, Prints-next, Prints-end, Shows-then, Shows-nothing, Shows-more, Separates-start, Separates-next, Separates-end)
