-- SPDX-License-Identifier: Apache-2.0
-- A loop over attributes that looks for an extension type.
use Rattle.std.proofs.Common.{◌≡◌, Bool, true, false, ◌||◌, List, [], ◌∷◌, ◌++◌, Option, Some, None, refl, ap, sym, ◌∙◌, append_assoc}
use Rattle.cedar_print.specs.of_data.Maps.{map_values}
use Rattle.cedar_written.specs.WrittenTypes.{any_extension, either}

-- a loop over `whole` that has `left` before it has found so much
pub record Finds {K V : Type 0} (f : V → Option Bool) (whole left : List (K × V)) (found : Bool) : Type 0 where
  pub done : List (K × V)
  pub split : done ++ left ≡ whole
  pub is : any_extension (map_values f whole) ≡ either (Some found) (any_extension (map_values f left))

either-false : (o : Option Bool) → o ≡ either (Some false) o
either-false None = refl
either-false (Some b) = refl

or_assoc : (a b c : Bool) → a || (b || c) ≡ (a || b) || c
or_assoc true b c = refl
or_assoc false b c = refl

or_false : (a : Bool) → a || false ≡ a
or_false true = refl
or_false false = refl

-- what was found stays found
pub or-true : (a b : Bool) → a ≡ true → true ≡ a || b
or-true a b is = ap (λ a. a || b) (sym is)

pub or-kept : (a b : Bool) → a ≡ true → a ≡ a || b
or-kept a b is = is ∙ ap (λ a. a || b) (sym is)

-- where nothing was found, the next one decides
pub or-next : (a b : Bool) → a ≡ false → b ≡ a || b
or-next a b is = ap (λ a. a || b) (sym is)

either-assoc : (a b : Bool) (o : Option Bool) → either (Some a) (either (Some b) o) ≡ either (Some (a || b)) o
either-assoc a b None = refl
either-assoc a b (Some c) = ap Some (or_assoc a b c)

module _ {K V : Type 0} where
  at_next : (f : V → Option Bool) (found : Bool) {left rest : List (K × V)} {next : K × V} (o : Option Bool) → left ≡ next ∷ rest → f next.1 ≡ o
      → either (Some found) (any_extension (map_values f left)) ≡ either (Some found) (either o (any_extension (map_values f rest)))
  at_next f found {rest = rest} o first gives = ap (λ es. either (Some found) (any_extension (map_values f es))) first ∙ ap (λ o. either (Some found) (either o (any_extension (map_values f rest)))) gives

  -- before the first entry
  pub Finds-start : (f : V → Option Bool) (whole left : List (K × V)) → left ≡ whole → Finds f whole left false
  Finds-start f whole left all = record {
    done = [];
    split = all;
    is = ap (λ es. any_extension (map_values f es)) (sym all) ∙ either-false (any_extension (map_values f left));
  }

  -- one entry more
  pub Finds-next : {f : V → Option Bool} {whole left rest : List (K × V)} {found more : Bool} {next : K × V} (one : Bool) → Finds f whole left found → left ≡ next ∷ rest → f next.1 ≡ Some one → more ≡ found || one → Finds f whole rest more
  Finds-next {f} {whole} {left} {rest} {found} {more} {next} one sofar first gives now = record {
    done = sofar.done ++ next ∷ [];
    split = append_assoc sofar.done (next ∷ []) rest ∙ ap (λ l. sofar.done ++ l) (sym first) ∙ sofar.split;
    is = sofar.is ∙ at_next f found (Some one) first gives ∙ either-assoc found one (any_extension (map_values f rest)) ∙ ap (λ b. either (Some b) (any_extension (map_values f rest))) (sym now);
  }

  -- an entry that is not known
  pub Finds-none : {f : V → Option Bool} {whole left rest : List (K × V)} {found : Bool} {next : K × V} → Finds f whole left found → left ≡ next ∷ rest → f next.1 ≡ None → None ≡ any_extension (map_values f whole)
  Finds-none {f} {found = found} sofar first gives = sym (sofar.is ∙ at_next f found None first gives)

  -- after the last
  pub Finds-end : {f : V → Option Bool} {whole left : List (K × V)} {found : Bool} → Finds f whole left found → left ≡ [] → Some found ≡ any_extension (map_values f whole)
  Finds-end {f} {found = found} sofar none = sym (sofar.is ∙ ap (λ es. either (Some found) (any_extension (map_values f es))) none ∙ ap Some (or_false found))

pub ruleset found = (Finds-start, Finds-none, Finds-end)

pub ruleset ors = (or-true, or-kept, or-next)
