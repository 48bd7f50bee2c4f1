-- SPDX-License-Identifier: Apache-2.0
-- What comes of steps that never refuse, one after another.
use Rattle.std.proofs.Common.{◌≡◌, List, [], ◌∷◌, map, Option, Some, None, option_map, refl, ap, ◌∙◌}
use Rattle.std.specs.declared.result.Result.{Result}
use Rattle.std.specs.declared.result.Result.TheVariants.{Ok, Err}
use Rattle.cedar_data.specs.Maps.{map_values}
use Rattle.cedar_written.specs.Answers.{all_items, all_values, and_then, in_option}
use Rattle.cedar_written.specs.declared.qualifying.Never.{Never}
use Rattle.cedar_namespace_definitions.specs.Definitions.{sure}

-- one step
pub sure_one : {A B : Type 0} (r : Result A Never) (f : A → B) → sure (and_then r (λ a. Ok (f a))) ≡ f (sure r)
sure_one (Ok a) f = refl
sure_one (Err never) f = elim never [ ]

-- two
pub sure_two : {A B C : Type 0} (r : Result A Never) (s : Result B Never) (f : A → B → C) → sure (and_then r (λ a. and_then s (λ b. Ok (f a b)))) ≡ f (sure r) (sure s)
sure_two (Ok a) s f = sure_one s (f a)
sure_two (Err never) s f = elim never [ ]

-- three
pub sure_three : {A B C D : Type 0} (r : Result A Never) (s : Result B Never) (t : Result C Never) (f : A → B → C → D)
    → sure (and_then r (λ a. and_then s (λ b. and_then t (λ c. Ok (f a b c))))) ≡ f (sure r) (sure s) (sure t)
sure_three (Ok a) s t f = sure_two s t (f a)
sure_three (Err never) s t f = elim never [ ]

module _ {V W : Type 0} (f : V → Result W Never) where
  -- a step for each value of a map
  pub sure_values : {K : Type 0} (es : List (K × V)) → sure (all_values (map_values f es)) ≡ map_values (λ v. sure (f v)) es
  sure_values [] = refl
  sure_values (e ∷ es) = sure_two (f e.1) (all_values (map_values f es)) (λ v vs. (e.0, v) ∷ vs) ∙ ap (λ vs. (e.0, sure (f e.1)) ∷ vs) (sure_values es)

  -- for each item
  pub sure_items : (vs : List V) → sure (all_items (map f vs)) ≡ map (λ v. sure (f v)) vs
  sure_items [] = refl
  sure_items (v ∷ vs) = sure_two (f v) (all_items (map f vs)) (λ w ws. w ∷ ws) ∙ ap (λ ws. sure (f v) ∷ ws) (sure_items vs)

  -- for a value that may be there
  pub sure_option : (o : Option V) → sure (in_option (option_map f o)) ≡ option_map (λ v. sure (f v)) o
  sure_option None = refl
  sure_option (Some v) = sure_one (f v) Some
