-- SPDX-License-Identifier: Apache-2.0
-- The search for the first repeat of few names, each looked for among those before it.
use Rattle.std.proofs.Common.{◌≡◌, ℕ, ◌+◌, List, [], ◌∷◌, ◌++◌, take, drop, Some, None, sym, ap, ◌∙◌, refl}
use Rattle.cedar_text.specs.declared.location.Loc.{Loc}
use Rattle.cedar_text.specs.declared.node.Node.{Node}
use Rattle.cedar_convert_faults.specs.Repeats.{Names, place_of, repeat_behind, first_repeat, repeat_or}
use Rattle.cedar_convert_faults.specs.declared.repeats.Repeat.{Repeat}

-- the first repeat of all is that among the names from an index on, behind those before
pub record Sought (all : Names) (at : ℕ) : Type 0 where
  pub is : repeat_behind (take at all) (drop at all) ≡ first_repeat all

pub Sought-start : (all : Names) → Sought all 0
Sought-start all = record { is = refl }

-- the name at the index stands before
pub Sought-found : {all rest : Names} {at : ℕ} (n : Node (List ℕ)) (place : Loc) (found : Repeat) → Sought all at → drop at all ≡ n ∷ rest
    → Some place ≡ place_of (take at all) n.node → found ≡ record { name = n.node; first = place; second = n.loc } → Some found ≡ first_repeat all
Sought-found {all} {rest} {at} n place found r first here is =
    ap Some is ∙ ap (λ p. repeat_or p n (repeat_behind (take at all ++ n ∷ []) rest)) here ∙ ap (repeat_behind (take at all)) (sym first) ∙ r.is

-- it doesn't
pub Sought-next : {all : Names} {at : ℕ} (n : Node (List ℕ)) → Sought all at → drop at all ≡ n ∷ drop (at + 1) all → take (at + 1) all ≡ take at all ++ n ∷ []
    → None ≡ place_of (take at all) n.node → Sought all (at + 1)
Sought-next {all} {at} n r first more new = record {
  is =
      ap (λ seen. repeat_behind seen (drop (at + 1) all)) more
      ∙ ap (λ p. repeat_or p n (repeat_behind (take at all ++ n ∷ []) (drop (at + 1) all))) new
      ∙ ap (repeat_behind (take at all)) (sym first) ∙ r.is;
}

-- after the last
pub Sought-none : {all : Names} {at : ℕ} → Sought all at → drop at all ≡ [] → None ≡ first_repeat all
Sought-none {all} {at} r none = ap (repeat_behind (take at all)) (sym none) ∙ r.is

pub ruleset sought = (Sought-start, Sought-found, Sought-next, Sought-none)
