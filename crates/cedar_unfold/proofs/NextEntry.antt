-- SPDX-License-Identifier: Apache-2.0
-- The first entry whose key is greater is the first of those that follow the key.
use Rattle.std.proofs.Common.{◌≡◌, ℕ, Bool, true, false, cond, List, [], ◌∷◌, Some, refl}
use Rattle.std.specs.Cmp.Lexicographic.{slice_cmp}
use Rattle.std.specs.List.{filter}
use Rattle.std.specs.Ordering.{is_lt, nat_cmp}
use Rattle.cedar_data.specs.Runs.{first_after}
use Rattle.cedar_unfold.specs.Following.{first_of, next_entry}

module _ {V : Type 0} where
  pub first_after-next : (key : List ℕ) (es : List (List ℕ × V)) → first_after (slice_cmp nat_cmp) key es ≡ next_entry (Some key) es
  first_after-next key [] = refl
  first_after-next key (e ∷ es) = by (is_lt (slice_cmp nat_cmp key e.0)) (first_after-next key es)
    where
      others : List (List ℕ × V)
      others = filter (λ d. is_lt (slice_cmp nat_cmp key d.0)) es

      by : (b : Bool) → first_after (slice_cmp nat_cmp) key es ≡ first_of others → cond b (Some e) (first_after (slice_cmp nat_cmp) key es) ≡ first_of (cond b (e ∷ others) others)
      by true rest = refl
      by false rest = rest
