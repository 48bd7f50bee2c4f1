-- SPDX-License-Identifier: Apache-2.0
use Rattle.std.proofs.Common.{◌∷◌, [], ◌++◌, sym, subst}
use Rattle.std.specs.List.Sorted.{IsStrictlySortedBy}
use Rattle.std.specs.Map.{keys_of}
use Rattle.cedar_data.proofs.entries.continued.Goals as goal

pub push-requires : goal.push-requires
unfolding IsStrictlySortedBy
push-requires g c = subst (λ es. IsStrictlySortedBy g.K.Ord.cmp (keys_of es ++ c.args.key ∷ [])) (sym c.in_ok-more.ensures) (tt, tt)
