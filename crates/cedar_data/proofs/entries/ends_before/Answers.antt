-- SPDX-License-Identifier: Apache-2.0
use Rattle.std.proofs.Common.{◌∷◌, [], ◌++◌, arith, sym, subst}
use Rattle.std.specs.List.Sorted.{IsStrictlySortedBy}
use Rattle.std.specs.Map.{keys_of}
use Rattle.cedar_data.proofs.RunAppend.{behind_one, behind_several}
use Rattle.cedar_data.specs.EntriesHeld.{entries_held, IsOrderedHeld}
use Rattle.cedar_data.proofs.entries.ends_before.Goals as goal

pub returns-in-One : goal.returns-in-One
returns-in-One g c ends =
    subst (λ h. IsStrictlySortedBy g.K.Ord.cmp (keys_of (entries_held h) ++ c.args.key.now ∷ [])) (sym c.in-One.is)
    (behind_one g.met.K.Ord.total c.in-One.run' c.args.key.now (subst (IsOrderedHeld g.K.Ord.cmp) c.in-One.is c.requires) (c.ends_before.ensures ends))

pub returns-in-Several : goal.returns-in-Several
returns-in-Several g c ends =
    subst (λ h. IsStrictlySortedBy g.K.Ord.cmp (keys_of (entries_held h) ++ c.args.key.now ∷ [])) (sym c.in-Several.is)
    (behind_several g.met.K.Ord.total c.in-Several.runs.items c.saturating_sub.result c.index.result.now c.args.key.now (subst (IsOrderedHeld g.K.Ord.cmp) c.in-Several.is c.requires) (search arith) c.index.ensures (c.ends_before-in-Several.ensures ends))
