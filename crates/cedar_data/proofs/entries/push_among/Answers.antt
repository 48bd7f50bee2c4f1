-- SPDX-License-Identifier: Apache-2.0
use Rattle.std.proofs.Common.{arith, ◌∷◌, [], ◌++◌, sym, ap, subst, ◌∙◌}
use Rattle.std.specs.List.Sorted.{IsStrictlySortedBy}
use Rattle.std.specs.Map.{keys_of}
use Rattle.cedar_data.specs.Runs.{all_runs, AreRuns}
use Rattle.cedar_data.proofs.RunAppend.{behind_last, longer_where_ok, more_by, AreRuns-either, AreRuns-more}
use Rattle.cedar_data.proofs.entries.push_among.Goals as goal

pub push-requires : goal.push-requires
push-requires g c =
    behind_last c.args.runs.now.items c.saturating_sub-last.result c.index_mut.result.now c.requires.runs.some (search arith) c.index_mut.ensures.value g.K.Ord.cmp c.args.key c.requires.last

pub returns-then-len-lt-MOST-clause-ok : goal.returns-then-len-lt-MOST-clause-ok
returns-then-len-lt-MOST-clause-ok g c =
    longer_where_ok c.args.runs.now.items c.saturating_sub-last.result c.index_mut.result.now c.push.new.self (c.args.key, c.args.value) c.push.result c.requires.runs.some (search arith) c.index_mut.ensures.value c.push.ensures.ok

pub returns-then-len-lt-MOST-clause-runs : goal.returns-then-len-lt-MOST-clause-runs
returns-then-len-lt-MOST-clause-runs g c =
    AreRuns-either c.args.runs.now.items c.saturating_sub-last.result c.index_mut.result.now c.push.new.self c.args.key c.args.value c.push.result c.requires.runs (search arith) c.index_mut.ensures.value c.requires.last c.push.ensures.ok c.push.ensures.err

pub push-requires-2 : goal.push-requires-2
unfolding IsStrictlySortedBy
push-requires-2 g c = subst (λ es. IsStrictlySortedBy g.K.Ord.cmp (keys_of es ++ c.args.key ∷ [])) (sym c.in_ok-run.ensures) (tt, tt)

pub returns-clause-ok : goal.returns-clause-ok
returns-clause-ok g c =
    ap all_runs c.in_ok-push-2.ensures.items ∙ more_by c.args.runs.now.items c.push-2.new.self ∙ ap (λ es. all_runs c.args.runs.now.items ++ es) (c.in_ok-push.ensures.ok ∙ ap (λ es. es ++ (c.args.key, c.args.value) ∷ []) c.in_ok-run.ensures)

pub returns-clause-runs : goal.returns-clause-runs
returns-clause-runs g c =
    subst (AreRuns g.K.Ord.cmp)
    (sym (c.in_ok-push-2.ensures.items ∙ ap (λ es. c.args.runs.now.items ++ es ∷ []) (c.in_ok-push.ensures.ok ∙ ap (λ es. es ++ (c.args.key, c.args.value) ∷ []) c.in_ok-run.ensures)))
    (AreRuns-more c.args.runs.now.items c.args.key c.args.value c.requires.runs c.requires.last)
