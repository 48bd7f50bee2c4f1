-- SPDX-License-Identifier: Apache-2.0
use Rattle.std.proofs.Common.{◌≡◌}
use Rattle.std.specs.Iterator.Adapters.{rev_source}
use Rattle.std.specs.Slice.Iter.{iter_rest}
use Rattle.cedar_syntax.specs.Repeats.{seen_from}
use Rattle.cedar_syntax.specs.declared.repeats.Seen.TheVariants.{Annotations}
use Rattle.cedar_syntax.proofs.repeats.key_in.Given as goal

-- what will be seen of the tokens that are left is what is seen of all
abbrev pub invariant-loop-token : goal.invariant-loop-token
invariant-loop-token l = seen_from l.word l.seen (iter_rest (rev_source l.token-iterator)) ≡ seen_from l.word Annotations l.tokens
