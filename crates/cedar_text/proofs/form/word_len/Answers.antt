-- SPDX-License-Identifier: Apache-2.0
use Rattle.std.proofs.Common.{rules}
use Rattle.cedar_text.proofs.FormLemmas.{IsCharBoundary-word_len}
use Rattle.std.proofs.lemmas.Str.{IsCharBoundary-start}
use Rattle.cedar_text.proofs.form.word_len.Goals as goal

pub returns-in-Some-clause-boundary : goal.returns-in-Some-clause-boundary
returns-in-Some-clause-boundary c = IsCharBoundary-word_len c.args.s.now _ c.utf8.s (search rules)

pub returns-in_default-clause-boundary : goal.returns-in_default-clause-boundary
returns-in_default-clause-boundary c = IsCharBoundary-start c.args.s.now c.utf8.s
