-- SPDX-License-Identifier: Apache-2.0
use Rattle.std.proofs.Common.{sym, ◌∙◌}
use Rattle.cedar_text.proofs.FormLemmas.{IsCharBoundary-first}
use Rattle.cedar_text.proofs.form.token_at.Goals as goal

pub split_at-requires : goal.split_at-requires
split_at-requires c = IsCharBoundary-first c.args.s.now _ _ _ c.utf8.s (sym c.chars.ensures.rest ∙ c.in-Some.ensures.steps.0) c.len_utf8.ensures.value
