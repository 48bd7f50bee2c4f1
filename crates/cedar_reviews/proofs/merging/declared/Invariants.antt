-- SPDX-License-Identifier: Apache-2.0
use Rattle.std.proofs.Common.{drop}
use Rattle.cedar_names.specs.Extensions.{extension_words}
use Rattle.cedar_reviews.proofs.MergeLoops.{DeclaresTexts}
use Rattle.cedar_reviews.proofs.merging.declared.Given as goal

-- the texts so far declare these fragments
abbrev pub invariant-loop-item : goal.invariant-loop-item
invariant-loop-item l = DeclaresTexts (extension_words l.extensions) l.items (drop l.item-index l.items) l.fragments.items
