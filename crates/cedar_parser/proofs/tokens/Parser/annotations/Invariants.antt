-- SPDX-License-Identifier: Apache-2.0
use Rattle.std.proofs.Common.{◌≤◌, length}
use Rattle.cedar_names.specs.Annotating.{annotation_entries}
use Rattle.cedar_parser.specs.Giving.{tokens_of}
use Rattle.cedar_parser.proofs.Noting.{Noted}
use Rattle.cedar_parser.proofs.tokens.Parser.annotations.Given as goal

-- what was found so far, with its keys, and what the tokens that are left read to
abbrev pub invariant-annotations : goal.invariant-annotations
invariant-annotations l = record {
  fewer : length l.tokens.rest.now ≤ length l.fn.tokens.rest.now;
  is : Noted (tokens_of l.fn.self.source.now l.fn.tokens.rest.now) l.keys (annotation_entries l.found) (tokens_of l.fn.self.source.now l.tokens.rest.now);
}

abbrev pub decreases-annotations : goal.decreases-annotations
decreases-annotations l = length l.tokens.rest.now
