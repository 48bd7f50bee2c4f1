-- SPDX-License-Identifier: Apache-2.0
-- What reviews make of inputs, and why they refuse them.
use Rattle.std.specs.Prelude.{ℕ, List}
use Rattle.cedar_commands.specs.declared.command.Review.{Review}
use Rattle.cedar_commands.specs.declared.command.Review.TheVariants.{Conform, Request, Merge, Compat}
use Rattle.cedar_reviews.specs.Comparing.{IsComparable, MakesComparison, TellsComparison}
use Rattle.cedar_reviews.specs.Judging.{MakesJudgement, Passes, TellsJudgement}
use Rattle.cedar_reviews.specs.Merging.{IsMergeable, MakesMerge, TellsMerging}
use Rattle.cedar_reviews.specs.declared.judged.Judged.TheVariants.{Entities, Requests}

-- what a review makes of an input with these extension types
unfoldable pub MakesReview : Review → List ℕ → List (List ℕ) → List ℕ → Type 0
MakesReview Conform input extensions due = MakesJudgement Entities input extensions due
MakesReview Request input extensions due = MakesJudgement Requests input extensions due
MakesReview Merge input extensions due = MakesMerge input extensions due
MakesReview Compat input extensions due = MakesComparison input extensions due

-- why a review refuses an input: what is told
unfoldable pub TellsReview : Review → List ℕ → List (List ℕ) → List ℕ → Type 0
TellsReview Conform input extensions told = TellsJudgement Entities input extensions told
TellsReview Request input extensions told = TellsJudgement Requests input extensions told
TellsReview Merge input extensions told = TellsMerging input extensions told
TellsReview Compat input extensions told = TellsComparison input extensions told

-- the inputs that pass a review
unfoldable pub IsReviewable : Review → List ℕ → List (List ℕ) → Type 0
IsReviewable Conform input extensions = Passes Entities input extensions
IsReviewable Request input extensions = Passes Requests input extensions
IsReviewable Merge input extensions = IsMergeable input extensions
IsReviewable Compat input extensions = IsComparable input extensions
