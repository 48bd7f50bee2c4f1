-- SPDX-License-Identifier: Apache-2.0
-- An input that passes a review isn't refused.
use Rattle.std.proofs.Common.{◌≡◌, ℕ, List, Result, Ok, Err, subst}
use Rattle.std.specs.Prelude.{⊤}
use Rattle.cedar_commands.specs.declared.command.Review.{Review}
use Rattle.cedar_commands.specs.declared.command.Review.TheVariants.{Merge, Compat}
use Rattle.cedar_data.specs.Answers.{Accepts, IfRefused}
use Rattle.cedar_data.specs.declared.memory.Failure.{Failure}
use Rattle.cedar_data.specs.declared.memory.Failure.TheVariants.{Refused, NoMemory}
use Rattle.cedar_reviews.proofs.Compared.{comparable-or-told}
use Rattle.cedar_reviews.proofs.Mergeable.{mergeable-or-told}
use Rattle.cedar_reviews.specs.Comparing.{IsComparable, TellsComparison}
use Rattle.cedar_reviews.specs.Merging.{IsMergeable, TellsMerging}
use Rattle.cedar_reviews.specs.Reviewing.{IsReviewable}

-- what can't be told isn't told
accepted-unless : {T E : Type 0} (Told : E → Type 0) (r : Result T (Failure E)) → IfRefused r Told → ((e : E) → Told e → ⊥) → Accepts (λ _. ⊤) r
accepted-unless Told (Ok value) told never = tt
accepted-unless Told (Err (Refused e)) told never = never e told
accepted-unless Told (Err NoMemory) told never = tt

as-mergeable : (input : List ℕ) (extensions : List (List ℕ)) → IsReviewable Merge input extensions → IsMergeable input extensions
unfolding IsReviewable
as-mergeable input extensions is = is

as-comparable : (input : List ℕ) (extensions : List (List ℕ)) → IsReviewable Compat input extensions → IsComparable input extensions
unfolding IsReviewable
as-comparable input extensions is = is

module _ {T E : Type 0} (bytes : E → List ℕ) (input : List ℕ) (extensions : List (List ℕ)) (review : Review) (r : Result T (Failure E)) where
  pub merge-accepts : review ≡ Merge → IfRefused r (λ e. TellsMerging input extensions (bytes e)) → IsReviewable review input extensions → Accepts (λ _. ⊤) r
  merge-accepts at_merge told is =
      let mergeable = as-mergeable input extensions (subst (λ v. IsReviewable v input extensions) at_merge is) in
      accepted-unless (λ e. TellsMerging input extensions (bytes e)) r told (λ e t. mergeable-or-told input extensions (bytes e) mergeable t)

  pub compat-accepts : review ≡ Compat → IfRefused r (λ e. TellsComparison input extensions (bytes e)) → IsReviewable review input extensions → Accepts (λ _. ⊤) r
  compat-accepts at_compat told is =
      let comparable = as-comparable input extensions (subst (λ v. IsReviewable v input extensions) at_compat is) in
      accepted-unless (λ e. TellsComparison input extensions (bytes e)) r told (λ e t. comparable-or-told input extensions (bytes e) comparable t)
