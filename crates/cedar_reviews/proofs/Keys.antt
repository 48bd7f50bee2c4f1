-- SPDX-License-Identifier: Apache-2.0
-- The keys that are wanted of an object are distinct.
use Rattle.std.proofs.Common.{◌≡◌, ℕ, List, [], ◌∷◌, false, codes, refl, ap, ◌∙◌}
use Rattle.std.specs.List.{IsDistinct}
use Rattle.std.specs.Str.{bytes_eq}
use Rattle.cedar_reviews.specs.Judging.{judged_key}
use Rattle.cedar_reviews.specs.declared.judged.Judged.{Judged}
use Rattle.cedar_reviews.specs.declared.judged.Judged.TheVariants.{Entities, Requests}

pub one-key : (a : List ℕ) → IsDistinct bytes_eq (a ∷ [])
unfolding IsDistinct
one-key a = (tt, tt)

apart : (a b : List ℕ) → bytes_eq a b ≡ false → IsDistinct bytes_eq (a ∷ b ∷ [])
unfolding IsDistinct
apart a b is = ((is, tt), (tt, tt))

-- texts that are these two keys
pub two-keys : (k l a b : List ℕ) → bytes_eq k l ≡ false → a ≡ k → b ≡ l → IsDistinct bytes_eq (a ∷ b ∷ [])
two-keys k l a b differ first second = apart a b (ap (λ x. bytes_eq x b) first ∙ ap (bytes_eq k) second ∙ differ)

-- the key of the schema, and that of what it judges
pub judged-keys : (judged : Judged) (a b : List ℕ) → a ≡ codes "schema" → b ≡ judged_key judged → IsDistinct bytes_eq (a ∷ b ∷ [])
judged-keys Entities a b first second = two-keys (codes "schema") (codes "entities") a b refl first second
judged-keys Requests a b first second = two-keys (codes "schema") (codes "requests") a b refl first second
