-- SPDX-License-Identifier: Apache-2.0
-- What is written of requests is one text.
use Rattle.std.proofs.Common.{◌≡◌, ℕ, List, [], ◌∷◌, codes, refl, sym, ap, ◌∙◌, subst}
use Rattle.std.specs.declared.result.Result.TheVariants.{Ok}
use Rattle.serde_json.specs.Data.{Data, Items, array, item, no_items}
use Rattle.cedar_answers.specs.Making.{Makes}
use Rattle.cedar_commands.specs.declared.command.Command.TheVariants.{Review}
use Rattle.cedar_commands.specs.declared.command.Review.TheVariants.{Request}
use Rattle.cedar_conform.proofs.ReferenceLaws.{pass-reference}
use Rattle.cedar_conform.specs.Checks.{Check}
use Rattle.cedar_conform.specs.Fits.{RefersTo}
use Rattle.cedar_conform.specs.References.{At, IsReference}
use Rattle.cedar_json_laws.proofs.OnceParts.{same_inside}
use Rattle.cedar_request.specs.Requests.{AreRequests, EachRequest, Environment, IsIn, IsNumbered, environments, in_64_bits}
use Rattle.cedar_schema_error.specs.FullNames.{FullName, Uid}
use Rattle.cedar_world.specs.Schemas.{Schema}
use Rattle.cedar_reviews.specs.Judging.{IsRightBy, environment_lines}
use Rattle.cedar_reviews.specs.Reviewing.{MakesReview}
use Rattle.cedar_reviews.specs.declared.judged.Judged.TheVariants.{Requests}
use Rattle.cedar_answer_laws.specs.Single.{AtMostOne}
use Rattle.cedar_answer_laws.proofs.Environments.{Apart, at_one_place, environments_apart, parties}
use Rattle.cedar_answer_laws.proofs.Inputs.{one_held}
use Rattle.cedar_answer_laws.proofs.ReviewsTold.{one_denoted}

-- ---- references

same_ok : (u v : Uid) → ◌≡◌ {A = Check Uid} (Ok u) (Ok v) → u ≡ v
same_ok u v same = cc

one_reference : (d : Data) (u v : Uid) → IsReference d u → IsReference d v → u ≡ v
one_reference d u v p q = same_ok u v (sym (pass-reference d u p) ∙ pass-reference d v q)

one_action : (k : List ℕ) (d : Data) (u v : Uid) → At k (λ e. IsReference e u) d → At k (λ e. IsReference e v) d → u ≡ v
one_action k d u v (e, is, p) (f, also, q) = one_reference e u v p (subst (λ x. IsReference x v) (same_inside f e (sym also ∙ is)) q)

module _ (S : Schema) where
  one_type : (k : List ℕ) (d : Data) (n m : FullName) → At k (RefersTo S n) d → At k (RefersTo S m) d → n ≡ m
  one_type k d n m (e, is, (u, p, named, known)) (f, also, (v, q, named', known')) =
      let same = one_reference e u v p (subst (λ x. IsReference x v) (same_inside f e (sym also ∙ is)) q) in
      sym named ∙ ap (λ (w : Uid). w.ty) same ∙ named'

  -- ---- requests

  one_environment : (d : Data) (env other : Environment) → IsIn S env d → IsIn S other d → parties env ≡ parties other
  one_environment d env other p q =
      λ i. (one_type (codes "principal") d env.principal other.principal p.1 q.1 i, one_action (codes "action") d env.action other.action p.2 q.2 i, one_type (codes "resource") d env.resource other.resource p.3 q.3 i)

  module _ (apart : Apart parties (environments S)) where
    one_number : (d : Data) (n m : ℕ) → IsNumbered S d n → IsNumbered S d m → n ≡ m
    one_number d n m (i, (env, at, inside), is) (j, (other, at', inside'), is') =
        is ∙ ap in_64_bits (at_one_place parties (environments S) i j env other apart at at' (one_environment d env other inside inside')) ∙ sym is'

    each_number : (ds : Items) (ns ms : List ℕ) → EachRequest S ds ns → EachRequest S ds ms → ns ≡ ms
    each_number no_items [] [] p q = refl
    each_number no_items [] (m ∷ ms) p q = absurd q
    each_number no_items (n ∷ ns) ms p q = absurd p
    each_number (item d ds) [] ms p q = absurd p
    each_number (item d ds) (n ∷ ns) [] p q = absurd q
    each_number (item d ds) (n ∷ ns) (m ∷ ms) p q = λ i. one_number d n m p.0 q.0 i ∷ each_number ds ns ms p.1 q.1 i

    all_numbers : (d : Data) (ns ms : List ℕ) → AreRequests S d ns → AreRequests S d ms → ns ≡ ms
    all_numbers d ns ms (ds, is, each) (es, also, each') =
        let lists : array es ≡ array ds = sym also ∙ is in
        let items : es ≡ ds = cc in
        each_number ds ns ms each (subst (λ x. EachRequest S x ms) items each')

-- ---- of an input

right_once : (text : List ℕ) (extensions : List (List ℕ)) (d : Data) → AtMostOne (IsRightBy Requests text extensions d)
right_once text extensions d due due' (S, (ws, denotes), (ns, are, is)) (T, other, (ms, are', is')) =
    let same = one_denoted text extensions S T (ws, denotes) other in
    let numbers = all_numbers S (environments_apart _ S denotes.denotes) d ns ms are (subst (λ R. AreRequests R d ms) (sym same) are') in
    is ∙ ap environment_lines numbers ∙ sym is'

pub one_request : (text : List ℕ) (extensions : List (List ℕ)) → AtMostOne (Makes (Review Request) text extensions)
unfolding Makes MakesReview
one_request input extensions due due' (t, d, holds, right) (u, e, holds', right') =
    let same = one_held (codes "schema") (codes "requests") input t u d e holds holds' in
    right_once t extensions d due due' right (subst (λ x. IsRightBy Requests x extensions d due') (sym same.0) (subst (λ x. IsRightBy Requests u extensions x due') (sym same.1) right'))
