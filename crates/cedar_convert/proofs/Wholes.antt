-- SPDX-License-Identifier: Apache-2.0
-- What a schema declares, from what its namespaces declare.
use Rattle.std.proofs.Common.{◌≡◌, List, Result, Ok, Err, IfOk, sym, ap, ◌∙◌, subst}
use Rattle.std.specs.Bool.{⊤}
use Rattle.cedar_data.specs.Answers.{Accepts}
use Rattle.cedar_data.specs.declared.memory.Failure.{Failure}
use Rattle.cedar_data.specs.declared.memory.Failure.TheVariants.{Refused, NoMemory}
use Rattle.cedar_tree.specs.Trees.{Schema}
use Rattle.cedar_convert_faults.specs.Conditions.{AreDeclared}
use Rattle.cedar_convert_faults.specs.Gathering.{Gathered, namespaces_of}
use Rattle.cedar_convert_namespaces.specs.of_convert_fragment.Declares.{Declares, fragment_of}
use Rattle.cedar_convert_namespaces.specs.of_convert_fragment.Fragments.{Fragment}

module _ {A E : Type 0} (seen : A → Fragment) (s : Schema) (gs : List Gathered) (is : gs ≡ namespaces_of s) where
  -- the fragment of an answer is declared
  pub declares_from : (r : Result A (Failure E)) → IfOk r (λ made. seen made ≡ fragment_of gs) → IfOk r (λ _. AreDeclared gs) → IfOk r (λ made. Declares s (seen made))
  declares_from (Ok made) fragment declared = record { declares_one = subst AreDeclared is declared; fragment_is = fragment ∙ ap fragment_of is }
  declares_from (Err e) fragment declared = fragment

  -- a fragment that is declared is that of the answer
  pub accepts_from : (r : Result A (Failure E)) → IfOk r (λ made. seen made ≡ fragment_of gs) → (AreDeclared gs → Accepts (λ _. ⊤) r) → (fragment : Fragment) → Declares s fragment → Accepts (λ made. seen made ≡ fragment) r
  accepts_from (Ok made) fragment accepts f d = fragment ∙ ap fragment_of is ∙ sym d.fragment_is
  accepts_from (Err (Refused e)) fragment accepts f d = accepts (subst AreDeclared (sym is) d.declares_one)
  accepts_from (Err NoMemory) fragment accepts f d = tt
