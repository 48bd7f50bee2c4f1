-- SPDX-License-Identifier: Apache-2.0
-- A text has the shape of one fragment at most, and then it has no fault.
use Rattle.std.proofs.Common.{◌≡◌, ℕ, List, None, option_map, ap, sym, ◌∙◌, subst}
use Rattle.cedar_fragment.specs.ActionUids.{over_raw}
use Rattle.cedar_fragment.specs.declared.definitions.Fragment.{Fragment}
use Rattle.cedar_json.specs.TextFaults.{IsFragmentText, advised, advice_for, advised_fault, text_fault, value_fault}
use Rattle.cedar_json_laws.proofs.CleanDeclarations.{fragment_clean}
use Rattle.cedar_json_laws.proofs.OnceDeclarations.{fragment_once}
use Rattle.cedar_json_laws.proofs.OnceParts.{same_inside}
use Rattle.cedar_json_laws.specs.of_json_namespaces.Namespaces.{IsFragment, fragment_fault}
use Rattle.cedar_json_types.specs.Faults.{first}
use Rattle.cedar_written.specs.declared.raw_name.RawName.{RawName}

pub text_once : (text : List ℕ) (f g : Fragment RawName over_raw) → IsFragmentText text f → IsFragmentText text g → f ≡ g
text_once text f g (d, reads, once, is) (e, reads', once', is') =
    fragment_once d f g is (subst (λ x. IsFragment x g) (sym (same_inside d e (sym reads ∙ reads'))) is')

pub text_clean : (text : List ℕ) (f : Fragment RawName over_raw) → IsFragmentText text f → advised_fault text ≡ None
text_clean text f (d, reads, once, is) =
    let none : text_fault text ≡ None = ap (value_fault text) reads ∙ ap (λ x. first x (fragment_fault d)) once ∙ fragment_clean d f is in
    ap (option_map (advised (advice_for text))) none
