-- SPDX-License-Identifier: Apache-2.0
-- A text has no fault just where it is that of a fragment.
use Rattle.std.proofs.Common.{◌≡◌, ℕ, List, Option, Some, None, option_map, refl, ap, ◌∙◌}
use Rattle.serde_json.specs.Data.{Data}
use Rattle.serde_json.specs.Read.{read}
use Rattle.cedar_fragment.specs.ActionUids.{over_raw}
use Rattle.cedar_fragment.specs.declared.definitions.Fragment.{Fragment}
use Rattle.cedar_json.specs.TextFaults.{IsFragmentText, advice_for, advised, advised_fault, repeats, text_fault, value_fault}
use Rattle.cedar_json_fault.specs.declared.json_error.JsonDeserializationAdvice.{JsonDeserializationAdvice}
use Rattle.cedar_json_namespaces.specs.Namespaces.{fragment_fault}
use Rattle.cedar_json_types.specs.Faults.{Fault, first}
use Rattle.cedar_written.specs.declared.raw_name.RawName.{RawName}
use Rattle.cedar_json_laws.proofs.CleanDeclarations.{fragment_clean}
use Rattle.cedar_json_shape_laws.proofs.Namespaces.{fragment_shaped}
use Rattle.cedar_json_shape_laws.proofs.Steps.{neither}

not_advised : (advice : Option JsonDeserializationAdvice) (f : Fault) → option_map (advised advice) f ≡ None → f ≡ None
not_advised advice None none = refl
not_advised advice (Some e) none = absurd (cc)

by_value : (s : List ℕ) (o : Option Data) → read s ≡ o → value_fault s o ≡ None → (F : Fragment RawName over_raw) × IsFragmentText s F
by_value s None reads none = absurd (cc)
by_value s (Some d) reads none =
    let both = neither (repeats s d) (fragment_fault d) none in
    let made = fragment_shaped d both.1 in
    (made.0, (d, reads, both.0, made.1))

pub text_shaped : (s : List ℕ) → advised_fault s ≡ None → (F : Fragment RawName over_raw) × IsFragmentText s F
text_shaped s none = by_value s (read s) refl (not_advised (advice_for s) (text_fault s) none)

pub text_clean : (s : List ℕ) (F : Fragment RawName over_raw) → IsFragmentText s F → advised_fault s ≡ None
text_clean s F (d, reads, once, is) =
    let none : text_fault s ≡ None = ap (value_fault s) reads ∙ ap (λ f. first f (fragment_fault d)) once ∙ fragment_clean d F is in
    ap (option_map (advised (advice_for s))) none
