-- SPDX-License-Identifier: Apache-2.0
-- Checks by the kind of a value.
use Rattle.std.proofs.Common.{◌≡◌, ℕ, List, Some, None, refl, ap}
use Rattle.serde_json.specs.Data.{Data, null, boolean, number, string, array, object, Items, Members}
use Rattle.serde_json.specs.Find.{as_array, as_object, as_str}
use Rattle.cedar_json_fault.specs.declared.json_fault.JsonKind.TheVariants as kinds
use Rattle.cedar_json_types.specs.Faults.{kind}
use Rattle.cedar_conform_fault.specs.Flaws.{wrong_kind}
use Rattle.cedar_conform.specs.Checks.{Check, here, in_array, in_object, in_text}

module _ {V : Type 0} where
  pub object-some : (more : Members → Check V) (d : Data) (ms : Members) → as_object d ≡ Some ms → in_object more d ≡ more ms
  object-some more null ms is = absurd (cc)
  object-some more (boolean b) ms is = absurd (cc)
  object-some more (number n) ms is = absurd (cc)
  object-some more (string s) ms is = absurd (cc)
  object-some more (array ds) ms is = absurd (cc)
  object-some more (object ms') ms is = ap more (cc)

  pub object-none : (more : Members → Check V) (d : Data) → as_object d ≡ None → in_object more d ≡ here (wrong_kind (kind d) kinds.Object)
  object-none more null is = refl
  object-none more (boolean b) is = refl
  object-none more (number n) is = refl
  object-none more (string s) is = refl
  object-none more (array ds) is = refl
  object-none more (object ms) is = absurd (cc)

  pub array-some : (more : Items → Check V) (d : Data) (ds : Items) → as_array d ≡ Some ds → in_array more d ≡ more ds
  array-some more null ds is = absurd (cc)
  array-some more (boolean b) ds is = absurd (cc)
  array-some more (number n) ds is = absurd (cc)
  array-some more (string s) ds is = absurd (cc)
  array-some more (array ds') ds is = ap more (cc)
  array-some more (object ms) ds is = absurd (cc)

  pub array-none : (more : Items → Check V) (d : Data) → as_array d ≡ None → in_array more d ≡ here (wrong_kind (kind d) kinds.Array)
  array-none more null is = refl
  array-none more (boolean b) is = refl
  array-none more (number n) is = refl
  array-none more (string s) is = refl
  array-none more (array ds) is = absurd (cc)
  array-none more (object ms) is = refl

  pub text-some : (more : List ℕ → Check V) (d : Data) (s : List ℕ) → as_str d ≡ Some s → in_text more d ≡ more s
  text-some more null s is = absurd (cc)
  text-some more (boolean b) s is = absurd (cc)
  text-some more (number n) s is = absurd (cc)
  text-some more (string s') s is = ap more (cc)
  text-some more (array ds) s is = absurd (cc)
  text-some more (object ms) s is = absurd (cc)

  pub text-none : (more : List ℕ → Check V) (d : Data) → as_str d ≡ None → in_text more d ≡ here (wrong_kind (kind d) kinds.String)
  text-none more null is = refl
  text-none more (boolean b) is = refl
  text-none more (number n) is = refl
  text-none more (string s) is = absurd (cc)
  text-none more (array ds) is = refl
  text-none more (object ms) is = refl

pub ruleset kinds_of_values = (object-some, object-none, array-some, array-none, text-some, text-none)
