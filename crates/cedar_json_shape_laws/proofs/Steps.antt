-- SPDX-License-Identifier: Apache-2.0
-- What it says that there is no fault: of a chain of faults, of the kind of a value, and of the keys of an object.
use Rattle.std.proofs.Common.{◌≡◌, ℕ, Bool, List, [], ◌∷◌, is_some, if◌then◌else◌, Option, Some, None, refl}
use Rattle.serde_json.specs.Data.{Data, null, boolean, number, string, array, object, Items, Members}
use Rattle.serde_json.specs.Find.{get, as_array, as_object}
use Rattle.cedar_json_fault.specs.declared.json_error.JsonDeserializationError.{JsonDeserializationError}
use Rattle.cedar_json_fault.specs.declared.json_fault.JsonShape.{JsonShape}
use Rattle.cedar_json_types.specs.Faults.{Fault, first, under, unknown, in_object, in_array, in_text, no_flag, unknown_key, keys_fault, excess, excess_of}
use Rattle.cedar_json_types.specs.Shapes.{Keyed, Lacks, IsFlag}
use Rattle.cedar_json_types.proofs.KeyLemmas.{keys_within}

-- ---- chains

pub neither : (a b : Fault) → first a b ≡ None → (a ≡ None) × (b ≡ None)
neither None b none = (refl, none)
neither (Some e) b none = absurd (cc)

pub not_under : (k : List ℕ) (f : Fault) → under k f ≡ None → f ≡ None
not_under k None none = refl
not_under k (Some e) none = absurd (cc)

-- ---- kinds of values

pub an_object : (more : Members → Fault) (d : Data) → in_object more d ≡ None → (ms : Members) × (as_object d ≡ Some ms) × (more ms ≡ None)
an_object more null none = absurd (cc)
an_object more (boolean b) none = absurd (cc)
an_object more (number n) none = absurd (cc)
an_object more (string s) none = absurd (cc)
an_object more (array ds) none = absurd (cc)
an_object more (object ms) none = (ms, refl, none)

pub an_array : (more : Items → Fault) (d : Data) → in_array more d ≡ None → (ds : Items) × (as_array d ≡ Some ds) × (more ds ≡ None)
an_array more null none = absurd (cc)
an_array more (boolean b) none = absurd (cc)
an_array more (number n) none = absurd (cc)
an_array more (string s) none = absurd (cc)
an_array more (array ds) none = (ds, refl, none)
an_array more (object ms) none = absurd (cc)

pub a_text : (more : List ℕ → Fault) (d : Data) → in_text more d ≡ None → (s : List ℕ) × (d ≡ string s) × (more s ≡ None)
a_text more null none = absurd (cc)
a_text more (boolean b) none = absurd (cc)
a_text more (number n) none = absurd (cc)
a_text more (string s) none = (s, refl, none)
a_text more (array ds) none = absurd (cc)
a_text more (object ms) none = absurd (cc)

pub a_flag : (d : Data) → no_flag d ≡ None → (b : Bool) × IsFlag d b
a_flag null none = absurd (cc)
a_flag (boolean b) none = (b, refl)
a_flag (number n) none = absurd (cc)
a_flag (string s) none = absurd (cc)
a_flag (array ds) none = absurd (cc)
a_flag (object ms) none = absurd (cc)

-- ---- keys

pub keyed : (shape : JsonShape) (keys : List (List ℕ)) (d : Data) → keys_fault shape keys d ≡ None → Keyed keys d
keyed shape keys d none = let is = an_object (unknown_key shape keys) d none in (is.0, is.1, keys_within shape keys is.0 is.2)

not_there : (o : Option Data) (e : JsonDeserializationError) → (if is_some o then Some e else None) ≡ None → o ≡ None
not_there None e none = refl
not_there (Some d) e none = absurd (cc)

no_excess : (shape : JsonShape) (k : List ℕ) (d : Data) → excess shape k d ≡ None → get k d ≡ None
unfolding excess
no_excess shape k d none = not_there (get k d) (unknown k shape) none

pub lacks : (shape : JsonShape) (ks : List (List ℕ)) (d : Data) → excess_of shape ks d ≡ None → Lacks ks d
lacks shape [] d none = tt
lacks shape (k ∷ ks) d none = let both = neither (excess shape k d) (excess_of shape ks d) none in (no_excess shape k d both.0, lacks shape ks d both.1)
