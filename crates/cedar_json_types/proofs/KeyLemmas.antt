-- SPDX-License-Identifier: Apache-2.0
-- The keys of an object: none is unknown where each is one of those that it may have.
use Rattle.std.proofs.Common.{◌≡◌, ◌-◌, ℕ, List, [], ◌∷◌, length, slice_get, Option, Some, None, Bool, true, false, if◌then◌else◌, String, Global, string_bytes, refl, ap, ◌∙◌, arith}
use Rattle.std.specs.Prelude.{unwrap_or}
use Rattle.std.specs.Option.{option_map}
use Rattle.cedar_text.specs.Words.{has_word}
use Rattle.serde_json.specs.Data.{Data, Members, no_members, member}
use Rattle.serde_json.specs.View.{members_view}
use Rattle.serde_json.specs.declared.value.Value.{Value}
use Rattle.cedar_json_fault.specs.declared.json_fault.JsonShape.{JsonShape}
use Rattle.cedar_json_fault.specs.declared.json_error.JsonDeserializationError.{JsonDeserializationError}
use Rattle.cedar_json_types.specs.Faults.{Fault, unknown, unknown_key}
use Rattle.cedar_json_types.specs.Shapes.{KeysWithin}
use Rattle.cedar_json_types.proofs.MemberLoops.{Member}

one_key : (b : Bool) (rest : Fault) (e : JsonDeserializationError) → (if b then rest else Some e) ≡ None → (b ≡ true) × (rest ≡ None)
one_key true rest e is = (refl, is)
one_key false rest e is = absurd (cc)

pub keys_within : (shape : JsonShape) (keys : List (List ℕ)) (ms : Members) → unknown_key shape keys ms ≡ None → KeysWithin keys ms
keys_within shape keys no_members none = tt
keys_within shape keys (member k d ms) none =
    let step = one_key (has_word keys k) (unknown_key shape keys ms) (unknown k shape) none in
    (step.0, keys_within shape keys ms step.1)

pub none_unknown : (shape : JsonShape) (keys : List (List ℕ)) (ms : Members) → KeysWithin keys ms → unknown_key shape keys ms ≡ None
none_unknown shape keys no_members within = refl
none_unknown shape keys (member k d ms) within = ap (λ b. if b then unknown_key shape keys ms else Some (unknown k shape)) within.0 ∙ none_unknown shape keys ms within.1

-- ---- the first and the last of few

with_first : (keys : List (List ℕ)) (a : Member) (k : String Global) (v : Value) → ◌≡◌ {A = Option Member} (Some a) (Some (k, v)) → has_word keys (string_bytes k) ≡ true → has_word keys (string_bytes a.0) ≡ true
with_first keys a k v is known = ap (λ (o : Option Member). unwrap_or (option_map (λ (m : Member). has_word keys (string_bytes m.0)) o) true) is ∙ known

pub one_within : (keys : List (List ℕ)) (es : List Member) (k : String Global) (v : Value) → length es ≡ 1 → slice_get es 0 ≡ Some (k, v) → has_word keys (string_bytes k) ≡ true → KeysWithin keys (members_view es)
one_within keys [] k v one at known = absurd (omega (arith, one))
one_within keys (a ∷ []) k v one at known = (with_first keys a k v at known, tt)
one_within keys (a ∷ b ∷ es) k v one at known = absurd (omega (arith, one))

pub two_within : (keys : List (List ℕ)) (es : List Member) (k l : String Global) (v w : Value) → length es ≡ 2 → slice_get es 0 ≡ Some (k, v) → slice_get es (length es - 1) ≡ Some (l, w)
    → has_word keys (string_bytes k) ≡ true → has_word keys (string_bytes l) ≡ true → KeysWithin keys (members_view es)
two_within keys [] k l v w two at at_last known known_last = absurd (omega (arith, two))
two_within keys (a ∷ []) k l v w two at at_last known known_last = absurd (omega (arith, two))
two_within keys (a ∷ b ∷ []) k l v w two at at_last known known_last = (with_first keys a k v at known, (with_first keys b l w at_last known_last, tt))
two_within keys (a ∷ b ∷ c ∷ es) k l v w two at at_last known known_last = absurd (omega (arith, two))
