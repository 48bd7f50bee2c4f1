-- SPDX-License-Identifier: Apache-2.0
-- A reference passes its check exactly where it refers to the entity.
use Rattle.std.proofs.Common.{◌≡◌, ℕ, true, List, codes, Option, Some, None, inl, inr, refl, sym, ap, ◌∙◌, subst}
use Rattle.std.proofs.lemmas.Map.Lookups.{exact_bytes}
use Rattle.std.specs.Cmp.Lexicographic.{slice_cmp}
use Rattle.std.specs.Ordering.{nat_cmp, match_ordering}
use Rattle.std.specs.declared.cmp.Ordering.{Ordering}
use Rattle.std.specs.declared.cmp.Ordering.TheVariants.{Less, Equal, Greater}
use Rattle.std.specs.declared.result.Result.TheVariants.{Ok}
use Rattle.cedar_text.specs.Faults.{no_unreserved_id}
use Rattle.cedar_text.specs.NormalNames.{name_fault, parts}
use Rattle.cedar_text.specs.declared.fault.NameFault.{NameFault}
use Rattle.serde_json.specs.Data.{Data, null, boolean, number, string, array, object, Members, no_members, member}
use Rattle.cedar_json_types.specs.Shapes.{KeysWithin}
use Rattle.cedar_checks.specs.of_world.Schemas.{Schema, SchemaEntity}
use Rattle.cedar_schema_error.specs.FullNames.{FullName, Uid}
use Rattle.cedar_conform.specs.Checks.{Check, keys_check, needs}
use Rattle.cedar_conform.specs.References.{IsNameOf, IsPlain, IsReference, Known, escape, may_have, reference_keys}
use Rattle.cedar_checks.specs.Lookups.{declared_type}
use Rattle.cedar_conform.specs.ValueChecks.{either_check, known_as, known_check, name_check, named, only_entity, plain_check, reference_check, text_check, uid_of}
use Rattle.cedar_conform.proofs.CheckLaws.{at-map, keys-pass, needs-pass, pass-keys, pass-needs, pass-test, pass-under, test-pass, text-pass, under-pass}
use Rattle.cedar_checks.proofs.Steps.{both-pass, then-pass}

-- ---- names and texts

named-pass : (s : List ℕ) (o : Option NameFault) (name : FullName) → named s o ≡ Ok name → (o ≡ None) × (parts s ≡ name)
named-pass s None name is = (refl, cc)
named-pass s (Some fault) name is = absurd (cc)

name-pass : (name : FullName) (d : Data) → name_check d ≡ Ok name → IsNameOf name d
name-pass name d is =
    let text = text-pass (λ s. named s (name_fault no_unreserved_id s)) d name is in
    let read = named-pass text.0 (name_fault no_unreserved_id text.0) name text.2 in
    (text.0, text.1, read.0, read.1)

pass-name : (name : FullName) (d : Data) → IsNameOf name d → name_check d ≡ Ok name
pass-name name d is = ap name_check is.1 ∙ ap (named is.0) is.2 ∙ ap Ok is.3

id-pass : (id : List ℕ) (d : Data) → text_check d ≡ Ok id → d ≡ string id
id-pass id d is = let text = text-pass Ok d id is in text.1 ∙ ap string (cc)

pass-id : (id : List ℕ) (d : Data) → d ≡ string id → text_check d ≡ Ok id
pass-id id d is = ap text_check is

-- ---- plain references

uid-parts : (ty : FullName) (id : List ℕ) (u : Uid) → ◌≡◌ {A = Check Uid} (Ok (uid_of ty id)) (Ok u) → (ty ≡ u.ty) × (id ≡ u.id)
uid-parts ty id u is = (cc, cc)

plain-pass : (d : Data) (u : Uid) → plain_check d ≡ Ok u → IsPlain d u
unfolding plain_check
plain-pass d u is =
    let keys = both-pass (keys_check reference_keys d) _ u is in
    let type = both-pass (needs (codes "type") name_check d) _ u keys.2 in
    let id = both-pass (needs (codes "id") text_check d) _ u type.2 in
    let same = uid-parts type.0 id.0 u id.2 in (
      keys-pass reference_keys d keys.1,
      at-map (codes "type") d (name-pass u.ty) (needs-pass (codes "type") name_check d u.ty (type.1 ∙ ap Ok same.0)),
      at-map (codes "id") d (id-pass u.id) (needs-pass (codes "id") text_check d u.id (id.1 ∙ ap Ok same.1)),
    )

pass-plain : (d : Data) (u : Uid) → IsPlain d u → plain_check d ≡ Ok u
unfolding plain_check
pass-plain d u is =
    then-pass (keys_check reference_keys d) _ tt u (pass-keys reference_keys d is.0)
    (then-pass (needs (codes "type") name_check d) _ u.ty u (pass-needs (codes "type") name_check d u.ty (at-map (codes "type") d (pass-name u.ty) is.1))
    (then-pass (needs (codes "id") text_check d) _ u.id u (pass-needs (codes "id") text_check d u.id (at-map (codes "id") d (pass-id u.id) is.2)) refl))

-- ---- escapes

one_key : (k : List ℕ) (e inner : Data) (o : Ordering) → slice_cmp nat_cmp (codes "__entity") k ≡ o → match_ordering o None (Some e) None ≡ Some inner → object (member k e no_members) ≡ escape inner
one_key k e inner Less is found = absurd (cc)
one_key k e inner Equal is found = let same : codes "__entity" ≡ k = exact_bytes (codes "__entity") k is in ap (λ n. object (member n e no_members)) (sym same) ∙ ap escape (cc)
one_key k e inner Greater is found = absurd (cc)

only-escape : (d inner : Data) → only_entity d ≡ Some inner → d ≡ escape inner
only-escape null inner is = absurd (cc)
only-escape (boolean b) inner is = absurd (cc)
only-escape (number n) inner is = absurd (cc)
only-escape (string s) inner is = absurd (cc)
only-escape (array ds) inner is = absurd (cc)
only-escape (object no_members) inner is = absurd (cc)
only-escape (object (member k e no_members)) inner is = one_key k e inner (slice_cmp nat_cmp (codes "__entity") k) refl is
only-escape (object (member k e (member l f ms))) inner is = absurd (cc)

-- an escape is no plain reference
no-escape : (inner : Data) (u : Uid) → IsPlain (escape inner) u → ⊥
no-escape inner u is = not-known is.0.0 is.0.1 is.0.2
  where
    not-known : (ms : Members) → Some (member (codes "__entity") inner no_members) ≡ Some ms → KeysWithin reference_keys ms → ⊥
    not-known no_members same within = absurd (cc)
    not-known (member k e ms) same within = absurd (cc)

-- ---- references

pass-either : (d : Data) (u : Uid) (o : Option Data) → only_entity d ≡ o → either_check o d ≡ Ok u → IsReference d u
pass-either d u None only is = inl (plain-pass d u is)
pass-either d u (Some inner) only is = inr (inner, only-escape d inner only, plain-pass inner u (under-pass (codes "__entity") (plain_check inner) u is))

pub reference-pass : (d : Data) (u : Uid) → reference_check d ≡ Ok u → IsReference d u
unfolding reference_check
reference-pass d u is = pass-either d u (only_entity d) refl is

either-pass : (d : Data) (u : Uid) (o : Option Data) → only_entity d ≡ o → IsPlain d u → either_check o d ≡ Ok u
either-pass d u None only is = pass-plain d u is
either-pass d u (Some inner) only is = absurd (no-escape inner u (subst (λ e. IsPlain e u) (only-escape d inner only) is))

pub pass-reference : (d : Data) (u : Uid) → IsReference d u → reference_check d ≡ Ok u
unfolding reference_check
pass-reference d u (inl is) = either-pass d u (only_entity d) refl is
pass-reference d u (inr is) = ap reference_check' is.1 ∙ pass-under (codes "__entity") (plain_check is.0) u (pass-plain is.0 u is.2)
  where
    reference_check' : Data → Check Uid
    reference_check' e = either_check (only_entity e) e

-- ---- what the schema knows

known-as-pass : (u : Uid) (o : Option SchemaEntity) (ty : SchemaEntity) → known_as u o ≡ Ok ty → (o ≡ Some ty) × (may_have ty.kind u.id ≡ true)
known-as-pass u None ty is = absurd (cc)
known-as-pass u (Some found) ty is =
    let test = test-pass (may_have found.kind u.id) found ty _ is in
    (ap Some test.1, subst (λ t. may_have t.kind u.id ≡ true) test.1 test.0)

pub known-pass : (S : Schema) (u : Uid) (ty : SchemaEntity) → known_check S u ≡ Ok ty → Known S u ty
unfolding known_check
known-pass S u ty is = known-as-pass u (declared_type S u.ty) ty is

pub pass-known : (S : Schema) (u : Uid) (ty : SchemaEntity) → Known S u ty → known_check S u ≡ Ok ty
unfolding known_check
pass-known S u ty known = ap (known_as u) known.0 ∙ pass-test (may_have ty.kind u.id) ty _ known.1

pub ruleset references = (reference-pass, pass-reference)
