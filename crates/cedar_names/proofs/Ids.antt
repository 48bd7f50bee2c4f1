-- SPDX-License-Identifier: Apache-2.0
use Rattle.std.proofs.Common.{◌≡◌, ℕ, List, IsTrue, not, subst, ap}
use Rattle.std.proofs.Props.{props}
use Rattle.cedar_text.specs.Words.{is_cedar, is_id, is_word}
use Rattle.cedar_names.specs.Identifiers.{id_word, unreserved_word, any_word}
use Rattle.cedar_names.specs.declared.any_id.AnyId.{AnyId}
use Rattle.cedar_names.specs.declared.id.Id.{Id}
use Rattle.cedar_names.specs.declared.id.UnreservedId.{UnreservedId}

-- an unreserved identifier is its identifier
pub UnreservedId-same : (id other : Id) (u : IsTrue (not (is_cedar id.word))) (v : IsTrue (not (is_cedar other.word))) → id ≡ other
    → ◌≡◌ {A = UnreservedId} record { id = id; unreserved = u } record { id = other; unreserved = v }
UnreservedId-same id other u v e =
    subst (λ (x : Id). (w : IsTrue (not (is_cedar x.word))) → ◌≡◌ {A = UnreservedId} record { id = id; unreserved = u } record { id = x; unreserved = w }) e
    (λ w. let p : IsProp (IsTrue (not (is_cedar id.word))) = hlevel props in ap (λ (t : IsTrue (not (is_cedar id.word))). let x : UnreservedId = record { id = id; unreserved = t } in x) (p u w)) v

-- an identifier is its word
pub Id-same : (word other : List ℕ) (f : IsTrue (is_id word)) (g : IsTrue (is_id other)) → word ≡ other
    → ◌≡◌ {A = Id} record { word = word; form = f } record { word = other; form = g }
Id-same word other f g e =
    subst (λ (x : List ℕ). (h : IsTrue (is_id x)) → ◌≡◌ {A = Id} record { word = word; form = f } record { word = x; form = h }) e
    (λ h. let p : IsProp (IsTrue (is_id word)) = hlevel props in ap (λ (t : IsTrue (is_id word)). let x : Id = record { word = word; form = t } in x) (p f h)) g

AnyId-same : (word other : List ℕ) (f : IsTrue (is_word word)) (g : IsTrue (is_word other)) → word ≡ other
    → ◌≡◌ {A = AnyId} record { word = word; form = f } record { word = other; form = g }
AnyId-same word other f g e =
    subst (λ (x : List ℕ). (h : IsTrue (is_word x)) → ◌≡◌ {A = AnyId} record { word = word; form = f } record { word = x; form = h }) e
    (λ h. let p : IsProp (IsTrue (is_word word)) = hlevel props in ap (λ (t : IsTrue (is_word word)). let x : AnyId = record { word = word; form = t } in x) (p f h)) g

-- identifiers of the same word are the same
pub one_id : (a b : Id) → id_word a ≡ id_word b → a ≡ b
one_id a b e = Id-same a.word b.word a.form b.form e

pub one_unreserved_id : (a b : UnreservedId) → unreserved_word a ≡ unreserved_word b → a ≡ b
one_unreserved_id a b e = UnreservedId-same a.id b.id a.unreserved b.unreserved (one_id a.id b.id e)

pub one_any_id : (a b : AnyId) → any_word a ≡ any_word b → a ≡ b
one_any_id a b e = AnyId-same a.word b.word a.form b.form e
