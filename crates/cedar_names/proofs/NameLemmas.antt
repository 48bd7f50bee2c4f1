-- SPDX-License-Identifier: Apache-2.0
use Rattle.std.proofs.Common.{◌≡◌, ◌||◌, List, [], ◌∷◌, ◌++◌, IsTrue, not, true, false, Bool, refl, subst, ap}
use Rattle.std.specs.List.{list_any}
use Rattle.std.proofs.Props.{props}
use Rattle.cedar_text.specs.Words.{is_cedar}
use Rattle.cedar_names.specs.Identifiers.{id_words}
use Rattle.cedar_names.specs.Components.{components, has_cedar}
use Rattle.cedar_names.specs.declared.id.Id.{Id}
use Rattle.cedar_names.specs.declared.internal_name.InternalName.{InternalName}
use Rattle.cedar_names.specs.declared.name.Name.{Name}

either-false : (b : Bool) → b || false ≡ b
either-false true = refl
either-false false = refl

either-assoc : (a b c : Bool) → a || (b || c) ≡ (a || b) || c
either-assoc true b c = refl
either-assoc false b c = refl

-- a name is reserved where an identifier of its namespace or its basename is `__cedar`
pub has_cedar-words : (ids : List Id) (id : Id) → has_cedar (id_words (ids ++ id ∷ [])) ≡ list_any (λ i. is_cedar i.word) ids || is_cedar id.word
has_cedar-words [] id = either-false (is_cedar id.word)
has_cedar-words (i ∷ is) id = rw (has_cedar-words is id) (either-assoc (is_cedar i.word) (list_any (λ i. is_cedar i.word) is) (is_cedar id.word))

-- the answer that some identifier of the namespace is `__cedar`
pub has_cedar-found : (ids : List Id) (id : Id) (r : Bool) → r ≡ list_any (λ i. is_cedar i.word) ids → r ≡ true → r ≡ has_cedar (id_words (ids ++ id ∷ []))
has_cedar-found ids id r any found = rw (has_cedar-words ids id, ← any, found) refl

-- the answer of the basename, where no identifier of the namespace is `__cedar`
pub has_cedar-last : (ids : List Id) (id : Id) (r s : Bool) → r ≡ list_any (λ i. is_cedar i.word) ids → r ≡ false → s ≡ is_cedar id.word → s ≡ has_cedar (id_words (ids ++ id ∷ []))
has_cedar-last ids id r s any none last = rw (has_cedar-words ids id, ← any, none) last

-- a `Name` is its internal name
pub Name-same : (n m : InternalName) (u : IsTrue (not (has_cedar (components n)))) (v : IsTrue (not (has_cedar (components m)))) → n ≡ m
    → ◌≡◌ {A = Name} record { internal = n; unreserved = u } record { internal = m; unreserved = v }
Name-same n m u v e =
    subst (λ (x : InternalName). (w : IsTrue (not (has_cedar (components x)))) → ◌≡◌ {A = Name} record { internal = n; unreserved = u } record { internal = x; unreserved = w }) e
    (λ w. let p : IsProp (IsTrue (not (has_cedar (components n)))) = hlevel props in ap (λ (t : IsTrue (not (has_cedar (components n)))). let x : Name = record { internal = n; unreserved = t } in x) (p u w)) v
