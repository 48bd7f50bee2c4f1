-- SPDX-License-Identifier: Apache-2.0
-- What is found among names is the target among their components.
use Rattle.std.proofs.Common.{◌≡◌, ◌||◌, ℕ, Bool, true, false, List, [], ◌∷◌, map, Some, option_map, cond, refl, ap, ◌∙◌}
use Rattle.std.specs.List.{find}
use Rattle.cedar_names.specs.Components.{components}
use Rattle.cedar_names.specs.declared.internal_name.InternalName.{InternalName}
use Rattle.cedar_names.specs.of_text.Lists.{elements}
use Rattle.cedar_definitions.specs.ActionUids.{over_conditional, uid_of}
use Rattle.cedar_written.specs.Possibilities.{kind_of, possibilities_of}
use Rattle.cedar_written.specs.declared.conditional_name.ConditionalName.{ConditionalName}
use Rattle.cedar_written.specs.declared.reference_type.ReferenceType.{ReferenceType}
use Rattle.cedar_written.specs.declared.reference_type.ReferenceType.TheVariants.{Common, Entity, CommonOrEntity}
use Rattle.cedar_schema_error.specs.FullNames.{FullName}
use Rattle.cedar_schema_error.specs.NameReferences.{action_reference_of, reference_of}
use Rattle.cedar_declared.specs.Names.{Names, SameNames, action_target, is_action, is_declared, target}
use Rattle.cedar_declared.specs.Targets.{action_at, found, found_action}

-- the first that passes, seen through f
found_seen : {A B : Type 0} (p : B → Bool) (f : A → B) (xs : List A) → find p (map f xs) ≡ option_map f (find (λ x. p (f x)) xs)
found_seen p f [] = refl
found_seen p f (x ∷ xs) = by (p (f x)) (found_seen p f xs)
  where
    by : (b : Bool) → find p (map f xs) ≡ option_map f (find (λ x. p (f x)) xs) → cond b (Some (f x)) (find p (map f xs)) ≡ option_map f (cond b (Some x) (find (λ x. p (f x)) xs))
    by true ih = refl
    by false ih = ih

pub type_found : (names : Names) (n : ConditionalName) → target names (reference_of n) ≡ option_map components (found names n)
type_found names n = found_seen (is_declared names (kind_of n)) components (elements (possibilities_of n))

-- names seen as actions of one id
seen_twice : (id : List ℕ) (xs : List InternalName) → map (λ (name : FullName). record { ty = name; id = id }) (map components xs) ≡ map (action_at id) xs
seen_twice id [] = refl
seen_twice id (x ∷ xs) = ap (λ us. action_at id x ∷ us) (seen_twice id xs)

pub action_found : (names : Names) (id : List ℕ) (n : ConditionalName) → action_target names (action_reference_of (uid_of over_conditional id n)) ≡ option_map (action_at id) (found_action names id n)
action_found names id n =
    ap (find (is_action names)) (seen_twice id (elements (possibilities_of n)))
    ∙ found_seen (is_action names) (action_at id) (elements (possibilities_of n))

-- the first that passes either of two tests that agree
found_same : {A : Type 0} (p q : A → Bool) (xs : List A) → ((x : A) → p x ≡ q x) → find p xs ≡ find q xs
found_same p q [] same = refl
found_same p q (x ∷ xs) same = ap (λ b. cond b (Some x) (find p xs)) (same x) ∙ ap (cond (q x) (Some x)) (found_same p q xs same)

declared_same : (a b : Names) → SameNames a b → (kind : ReferenceType) (p : InternalName) → is_declared a kind (components p) ≡ is_declared b kind (components p)
declared_same a b same Common p = same.common p
declared_same a b same Entity p = same.entity p
declared_same a b same CommonOrEntity p = (λ i. same.common p i || same.entity p i)

pub same_found : (a b : Names) (n : ConditionalName) → SameNames a b → found a n ≡ found b n
same_found a b n same = found_same _ _ (elements (possibilities_of n)) (declared_same a b same (kind_of n))
