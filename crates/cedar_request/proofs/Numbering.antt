-- SPDX-License-Identifier: Apache-2.0
-- The environment of an action with one of its principals and one of its resources stands at its number.
use Rattle.std.proofs.Common.{◌≡◌, ℕ, suc, ◌+◌, ◌*◌, ◌||◌, Bool, true, false, if◌then◌else◌, List, [], ◌∷◌, length, slice_get, Some, option_map, refl, sym, ap, ◌∙◌, subst, arith, suc-mul}
use Rattle.std.proofs.lemmas.List.{length-append, length-map}
use Rattle.std.proofs.lemmas.Option.{slice_get-map}
use Rattle.std.specs.BTreeMap.{is_at}
use Rattle.std.specs.Cmp.{Equal-is}
use Rattle.std.specs.List.{flat_map}
use Rattle.std.specs.Map.{lookup}
use Rattle.std.specs.Ordering.{is_eq}
use Rattle.std.specs.declared.cmp.Ordering.TheVariants.{Equal}
use Rattle.cedar_names.proofs.NameOrder.{words_cmp-equal}
use Rattle.cedar_names.specs.Order.{words_cmp}
use Rattle.cedar_schema_error.proofs.UidOrder.{uid_equal, uid_itself}
use Rattle.cedar_schema_error.specs.FullNames.{FullName, Uid, uid_cmp}
use Rattle.cedar_conform.specs.of_world.Schemas.{Schema, SchemaAction}
use Rattle.cedar_request.proofs.Elements.{get-left, get-right}
use Rattle.cedar_request.specs.Numbers.{number, place_among, place_in, size_before, size_of}
use Rattle.cedar_request.specs.RequestChecks.{declared_action, has_type}
use Rattle.cedar_request.specs.Requests.{environment, environments, environments_of, environments_with}

-- ---- names and ids

pub name-at : (name ty : FullName) → is_at (words_cmp name) ty ≡ true → name ≡ ty
name-at name ty is = (words_cmp-equal name ty).0 ((Equal-is (words_cmp name ty)).0 is)

pub at-name : (name ty : FullName) → name ≡ ty → is_at (words_cmp name) ty ≡ true
at-name name ty is = ap is_eq ((words_cmp-equal name ty).1 is)

pub uid-at : (u v : Uid) → is_at (uid_cmp u) v ≡ true → u ≡ v
uid-at u v is = uid_equal u v ((Equal-is (uid_cmp u v)).0 is)

pub at-uid : (u v : Uid) → u ≡ v → is_at (uid_cmp u) v ≡ true
at-uid u v is = ap is_eq (subst (λ w. uid_cmp u w ≡ Equal) is (uid_itself u))

-- ---- types

among-first : (b : Bool) (types : List FullName) (ty name : FullName) → is_at (words_cmp name) ty ≡ b → has_type (ty ∷ types) name ≡ true
    → (has_type types name ≡ true → slice_get types (place_among types name) ≡ Some name)
    → slice_get (ty ∷ types) (if b then 0 else suc (place_among types name)) ≡ Some name
among-first true types ty name is has rest = ap Some (sym (name-at name ty is))
among-first false types ty name is has rest = rest (sym (ap (λ b. b || has_type types name) is) ∙ has)

-- a type that is among others stands at its place
pub among : (types : List FullName) (name : FullName) → has_type types name ≡ true → slice_get types (place_among types name) ≡ Some name
among [] name has = absurd (cc)
among (ty ∷ types) name has =
    among-first (is_at (words_cmp name) ty) types ty name refl has (among types name)

-- ---- principals and resources

next_row : (m n c : ℕ) → suc m * n + c ≡ n + (m * n + c)
next_row m n c = ap (λ x. x + c) (suc-mul m n) ∙ shuffle (m * n)
  where
    shuffle : (x : ℕ) → x + n + c ≡ n + (x + c)
    shuffle x = omega arith

module _ (a : Uid × SchemaAction) (resource : FullName) (has : has_type a.1.resources resource ≡ true) where
  column : ℕ
  column = place_among a.1.resources resource

  in-row : (principal : FullName) → slice_get (environments_with a principal) column ≡ Some (environment a principal resource)
  unfolding column
  in-row principal =
      slice_get-map (environment a principal) a.1.resources (place_among a.1.resources resource)
      ∙ ap (option_map (environment a principal)) (among a.1.resources resource has)

  in-rows-first : (b : Bool) (principals : List FullName) (ty principal : FullName) → is_at (words_cmp principal) ty ≡ b → has_type (ty ∷ principals) principal ≡ true
      → (has_type principals principal ≡ true → slice_get (flat_map (environments_with a) principals) (place_among principals principal * length a.1.resources + column) ≡ Some (environment a principal resource))
      → slice_get (flat_map (environments_with a) (ty ∷ principals)) ((if b then 0 else suc (place_among principals principal)) * length a.1.resources + column) ≡ Some (environment a principal resource)
  in-rows-first true principals ty principal is within rest =
      let none : 0 * length a.1.resources + column ≡ column = omega arith in
      let here : slice_get (environments_with a ty) column ≡ Some (environment a principal resource) =
      ap (λ p. slice_get (environments_with a p) column) (sym (name-at principal ty is)) ∙ in-row principal in
      ap (slice_get (flat_map (environments_with a) (ty ∷ principals))) none
      ∙ get-left (environments_with a ty) (flat_map (environments_with a) principals) column (environment a principal resource) here
  in-rows-first false principals ty principal is within rest =
      let width : length (environments_with a ty) ≡ length a.1.resources = length-map a.1.resources (environment a ty) in
      ap (slice_get (flat_map (environments_with a) (ty ∷ principals))) (next_row (place_among principals principal) (length a.1.resources) column)
      ∙ ap (λ n. slice_get (flat_map (environments_with a) (ty ∷ principals)) (n + (place_among principals principal * length a.1.resources + column))) (sym width)
      ∙ get-right (environments_with a ty) (flat_map (environments_with a) principals) (place_among principals principal * length a.1.resources + column)
      ∙ rest (sym (ap (λ b. b || has_type principals principal) is) ∙ within)

  in-rows : (principals : List FullName) (principal : FullName) → has_type principals principal ≡ true
      → slice_get (flat_map (environments_with a) principals) (place_among principals principal * length a.1.resources + column) ≡ Some (environment a principal resource)
  in-rows [] principal within = absurd (cc)
  in-rows (ty ∷ principals) principal within =
      in-rows-first (is_at (words_cmp principal) ty) principals ty principal refl within (in-rows principals principal)

-- an environment of an action stands at its place among those of the action
pub in-action : (a : Uid × SchemaAction) (principal resource : FullName) → has_type a.1.principals principal ≡ true → has_type a.1.resources resource ≡ true
    → slice_get (environments_of a) (place_in a.1 principal resource) ≡ Some (environment a principal resource)
unfolding column
in-action a principal resource within has = in-rows a resource has a.1.principals principal within

-- ---- actions

length-rows : (a : Uid × SchemaAction) (principals : List FullName) → length (flat_map (environments_with a) principals) ≡ length principals * length a.1.resources
length-rows a [] = omega arith
length-rows a (p ∷ principals) =
    length-append (environments_with a p) (flat_map (environments_with a) principals)
    ∙ ap (λ n. n + length (flat_map (environments_with a) principals)) (length-map a.1.resources (environment a p))
    ∙ ap (λ n. length a.1.resources + n) (length-rows a principals)
    ∙ last (length principals) (length a.1.resources)
  where
    last : (m n : ℕ) → n + m * n ≡ suc m * n
    last m n = swap (m * n) n ∙ sym (suc-mul m n)
      where
        swap : (x n : ℕ) → n + x ≡ x + n
        swap x n = omega arith

module _ (u : Uid) (action : SchemaAction) (principal resource : FullName) (within : has_type action.principals principal ≡ true) (has : has_type action.resources resource ≡ true) where
  at-first : (b : Bool) (actions : List (Uid × SchemaAction)) (a : Uid × SchemaAction) → is_at (uid_cmp u) a.0 ≡ b → (if b then Some a.1 else lookup (is_at (uid_cmp u)) actions) ≡ Some action
      → (lookup (is_at (uid_cmp u)) actions ≡ Some action → slice_get (flat_map environments_of actions) (size_before actions u + place_in action principal resource) ≡ Some (environment (u, action) principal resource))
      → slice_get (flat_map environments_of (a ∷ actions)) ((if b then 0 else size_of a.1 + size_before actions u) + place_in action principal resource) ≡ Some (environment (u, action) principal resource)
  at-first true actions a is found rest =
      let none : 0 + place_in action principal resource ≡ place_in action principal resource = omega arith in
      let same : (u, action) ≡ a = λ i. (uid-at u a.0 is i, same_action i) in
      let here : slice_get (environments_of a) (place_in action principal resource) ≡ Some (environment (u, action) principal resource) =
      subst (λ e. slice_get (environments_of e) (place_in action principal resource) ≡ Some (environment (u, action) principal resource)) same (in-action (u, action) principal resource within has) in
      ap (slice_get (flat_map environments_of (a ∷ actions))) none
      ∙ get-left (environments_of a) (flat_map environments_of actions) (place_in action principal resource) (environment (u, action) principal resource) here
    where
      same_action : action ≡ a.1
      same_action = cc
  at-first false actions a is found rest =
      let size : length (environments_of a) ≡ size_of a.1 = length-rows a a.1.principals in
      ap (slice_get (flat_map environments_of (a ∷ actions))) (shuffle (size_of a.1) (size_before actions u) (place_in action principal resource))
      ∙ ap (λ n. slice_get (flat_map environments_of (a ∷ actions)) (n + (size_before actions u + place_in action principal resource))) (sym size)
      ∙ get-right (environments_of a) (flat_map environments_of actions) (size_before actions u + place_in action principal resource)
      ∙ rest found
    where
      shuffle : (x y z : ℕ) → x + y + z ≡ x + (y + z)
      shuffle x y z = omega arith

  at-number : (actions : List (Uid × SchemaAction)) → lookup (is_at (uid_cmp u)) actions ≡ Some action
      → slice_get (flat_map environments_of actions) (size_before actions u + place_in action principal resource) ≡ Some (environment (u, action) principal resource)
  at-number [] found = absurd (cc)
  at-number (a ∷ actions) found = at-first (is_at (uid_cmp u) a.0) actions a refl found (at-number actions)

  -- the environment stands at its number
  pub numbered : (S : Schema) → declared_action S u ≡ Some action → slice_get (environments S) (number S u action principal resource) ≡ Some (environment (u, action) principal resource)
  numbered S found = at-number S.actions found
