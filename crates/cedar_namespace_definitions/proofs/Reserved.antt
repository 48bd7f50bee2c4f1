-- SPDX-License-Identifier: Apache-2.0
-- A name in a namespace has the component `__cedar` where its namespace has it.
use Rattle.std.proofs.Common.{◌≡◌, Bool, true, false, not, ◌||◌, IsTrue, List, [], ◌∷◌, ◌++◌, Option, Some, None, refl, sym, ap, ◌∙◌, if◌then◌else◌}
use Rattle.cedar_data.specs.Firsts.{IsFirst}
use Rattle.cedar_text.specs.declared.location.Loc.{Loc}
use Rattle.cedar_text.specs.Words.{is_cedar}
use Rattle.cedar_names.specs.Components.{components, has_cedar, internal_name, qualified}
use Rattle.cedar_names.specs.Identifiers.{id_of, id_word, id_words}
use Rattle.cedar_names.specs.declared.id.Id.{Id}
use Rattle.cedar_names.specs.declared.id.UnreservedId.{UnreservedId}
use Rattle.cedar_names.specs.declared.internal_name.InternalName.{InternalName}
use Rattle.cedar_written.specs.Qualifying.{action_id}
use Rattle.cedar_schema_error.specs.FullNames.{FullName}
use Rattle.cedar_schema_error.specs.Refusals.{Refusal, ReservedName}
use Rattle.cedar_namespace_definitions.specs.NamesIn.{action_type_in, is_reserved, name_at, reserved_in}

or_false : (b : Bool) → (b || false) ≡ b
or_false true = refl
or_false false = refl

last_free : (ids : List Id) (i : Id) → is_cedar (id_word i) ≡ false → has_cedar (id_words (ids ++ i ∷ [])) ≡ has_cedar (id_words ids)
last_free [] i free = ap (λ b. b || false) free
last_free (j ∷ ids) i free = ap (λ b. is_cedar (id_word j) || b) (last_free ids i free)

pub reserved_as : (ns : Option InternalName) (i : Id) (loc : Option Loc) → is_cedar (id_word i) ≡ false → has_cedar (components (qualified (internal_name i [] loc) ns)) ≡ is_reserved ns
reserved_as None i loc free = last_free [] i free
reserved_as (Some ns) i loc free = last_free (ns.namespace ++ ns.basename ∷ []) i free

not_true : (b : Bool) → IsTrue (not b) → b ≡ false
not_true true h = sym h
not_true false h = refl

is_free : (ns : Option InternalName) (name : FullName) (b : Bool) → b ≡ false → is_reserved ns ≡ b → reserved_in ns name ≡ []
is_free ns name b off same = ap (λ b. if b then ReservedName name ∷ [] else []) (same ∙ off)

is_first : (ns : Option InternalName) (name : FullName) (b : Bool) (e : Refusal) → b ≡ true → is_reserved ns ≡ b → e ≡ ReservedName name → IsFirst (reserved_in ns name) e
is_first ns name b e on same tells = ([], ap (λ b. if b then ReservedName name ∷ [] else []) (same ∙ on) ∙ ap (λ e. e ∷ []) (sym tells))

module _ (ns : Option InternalName) (id : UnreservedId) (loc : Option Loc) where
  of_name : is_reserved ns ≡ has_cedar (components (name_at ns id loc))
  of_name = sym (reserved_as ns (id_of id) loc (not_true (is_cedar (id_word (id_of id))) id.unreserved))

  -- a name without it is free
  pub name_free : has_cedar (components (name_at ns id loc)) ≡ false → reserved_in ns (components (name_at ns id loc)) ≡ []
  name_free off = is_free ns (components (name_at ns id loc)) (has_cedar (components (name_at ns id loc))) off of_name

  -- one with it is refused
  pub name_refused : (e : Refusal) → has_cedar (components (name_at ns id loc)) ≡ true → e ≡ ReservedName (components (name_at ns id loc)) → IsFirst (reserved_in ns (components (name_at ns id loc))) e
  name_refused e on tells = is_first ns (components (name_at ns id loc)) (has_cedar (components (name_at ns id loc))) e on of_name tells

module _ (ns : Option InternalName) where
  of_action : is_reserved ns ≡ has_cedar (components (action_type_in ns))
  of_action = sym (reserved_as ns action_id None refl)

  pub action_free : has_cedar (components (action_type_in ns)) ≡ false → reserved_in ns (components (action_type_in ns)) ≡ []
  action_free off = is_free ns (components (action_type_in ns)) (has_cedar (components (action_type_in ns))) off of_action

  pub action_refused : (e : Refusal) → has_cedar (components (action_type_in ns)) ≡ true → e ≡ ReservedName (components (action_type_in ns)) → IsFirst (reserved_in ns (components (action_type_in ns))) e
  action_refused e on tells = is_first ns (components (action_type_in ns)) (has_cedar (components (action_type_in ns))) e on of_action tells

pub ruleset reserved = (name_free, name_refused, action_free, action_refused)
