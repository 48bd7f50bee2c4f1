-- SPDX-License-Identifier: Apache-2.0
-- The names that have a namespace, among all names.
use Rattle.std.proofs.Common.{◌≡◌, ◌++◌, Bool, true, false, cond, List, [], ◌∷◌, map, Option, is_some, refl, sym, ap, ◌∙◌}
use Rattle.std.proofs.lemmas.List.Elements.{filter-append}
use Rattle.std.specs.List.{filter}
use Rattle.cedar_data.specs.Maps.{get}
use Rattle.cedar_data.specs.Sets.{contains}
use Rattle.cedar_names.specs.Components.{components}
use Rattle.cedar_names.specs.Identifiers.{id_word}
use Rattle.cedar_names.specs.Order.{words_cmp}
use Rattle.cedar_names.specs.declared.id.Id.{Id}
use Rattle.cedar_names.specs.declared.internal_name.InternalName.{InternalName}
use Rattle.cedar_names.specs.of_text.declared.location.Loc.{Loc}
use Rattle.cedar_schema_error.specs.FullNames.{is_qualified}
use Rattle.cedar_declared.specs.Held.{single_names, type_names}
use Rattle.cedar_declared.specs.Basenames.{id_cmp}
use Rattle.cedar_declared.specs.declared.type_names.TypeNames.{TypeNames}
use Rattle.cedar_declared.proofs.Looked.{single_kept}

-- a list that was filtered stays as it is
filter_twice : {A : Type 0} (p : A → Bool) (xs : List A) → filter p (filter p xs) ≡ filter p xs
filter_twice p [] = refl
filter_twice {A} p (x ∷ xs) = by (p x) refl (filter_twice p xs)
  where
    by : (b : Bool) → p x ≡ b → filter p (filter p xs) ≡ filter p xs → filter p (cond b (x ∷ filter p xs) (filter p xs)) ≡ cond b (x ∷ filter p xs) (filter p xs)
    by true is ih = ap (λ b. cond b (x ∷ filter p (filter p xs)) (filter p (filter p xs))) is ∙ ap (λ l. x ∷ l) ih
    by false is ih = ih

none_qualified : (es : List (Id × Option Loc)) → filter is_qualified (single_names es) ≡ []
none_qualified [] = refl
none_qualified (e ∷ es) = none_qualified es

module _ (t : TypeNames) where
  all_qualified : filter is_qualified (map components t.qualified) ≡ filter is_qualified (type_names t)
  all_qualified =
      sym (filter-append is_qualified (single_names t.unqualified) (filter is_qualified (map components t.qualified))
      ∙ ap (λ l. l ++ filter is_qualified (filter is_qualified (map components t.qualified))) (none_qualified t.unqualified)
      ∙ filter_twice is_qualified (map components t.qualified))

  -- of these names of the set, those that have a namespace are all such names
  pub listed_qualified : (ns : List InternalName) → ns ≡ t.qualified → filter is_qualified (map components ns) ≡ filter is_qualified (type_names t)
  listed_qualified ns is = ap (λ l. filter is_qualified (map components l)) is ∙ all_qualified

  -- a component that is kept
  pub kept_by_component : (id : Id) (b : Bool) → b ≡ is_some (get id_cmp t.unqualified id) → b ≡ contains words_cmp (type_names t) (id_word id ∷ [])
  kept_by_component id b is = is ∙ sym (single_kept t id)

pub ruleset listed = (listed_qualified, kept_by_component)
