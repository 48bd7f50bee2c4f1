-- SPDX-License-Identifier: Apache-2.0
-- Maps by the names of namespaces.
use Rattle.std.proofs.Common.{◌≡◌, ℕ, List, [], ◌∷◌, ◌++◌, map, flat_map, Option, Some, None, option_map, refl, ap, sym, ◌∙◌}
use Rattle.std.specs.Option.{option_cmp}
use Rattle.cedar_data.specs.Maps.{map_of}
use Rattle.cedar_data.proofs.MapsMade.{map-map_of}
use Rattle.cedar_names.specs.Components.{components}
use Rattle.cedar_names.specs.Names.{internal_cmp}
use Rattle.cedar_names.specs.declared.internal_name.InternalName.{InternalName}
use Rattle.cedar_convert_faults.specs.Gathering.{namespace_cmp}
use Rattle.cedar_convert_warnings.specs.Shadowing.{by_words}

-- names are ordered as their words are
same_order : (a b : Option InternalName) → option_cmp internal_cmp a b ≡ namespace_cmp (option_map components a) (option_map components b)
same_order None None = refl
same_order None (Some b) = refl
same_order (Some a) None = refl
same_order (Some a) (Some b) = refl

-- a map by names is one by their words
pub made_by_words : {V : Type 0} (made pairs : List (Option InternalName × V)) (entries : List (Option (List (List ℕ)) × V)) → made ≡ map_of (option_cmp internal_cmp) pairs → map by_words pairs ≡ entries
    → map by_words made ≡ map_of namespace_cmp entries
made_by_words made pairs entries is seen =
    ap (map by_words) is
    ∙ map-map_of (option_cmp internal_cmp) namespace_cmp (option_map components) (λ v. v) same_order pairs
    ∙ ap (map_of namespace_cmp) seen

pub ruleset by_namespace = (made_by_words)

-- what stands under names stands under their words
contents : {V : Type 0} (made : List (Option InternalName × List V)) → flat_map (λ e. e.1) (map by_words made) ≡ flat_map (λ e. e.1) made
contents [] = refl
contents (e ∷ es) = ap (λ vs. e.1 ++ vs) (contents es)

-- the contents of a map by names are those by words
pub contents_by_words : {V : Type 0} (made : List (Option InternalName × List V)) (entries : List (Option (List (List ℕ)) × List V)) → map by_words made ≡ entries
    → flat_map (λ e. e.1) made ≡ flat_map (λ e. e.1) entries
contents_by_words made entries same = sym (contents made) ∙ ap (flat_map (λ e. e.1)) same

pub ruleset in_order = (contents_by_words)
