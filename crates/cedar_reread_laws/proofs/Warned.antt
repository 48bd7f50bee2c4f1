-- SPDX-License-Identifier: Apache-2.0
-- The warnings of a fragment are those of the fragment as it is read again, whose types have the same names.
use Rattle.std.proofs.Common.{◌≡◌, List, [], ◌∷◌, ◌++◌, flat_map, Option, Some, None, refl, sym, ap, ◌∙◌, append-nil}
use Rattle.std.proofs.lemmas.Grind.{flat_map-append}
use Rattle.std.specs.Map.{keys_of}
use Rattle.cedar_tree.specs.Trees.{ByKey, Text}
use Rattle.cedar_convert_fragment.specs.Fragments.{ActionContent, ByName, Definition, EntityContent, Fragment, TypeAt}
use Rattle.cedar_convert_laws.specs.Warnings.{builtin_warned, common_warned, definition_warnings, warnings_of}
use Rattle.cedar_reread.specs.Placeless.{by_name_placeless, definition_placeless, placeless}
use Rattle.cedar_reread.specs.Rereading.{by_name_reread, definition_reread, namespace_reread, reread, under_reread}

keys_placeless : {A : Type 0} (f : A → A) (es : ByName A) → keys_of (by_name_placeless f es) ≡ keys_of es
keys_placeless f [] = refl
keys_placeless f (e ∷ es) = ap (λ ks. e.0 ∷ ks) (keys_placeless f es)

keys_reread : {A : Type 0} (f : A → A) (es : ByName A) → keys_of (by_name_reread f es) ≡ keys_of es
keys_reread f [] = refl
keys_reread f (e ∷ es) = ap (λ ks. e.0 ∷ ks) (keys_reread f es)

module _ (extensions : List Text) where
  -- definitions with types of the same names have the same warnings
  by_keys : (d e : Definition) → keys_of d.common_types ≡ keys_of e.common_types → keys_of d.entity_types ≡ keys_of e.entity_types → definition_warnings extensions d ≡ definition_warnings extensions e
  by_keys d e commons entities = λ i. flat_map (common_warned extensions (entities i)) (commons i) ++ flat_map (builtin_warned extensions) (entities i)

  warned_placeless : (F : Fragment) → warnings_of extensions (placeless F) ≡ warnings_of extensions F
  warned_placeless [] = refl
  warned_placeless (n ∷ F) = λ i. by_keys (definition_placeless n.1) n.1 (keys_placeless _ n.1.common_types) (keys_placeless _ n.1.entity_types) i ++ warned_placeless F i

  definition_alike : (d : Definition) (annotations : ByKey) → definition_warnings extensions (definition_reread d annotations) ≡ definition_warnings extensions d
  definition_alike d annotations = by_keys (definition_reread d annotations) d (keys_reread _ d.common_types) (keys_reread _ d.entity_types)

  namespace_alike : (name : Option (List Text)) (d : Definition) → warnings_of extensions (under_reread name d) ≡ definition_warnings extensions d
  namespace_alike (Some words) d = append-nil _ ∙ definition_alike d d.annotations
  namespace_alike None d = by d.common_types d.entity_types d.actions d.annotations
    where
      whole : (d : Definition) → warnings_of extensions ((None, definition_reread d []) ∷ []) ≡ definition_warnings extensions d
      whole d = append-nil _ ∙ definition_alike d []

      by : (commons : ByName TypeAt) (entities : ByName EntityContent) (actions : ByName ActionContent) (annotations : ByKey)
          → warnings_of extensions (under_reread None (record { common_types = commons; entity_types = entities; actions = actions; annotations = annotations })) ≡ definition_warnings extensions (record { common_types = commons; entity_types = entities; actions = actions; annotations = annotations })
      by [] [] [] annotations = refl
      by (c ∷ commons) entities actions annotations = whole (record { common_types = c ∷ commons; entity_types = entities; actions = actions; annotations = annotations })
      by [] (e ∷ entities) actions annotations = whole (record { common_types = []; entity_types = e ∷ entities; actions = actions; annotations = annotations })
      by [] [] (a ∷ actions) annotations = whole (record { common_types = []; entity_types = []; actions = a ∷ actions; annotations = annotations })

  warned_both : (F G : Fragment) → warnings_of extensions (F ++ G) ≡ warnings_of extensions F ++ warnings_of extensions G
  warned_both F G = flat_map-append (λ n. definition_warnings extensions n.1) F G

  warned_reread : (F : Fragment) → warnings_of extensions (reread F) ≡ warnings_of extensions F
  warned_reread [] = refl
  warned_reread (n ∷ F) = warned_both (namespace_reread n) (reread F) ∙ (λ i. namespace_alike n.0 n.1 i ++ warned_reread F i)

  -- a fragment that is the same as what is read again has the same warnings
  pub warned_again : (F G : Fragment) → placeless G ≡ placeless (reread F) → warnings_of extensions G ≡ warnings_of extensions F
  warned_again F G same = sym (warned_placeless G) ∙ ap (warnings_of extensions) same ∙ warned_placeless (reread F) ∙ warned_reread F
