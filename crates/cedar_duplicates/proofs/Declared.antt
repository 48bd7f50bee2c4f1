-- SPDX-License-Identifier: Apache-2.0
-- What stands twice among declarations as they are kept stands twice among what is declared.
use Rattle.std.proofs.Common.{◌≡◌, ◌++◌, ◌||◌, true, List, [], ◌∷◌, fold, map, MatchOption, Option, Some, None, refl, inl, inr, sym, ap, ◌∙◌, subst, append_assoc}
use Rattle.std.proofs.lemmas.List.{append-nil, map-append}
use Rattle.std.specs.List.{list_any}
use Rattle.std.specs.declared.cmp.Ordering.{Ordering}
use Rattle.cedar_data.specs.Firsts.{FirstAgain, NoneAgain}
use Rattle.cedar_definitions.specs.declared.structures.ValidatorNamespaceDef.{ValidatorNamespaceDef}
use Rattle.cedar_names.specs.Components.{components}
use Rattle.cedar_names.specs.Names.{entity_words}
use Rattle.cedar_schema_error.specs.Refusals.{Refusal}
use Rattle.cedar_written.specs.declared.ref_name.RefName as ref_name
use Rattle.cedar_duplicates.specs.Declarations.{declared, same_by, with_declarations}
use Rattle.cedar_duplicates.specs.Duplicates as names
use Rattle.cedar_duplicates.specs.Duplicates.{AreOnce, Declared, IsTwice, all_declared, declared_in, duplicate, same_declared}
use Rattle.cedar_duplicates.specs.contracts.declaration.DeclarationOrd.TheImpl as order
use Rattle.cedar_duplicates.specs.declared.declaration.Declaration.{Declaration}
use Rattle.cedar_duplicates.specs.declared.declaration.Declaration.TheVariants.{CommonType, EntityType, Action}

map-map : {A B C : Type 0} (f : B → C) (g : A → B) (xs : List A) → map f (map g xs) ≡ map (λ x. f (g x)) xs
map-map f g [] = refl
map-map f g (x ∷ xs) = ap (λ l. f (g x) ∷ l) (map-map f g xs)

module _ {N A : Type 0} {R : ref_name.Ghosts N} where
  one_declared : (all : List Declaration) (d : ValidatorNamespaceDef N A R) → map declared (with_declarations all d) ≡ map declared all ++ declared_in d
  one_declared all d =
      let commons : List Declaration = map (λ e. CommonType e.0) d.common_types.defs in
      let entities : List Declaration = map (λ e. EntityType e.0) d.entity_types.defs in
      let actions : List Declaration = map (λ e. Action e.0) d.actions.actions in
      map-append declared ((all ++ commons) ++ entities) actions
      ∙ ap (λ l. l ++ map declared actions) (map-append declared (all ++ commons) entities ∙ ap (λ l. l ++ map declared entities) (map-append declared all commons))
      ∙ append_assoc (map declared all ++ map declared commons) (map declared entities) (map declared actions)
      ∙ append_assoc (map declared all) (map declared commons) (map declared entities ++ map declared actions)
      ∙ ap (λ l. map declared all ++ l) (
      ap (λ l. l ++ (map declared entities ++ map declared actions)) (map-map declared (λ e. CommonType e.0) d.common_types.defs)
      ∙ ap (λ l. map (λ e. names.CommonType (components e.0)) d.common_types.defs ++ l) (
      ap (λ l. l ++ map declared actions) (map-map declared (λ e. EntityType e.0) d.entity_types.defs)
      ∙ ap (λ l. map (λ e. names.EntityType (entity_words e.0)) d.entity_types.defs ++ l) (map-map declared (λ e. Action e.0) d.actions.actions)))

  all_from : (all : List Declaration) (ds : List (ValidatorNamespaceDef N A R)) → map declared (fold with_declarations all ds) ≡ map declared all ++ all_declared ds
  all_from all [] = sym (append-nil (map declared all))
  all_from all (d ∷ ds) =
      all_from (with_declarations all d) ds ∙ ap (λ l. l ++ all_declared ds) (one_declared all d) ∙ append_assoc (map declared all) (declared_in d) (all_declared ds)

module _ (cmp : Declaration → Declaration → Ordering) (same : (a b : Declaration) → same_by cmp a b ≡ same_declared (declared a) (declared b)) where
  any_same : (x : Declaration) (before : List Declaration) → list_any (same_by cmp x) before ≡ list_any (same_declared (declared x)) (map declared before)
  any_same x [] = refl
  any_same x (b ∷ bs) = ap (λ s. s || list_any (same_by cmp x) bs) (same x b) ∙ ap (λ l. same_declared (declared x) (declared b) || l) (any_same x bs)

  none_told : (before xs : List Declaration) → NoneAgain (same_by cmp) before xs → NoneAgain same_declared (map declared before) (map declared xs)
  none_told before [] n = tt
  none_told before (x ∷ xs) n =
      (sym (any_same x before) ∙ n.0, subst (λ l. NoneAgain same_declared l (map declared xs)) (map-append declared before (x ∷ [])) (none_told (before ++ x ∷ []) xs n.1))

  first_told : (before xs : List Declaration) (y : Declaration) → FirstAgain (same_by cmp) before xs y → FirstAgain same_declared (map declared before) (map declared xs) (declared y)
  first_told before [] y f = f
  first_told before (x ∷ xs) y (inl f) =
      let p : list_any (same_by cmp x) before ≡ true = f.0 in
      let q : list_any (same_declared (declared x)) (map declared before) ≡ true = sym (any_same x before) ∙ p in
      inl (q, ap declared f.1)
  first_told before (x ∷ xs) y (inr f) =
      inr (sym (any_same x before) ∙ f.0, subst (λ l. FirstAgain same_declared l (map declared xs) (declared y)) (map-append declared before (x ∷ [])) (first_told (before ++ x ∷ []) xs y f.1))

-- the order of declarations ties what is declared alike
ties : (a b : Declaration) → same_by order.ghosts.cmp a b ≡ same_declared (declared a) (declared b)
ties (CommonType a) (CommonType b) = refl
ties (EntityType a) (EntityType b) = refl
ties (Action a) (Action b) = refl
ties (CommonType a) (EntityType b) = refl
ties (CommonType a) (Action b) = refl
ties (EntityType a) (CommonType b) = refl
ties (EntityType a) (Action b) = refl
ties (Action a) (CommonType b) = refl
ties (Action a) (EntityType b) = refl

module _ {N A : Type 0} {R : ref_name.Ghosts N} (ds : List (ValidatorNamespaceDef N A R)) (all : List Declaration) where
  -- none is declared twice
  pub told_once : (o : Option Declaration) → all ≡ fold with_declarations [] ds → MatchOption o (NoneAgain (same_by order.ghosts.cmp) [] all) (λ k. FirstAgain (same_by order.ghosts.cmp) [] all k) → o ≡ None → AreOnce ds
  told_once o is found none =
      let once : NoneAgain (same_by order.ghosts.cmp) [] all = subst (λ o. MatchOption o (NoneAgain (same_by order.ghosts.cmp) [] all) (λ k. FirstAgain (same_by order.ghosts.cmp) [] all k)) none found in
      subst (λ l. NoneAgain same_declared [] l) (ap (map declared) is ∙ all_from [] ds) (none_told order.ghosts.cmp ties [] all once)

  -- one is
  pub told_twice : (o : Option Declaration) (k : Declaration) (e : Refusal) → all ≡ fold with_declarations [] ds → MatchOption o (NoneAgain (same_by order.ghosts.cmp) [] all) (λ k. FirstAgain (same_by order.ghosts.cmp) [] all k) → o ≡ Some k → e ≡ duplicate (declared k) → IsTwice ds e
  told_twice o k e is found some gives =
      let twice : FirstAgain (same_by order.ghosts.cmp) [] all k = subst (λ o. MatchOption o (NoneAgain (same_by order.ghosts.cmp) [] all) (λ k. FirstAgain (same_by order.ghosts.cmp) [] all k)) some found in
      (declared k, gives, subst (λ l. FirstAgain same_declared [] l (declared k)) (ap (map declared) is ∙ all_from [] ds) (first_told order.ghosts.cmp ties [] all k twice))
