-- SPDX-License-Identifier: Apache-2.0
-- Loops that put the names that references mean, and that are no declared entity types, behind others.
use Rattle.std.proofs.Common.{◌≡◌, ◌++◌, Bool, true, false, cond, List, [], ◌∷◌, map, Option, Some, None, refl, sym, ap, ◌∙◌, append_assoc}
use Rattle.std.proofs.lemmas.List.{append-nil}
use Rattle.std.proofs.lemmas.List.Elements.{filter_map-append}
use Rattle.std.specs.List.{cons_option, filter_map, find, flat_map}
use Rattle.std.specs.Option.{option_map}
use Rattle.cedar_declared.specs.Names.{Names, is_declared, is_entity, target, targets}
use Rattle.cedar_declared.specs.Targets.{found}
use Rattle.cedar_declared.proofs.FoundTargets.{type_found}
use Rattle.cedar_names.specs.Components.{components}
use Rattle.cedar_names.specs.declared.internal_name.InternalName.{InternalName}
use Rattle.cedar_phases.specs.NotDeclared.{other_targets, unless_entity}
use Rattle.cedar_schema_error.specs.FullNames.{FullName}
use Rattle.cedar_schema_error.specs.NameReferences.{NameReference, reference_of}
use Rattle.cedar_text.proofs.Members.{map-append}
use Rattle.cedar_text.specs.Lists.{elements}
use Rattle.cedar_written.specs.Possibilities.{kind_of, possibilities_of}
use Rattle.cedar_written.specs.declared.conditional_name.ConditionalName.{ConditionalName}
use Rattle.cedar_written.specs.declared.reference_type.ReferenceType.{ReferenceType}
use Rattle.cedar_written.specs.declared.reference_type.ReferenceType.TheVariants.{Entity}

-- no target of a reference that may stand for entity types alone is another
entity_is_none : (names : Names) (ps : List FullName) → unless_entity names (find (is_entity names) ps) ≡ None
entity_is_none names [] = refl
entity_is_none names (p ∷ ps) = by (is_entity names p) refl (entity_is_none names ps)
  where
    by : (b : Bool) → is_entity names p ≡ b → unless_entity names (find (is_entity names) ps) ≡ None → unless_entity names (cond b (Some p) (find (is_entity names) ps)) ≡ None
    by true is ih = ap (λ b. cond b None (Some p)) is
    by false is ih = ih

module _ (names : Names) (n : ConditionalName) where
  meant : (o : Option InternalName) → o ≡ found names n → other_targets names (reference_of n ∷ []) ≡ cons_option (unless_entity names (option_map components o)) []
  meant o is = ap (λ t. cons_option (unless_entity names t) []) (type_found names n ∙ ap (option_map components) (sym is))

  none_behind : (old new : List InternalName) → other_targets names (reference_of n ∷ []) ≡ [] → new ≡ old → map components new ≡ map components old ++ other_targets names (reference_of n ∷ [])
  none_behind old new none same = ap (map components) same ∙ sym (append-nil (map components old)) ∙ ap (λ l. map components old ++ l) (sym none)

  -- the name that a reference means, behind the others, where it is no declared entity type
  pub pushed_some : (p : InternalName) (b : Bool) (old new : List InternalName) → Some p ≡ found names n → b ≡ is_entity names (components p) → b ≡ false → new ≡ old ++ p ∷ [] → map components new ≡ map components old ++ other_targets names (reference_of n ∷ [])
  pushed_some p b old new is entity other put =
      ap (map components) put ∙ map-append components old (p ∷ [])
      ∙ ap (λ l. map components old ++ l) (sym (meant (Some p) is ∙ ap (λ b. cons_option (cond b None (Some (components p))) []) (sym entity ∙ other)))

  -- nothing, where it is one
  pub pushed_entity : (p : InternalName) (b : Bool) (old new : List InternalName) → Some p ≡ found names n → b ≡ is_entity names (components p) → b ≡ true → new ≡ old → map components new ≡ map components old ++ other_targets names (reference_of n ∷ [])
  pushed_entity p b old new is entity declared same =
      none_behind old new (meant (Some p) is ∙ ap (λ b. cons_option (cond b None (Some (components p))) []) (sym entity ∙ declared)) same

  -- nor where it means nothing
  pub pushed_none : (old new : List InternalName) → None ≡ found names n → new ≡ old → map components new ≡ map components old ++ other_targets names (reference_of n ∷ [])
  pushed_none old new is same = none_behind old new (meant None is) same

  -- nor where it may stand for entity types alone
  pub pushed_by_kind : (kind : ReferenceType) (old new : List InternalName) → kind ≡ kind_of n → kind ≡ Entity → new ≡ old → map components new ≡ map components old ++ other_targets names (reference_of n ∷ [])
  pushed_by_kind kind old new k is same =
      none_behind old new (ap (λ k. cons_option (unless_entity names (find (is_declared names k) (map components (elements (possibilities_of n))))) []) (sym k ∙ is)
      ∙ ap (λ t. cons_option t []) (entity_is_none names (map components (elements (possibilities_of n))))) same

-- what g gives of each, and what t makes of it, is that of all
flat_made : {A B C : Type 0} (t : B → Option C) (g : A → List B) (xs : List A) → flat_map (λ x. filter_map t (g x)) xs ≡ filter_map t (flat_map g xs)
flat_made t g [] = refl
flat_made t g (x ∷ xs) = ap (λ l. filter_map t (g x) ++ l) (flat_made t g xs) ∙ sym (filter_map-append t (g x) (flat_map g xs))

-- the targets of what g gives of each are those of all
pub targets_flat : {A : Type 0} (names : Names) (g : A → List NameReference) (xs : List A) → flat_map (λ x. targets names (g x)) xs ≡ targets names (flat_map g xs)
targets_flat names g xs = flat_made (target names) g xs

abbrev other : Names → NameReference → Option FullName
other names r = unless_entity names (target names r)

singles : {A B : Type 0} (h : A → B) (xs : List A) → flat_map (λ x. h x ∷ []) xs ≡ map h xs
singles h [] = refl
singles h (x ∷ xs) = ap (λ l. h x ∷ l) (singles h xs)

through_map : {A B C : Type 0} (h : A → B) (g : B → List C) (xs : List A) → flat_map (λ x. g (h x)) xs ≡ flat_map g (map h xs)
through_map h g [] = refl
through_map h g (x ∷ xs) = ap (λ l. g (h x) ++ l) (through_map h g xs)

-- behind the others stand those of references
pub others_all : (names : Names) (base all : List FullName) (rs : List ConditionalName) → all ≡ base ++ flat_map (λ r. other_targets names (reference_of r ∷ [])) rs → all ≡ base ++ other_targets names (map reference_of rs)
others_all names base all rs is = is ∙ ap (λ l. base ++ l) (flat_made (other names) (λ r. reference_of r ∷ []) rs ∙ ap (other_targets names) (singles reference_of rs))

-- and those of what is seen of each entry
pub others_seen : {A B : Type 0} (names : Names) (base all : List FullName) (see : A → B) (g : B → List NameReference) (xs : List A) → all ≡ base ++ flat_map (λ x. other_targets names (g (see x))) xs → all ≡ base ++ other_targets names (flat_map g (map see xs))
others_seen names base all see g xs is = is ∙ ap (λ l. base ++ l) (flat_made (other names) (λ x. g (see x)) xs ∙ ap (other_targets names) (through_map see g xs))

-- those of two lists
pub others_both : (names : Names) (first mid all : List FullName) (rs ss : List NameReference) → mid ≡ first ++ other_targets names rs → all ≡ mid ++ other_targets names ss → all ≡ first ++ other_targets names (rs ++ ss)
others_both names first mid all rs ss one two =
    two ∙ ap (λ l. l ++ other_targets names ss) one ∙ append_assoc first (other_targets names rs) (other_targets names ss) ∙ ap (λ l. first ++ l) (sym (filter_map-append (other names) rs ss))
