-- SPDX-License-Identifier: Apache-2.0
-- References of one kind in one namespace are in the order of the names as they are written.
use Rattle.std.proofs.Common.{◌≡◌, List, [], ◌∷◌, ◌++◌, map, Option, Some, None, refl, sym, ap, ◌∙◌}
use Rattle.std.proofs.lemmas.Cmp.{lists_total, nat_list_cmp_total, tied_itself}
use Rattle.std.proofs.lemmas.List.{map-append}
use Rattle.std.specs.Cmp.Lexicographic.{slice_cmp}
use Rattle.std.specs.Ordering.{ordering_then}
use Rattle.std.specs.declared.cmp.Ordering.{Ordering}
use Rattle.std.specs.declared.cmp.Ordering.TheVariants.{Less, Equal, Greater}
use Rattle.cedar_text.specs.Lists.{elements}
use Rattle.cedar_text.specs.declared.location.Loc.{Loc}
use Rattle.cedar_names.specs.Components.{components, internal_name}
use Rattle.cedar_names.specs.Identifiers.{id_word}
use Rattle.cedar_names.specs.Names.{internal_cmp}
use Rattle.cedar_names.specs.Order.{words_cmp}
use Rattle.cedar_names.specs.declared.id.Id.{Id}
use Rattle.cedar_names.specs.declared.internal_name.InternalName.{InternalName}
use Rattle.cedar_names.proofs.NameOrder.{words_cmp-equal}
use Rattle.cedar_written.specs.Possibilities.{conditional, possibilities, written}
use Rattle.cedar_written.specs.contracts.reference_type.ReferenceTypeOrd.TheImpl as kind_order
use Rattle.cedar_written.specs.declared.raw_name.RawName.{RawName}
use Rattle.cedar_written.specs.declared.reference_type.ReferenceType.{ReferenceType}
use Rattle.cedar_written.specs.declared.reference_type.ReferenceType.TheVariants.{Common, Entity, CommonOrEntity}
use Rattle.cedar_schema_error.specs.FullNames.{FullName}
use Rattle.cedar_namespace_definitions.specs.Orders.{conditional_cmp}

-- the full names that a name of these words may stand for
abbrev told : Option InternalName → FullName → List FullName
told None words = words ∷ []
told (Some ns) (word ∷ []) = (components ns ++ word ∷ []) ∷ (word ∷ []) ∷ []
told (Some ns) words = words ∷ []

told_in : (ns : Option InternalName) (i : Id) (ids : List Id) (loc : Option Loc)
    → map components (elements (possibilities ns (internal_name i ids loc))) ≡ told ns (components (internal_name i ids loc))
told_in None i ids loc = refl
told_in (Some ns) i [] loc = ap (λ words. words ∷ (id_word i ∷ []) ∷ []) (map-append id_word (ns.namespace ++ ns.basename ∷ []) (i ∷ []))
told_in (Some ns) i (id ∷ []) loc = refl
told_in (Some ns) i (id ∷ next ∷ ids) loc = refl

told_by : (ns : Option InternalName) (n : InternalName) → map components (elements (possibilities ns n)) ≡ told ns (components n)
told_by ns n = told_in ns n.basename n.namespace n.loc

same_kind : (kind : ReferenceType) → kind_order.ghosts.cmp kind kind ≡ Equal
same_kind Common = refl
same_kind Entity = refl
same_kind CommonOrEntity = refl

slices_told : (xs ys : List InternalName) → slice_cmp internal_cmp xs ys ≡ slice_cmp words_cmp (map components xs) (map components ys)
slices_told [] [] = refl
slices_told [] (y ∷ ys) = refl
slices_told (x ∷ xs) [] = refl
slices_told (x ∷ xs) (y ∷ ys) = ap (ordering_then (internal_cmp x y)) (slices_told xs ys)

-- names of the same words may stand for the same
possible_alike : (ns : Option InternalName) (a b : InternalName) → components a ≡ components b → slice_cmp internal_cmp (elements (possibilities ns a)) (elements (possibilities ns b)) ≡ Equal
possible_alike ns a b same =
    slices_told (elements (possibilities ns a)) (elements (possibilities ns b))
    ∙ ap (slice_cmp words_cmp (map components (elements (possibilities ns a)))) (told_by ns b ∙ ap (told ns) (sym same) ∙ sym (told_by ns a))
    ∙ tied_itself (lists_total (lists_total nat_list_cmp_total)) (map components (elements (possibilities ns a)))

-- the order of names as they are written
abbrev pub raw_cmp : RawName → RawName → Ordering
raw_cmp a b = internal_cmp (written a) (written b)

pub in_order : (ns : Option InternalName) (kind : ReferenceType) (a b : RawName) → raw_cmp a b ≡ conditional_cmp (conditional ns kind a) (conditional ns kind b)
in_order ns kind a b = by (raw_cmp a b) (λ tied. others ((words_cmp-equal (components (written a)) (components (written b))).0 tied))
  where
    rest : Ordering
    rest = ordering_then (kind_order.ghosts.cmp kind kind) (slice_cmp internal_cmp (elements (possibilities ns (written a))) (elements (possibilities ns (written b))))

    others : components (written a) ≡ components (written b) → rest ≡ Equal
    others same =
        ap (λ o. ordering_then o (slice_cmp internal_cmp (elements (possibilities ns (written a))) (elements (possibilities ns (written b))))) (same_kind kind)
        ∙ possible_alike ns (written a) (written b) same

    by : (o : Ordering) → (o ≡ Equal → rest ≡ Equal) → o ≡ ordering_then o rest
    by Less tied = refl
    by Equal tied = sym (tied refl)
    by Greater tied = refl
