-- SPDX-License-Identifier: Apache-2.0
-- A value has the shape of at most one structure: members, arrays, maps, names and annotations.
use Rattle.std.proofs.Common.{◌≡◌, ℕ, Bool, List, [], ◌∷◌, ◌++◌, unwrap_or, Option, Some, None, refl, sym, ap, ◌∙◌, subst, false}
use Rattle.std.specs.declared.cmp.Ordering.{Ordering}
use Rattle.serde_json.specs.Data.{Data, null, boolean, number, string, array, object, Items, no_items, item, Members, no_members, member}
use Rattle.serde_json.specs.Find.{get, as_array, as_bool, as_object, as_str}
use Rattle.cedar_data.specs.Maps.{map_of}
use Rattle.cedar_names.specs.Annotating.{annotation_entries, any_cmp}
use Rattle.cedar_names.specs.Components.{components, loc_of}
use Rattle.cedar_names.specs.Identifiers.{id_words}
use Rattle.cedar_names.specs.declared.annotation.Annotation.{Annotation}
use Rattle.cedar_names.specs.declared.annotation.Annotations.{Annotations}
use Rattle.cedar_names.specs.declared.any_id.AnyId.{AnyId}
use Rattle.cedar_names.specs.declared.id.Id.{Id}
use Rattle.cedar_names.specs.declared.id.UnreservedId.{UnreservedId}
use Rattle.cedar_names.specs.declared.internal_name.InternalName.{InternalName}
use Rattle.cedar_names.proofs.Ids.{one_any_id, one_id, one_unreserved_id}
use Rattle.cedar_written.specs.CommonTypeIds.{unreserved_of}
use Rattle.cedar_written.specs.declared.common_type_id.CommonTypeId.{CommonTypeId}
use Rattle.cedar_written.specs.declared.raw_name.RawName.{RawName}
use Rattle.cedar_json_types.specs.CommonIds.{IdentifiesCommon}
use Rattle.cedar_json_types.specs.Parts.{AreAnnotations, Identifies, IdentifiesAny, IsAnnotation, IsId, IsName, IsNote, Names, NoAnnotations}
use Rattle.cedar_json_types.specs.Shapes.{ArrayOf, At, EachItem, EachMember, Entry, IsFlag, IsText, MapOf, MayHave, Nothing, OrAbsent, OrNull, Present}

pub same_inside : {A : Type 0} (a b : A) → Some a ≡ Some b → a ≡ b
same_inside a b same = ap (λ o. unwrap_or o a) same

null_or_items : (ds : Items) → as_array null ≡ Some ds → ⊥
null_or_items ds is = absurd (cc)

null_or_members : (ms : Members) → as_object null ≡ Some ms → ⊥
null_or_members ms is = absurd (cc)

-- ---- members and arrays

module _ {V : Type 0} where
  pub nothing_once : (o p : Option V) → Nothing o → Nothing p → o ≡ p
  nothing_once o p x y = x ∙ sym y

  pub is_once : (u v w : V) → v ≡ u → w ≡ u → v ≡ w
  is_once u v w x y = x ∙ sym y

module _ {V : Type 0} (P : Data → V → Type 0) (once : (d : Data) (v w : V) → P d v → P d w → v ≡ w) where
  pub at_once : (k : List ℕ) (d : Data) (v w : V) → At k P d v → At k P d w → v ≡ w
  at_once k d v w x y = once x.0 v w x.2 (subst (λ e. P e w) (same_inside y.0 x.0 (sym y.1 ∙ x.1)) y.2)

  or_absent_once : (absent : V → Type 0) → ((v w : V) → absent v → absent w → v ≡ w) → (o : Option Data) (v w : V) → OrAbsent absent P o v → OrAbsent absent P o w → v ≡ w
  or_absent_once absent lone None v w x y = lone v w x y
  or_absent_once absent lone (Some d) v w x y = once d v w x y

  pub may_have_once : (k : List ℕ) (absent : V → Type 0) → ((v w : V) → absent v → absent w → v ≡ w) → (d : Data) (v w : V) → MayHave k absent P d v → MayHave k absent P d w → v ≡ w
  may_have_once k absent lone d v w x y = or_absent_once absent lone (get k d) v w x y

  pub or_null_once : ((v : V) → P null v → ⊥) → (d : Data) (o p : Option V) → OrNull P d o → OrNull P d p → o ≡ p
  or_null_once never d None None x y = refl
  or_null_once never d None (Some w) x y = absurd (never w (subst (λ e. P e w) x y))
  or_null_once never d (Some v) None x y = absurd (never v (subst (λ e. P e v) y x))
  or_null_once never d (Some v) (Some w) x y = ap Some (once d v w x y)

  pub present_once : (d : Data) (o p : Option V) → Present P d o → Present P d p → o ≡ p
  present_once d None p x y = absurd x
  present_once d (Some v) None x y = absurd y
  present_once d (Some v) (Some w) x y = ap Some (once d v w x y)

  each_item_once : (ds : Items) (vs ws : List V) → EachItem P ds vs → EachItem P ds ws → vs ≡ ws
  each_item_once no_items [] [] x y = refl
  each_item_once no_items [] (w ∷ ws) x y = absurd y
  each_item_once no_items (v ∷ vs) ws x y = absurd x
  each_item_once (item d ds) [] ws x y = absurd x
  each_item_once (item d ds) (v ∷ vs) [] x y = absurd y
  each_item_once (item d ds) (v ∷ vs) (w ∷ ws) x y = λ i. once d v w x.0 y.0 i ∷ each_item_once ds vs ws x.1 y.1 i

  pub array_once : (d : Data) (vs ws : List V) → ArrayOf P d vs → ArrayOf P d ws → vs ≡ ws
  array_once d vs ws x y = each_item_once x.0 vs ws x.2 (subst (λ ds. EachItem P ds ws) (same_inside y.0 x.0 (sym y.1 ∙ x.1)) y.2)

-- an array is not `null`
pub no_array : {V : Type 0} (P : Data → V → Type 0) (vs : List V) → ArrayOf P null vs → ⊥
no_array P vs are = null_or_items are.0 are.1

-- ---- maps

module _ {K V : Type 0} (P : List ℕ → Data → K → V → Type 0) (once : (k : List ℕ) (d : Data) (a b : K) (v w : V) → P k d a v → P k d b w → ◌≡◌ {A = K × V} (a, v) (b, w)) where
  each_member_once : (ms : Members) (es fs : List (K × V)) → EachMember P ms es → EachMember P ms fs → es ≡ fs
  each_member_once no_members [] [] x y = refl
  each_member_once no_members [] (f ∷ fs) x y = absurd y
  each_member_once no_members (e ∷ es) fs x y = absurd x
  each_member_once (member k d ms) [] fs x y = absurd x
  each_member_once (member k d ms) (e ∷ es) [] x y = absurd y
  each_member_once (member k d ms) (e ∷ es) (f ∷ fs) x y = λ i. once k d e.0 f.0 e.1 f.1 x.0 y.0 i ∷ each_member_once ms es fs x.1 y.1 i

  pub map_once : (cmp : K → K → Ordering) (d : Data) (m n : List (K × V)) → MapOf cmp P d m → MapOf cmp P d n → m ≡ n
  map_once cmp d m n x y =
      let moved : EachMember P x.0 y.2.0 = subst (λ ms. EachMember P ms y.2.0) (same_inside y.0 x.0 (sym y.1 ∙ x.1)) y.2.1 in
      x.2.2 ∙ ap (map_of cmp) (each_member_once x.0 x.2.0 y.2.0 x.2.1 moved) ∙ sym y.2.2

-- a map is not `null`
pub no_map : {K V : Type 0} (cmp : K → K → Ordering) (P : List ℕ → Data → K → V → Type 0) (m : List (K × V)) → MapOf cmp P null m → ⊥
no_map cmp P m is = null_or_members is.0 is.1

module _ {K V : Type 0} (named : List ℕ → K → Type 0) (P : Data → V → Type 0) (one_key : (s : List ℕ) (a b : K) → named s a → named s b → a ≡ b) (once : (d : Data) (v w : V) → P d v → P d w → v ≡ w) where
  pub entry_once : (k : List ℕ) (d : Data) (a b : K) (v w : V) → Entry named P k d a v → Entry named P k d b w → ◌≡◌ {A = K × V} (a, v) (b, w)
  entry_once k d a b v w x y = λ i. (one_key k a b x.0 y.0 i, once d v w x.1 y.1 i)

-- ---- plain values

pub same_text : (d : Data) (t u : List ℕ) → d ≡ string t → d ≡ string u → t ≡ u
same_text d t u x y = ap (λ e. unwrap_or (as_str e) []) (sym x ∙ y)

pub flag_once : (d : Data) (b c : Bool) → IsFlag d b → IsFlag d c → b ≡ c
flag_once d b c x y = ap (λ e. unwrap_or (as_bool e) false) (sym x ∙ y)

pub text_once : (d : Data) (t u : List ℕ) → IsText d t → IsText d u → t ≡ u
text_once = same_text

pub text_key_once : (s t u : List ℕ) → t ≡ s → u ≡ s → t ≡ u
text_key_once s t u x y = x ∙ sym y

-- ---- names

ids_once : (is js : List Id) → id_words is ≡ id_words js → is ≡ js
ids_once [] [] same = refl
ids_once [] (j ∷ js) same = absurd (cc)
ids_once (i ∷ is) [] same = absurd (cc)
ids_once (i ∷ is) (j ∷ js) same = λ p. one_id i j (cc) p ∷ ids_once is js (cc) p

not_empty : {A : Type 0} (xs : List A) (x : A) → ◌≡◌ {A = List A} [] (xs ++ x ∷ []) → ⊥
not_empty [] x same = absurd (cc)
not_empty (y ∷ ys) x same = absurd (cc)

front_once : {A : Type 0} (xs ys : List A) (x y : A) → xs ++ x ∷ [] ≡ ys ++ y ∷ [] → (xs ≡ ys) × (x ≡ y)
front_once [] [] x y same = (refl, cc)
front_once [] (w ∷ ws) x y same = absurd (not_empty ws y (cc))
front_once (v ∷ vs) [] x y same = absurd (not_empty vs x (cc))
front_once (v ∷ vs) (w ∷ ws) x y same =
    let rest = front_once vs ws x y (cc) in
    let first : v ≡ w = cc in
    ((λ i. first i ∷ rest.0 i), rest.1)

pub internal_once : (a b : InternalName) → components a ≡ components b → loc_of a ≡ loc_of b → a ≡ b
internal_once a b same place =
    let parts = front_once a.namespace b.namespace a.basename b.basename (ids_once (a.namespace ++ a.basename ∷ []) (b.namespace ++ b.basename ∷ []) same) in
    λ i. record { basename = parts.1 i; namespace = parts.0 i; loc = place i }

pub names_once : (s : List ℕ) (n m : RawName) → Names s n → Names s m → n ≡ m
names_once s n m x y = let same = internal_once n.name m.name (x.1 ∙ sym y.1) (x.2 ∙ sym y.2) in λ i. record { name = same i }

pub name_once : (d : Data) (n m : RawName) → IsName d n → IsName d m → n ≡ m
name_once d n m x y = names_once x.0 n m x.2 (subst (λ s. Names s m) (same_text d y.0 x.0 y.1 x.1) y.2)

pub identifies_once : (s : List ℕ) (a b : UnreservedId) → Identifies s a → Identifies s b → a ≡ b
identifies_once s a b x y = one_unreserved_id a b (x.1 ∙ sym y.1)

pub id_once : (d : Data) (a b : UnreservedId) → IsId d a → IsId d b → a ≡ b
id_once d a b x y = identifies_once x.0 a b x.2 (subst (λ s. Identifies s b) (same_text d y.0 x.0 y.1 x.1) y.2)

pub common_id_once : (s : List ℕ) (a b : CommonTypeId) → IdentifiesCommon s a → IdentifiesCommon s b → a ≡ b
common_id_once s a b x y = let same = identifies_once s (unreserved_of a) (unreserved_of b) x.0 y.0 in λ i. record { id = same i }

any_id_once : (s : List ℕ) (a b : AnyId) → IdentifiesAny s a → IdentifiesAny s b → a ≡ b
any_id_once s a b x y = one_any_id a b (x.1 ∙ sym y.1)

-- ---- annotations

note_once : (d : Data) (t u : List ℕ) → IsNote d t → IsNote d u → t ≡ u
note_once null t u x y = x ∙ sym y
note_once (boolean b) t u x y = text_once (boolean b) t u x y
note_once (number n) t u x y = text_once (number n) t u x y
note_once (string s) t u x y = text_once (string s) t u x y
note_once (array ds) t u x y = text_once (array ds) t u x y
note_once (object ms) t u x y = text_once (object ms) t u x y

annotation_once : (d : Data) (a b : Annotation) → IsAnnotation d a → IsAnnotation d b → a ≡ b
annotation_once d a b x y =
    let text = note_once d a.val b.val x.0 y.0 in
    let place = nothing_once a.loc b.loc x.1 y.1 in
    λ i. record { val = text i; loc = place i }

pub annotations_once : (d : Data) (a b : Annotations) → AreAnnotations d a → AreAnnotations d b → a ≡ b
annotations_once d a b x y =
    let same = map_once (Entry IdentifiesAny IsAnnotation) (entry_once IdentifiesAny IsAnnotation any_id_once annotation_once) any_cmp d (annotation_entries a) (annotation_entries b) x y in
    λ i. record { map = same i }

pub no_annotations_once : (a b : Annotations) → NoAnnotations a → NoAnnotations b → a ≡ b
no_annotations_once a b x y = let same = x ∙ sym y in λ i. record { map = same i }
