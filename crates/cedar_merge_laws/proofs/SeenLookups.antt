-- SPDX-License-Identifier: Apache-2.0
-- What fragments declare, as it is seen: those that are seen alike declare what is seen alike, and so does what they are merged into.
use Rattle.std.proofs.Common.{◌≡◌, ◌||◌, ℕ, List, [], ◌∷◌, map, Option, Some, None, option_map, refl, sym, ap, ◌∙◌, inl, inr}
use Rattle.std.specs.List.{list_any}
use Rattle.std.specs.Option.{is_some, option_and_then}
use Rattle.cedar_data.specs.Firsts.{SomePasses}
use Rattle.cedar_data.specs.Maps.{get}
use Rattle.cedar_names.specs.Annotating.{annotation_entries}
use Rattle.cedar_names.specs.Identifiers.{any_word, unreserved_word}
use Rattle.cedar_names.specs.Order.{word_cmp}
use Rattle.cedar_names.specs.declared.annotation.Annotation.{Annotation}
use Rattle.cedar_convert_fragment.specs.Fragments as tree
use Rattle.cedar_convert_fragment.specs.Views.{action_seen, common_seen, definition_seen, entity_seen, fragment_seen}
use Rattle.cedar_merge.specs.Lookups.{Declaration, Definition, Fragment, Path, Place, action, annotated, at_word, common_type, common_word, declared, declared_in, definition_at, entity_type, has_namespace, path_cmp, path_of, text_at}
use Rattle.cedar_merge.specs.Merged.{Merged, SayTheSame}
use Rattle.cedar_merge.specs.declared.errors.DeclKind.{DeclKind}
use Rattle.cedar_merge.specs.declared.errors.DeclKind.TheVariants.{Common, Entity, Action}
use Rattle.cedar_merge_laws.proofs.Loops.{note_seen}
use Rattle.cedar_merge_laws.proofs.SameMaps.{found_seen}

-- ---- declarations, as they are seen

pub data SeenDeclaration : Type 0 where
  common_is : tree.Declared tree.TypeAt → SeenDeclaration
  entity_is : tree.Declared tree.EntityContent → SeenDeclaration
  action_is : tree.Declared tree.ActionContent → SeenDeclaration

abbrev pub declaration_seen : Declaration → SeenDeclaration
declaration_seen (common_type c) = common_is (common_seen c)
declaration_seen (entity_type e) = entity_is (entity_seen e)
declaration_seen (action a) = action_is (action_seen a)

-- two fragments say the same, as it is seen
pub record SayAlike (F G : Fragment) : Type 0 where
  pub namespaces : (ns : Path) → has_namespace ns F ≡ has_namespace ns G
  pub declarations : (p : Place) → option_map declaration_seen (declared p F) ≡ option_map declaration_seen (declared p G)
  pub annotations : (ns : Path) (key : List ℕ) → annotated ns key F ≡ annotated ns key G

pub same_alike : (F G : Fragment) → SayTheSame F G → SayAlike F G
same_alike F G same = record {
  namespaces = same.namespaces;
  declarations = λ p. ap (option_map declaration_seen) (same.declarations p);
  annotations = same.annotations;
}

-- ---- look-ups in what is seen

abbrev seen_in : DeclKind → List ℕ → tree.Definition → Option SeenDeclaration
seen_in Common name d = option_map common_is (get word_cmp d.common_types name)
seen_in Entity name d = option_map entity_is (get word_cmp d.entity_types name)
seen_in Action name d = option_map action_is (get word_cmp d.actions name)

abbrev seen_at : Place → tree.Fragment → Option SeenDeclaration
seen_at p F = option_and_then (seen_in p.kind p.name) (get path_cmp F p.namespace)

abbrev text_in : List ℕ → tree.Definition → Option (List ℕ)
text_in key d = option_map (λ v. v.node) (get word_cmp d.annotations key)

twice : {A B C : Type 0} (f : B → C) (g : A → B) (h : A → C) → ((a : A) → f (g a) ≡ h a) → (o : Option A) → option_map h o ≡ option_map f (option_map g o)
twice f g h same None = refl
twice f g h same (Some a) = ap Some (sym (same a))

-- a declaration of one kind
module _ {V S : Type 0} (make : V → Declaration) (see : V → S) (is_seen : S → SeenDeclaration) (is : (v : V) → declaration_seen (make v) ≡ is_seen (see v)) where
  kind_seen : {K : Type 0} (word : K → List ℕ) (es : List (K × V)) (name : List ℕ)
      → option_map declaration_seen (option_map make (at_word word es name)) ≡ option_map is_seen (get word_cmp (map (λ e. (word e.0, see e.1)) es) name)
  kind_seen word es name = by (at_word word es name) ∙ ap (option_map is_seen) (sym (found_seen word_cmp word see es name))
    where
      by : (o : Option V) → option_map declaration_seen (option_map make o) ≡ option_map is_seen (option_map see o)
      by None = refl
      by (Some v) = ap Some (is v)

declared_seen : (kind : DeclKind) (name : List ℕ) (d : Definition) → option_map declaration_seen (declared_in kind name d) ≡ seen_in kind name (definition_seen d)
declared_seen Common name d = kind_seen common_type common_seen common_is (λ v. refl) common_word d.common_types name
declared_seen Entity name d = kind_seen entity_type entity_seen entity_is (λ v. refl) unreserved_word d.entity_types name
declared_seen Action name d = kind_seen action action_seen action_is (λ v. refl) (λ id. id) d.actions name

text_seen : (key : List ℕ) (d : Definition) → text_at (annotation_entries d.annotations) key ≡ text_in key (definition_seen d)
text_seen key d =
    twice (λ v. v.node) note_seen (λ (a : Annotation). a.val) (λ a. refl) (at_word any_word (annotation_entries d.annotations) key)
    ∙ ap (option_map (λ v. v.node)) (sym (found_seen word_cmp any_word note_seen (annotation_entries d.annotations) key))

-- where a namespace is looked up
namespace_seen : (f : Fragment) (ns : Path) → get path_cmp (fragment_seen f) ns ≡ option_map definition_seen (definition_at f ns)
namespace_seen f ns = found_seen path_cmp path_of definition_seen f.0 ns

at_seen : (p : Place) (f : Fragment) → option_map declaration_seen (declared p f) ≡ seen_at p (fragment_seen f)
at_seen p f = by (definition_at f p.namespace) ∙ ap (option_and_then (seen_in p.kind p.name)) (sym (namespace_seen f p.namespace))
  where
    by : (o : Option Definition) → option_map declaration_seen (option_and_then (declared_in p.kind p.name) o) ≡ option_and_then (seen_in p.kind p.name) (option_map definition_seen o)
    by None = refl
    by (Some d) = declared_seen p.kind p.name d

noted_seen : (ns : Path) (key : List ℕ) (f : Fragment) → annotated ns key f ≡ option_and_then (text_in key) (get path_cmp (fragment_seen f) ns)
noted_seen ns key f = by (definition_at f ns) ∙ ap (option_and_then (text_in key)) (sym (namespace_seen f ns))
  where
    by : (o : Option Definition) → option_and_then (λ d. text_at (annotation_entries d.annotations) key) o ≡ option_and_then (text_in key) (option_map definition_seen o)
    by None = refl
    by (Some d) = text_seen key d

there_seen : (ns : Path) (f : Fragment) → has_namespace ns f ≡ is_some (get path_cmp (fragment_seen f) ns)
there_seen ns f = by (definition_at f ns) ∙ ap is_some (sym (namespace_seen f ns))
  where
    by : (o : Option Definition) → is_some o ≡ is_some (option_map definition_seen o)
    by None = refl
    by (Some d) = refl

-- fragments that are seen alike
pub seen_alike : (f g : Fragment) → fragment_seen f ≡ fragment_seen g → SayAlike f g
seen_alike f g same = record {
  namespaces = λ ns. there_seen ns f ∙ ap (λ F. is_some (get path_cmp F ns)) same ∙ sym (there_seen ns g);
  declarations = λ p. at_seen p f ∙ ap (seen_at p) same ∙ sym (at_seen p g);
  annotations = λ ns key. noted_seen ns key f ∙ ap (λ F. option_and_then (text_in key) (get path_cmp F ns)) same ∙ sym (noted_seen ns key g);
}

-- ---- lists of fragments

abbrev pub AreAlike : List Fragment → List Fragment → Type 0
AreAlike L M = map fragment_seen L ≡ map fragment_seen M

pub first_alike : (f g : Fragment) (L M : List Fragment) → AreAlike (f ∷ L) (g ∷ M) → fragment_seen f ≡ fragment_seen g
first_alike f g L M same = cc

pub rest_alike : (f g : Fragment) (L M : List Fragment) → AreAlike (f ∷ L) (g ∷ M) → AreAlike L M
rest_alike f g L M same = cc

-- a declaration that is seen alike
abbrev Alike : Declaration → Option Declaration → Type 0
Alike d o = (e : Declaration) × (o ≡ Some e) × (declaration_seen e ≡ declaration_seen d)

alike_of : (d : Declaration) (o p : Option Declaration) → option_map declaration_seen o ≡ option_map declaration_seen p → o ≡ Some d → Alike d p
alike_of d None p same is = absurd (cc)
alike_of d (Some e) None same is = absurd (cc)
alike_of d (Some e) (Some x) same is =
    let seen : declaration_seen e ≡ declaration_seen x = cc in
    let here : e ≡ d = cc in
    (x, refl, sym seen ∙ ap declaration_seen here)

-- one of the others declares the like
abbrev Moved : Place → Declaration → List Fragment → Type 0
Moved p d M = (e : Declaration) × SomePasses (λ f. declared p f ≡ Some e) M × (declaration_seen e ≡ declaration_seen d)

moved : (p : Place) (d : Declaration) (L M : List Fragment) → AreAlike L M → SomePasses (λ f. declared p f ≡ Some d) L → Moved p d M
moved p d [] M same some = absurd some
moved p d (f ∷ L) [] same some = absurd (cc)
moved p d (f ∷ L) (g ∷ M) same (inl here) =
    let other = alike_of d (declared p f) (declared p g) ((seen_alike f g (first_alike f g L M same)).declarations p) here in
    (other.0, inl other.1, other.2)
moved p d (f ∷ L) (g ∷ M) same (inr later) =
    let other = moved p d L M (rest_alike f g L M same) later in
    (other.0, inr other.1, other.2)

texts_moved : (ns : Path) (key text : List ℕ) (L M : List Fragment) → AreAlike L M → SomePasses (λ f. annotated ns key f ≡ Some text) L → SomePasses (λ f. annotated ns key f ≡ Some text) M
texts_moved ns key text [] M same some = absurd some
texts_moved ns key text (f ∷ L) [] same some = absurd (cc)
texts_moved ns key text (f ∷ L) (g ∷ M) same (inl here) = inl (sym ((seen_alike f g (first_alike f g L M same)).annotations ns key) ∙ here)
texts_moved ns key text (f ∷ L) (g ∷ M) same (inr later) = inr (texts_moved ns key text L M (rest_alike f g L M same) later)

any_alike : (ns : Path) (L M : List Fragment) → AreAlike L M → list_any (has_namespace ns) L ≡ list_any (has_namespace ns) M
any_alike ns [] [] same = refl
any_alike ns [] (g ∷ M) same = absurd (cc)
any_alike ns (f ∷ L) [] same = absurd (cc)
any_alike ns (f ∷ L) (g ∷ M) same = λ i. (seen_alike f g (first_alike f g L M same)).namespaces ns i || any_alike ns L M (rest_alike f g L M same) i

-- ---- what they are merged into

none_some : {A B : Type 0} (x : A) (o : Option A) → o ≡ None → o ≡ Some x → B
none_some x o none some = absurd (cc)

same_text : {A : Type 0} (o p : Option A) → ((a : A) → o ≡ Some a → p ≡ Some a) → ((a : A) → p ≡ Some a → o ≡ Some a) → o ≡ p
same_text None None f g = refl
same_text None (Some b) f g = g b refl
same_text (Some a) p f g = sym (f a refl)

module _ (L M : List Fragment) (same : AreAlike L M) (F G : Fragment) (f : Merged L F) (g : Merged M G) where
  declared_alike : (p : Place) (o q : Option Declaration) → declared p F ≡ o → declared p G ≡ q → option_map declaration_seen o ≡ option_map declaration_seen q
  declared_alike p None None a b = refl
  declared_alike p None (Some e) a b =
      let other = moved p e M L (sym same) ((g.declarations p e).0 b) in
      none_some other.0 (declared p F) a ((f.declarations p other.0).1 other.1)
  declared_alike p (Some d) q a b =
      let other = moved p d L M same ((f.declarations p d).0 a) in
      let found : q ≡ Some other.0 = sym b ∙ (g.declarations p other.0).1 other.1 in
      ap Some (sym other.2) ∙ ap (option_map declaration_seen) (sym found)

  noted_alike : (ns : Path) (key : List ℕ) → annotated ns key F ≡ annotated ns key G
  noted_alike None key = f.unnamed key ∙ sym (g.unnamed key)
  noted_alike (Some ns) key = same_text (annotated (Some ns) key F) (annotated (Some ns) key G)
      (λ t is. (g.annotations ns key t).1 (texts_moved (Some ns) key t L M same ((f.annotations ns key t).0 is)))
      (λ t is. (f.annotations ns key t).1 (texts_moved (Some ns) key t M L (sym same) ((g.annotations ns key t).0 is)))

  pub merged_alike : SayAlike F G
  merged_alike = record {
    namespaces = λ ns. f.namespaces ns ∙ any_alike ns L M same ∙ sym (g.namespaces ns);
    declarations = λ p. declared_alike p (declared p F) (declared p G) refl refl;
    annotations = noted_alike;
  }
