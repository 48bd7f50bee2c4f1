-- SPDX-License-Identifier: Apache-2.0
-- What is held of fragments, as one namespace more of the last fragment is added.
use Rattle.std.proofs.Common.{◌≡◌, ◌++◌, ◌||◌, ℕ, Bool, true, false, List, [], ◌∷◌, map, Option, Some, None, option_map, refl, sym, ap, ◌∙◌, subst, append_assoc, inl, inr, cond}
use Rattle.std.proofs.lemmas.List.{append-nil}
use Rattle.std.specs.Option.{is_some, option_and_then, option_cmp, option_or}
use Rattle.cedar_data.specs.Firsts.{SomePasses}
use Rattle.cedar_data.specs.Maps.{IsSortedMap}
use Rattle.cedar_names.specs.Annotating.{annotation_entries}
use Rattle.cedar_names.specs.Names.{name_cmp}
use Rattle.cedar_names.specs.declared.annotation.Annotations.{Annotations}
use Rattle.cedar_names.specs.declared.name.Name.{Name}
use Rattle.cedar_merge.specs.Joining.{AddsNamespace, ClashesAt, ConflictsAt, Holds, IsLeastOf, Keeps, again, always, clash_error, clash_place, conflict_error, conflict_place, is_in, last_some, look, nothing, notes_under, otherwise, said_of, there}
use Rattle.cedar_merge.specs.KeptNames.{KeepsNamespace}
use Rattle.cedar_merge.specs.Lookups.{Declaration, Definition, Fragment, Path, Place, annotated, at, declared, declared_in, path_cmp, path_of, text_at}
use Rattle.cedar_merge.specs.Merged.{NotePlace, differ, note_cmp, place_cmp, unlike}
use Rattle.cedar_merge.specs.Pairs.{opposed, some_pair}
use Rattle.cedar_merge.specs.declared.joined.Found.{Found}
use Rattle.cedar_merge.specs.declared.joined.Joined.{Joined}
use Rattle.cedar_merge.specs.declared.places.ClashPlace.{ClashPlace}
use Rattle.cedar_merge.specs.declared.places.ConflictPlace.{ConflictPlace}
use Rattle.cedar_merge.proofs.Found.{first_of_both, second_of_both}
use Rattle.cedar_merge.proofs.Keeping.{keeps-grown, keeps-longer, pair-end, some-end, some-weaker}
use Rattle.cedar_merge.proofs.Leasts.{least-same}
use Rattle.cedar_merge.proofs.Namespaces.{last-grows, look-fresh, look-next, look-one, look-put, map-last, opposed-look, said}
use Rattle.cedar_merge.proofs.PairLaws.{both_there, last_some-append, or-none, pair-grows, pair-none}
use Rattle.cedar_merge.specs.TextLaws.{unlike_joins}

-- a fragment of these namespaces
abbrev pub fragment_of : List (Option Name × Definition) → Fragment
fragment_of es = record { 0 = es }

-- the annotation at a key of a definition
abbrev own_text : List ℕ → Definition → Option (List ℕ)
own_text key d = text_at (annotation_entries d.annotations) key

-- none, for a namespace whose annotations don't count
abbrev no_text : Definition → Option (List ℕ)
no_text d = None

no_text_there : (o : Option Definition) → option_and_then no_text o ≡ None
no_text_there None = refl
no_text_there (Some d) = refl

always_joins : (a b c : Declaration) → always a b ≡ false → always b c ≡ false → always a c ≡ false
always_joins a b c p q = p

nothing_declared : (p : Place) → declared_in p.kind p.name nothing.definition ≡ None
nothing_declared p = by p.kind
  where
    by : (kind : Rattle.cedar_merge.specs.declared.errors.DeclKind.DeclKind) → declared_in kind p.name nothing.definition ≡ None
    by Rattle.cedar_merge.specs.declared.errors.DeclKind.TheVariants.Common = refl
    by Rattle.cedar_merge.specs.declared.errors.DeclKind.TheVariants.Entity = refl
    by Rattle.cedar_merge.specs.declared.errors.DeclKind.TheVariants.Action = refl

-- all annotations of a namespace with a name count
named : (path : Option Name) (annotations : Annotations) (words : List (List ℕ)) → is_in path (Some words) ≡ true → notes_under path annotations ≡ annotation_entries annotations
named None annotations words is = absurd (cc)
named (Some n) annotations words is = refl

-- and none of the other
unnamed : (path : Option Name) (annotations : Annotations) → is_in path None ≡ true → notes_under path annotations ≡ []
unnamed None annotations is = refl
unnamed (Some n) annotations is = absurd (cc)

not_some : {A : Type 0} {o : Option A} {x : A} → o ≡ None → o ≡ Some x → ⊥
not_some {x = x} none some = let wrong : None ≡ Some x = sym none ∙ some in cc

same_some : {A : Type 0} {o : Option A} {x y : A} → o ≡ Some x → o ≡ Some y → x ≡ y
same_some {x = x} {y = y} p q = let both : Some x ≡ Some y = sym p ∙ q in cc

-- what is opposed is there
opposed_there : {A : Type 0} (against : A → A → Bool) (o p : Option A) → opposed against o p ≡ true → is_some p ≡ true
opposed_there against None p is = absurd (cc)
opposed_there against (Some a) None is = absurd (cc)
opposed_there against (Some a) (Some b) is = refl

-- what stands against the last that is there stands against one of them
last_opposed : {A B : Type 0} (against : B → B → Bool) (q : A → Option B) (p : Option B) (xs : List A) → opposed against (last_some (map q xs)) p ≡ true → SomePasses (λ x. opposed against (q x) p ≡ true) xs
last_opposed against q p [] is = absurd (cc)
last_opposed {B = B} against q p (x ∷ xs) is = by (last_some (map q xs)) is (last_opposed against q p xs)
  where
    by : (o : Option B) → opposed against (option_or o (q x)) p ≡ true → (opposed against o p ≡ true → SomePasses (λ x. opposed against (q x) p ≡ true) xs) → SomePasses (λ x. opposed against (q x) p ≡ true) (x ∷ xs)
    by None is later = inl is
    by (Some b) is later = inr (later is)

-- before the first fragment
pub Holds-start : (all : List (Option Name × Joined)) (found : Found) → all ≡ [] → found.clash ≡ None → found.conflict ≡ None → Holds [] all found
Holds-start all found none no_clash no_conflict = record {
  namespaces = λ ns. ap (λ es. look there es ns) none;
  declarations = λ p. ap (λ es. look (λ j. declared_in p.kind p.name j.definition) es p.namespace) none;
  notes = λ p. ap (λ es. look (λ j. text_at j.notes p.key) es (Some p.namespace)) none;
  unnamed = λ key. ap (λ es. look (λ j. text_at j.notes key) es None) none;
  clash = subst (λ o. IsLeastOf place_cmp (λ p. false) (option_map clash_place o)) (sym no_clash) (λ p. refl);
  conflict = subst (λ o. IsLeastOf note_cmp (λ p. false) (option_map conflict_place o)) (sym no_conflict) (λ p. refl);
  kept_clash = λ p some. absurd (not_some no_clash some);
  kept_conflict = λ p some. absurd (not_some no_conflict some);
}

module _ (L : List Fragment) where
  last_empty : {A : Type 0} (q : Fragment → Option A) (o : Option A) → q (fragment_of []) ≡ None → o ≡ last_some (map q L) → o ≡ last_some (map q (L ++ fragment_of [] ∷ []))
  last_empty q o none is = is ∙ sym (ap last_some (map-last q L (fragment_of [])) ∙ last_some-append (map q L) (q (fragment_of [])) ∙ ap (λ p. option_or p (last_some (map q L))) none)

  pairs_empty : {A : Type 0} (against : A → A → Bool) (q : Fragment → Option A) → q (fragment_of []) ≡ None → some_pair (opposed against) (map q L) ≡ some_pair (opposed against) (map q (L ++ fragment_of [] ∷ []))
  pairs_empty against q none = sym (ap (some_pair (opposed against)) (map-last q L (fragment_of []) ∙ ap (λ o. map q L ++ o ∷ []) none) ∙ pair-none against (map q L))

  -- one fragment more, of which nothing is added yet
  pub Holds-empty : {all : List (Option Name × Joined)} {found : Found} → Holds L all found → Holds (L ++ fragment_of [] ∷ []) all found
  Holds-empty {all} {found} h = record {
    namespaces = λ ns. last_empty (λ f. look there f.0 ns) (look there all ns) refl (h.namespaces ns);
    declarations = λ p. last_empty (declared p) _ refl (h.declarations p);
    notes = λ p. last_empty (annotated (Some p.namespace) p.key) _ refl (h.notes p);
    unnamed = h.unnamed;
    clash = least-same place_cmp _ _ (λ p. pairs_empty always (declared p) refl) (option_map clash_place found.clash) h.clash;
    conflict = least-same note_cmp _ _ (λ p. pairs_empty unlike (annotated (Some p.namespace) p.key) refl) (option_map conflict_place found.conflict) h.conflict;
    kept_clash = λ p some. keeps-longer L (fragment_of []) (clash_error p) (h.kept_clash p some);
    kept_conflict = λ p some. keeps-longer L (fragment_of []) (conflict_error p) (h.kept_conflict p some);
  }

module _ (L : List Fragment) (done rest : List (Option Name × Definition)) (path : Option Name) (d : Definition) (sorted : IsSortedMap (option_cmp name_cmp) (done ++ (path, d) ∷ rest)) where
  abbrev had : Fragment
  had = fragment_of done

  abbrev has : Fragment
  has = fragment_of (done ++ (path, d) ∷ [])

  abbrev own : Fragment
  own = fragment_of ((path, d) ∷ [])

  module _ {A : Type 0} (part : Definition → Option A) (ns : Path) where
    abbrev q : Fragment → Option A
    q f = look part f.0 ns

    last_more : (before now : Option A) → before ≡ last_some (map q (L ++ had ∷ [])) → now ≡ option_or (q own) before → now ≡ last_some (map q (L ++ has ∷ []))
    last_more before now is grows =
        last-grows (map q L) (q own) (q had) before now (q has) (is ∙ ap last_some (map-last q L had)) grows (look-next part done (path, d) rest sorted ns)
        ∙ sym (ap last_some (map-last q L has))

    pairs_more : (against : A → A → Bool) → ((a b c : A) → against a b ≡ false → against b c ≡ false → against a c ≡ false) → (before : Option A) → before ≡ last_some (map q (L ++ had ∷ []))
        → (some_pair (opposed against) (map q (L ++ had ∷ [])) || opposed against before (q own)) ≡ some_pair (opposed against) (map q (L ++ has ∷ []))
    pairs_more against joins before is =
        (λ i. some_pair (opposed against) (map-last q L had i) || opposed against ((is ∙ ap last_some (map-last q L had)) i) (q own))
        ∙ sym (pair-grows against joins (map q L) (q had) (q own) (look-fresh part done (path, d) rest sorted ns))
        ∙ sym (ap (some_pair (opposed against)) (map-last q L has ∙ ap (λ o. map q L ++ o ∷ []) (look-next part done (path, d) rest sorted ns)))

    -- what stands against what this one says, an earlier fragment says
    earlier : (against : A → A → Bool) (was : Option A) → is_in path ns ≡ true → was ≡ last_some (map q (L ++ had ∷ [])) → opposed against was (part d) ≡ true → SomePasses (λ f. opposed against (q f) (part d) ≡ true) L
    earlier against was at_path is passes =
        let own_is : q own ≡ part d = look-one part path d ns ∙ ap (λ b. option_and_then part (cond b (Some d) None)) at_path in
        let none : q had ≡ None = look-fresh part done (path, d) rest sorted ns (ap is_some own_is ∙ opposed_there against was (part d) passes) in
        let alone : was ≡ last_some (map q L)
        = is ∙ ap last_some (map-last q L had) ∙ last_some-append (map q L) (q had) ∙ ap (λ o. option_or o (last_some (map q L))) none in
        last_opposed against q (part d) L (ap (λ o. opposed against o (part d)) (sym alone) ∙ passes)

  module _ {all now : List (Option Name × Joined)} {found finds : Found} (h : Holds (L ++ had ∷ []) all found) (adds : AddsNamespace path d all found now finds) where
    abbrev before : Joined
    before = said_of all (path_of path)

    declared_before : (p : Place) → declared_in p.kind p.name before.definition ≡ option_and_then (λ (j : Joined). declared_in p.kind p.name j.definition) (at path_cmp path_of all (path_of path))
    declared_before p = said (λ (j : Joined). declared_in p.kind p.name j.definition) nothing (nothing_declared p) (at path_cmp path_of all (path_of path))

    noted_before : (key : List ℕ) → text_at before.notes key ≡ option_and_then (λ (j : Joined). text_at j.notes key) (at path_cmp path_of all (path_of path))
    noted_before key = said (λ (j : Joined). text_at j.notes key) nothing refl (at path_cmp path_of all (path_of path))

    own_notes : (p : NotePlace) → is_in path (Some p.namespace) ≡ true → text_at (notes_under path d.annotations) p.key ≡ own_text p.key d
    own_notes p is = ap (λ es. text_at es p.key) (named path d.annotations p.namespace is)

    declarations : (p : Place) → look (λ j. declared_in p.kind p.name j.definition) now p.namespace ≡ last_some (map (declared p) (L ++ has ∷ []))
    declarations p = last_more (declared_in p.kind p.name) p.namespace _ _ (h.declarations p)
        (look-put (λ (j : Joined). declared_in p.kind p.name j.definition) (declared_in p.kind p.name) path d adds.joined all now adds.put p.namespace
        (λ is. adds.joins.declarations p.kind p.name ∙ ap (option_or (declared_in p.kind p.name d)) (declared_before p)))

    notes : (p : NotePlace) → look (λ j. text_at j.notes p.key) now (Some p.namespace) ≡ last_some (map (annotated (Some p.namespace) p.key) (L ++ has ∷ []))
    notes p = last_more (own_text p.key) (Some p.namespace) _ _ (h.notes p)
        (look-put (λ (j : Joined). text_at j.notes p.key) (own_text p.key) path d adds.joined all now adds.put (Some p.namespace)
        (λ is. adds.joins.notes p.key ∙ (λ i. option_or (own_notes p is i) (noted_before p.key i))))

    none_unnamed : (key : List ℕ) → look (λ j. text_at j.notes key) now None ≡ None
    none_unnamed key =
        look-put (λ (j : Joined). text_at j.notes key) no_text path d adds.joined all now adds.put None
        (λ is. adds.joins.notes key ∙ (λ i. option_or (text_at (unnamed path d.annotations is i) key) (noted_before key i)))
        ∙ ap (λ o. option_or (look no_text ((path, d) ∷ []) None) o) (h.unnamed key)
        ∙ or-none (look no_text ((path, d) ∷ []) None)
        ∙ no_text_there (at path_cmp path_of ((path, d) ∷ []) None)

    new_clash : (r : ClashPlace) → ClashesAt path (again path before.definition d) r → KeepsNamespace (L ++ has ∷ []) (clash_error r)
    new_clash r (same, passes) =
        let p : Place = clash_place r in
        let was : declared_in r.kind r.name before.definition ≡ look (λ j. declared_in r.kind r.name j.definition) all p.namespace
        = declared_before p ∙ ap (λ n. look (λ j. declared_in r.kind r.name j.definition) all (path_of n)) (sym same) in
        let some = earlier (declared_in r.kind r.name) p.namespace always _ (first_of_both _ _ passes) (was ∙ h.declarations p) (second_of_both _ _ passes) in
        pair-end _ L has (some-weaker L (λ f is. some-end _ done (path, d) (same, sym (both_there (declared p f) (declared_in r.kind r.name d)) ∙ is)) some)

    new_conflict : (r : ConflictPlace) → ConflictsAt path (otherwise path before.notes d.annotations) r → KeepsNamespace (L ++ has ∷ []) (conflict_error r)
    new_conflict r (same, passes) =
        let p : NotePlace = conflict_place r in
        let at_path : is_in path (Some p.namespace) ≡ true = first_of_both _ _ passes in
        let was : text_at before.notes p.key ≡ look (λ j. text_at j.notes p.key) all (Some p.namespace)
        = noted_before p.key ∙ ap (λ n. look (λ j. text_at j.notes p.key) all (path_of n)) (sym same) in
        let differs : differ (text_at before.notes p.key) (own_text p.key d) ≡ true
        = ap (λ t. differ (text_at before.notes p.key) t) (sym (own_notes p at_path)) ∙ second_of_both _ _ passes in
        let some = earlier (own_text p.key) (Some p.namespace) unlike _ at_path (was ∙ h.notes p) differs in
        pair-end _ L has (some-weaker L (λ f is. some-end _ done (path, d) (same, is)) some)

    kept_clash : (p : ClashPlace) → finds.clash ≡ Some p → KeepsNamespace (L ++ has ∷ []) (clash_error p)
    kept_clash p some = by adds.kept_clash
      where
        by : Keeps (ClashesAt path (again path before.definition d)) found.clash finds.clash → KeepsNamespace (L ++ has ∷ []) (clash_error p)
        by (inl is) = keeps-grown L done (path, d) (clash_error p) (h.kept_clash p (sym is ∙ some))
        by (inr (r, is, new)) = subst (λ x. KeepsNamespace (L ++ has ∷ []) (clash_error x)) (same_some is some) (new_clash r new)

    kept_conflict : (p : ConflictPlace) → finds.conflict ≡ Some p → KeepsNamespace (L ++ has ∷ []) (conflict_error p)
    kept_conflict p some = by adds.kept_conflict
      where
        by : Keeps (ConflictsAt path (otherwise path before.notes d.annotations)) found.conflict finds.conflict → KeepsNamespace (L ++ has ∷ []) (conflict_error p)
        by (inl is) = keeps-grown L done (path, d) (conflict_error p) (h.kept_conflict p (sym is ∙ some))
        by (inr (r, is, new)) = subst (λ x. KeepsNamespace (L ++ has ∷ []) (conflict_error x)) (same_some is some) (new_conflict r new)

    -- one namespace more
    pub Holds-next : Holds (L ++ has ∷ []) now finds
    Holds-next = record {
      namespaces = λ ns. last_more there ns _ _ (h.namespaces ns) (look-put there there path d adds.joined all now adds.put ns (λ is. refl));
      declarations = declarations;
      notes = notes;
      unnamed = none_unnamed;
      clash = least-same place_cmp _ _
          (λ p. ap (λ b. some_pair (opposed always) (map (declared p) (L ++ had ∷ [])) || b)
          (opposed-look (λ (j : Joined). declared_in p.kind p.name j.definition) (declared_in p.kind p.name) always path d all p.namespace
          (declared_in p.kind p.name d) (declared_in p.kind p.name before.definition) (λ is. refl) (declared_before p))
          ∙ pairs_more (declared_in p.kind p.name) p.namespace always always_joins _ (h.declarations p))
          (option_map clash_place finds.clash)
          (adds.clash.finds (λ p. some_pair (opposed always) (map (declared p) (L ++ had ∷ []))) h.clash);
      conflict = least-same note_cmp _ _
          (λ p. ap (λ b. some_pair differ (map (annotated (Some p.namespace) p.key) (L ++ had ∷ [])) || b)
          (opposed-look (λ (j : Joined). text_at j.notes p.key) (own_text p.key) unlike path d all (Some p.namespace)
          (text_at (notes_under path d.annotations) p.key) (text_at before.notes p.key) (own_notes p) (noted_before p.key))
          ∙ pairs_more (own_text p.key) (Some p.namespace) unlike unlike_joins _ (h.notes p))
          (option_map conflict_place finds.conflict)
          (adds.conflict.finds (λ p. some_pair differ (map (annotated (Some p.namespace) p.key) (L ++ had ∷ []))) h.conflict);
      kept_clash = kept_clash;
      kept_conflict = kept_conflict;
    }

-- a loop over `whole` that has `left` before it has added what is before that
pub record Passes (whole left : List (Option Name × Definition)) (all : List (Option Name × Joined)) (found : Found) (now : List (Option Name × Joined)) (finds : Found) : Type 0 where
  pub done : List (Option Name × Definition)
  pub split : done ++ left ≡ whole
  pub sorted : IsSortedMap (option_cmp name_cmp) whole
  pub holds : (L : List Fragment) → Holds L all found → Holds (L ++ fragment_of done ∷ []) now finds

pub Passes-start : (whole left : List (Option Name × Definition)) (all now : List (Option Name × Joined)) (found finds : Found) → left ≡ whole → IsSortedMap (option_cmp name_cmp) whole → now ≡ all → finds ≡ found → Passes whole left all found now finds
Passes-start whole left all now found finds same sorted begins none = record {
  done = [];
  split = same;
  sorted = sorted;
  holds = λ L h. subst (λ es. Holds (L ++ fragment_of [] ∷ []) es finds) (sym begins) (subst (λ f. Holds (L ++ fragment_of [] ∷ []) all f) (sym none) (Holds-empty L h));
}

pub Passes-next : {whole left rest : List (Option Name × Definition)} {all now more : List (Option Name × Joined)} {found finds next : Found} (path : Option Name) (d : Definition)
    → Passes whole left all found now finds → left ≡ (path, d) ∷ rest → AddsNamespace path d now finds more next → Passes whole rest all found more next
Passes-next {rest = rest} path d sofar first adds = record {
  done = sofar.done ++ (path, d) ∷ [];
  split = append_assoc sofar.done ((path, d) ∷ []) rest ∙ ap (λ l. sofar.done ++ l) (sym first) ∙ sofar.split;
  sorted = sofar.sorted;
  holds = λ L h. Holds-next L sofar.done rest path d (subst (IsSortedMap (option_cmp name_cmp)) (sym sofar.split ∙ ap (λ l. sofar.done ++ l) first) sofar.sorted) (sofar.holds L h) adds;
}

pub Passes-end : {left : List (Option Name × Definition)} {all now : List (Option Name × Joined)} {found finds : Found} (f : Fragment) → Passes f.0 left all found now finds → left ≡ []
    → (L : List Fragment) → Holds L all found → Holds (L ++ f ∷ []) now finds
Passes-end {now = now} {finds = finds} f sofar none L h =
    let all_done : sofar.done ≡ f.0 = sym (append-nil sofar.done) ∙ ap (λ l. sofar.done ++ l) (sym none) ∙ sofar.split in
    subst (λ es. Holds (L ++ fragment_of es ∷ []) now finds) all_done (sofar.holds L h)

pub ruleset passes = (Passes-start, Passes-next, Passes-end)

-- a loop over `whole` that has `left` before it has added the fragments before that
pub record Gathers (whole left : List Fragment) (all : List (Option Name × Joined)) (found : Found) (now : List (Option Name × Joined)) (finds : Found) : Type 0 where
  pub done : List Fragment
  pub split : done ++ left ≡ whole
  pub holds : (L : List Fragment) → Holds L all found → Holds (L ++ done) now finds

pub Gathers-start : (whole left : List Fragment) (all now : List (Option Name × Joined)) (found finds : Found) → left ≡ whole → now ≡ all → finds ≡ found → Gathers whole left all found now finds
Gathers-start whole left all now found finds same begins none = record {
  done = [];
  split = same;
  holds = λ L h. subst (λ M. Holds M now finds) (sym (append-nil L)) (subst (λ es. Holds L es finds) (sym begins) (subst (λ f. Holds L all f) (sym none) h));
}

pub Gathers-next : {whole left rest : List Fragment} {all now more : List (Option Name × Joined)} {found finds next : Found} (f : Fragment)
    → Gathers whole left all found now finds → left ≡ f ∷ rest → ((L : List Fragment) → Holds L now finds → Holds (L ++ f ∷ []) more next) → Gathers whole rest all found more next
Gathers-next {rest = rest} {more = more} {next = next} f sofar first adds = record {
  done = sofar.done ++ f ∷ [];
  split = append_assoc sofar.done (f ∷ []) rest ∙ ap (λ l. sofar.done ++ l) (sym first) ∙ sofar.split;
  holds = λ L h. subst (λ M. Holds M more next) (append_assoc L sofar.done (f ∷ [])) (adds (L ++ sofar.done) (sofar.holds L h));
}

pub Gathers-end : {left : List Fragment} {all now : List (Option Name × Joined)} {found finds : Found} (whole : List Fragment) → Gathers whole left all found now finds → left ≡ []
    → (L : List Fragment) → Holds L all found → Holds (L ++ whole) now finds
Gathers-end {now = now} {finds = finds} whole sofar none L h =
    let all_done : sofar.done ≡ whole = sym (append-nil sofar.done) ∙ ap (λ l. sofar.done ++ l) (sym none) ∙ sofar.split in
    subst (λ M. Holds (L ++ M) now finds) all_done (sofar.holds L h)

pub ruleset gathers = (Gathers-start, Gathers-next, Gathers-end)
