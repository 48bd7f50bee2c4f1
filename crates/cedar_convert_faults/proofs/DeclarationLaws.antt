-- SPDX-License-Identifier: Apache-2.0
-- Where no fault is found, a schema is as one that declares a fragment has to be, and the other way round.
use Rattle.std.proofs.Common.{◌≡◌, ◌↔◌, ℕ, Bool, true, false, cond, List, [], ◌∷◌, ◌++◌, map, filter, flat_map, Result, Ok, Err, IfOk, Option, Some, None, option_to_list, refl, sym, ap, ◌∙◌, subst}
use Rattle.std.proofs.lemmas.List.{append-nil}
use Rattle.std.specs.List.{AllByRecursion}
use Rattle.cedar_text.specs.Words.{is_cedar}
use Rattle.cedar_written.specs.CommonTypeIds.{is_reserved_basename}
use Rattle.cedar_tree.specs.Nesting.{types_of_app, types_of_decl, types_of_shape}
use Rattle.cedar_tree.specs.Trees.{Node, TypeTree, Record, ContextDecl, Named, Shape, AppDecl, Types, Context, EntityDecl, Standard, Enum, ActionDecl, TypeDecl, Declaration, Entity, Action, Common}
use Rattle.cedar_convert_errors.specs.declared.faults.ToJsonSchemaError.{ToJsonSchemaError}
use Rattle.cedar_convert_errors.specs.declared.faults.ToJsonSchemaError.TheVariants.{ReservedSchemaKeyword}
use Rattle.cedar_convert_faults.specs.Bindings.{binding_of, bindings, common_names, entity_names, full_names, repeated_namespace, stands_twice}
use Rattle.cedar_convert_faults.specs.Conditions.{Applies, AreDeclared, AreDistinct, AreSound, AreUnreserved, HasNoRepeat, clauses_in}
use Rattle.cedar_convert_faults.specs.Faults.{Clauses, action_faults, applies_faults, common_faults, declarations, entity_faults, entity_repeat, faults_among, faults_of, first_name, keyword_faults, name_faults, own_faults, reserved_name, reserved_names}
use Rattle.cedar_convert_faults.specs.Gathering.{Declarations, Gathered}
use Rattle.cedar_convert_faults.specs.Lists.{first_found}
use Rattle.cedar_convert_faults.specs.Repeats.{Names, first_repeat}
use Rattle.cedar_convert_faults.specs.TypeRepeats.{leftmost_repeat, repeat_fault, shape_repeat}
use Rattle.cedar_convert_faults.specs.declared.repeats.Repeat.{Repeat}
use Rattle.cedar_convert_faults.proofs.ClauseLaws.{applies_fine, context_faults, fine_applies}
use Rattle.cedar_convert_faults.proofs.FaultLaws.{all_nil, bound, distinct_none, each_nil, nothing_found, nothing_to_find, unbound}
use Rattle.cedar_convert_faults.proofs.FirstRepeats.{none_repeats}
use Rattle.cedar_convert_faults.proofs.RecordLaws.{clean_in, none_in}

module _ {A : Type 0} where
  all_map : {P Q : A → Type 0} → ((x : A) → P x → Q x) → (xs : List A) → AllByRecursion P xs → AllByRecursion Q xs
  all_map f [] all = tt
  all_map f (x ∷ xs) all = (f x all.0, all_map f xs all.1)

  all_append : (P : A → Type 0) (xs ys : List A) → AllByRecursion P xs → AllByRecursion P ys → AllByRecursion P (xs ++ ys)
  all_append P [] ys here there = there
  all_append P (x ∷ xs) ys here there = (here.0, all_append P xs ys here.1 there)

  all_split : (P : A → Type 0) (xs ys : List A) → AllByRecursion P (xs ++ ys) → AllByRecursion P xs × AllByRecursion P ys
  all_split P [] ys all = (tt, all)
  all_split P (x ∷ xs) ys all = let both = all_split P xs ys all.1 in ((all.0, both.0), both.1)

  all_three : (P Q R : A → Type 0) (xs : List A) → AllByRecursion P xs → AllByRecursion Q xs → AllByRecursion R xs → AllByRecursion (λ x. P x × Q x × R x) xs
  all_three P Q R [] p q r = tt
  all_three P Q R (x ∷ xs) p q r = ((p.0, q.0, r.0), all_three P Q R xs p.1 q.1 r.1)

module _ {A B : Type 0} (f : A → List B) (P : B → Type 0) where
  all_flat : (xs : List A) → AllByRecursion (λ x. AllByRecursion P (f x)) xs → AllByRecursion P (flat_map f xs)
  all_flat [] all = tt
  all_flat (x ∷ xs) all = all_append P (f x) (flat_map f xs) all.0 (all_flat xs all.1)

  flat_all : (xs : List A) → AllByRecursion P (flat_map f xs) → AllByRecursion (λ x. AllByRecursion P (f x)) xs
  flat_all [] all = tt
  flat_all (x ∷ xs) all = let both = all_split P (f x) (flat_map f xs) all in (both.0, flat_all xs both.1)

module _ {A B : Type 0} (f : A → List B) where
  map_nil : (xs : List A) → AllByRecursion (λ s. s ≡ []) (map f xs) → AllByRecursion (λ x. f x ≡ []) xs
  map_nil [] all = tt
  map_nil (x ∷ xs) all = (all.0, map_nil xs all.1)

  nil_map : (xs : List A) → AllByRecursion (λ x. f x ≡ []) xs → AllByRecursion (λ s. s ≡ []) (map f xs)
  nil_map [] all = tt
  nil_map (x ∷ xs) all = (all.0, nil_map xs all.1)

-- names that are `__cedar`
free : (names : Names) → reserved_names names ≡ [] → AreUnreserved names
free [] e = tt
free (n ∷ names) e = by (is_cedar n.node) refl e (free names)
  where
    by : (b : Bool) → is_cedar n.node ≡ b → map reserved_name (cond b (n ∷ filter (λ m. is_cedar m.node) names) (filter (λ m. is_cedar m.node) names)) ≡ [] → (reserved_names names ≡ [] → AreUnreserved names) → AreUnreserved (n ∷ names)
    by true is e more = cc
    by false is e more = (is, more e)

none_reserved : (names : Names) → AreUnreserved names → reserved_names names ≡ []
none_reserved [] all = refl
none_reserved (n ∷ names) all =
    ap (λ b. map reserved_name (cond b (n ∷ filter (λ m. is_cedar m.node) names) (filter (λ m. is_cedar m.node) names))) all.0 ∙ none_reserved names all.1

-- types with a repeat
pub no_repeat : (r : Option Repeat) → repeat_fault r ≡ [] → r ≡ None
no_repeat None e = refl
no_repeat (Some r) e = cc

pub type_fine : (t : TypeTree) → repeat_fault (leftmost_repeat t) ≡ [] → HasNoRepeat t
type_fine t e = none_in t (no_repeat (leftmost_repeat t) e)

pub fine_type : (t : TypeTree) → HasNoRepeat t → repeat_fault (leftmost_repeat t) ≡ []
fine_type t clean = ap repeat_fault (clean_in t clean)

-- types, each without a repeat
abbrev AreClean : List (Node TypeTree) → Type 0
AreClean ts = AllByRecursion (λ t. HasNoRepeat t.node) ts

shape_fine : (c : ContextDecl) → repeat_fault (shape_repeat c) ≡ [] → AreClean (types_of_shape c)
shape_fine (Named path) e = tt
shape_fine (Shape attrs) e = (type_fine (Record attrs.node) e, tt)

fine_shape : (c : ContextDecl) → AreClean (types_of_shape c) → repeat_fault (shape_repeat c) ≡ []
fine_shape (Named path) clean = refl
fine_shape (Shape attrs) clean = fine_type (Record attrs.node) clean.0

-- what holds of a declaration alone
pub record IsSound (d : Declaration) : Type 0 where
  pub entities_free : AreUnreserved (entity_names d)
  pub commons_free : AreUnreserved (common_names d)
  pub no_keyword : AllByRecursion (λ n. is_reserved_basename n.node ≡ false) (common_names d)
  pub applies : AllByRecursion Applies (clauses_in d)
  pub clean : AreClean (types_of_decl d)

-- nothing is wrong with a declaration
abbrev IsFaultless : Declaration → Type 0
IsFaultless d = (entity_faults d ≡ []) × (action_faults d ≡ []) × (common_faults d ≡ [])

abbrev tags_faults : Option (Node TypeTree) → List ToJsonSchemaError
tags_faults tags = flat_map (λ t. repeat_fault (leftmost_repeat t.node)) (option_to_list tags)

entity_fine : (e : EntityDecl) → entity_repeat e ≡ [] → AreClean (types_of_decl (Entity e))
entity_fine (Standard e) none =
    let all = nothing_found (repeat_fault (shape_repeat e.attrs) ∷ tags_faults e.tags ∷ []) none in
    all_append (λ t. HasNoRepeat t.node) (types_of_shape e.attrs) (option_to_list e.tags) (shape_fine e.attrs all.0)
    (all_map (λ t. type_fine t.node) (option_to_list e.tags) (each_nil (λ t. repeat_fault (leftmost_repeat t.node)) (option_to_list e.tags) all.1.0))
entity_fine (Enum e) none = tt

fine_entity : (e : EntityDecl) → AreClean (types_of_decl (Entity e)) → entity_repeat e ≡ []
fine_entity (Standard e) clean =
    let both = all_split (λ t. HasNoRepeat t.node) (types_of_shape e.attrs) (option_to_list e.tags) clean in
    nothing_to_find (repeat_fault (shape_repeat e.attrs) ∷ tags_faults e.tags ∷ [])
    (fine_shape e.attrs both.0, (all_nil (λ t. repeat_fault (leftmost_repeat t.node)) (option_to_list e.tags) (all_map (λ t. fine_type t.node) (option_to_list e.tags) both.1), tt))
fine_entity (Enum e) clean = refl

-- clauses: of contexts, those without a repeat
clause_fine : (name : Node (List ℕ)) (c : Node AppDecl) → own_faults name c.node c.loc ≡ [] → AreClean (types_of_app c.node)
clause_fine name c e = by c.node e
  where
    by : (d : AppDecl) → own_faults name d c.loc ≡ [] → AreClean (types_of_app d)
    by (Types which types) e = tt
    by (Context shape) e = shape_fine shape e

fine_clause : (d : AppDecl) → AreClean (types_of_app d) → context_faults d ≡ []
fine_clause (Types which types) clean = refl
fine_clause (Context shape) clean = fine_shape shape clean

clauses_clean : (name : Node (List ℕ)) (cs : Clauses) → AllByRecursion (λ c. own_faults name c.node c.loc ≡ []) cs → AreClean (flat_map (λ d. types_of_app d.node) (cs ++ []))
clauses_clean name cs fine =
    subst (λ l. AreClean (flat_map (λ d. types_of_app d.node) l)) (sym (append-nil cs))
    (all_flat (λ d. types_of_app d.node) (λ t. HasNoRepeat t.node) cs (all_map (clause_fine name) cs fine))

clean_clauses : (cs : Clauses) → AreClean (flat_map (λ d. types_of_app d.node) (cs ++ [])) → AllByRecursion (λ c. context_faults c.node ≡ []) cs
clean_clauses cs clean =
    all_map (λ c. fine_clause c.node) cs
    (flat_all (λ d. types_of_app d.node) (λ t. HasNoRepeat t.node) cs (subst (λ l. AreClean (flat_map (λ d. types_of_app d.node) l)) (append-nil cs) clean))

action_fine : (a : ActionDecl) (clauses : Option (Node Clauses)) → a.app_decls ≡ clauses → action_faults (Action a) ≡ [] → AllByRecursion Applies (clauses_in (Action a)) × AreClean (types_of_decl (Action a))
action_fine a clauses is e = by clauses is (subst (λ (l : Option (Node Clauses)). flat_map (λ clauses. applies_faults (first_name a.names) clauses.node) (option_to_list l) ≡ []) is e)
  where
    Sound : Option (Node Clauses) → Type 0
    Sound l = AllByRecursion Applies (map (λ clauses. clauses.node) (option_to_list l)) × AreClean (flat_map (λ d. types_of_app d.node) (flat_map (λ apps. apps.node) (option_to_list l)))

    by : (l : Option (Node Clauses)) → a.app_decls ≡ l → flat_map (λ clauses. applies_faults (first_name a.names) clauses.node) (option_to_list l) ≡ [] → Sound a.app_decls
    by None is e = subst Sound (sym is) (tt, tt)
    by (Some cs) is e =
        let fine = applies_fine (first_name a.names) cs.node (each_nil (λ (c : Node Clauses). applies_faults (first_name a.names) c.node) (cs ∷ []) e).0 in
        subst Sound (sym is) ((fine.0, tt), clauses_clean (first_name a.names) cs.node fine.1)

fine_action : (a : ActionDecl) → AllByRecursion Applies (clauses_in (Action a)) → AreClean (types_of_decl (Action a)) → action_faults (Action a) ≡ []
fine_action a applies clean = by a.app_decls applies clean
  where
    by : (l : Option (Node Clauses)) → AllByRecursion Applies (map (λ clauses. clauses.node) (option_to_list l)) → AreClean (flat_map (λ d. types_of_app d.node) (flat_map (λ apps. apps.node) (option_to_list l)))
        → flat_map (λ clauses. applies_faults (first_name a.names) clauses.node) (option_to_list l) ≡ []
    by None applies clean = refl
    by (Some cs) applies clean = all_nil (λ (c : Node Clauses). applies_faults (first_name a.names) c.node) (cs ∷ []) (fine_applies (first_name a.names) cs.node applies.0 (clean_clauses cs.node clean), tt)

no_keyword_found : (n : Node (List ℕ)) → keyword_faults n ≡ [] → is_reserved_basename n.node ≡ false
no_keyword_found n e = by (is_reserved_basename n.node) e
  where
    by : (b : Bool) → cond b (ReservedSchemaKeyword (record { keyword = n.node; loc = n.loc }) ∷ []) [] ≡ [] → b ≡ false
    by true e = cc
    by false e = refl

keyword_none : (n : Node (List ℕ)) → is_reserved_basename n.node ≡ false → keyword_faults n ≡ []
keyword_none n e = ap (λ b. cond b (ReservedSchemaKeyword (record { keyword = n.node; loc = n.loc }) ∷ []) []) e

abbrev common_steps : TypeDecl → List (List ToJsonSchemaError)
common_steps t = name_faults t.name ∷ repeat_fault (leftmost_repeat t.def.node) ∷ []

abbrev name_steps : Node (List ℕ) → List (List ToJsonSchemaError)
name_steps n = reserved_names (n ∷ []) ∷ keyword_faults n ∷ []

decl_fine : (d : Declaration) → IsFaultless d → IsSound d
decl_fine (Entity e) fine =
    let all = nothing_found (entity_repeat e ∷ reserved_names (entity_names (Entity e)) ∷ []) fine.0 in
    record { entities_free = free (entity_names (Entity e)) all.1.0; commons_free = tt; no_keyword = tt; applies = tt; clean = entity_fine e all.0 }
decl_fine (Action a) fine =
    let both = action_fine a a.app_decls refl fine.1 in
    record { entities_free = tt; commons_free = tt; no_keyword = tt; applies = both.0; clean = both.1 }
decl_fine (Common t) fine =
    let all = nothing_found (common_steps t) fine.2 in
    let name = nothing_found (name_steps t.name) all.0 in
    record { entities_free = tt; commons_free = free (t.name ∷ []) name.0; no_keyword = (no_keyword_found t.name name.1.0, tt); applies = tt; clean = (type_fine t.def.node all.1.0, tt) }

fine_decl : (d : Declaration) → IsSound d → IsFaultless d
fine_decl (Entity e) s = (nothing_to_find (entity_repeat e ∷ reserved_names (entity_names (Entity e)) ∷ []) (fine_entity e s.clean, (none_reserved (entity_names (Entity e)) s.entities_free, tt)), refl, refl)
fine_decl (Action a) s = (refl, fine_action a s.applies s.clean, refl)
fine_decl (Common t) s = (
  refl,
  refl,
  nothing_to_find (common_steps t)
      (nothing_to_find (name_steps t.name) (none_reserved (t.name ∷ []) s.commons_free, (keyword_none t.name s.no_keyword.0, tt)), (fine_type t.def.node s.clean.0, tt)),
)

abbrev among_steps : Declarations → List (List ToJsonSchemaError)
among_steps decls = flat_map (λ d. entity_faults d.item.node) decls ∷ flat_map (λ d. action_faults d.item.node) decls ∷ first_found (map (λ d. common_faults d.item.node) decls) ∷ []

-- nothing is wrong with declarations exactly where they are sound
pub sound_where_fine : (decls : Declarations) → faults_among decls ≡ [] → AreSound decls
sound_where_fine decls e =
    let all = nothing_found (among_steps decls) e in
    let each = all_map (λ d. decl_fine d.item.node) decls (all_three (λ d. entity_faults d.item.node ≡ []) (λ d. action_faults d.item.node ≡ []) (λ d. common_faults d.item.node ≡ []) decls
    (each_nil (λ d. entity_faults d.item.node) decls all.0) (each_nil (λ d. action_faults d.item.node) decls all.1.0)
    (map_nil (λ d. common_faults d.item.node) decls (nothing_found (map (λ d. common_faults d.item.node) decls) all.1.1.0))) in
    record {
      entities_free = all_flat (λ d. entity_names d.item.node) (λ n. is_cedar n.node ≡ false) decls (all_map (λ d s. s.entities_free) decls each);
      commons_free = all_flat (λ d. common_names d.item.node) (λ n. is_cedar n.node ≡ false) decls (all_map (λ d s. s.commons_free) decls each);
      no_keyword = all_flat (λ d. common_names d.item.node) (λ n. is_reserved_basename n.node ≡ false) decls (all_map (λ d s. s.no_keyword) decls each);
      applies = all_flat (λ d. clauses_in d.item.node) Applies decls (all_map (λ d s. s.applies) decls each);
      no_repeat = all_flat (λ d. types_of_decl d.item.node) (λ t. HasNoRepeat t.node) decls (all_map (λ d s. s.clean) decls each);
    }

all_five : (P Q R S T : Rattle.cedar_tree.specs.Trees.Annotated (Node Declaration) → Type 0) (decls : Declarations) → AllByRecursion P decls → AllByRecursion Q decls → AllByRecursion R decls → AllByRecursion S decls → AllByRecursion T decls
    → AllByRecursion (λ d. P d × Q d × R d × S d × T d) decls
all_five P Q R S T [] p q r s t = tt
all_five P Q R S T (d ∷ decls) p q r s t = ((p.0, q.0, r.0, s.0, t.0), all_five P Q R S T decls p.1 q.1 r.1 s.1 t.1)

pub fine_where_sound : (decls : Declarations) → AreSound decls → faults_among decls ≡ []
fine_where_sound decls s =
    let each = all_map (λ d h. fine_decl d.item.node (record { entities_free = h.0; commons_free = h.1; no_keyword = h.2; applies = h.3; clean = h.4 })) decls
    (all_five
    (λ d. AreUnreserved (entity_names d.item.node)) (λ d. AreUnreserved (common_names d.item.node)) (λ d. AllByRecursion (λ n. is_reserved_basename n.node ≡ false) (common_names d.item.node))
    (λ d. AllByRecursion Applies (clauses_in d.item.node)) (λ d. AreClean (types_of_decl d.item.node)) decls
    (flat_all (λ d. entity_names d.item.node) (λ n. is_cedar n.node ≡ false) decls s.entities_free)
    (flat_all (λ d. common_names d.item.node) (λ n. is_cedar n.node ≡ false) decls s.commons_free)
    (flat_all (λ d. common_names d.item.node) (λ n. is_reserved_basename n.node ≡ false) decls s.no_keyword)
    (flat_all (λ d. clauses_in d.item.node) Applies decls s.applies)
    (flat_all (λ d. types_of_decl d.item.node) (λ t. HasNoRepeat t.node) decls s.no_repeat)) in
    nothing_to_find (among_steps decls) (
      all_nil (λ d. entity_faults d.item.node) decls (all_map (λ d f. f.0) decls each),
      (
        all_nil (λ d. action_faults d.item.node) decls (all_map (λ d f. f.1) decls each),
        (nothing_to_find (map (λ d. common_faults d.item.node) decls) (nil_map (λ d. common_faults d.item.node) decls (all_map (λ d f. f.2) decls each)), tt),
      ),
    )

-- no named namespace stands twice
distinct_spaces : (names : Names) → map stands_twice (option_to_list (first_repeat names)) ≡ [] → AreDistinct names
distinct_spaces names e = by (first_repeat names) refl e
  where
    by : (r : Option Repeat) → first_repeat names ≡ r → map stands_twice (option_to_list r) ≡ [] → AreDistinct names
    by None is e = none_repeats [] names refl is
    by (Some r) is e = cc

-- nothing is wrong with namespaces exactly where they are as those that declare a fragment have to be
pub declared_where_fine : (gs : List Gathered) → faults_of gs ≡ [] → AreDeclared gs
declared_where_fine gs e =
    let all = nothing_found (bindings gs ∷ declarations gs ∷ []) e in
    let names = nothing_found (flat_map binding_of gs ∷ repeated_namespace gs ∷ []) all.0 in
    record {
      bound = all_map bound gs (each_nil binding_of gs names.0);
      sound = all_map (λ g. sound_where_fine g.decls) gs (each_nil (λ g. faults_among g.decls) gs all.1.0);
      namespaces = distinct_spaces (flat_map (λ g. full_names g.name) gs) names.1.0;
    }

pub fine_where_declared : (gs : List Gathered) → AreDeclared gs → faults_of gs ≡ []
fine_where_declared gs d =
    nothing_to_find (bindings gs ∷ declarations gs ∷ []) (
      nothing_to_find (flat_map binding_of gs ∷ repeated_namespace gs ∷ []) (
        all_nil binding_of gs (all_map unbound gs d.bound),
        (ap (λ r. map stands_twice (option_to_list r)) (distinct_none (flat_map (λ g. full_names g.name) gs) d.namespaces), tt),
      ),
      (all_nil (λ g. faults_among g.decls) gs (all_map (λ g. fine_where_sound g.decls) gs d.sound), tt),
    )

-- a list of faults that is empty exactly where something holds
pub empty_where : {A N : Type 0} {E : Type 0} (view : A → List E) (faults : List E) (Holds : Type 0) → (faults ≡ [] → Holds) → (Holds → faults ≡ []) → (r : Result A N) → IfOk r (λ x. view x ≡ faults) → IfOk r (λ x. (view x ≡ []) ↔ Holds)
empty_where view faults Holds to from (Ok x) is = ((λ none. to (sym is ∙ none)), (λ h. is ∙ from h))
empty_where view faults Holds to from (Err e) is = is
