-- SPDX-License-Identifier: Apache-2.0
-- How a fragment is read.
use Rattle.std.proofs.Common.{◌≡◌, ℕ, true, List, [], ◌∷◌, ◌++◌, codes, map, refl, sym, ap, ◌∙◌, subst, inl, inr, append_assoc, append-nil, Option, Some, None}
use Rattle.std.proofs.lemmas.List.{map-append}
use Rattle.std.specs.Prelude.{⊤}
use Rattle.std.specs.List.{AllByRecursion, flat_map}
use Rattle.cedar_text.specs.Words.{is_id}
use Rattle.cedar_tokens.specs.Lexemes.{TextToken}
use Rattle.cedar_tree.specs.Trees.{Node, Text, ByKey, Annotated, Declaration, Namespace, Schema}
use Rattle.cedar_tree.specs.Trees as trees
use Rattle.cedar_tree.specs.Unplaced.{annotations_unplaced, nowhere}
use Rattle.cedar_grammar.specs.Grammar.{annotated, annots, decl, item_behind, action_decl, type_decl, type_upto, Reads}
use Rattle.cedar_grammar.specs.Productions.{Production, ReadsMany, none, more, ◌>>=◌}
use Rattle.cedar_convert_fragment.specs.Fragments.{ActionContent, ByName, Declared, Definition, EntityContent, Fragment, TypeAt, Shaped, Listed}
use Rattle.cedar_reread.specs.Said.{Tokens, mark_token, word_token, str_token, said_annotations, said_common_entry, said_entity_entry, said_action_entry, said_definition, said_named, said_namespace, said_fragment, said_path, said_entity, said_action, said_type}
use Rattle.cedar_reread.specs.TreesRead.{bare, action_entry_read, alone_read, common_entry_read, declarations_read, entity_entry_read, entity_read, fragment_read, namespace_read}
use Rattle.cedar_reread.proofs.Actions.{IsAction, action_reads}
use Rattle.cedar_reread.proofs.Annotated.{AreKeys, annotations_read, mark_read}
use Rattle.cedar_reread.proofs.Entities.{IsEntity, common_read, entity_tokens, listed_read, shaped_read}
use Rattle.cedar_reread.proofs.Paths.{AreIds, path_read}
use Rattle.cedar_reread.proofs.Shapes.{IsType}
use Rattle.cedar_reread.proofs.Types.{keyword_read}

module _ (n : ℕ) where
  -- declarations that can be read
  abbrev pub IsCommonEntry : Text × Declared TypeAt → Type 0
  IsCommonEntry e = (is_id e.0 ≡ true) × AreKeys e.1.annotations × IsType n e.1.content

  abbrev pub IsEntityEntry : Text × Declared EntityContent → Type 0
  IsEntityEntry e = (is_id e.0 ≡ true) × AreKeys e.1.annotations × IsEntity n e.1.content

  abbrev pub IsActionEntry : Text × Declared ActionContent → Type 0
  IsActionEntry e = AreKeys e.1.annotations × IsAction n e.1.content

  abbrev pub IsDefinition : Definition → Type 0
  IsDefinition d = AllByRecursion IsCommonEntry d.common_types × AllByRecursion IsEntityEntry d.entity_types × AllByRecursion IsActionEntry d.actions

  -- a named namespace has a name of identifiers, and annotations in order
  abbrev pub IsNamedSo : Option (List Text) → Definition → Type 0
  IsNamedSo None d = ⊤
  IsNamedSo (Some words) d = AreIds words × AreKeys d.annotations

  abbrev pub IsNamespace : Option (List Text) × Definition → Type 0
  IsNamespace e = IsNamedSo e.0 e.1 × IsDefinition e.1

  -- a fragment that can be read
  abbrev pub IsReadable : Fragment → Type 0
  IsReadable F = AllByRecursion IsNamespace F

  abbrev Decl : Production TextToken (Node Declaration)
  Decl = decl (type_upto n)

  -- the tokens of a declaration, and what it is without its annotations
  record Read (said : Tokens) (d : Annotated (Node Declaration)) : Type 0 where
    annotations : ByKey
    own : Tokens
    keys : AreKeys annotations
    said_is : said ≡ said_annotations annotations ++ own
    noted_is : d.annotations ≡ annotations_unplaced annotations
    reads : (rest : Tokens) → Decl.reads (own ++ rest) d.item rest

  common_entry : (e : Text × Declared TypeAt) → IsCommonEntry e → Read (said_common_entry e) (common_entry_read e)
  common_entry e is = record {
    annotations = e.1.annotations;
    own = word_token (codes "type") ∷ word_token e.0 ∷ mark_token (codes "=") ∷ (said_type e.1.content ++ mark_token (codes ";") ∷ []);
    keys = is.1;
    said_is = refl;
    noted_is = refl;
    reads = λ rest. inr (subst (λ (ts : Tokens). (type_decl (type_upto n)).reads (word_token (codes "type") ∷ word_token e.0 ∷ mark_token (codes "=") ∷ ts) (common_entry_read e).item rest)
        (sym (append_assoc (said_type e.1.content) (mark_token (codes ";") ∷ []) rest)) (common_read n e.0 e.1.content rest is.0 is.2));
  }

  of_content : (name : Text) (content : EntityContent) (rest : Tokens) → is_id name ≡ true → IsEntity n content → Decl.reads (entity_tokens name content rest) (bare (trees.Entity (entity_read name content))) rest
  of_content name (Shaped parents shape tags) rest id is = inl (inl (inl (shaped_read n name id parents shape tags rest is)))
  of_content name (Listed []) rest id is = absurd is
  of_content name (Listed (choice ∷ choices)) rest id is = inl (inl (inr (listed_read n name id choice choices rest)))

  entity_entry : (e : Text × Declared EntityContent) → IsEntityEntry e → Read (said_entity_entry e) (entity_entry_read e)
  entity_entry e is = record {
    annotations = e.1.annotations;
    own = word_token (codes "entity") ∷ word_token e.0 ∷ (said_entity e.1.content ++ mark_token (codes ";") ∷ []);
    keys = is.1;
    said_is = refl;
    noted_is = refl;
    reads = λ rest. subst (λ (ts : Tokens). Decl.reads (word_token (codes "entity") ∷ word_token e.0 ∷ ts) (entity_entry_read e).item rest)
        (sym (append_assoc (said_entity e.1.content) (mark_token (codes ";") ∷ []) rest)) (of_content e.0 e.1.content rest is.0 is.2);
  }

  action_entry : (e : Text × Declared ActionContent) → IsActionEntry e → Read (said_action_entry e) (action_entry_read e)
  action_entry e is = record {
    annotations = e.1.annotations;
    own = word_token (codes "action") ∷ str_token e.0 ∷ (said_action e.1.content ++ mark_token (codes ";") ∷ []);
    keys = is.0;
    said_is = refl;
    noted_is = refl;
    reads = λ rest. inl (inr (subst (λ (ts : Tokens). (action_decl (type_upto n)).reads (word_token (codes "action") ∷ str_token e.0 ∷ ts) (action_entry_read e).item rest)
        (sym (append_assoc (said_action e.1.content) (mark_token (codes ";") ∷ []) rest)) (action_reads n e.0 e.1.content rest is.1)));
  }

  -- ---- in a namespace

  noted : (said : Tokens) (d : Annotated (Node Declaration)) (rest : Tokens) → Read said d → (annotated Decl).reads (said ++ rest) d rest
  noted said d rest w =
      let start : said_annotations w.annotations ++ (w.own ++ rest) ≡ said ++ rest = sym (append_assoc (said_annotations w.annotations) w.own rest) ∙ ap (λ (ts : Tokens). ts ++ rest) (sym w.said_is) in
      let value : d ≡ record { item = d.item; annotations = annotations_unplaced w.annotations } = ap (λ (a : ByKey). record { item = d.item; annotations = a }) w.noted_is in
      subst (λ (ts : Tokens). (annotated Decl).reads ts d rest) start
      (annotations_unplaced w.annotations, w.own ++ rest, annotations_read w.annotations (w.own ++ rest) w.keys, (d.item, rest, w.reads rest, (value, refl)))

  -- ---- in none

  alone : (said : Tokens) (d : Annotated (Node Declaration)) (rest : Tokens) → Read said d → (annots >>= item_behind (type_upto n)).reads (said ++ rest) (alone_read d) rest
  alone said d rest w =
      let start : said_annotations w.annotations ++ (w.own ++ rest) ≡ said ++ rest = sym (append_assoc (said_annotations w.annotations) w.own rest) ∙ ap (λ (ts : Tokens). ts ++ rest) (sym w.said_is) in
      let value : alone_read d ≡ alone_read (record { item = d.item; annotations = annotations_unplaced w.annotations }) = ap (λ (a : ByKey). alone_read (record { item = d.item; annotations = a })) w.noted_is in
      subst (λ (ts : Tokens). (annots >>= item_behind (type_upto n)).reads ts (alone_read d) rest) start
      (annotations_unplaced w.annotations, w.own ++ rest, annotations_read w.annotations (w.own ++ rest) w.keys, inr (d.item, rest, w.reads rest, (value, refl)))

  -- ---- several

  module _ {A B : Type 0} (R : Production TextToken B) (said : A → Tokens) (value : A → B) (Good : A → Type 0) (each : (a : A) (rest : Tokens) → Good a → R.reads (said a ++ rest) (value a) rest) where
    all_read : (xs : List A) (ys : List B) (middle rest : Tokens) → AllByRecursion Good xs → ReadsMany R.reads middle ys rest → ReadsMany R.reads (flat_map said xs ++ middle) (map value xs ++ ys) rest
    all_read [] ys middle rest good others = others
    all_read (x ∷ xs) ys middle rest good others =
        subst (λ (ts : Tokens). ReadsMany R.reads ts (map value (x ∷ xs) ++ ys) rest) (sym (append_assoc (said x) (flat_map said xs) middle))
        (more (each x (flat_map said xs ++ middle) good.0) (all_read xs ys middle rest good.1 others))

  module _ {B : Type 0} (R : Production TextToken B) (value : Annotated (Node Declaration) → B) (each : (said : Tokens) (d : Annotated (Node Declaration)) (rest : Tokens) → Read said d → R.reads (said ++ rest) (value d) rest) where
    abbrev commons : ByName TypeAt → List B
    commons es = map (λ e. value (common_entry_read e)) es

    abbrev entities : ByName EntityContent → List B
    entities es = map (λ e. value (entity_entry_read e)) es

    abbrev actions : ByName ActionContent → List B
    actions es = map (λ e. value (action_entry_read e)) es

    definition_reads : (d : Definition) (ys : List B) (middle rest : Tokens) → IsDefinition d → ReadsMany R.reads middle ys rest
        → ReadsMany R.reads (said_definition d ++ middle) (commons d.common_types ++ (entities d.entity_types ++ (actions d.actions ++ ys))) rest
    definition_reads d ys middle rest is others =
        let a = all_read R said_action_entry (λ e. value (action_entry_read e)) IsActionEntry (λ e behind good. each (said_action_entry e) (action_entry_read e) behind (action_entry e good)) d.actions ys middle rest is.2 others in
        let b = all_read R said_entity_entry (λ e. value (entity_entry_read e)) IsEntityEntry (λ e behind good. each (said_entity_entry e) (entity_entry_read e) behind (entity_entry e good)) d.entity_types _ _ rest is.1 a in
        let c = all_read R said_common_entry (λ e. value (common_entry_read e)) IsCommonEntry (λ e behind good. each (said_common_entry e) (common_entry_read e) behind (common_entry e good)) d.common_types _ _ rest is.0 b in
        let same : flat_map said_common_entry d.common_types ++ (flat_map said_entity_entry d.entity_types ++ (flat_map said_action_entry d.actions ++ middle)) ≡ said_definition d ++ middle = simp append_assoc in
        subst (λ (ts : Tokens). ReadsMany R.reads ts (commons d.common_types ++ (entities d.entity_types ++ (actions d.actions ++ ys))) rest) same c

  -- ---- namespaces

  abbrev Item : Production TextToken (Annotated Namespace)
  Item = annots >>= item_behind (type_upto n)

  map_twice : {A B : Type 0} (f : B → Annotated Namespace) (g : A → B) (xs : List A) → map f (map g xs) ≡ map (λ x. f (g x)) xs
  map_twice f g [] = refl
  map_twice f g (x ∷ xs) = ap (λ l. f (g x) ∷ l) (map_twice f g xs)

  -- the declarations of the unnamed namespace, before others
  unnamed_are : (d : Definition) (others : Schema)
      → map (λ e. alone_read (common_entry_read e)) d.common_types ++ (map (λ e. alone_read (entity_entry_read e)) d.entity_types ++ (map (λ e. alone_read (action_entry_read e)) d.actions ++ others))
      ≡ map alone_read (declarations_read d) ++ others
  unnamed_are d others =
      let cs = map common_entry_read d.common_types in
      let es = map entity_entry_read d.entity_types in
      let us = map action_entry_read d.actions in
      let first = map_twice alone_read common_entry_read d.common_types in
      let second = map_twice alone_read entity_entry_read d.entity_types in
      let third = map_twice alone_read action_entry_read d.actions in
      let apart : map alone_read (declarations_read d) ≡ map alone_read cs ++ (map alone_read es ++ map alone_read us) = map-append alone_read cs (es ++ us) ∙ ap (λ (l : Schema). map alone_read cs ++ l) (map-append alone_read es us) in
      let together : (map alone_read cs ++ (map alone_read es ++ map alone_read us)) ++ others ≡ map alone_read cs ++ (map alone_read es ++ (map alone_read us ++ others)) = simp append_assoc in
      sym (ap (λ (l : Schema). l ++ others) apart ∙ together ∙ (λ i. first i ++ (second i ++ (third i ++ others))))

  named_are : (d : Definition) → map common_entry_read d.common_types ++ (map entity_entry_read d.entity_types ++ (map action_entry_read d.actions ++ [])) ≡ declarations_read d
  named_are d = ap (λ l. map common_entry_read d.common_types ++ (map entity_entry_read d.entity_types ++ l)) (append-nil (map action_entry_read d.actions))

  named_read : (words : List Text) (d : Definition) (rest : Tokens) → AreIds words → AreKeys d.annotations → IsDefinition d
      → Item.reads (said_named words d ++ rest) (record { item = record { name = Some (bare words); decls = declarations_read d; loc = Some nowhere }; annotations = annotations_unplaced d.annotations }) rest
  named_read words d rest ids keys is =
      let end = mark_token (codes "}") ∷ rest in
      let t3 = said_definition d ++ end in
      let t2 = mark_token (codes "{") ∷ t3 in
      let t1 = said_path words ++ t2 in
      let t0 = word_token (codes "namespace") ∷ t1 in
      let together : said_named words d ++ rest ≡ said_annotations d.annotations ++ t0 = simp append_assoc in
      let inside : ReadsMany (annotated Decl).reads t3 (declarations_read d) end =
      subst (λ ds. ReadsMany (annotated Decl).reads t3 ds end) (named_are d) (definition_reads (annotated Decl) (λ d. d) noted d [] end end is none) in
      subst (λ (ts : Tokens). Item.reads ts (record { item = record { name = Some (bare words); decls = declarations_read d; loc = Some nowhere }; annotations = annotations_unplaced d.annotations }) rest) (sym together) (
        annotations_unplaced d.annotations,
        t0,
        annotations_read d.annotations t0 keys,
        inl (
          record { name = Some (bare words); decls = declarations_read d; loc = Some nowhere },
          rest,
          (
            bare (codes "namespace"),
            t1,
            keyword_read (codes "namespace") t1 refl,
            (
              bare words,
              t2,
              path_read words t2 ids,
              (
                bare (declarations_read d),
                rest,
                (bare (codes "{"), t3, mark_read (codes "{") t3 refl, (declarations_read d, end, inside, (bare (codes "}"), rest, mark_read (codes "}") rest refl, (refl, refl)))),
                (refl, refl),
              ),
            ),
          ),
          (refl, refl),
        ),
      )

  namespace_reads : (e : Option (List Text) × Definition) (others : Schema) (middle rest : Tokens) → IsNamespace e → ReadsMany Item.reads middle others rest
      → ReadsMany Item.reads (said_namespace e ++ middle) (namespace_read e ++ others) rest
  namespace_reads (None, d) others middle rest is behind =
      subst (λ (s : Schema). ReadsMany Item.reads (said_definition d ++ middle) s rest) (unnamed_are d others)
      (definition_reads Item alone_read alone d others middle rest is.1 behind)
  namespace_reads (Some words, d) others middle rest is behind = more (named_read words d middle is.0.0 is.0.1 is.1) behind

  fragment_reads : (F : Fragment) → IsReadable F → ReadsMany Item.reads (said_fragment F) (fragment_read F) []
  fragment_reads [] is = none
  fragment_reads (e ∷ F) is = namespace_reads e (fragment_read F) (said_fragment F) [] is.0 (fragment_reads F is.1)

-- the tokens of a fragment are its tree
pub reads_back : (n : ℕ) (F : Fragment) → IsReadable n F → Reads (said_fragment F) (fragment_read F)
reads_back n F is = (n, fragment_reads n F is)
