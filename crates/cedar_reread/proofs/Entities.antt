-- SPDX-License-Identifier: Apache-2.0
-- How declarations of entity types and common types are read.
use Rattle.std.proofs.Common.{◌≡◌, ℕ, true, List, [], ◌∷◌, ◌++◌, codes, map, refl, sym, ap, ap₂, subst, append_assoc, Option, Some, None}
use Rattle.std.specs.Prelude.{IfSome}
use Rattle.std.specs.List.{AllByRecursion}
use Rattle.std.specs.Option.{option_map}
use Rattle.cedar_text.specs.Words.{is_id}
use Rattle.cedar_tree.specs.Trees.{Node, Text, Place, TypeTree, ContextDecl, Declaration, Entity, Common, Standard}
use Rattle.cedar_tree.specs.Unplaced.{nowhere}
use Rattle.cedar_grammar.specs.Grammar.{behind_shape, enum_entity, shape_at, standard_entity, str, type_decl, type_upto}
use Rattle.cedar_convert_fragment.specs.Fragments.{EntityContent, NameAt, Shaped, Listed, TypeAt}
use Rattle.cedar_reread.specs.Said.{Tokens, mark_token, said_entity, said_in, said_list, said_name, said_shape, said_tags, said_text, said_type, word_token}
use Rattle.cedar_reread.specs.TreesRead.{bare, entity_read, name_read, node_read, shape_read}
use Rattle.cedar_reread.proofs.Annotated.{mark_read}
use Rattle.cedar_reread.proofs.Classes.{ident_read, str_read}
use Rattle.cedar_reread.proofs.Lists.{Named, list_read, one_name, parents_read}
use Rattle.cedar_reread.proofs.Shapes.{IsShape, IsType, shape_is, shape_reads, shape_written, tags_placed, tags_read}
use Rattle.cedar_reread.proofs.Types.{keyword_read, type_reads}

-- an entity type of names whose types nest at most n deep
abbrev pub IsEntity : ℕ → EntityContent → Type 0
IsEntity n (Shaped parents shape tags) = AllByRecursion Named parents × IsShape n shape × IfSome tags (IsType n)
IsEntity n (Listed []) = ⊥
IsEntity n (Listed (id ∷ ids)) = Unit {0}

abbrev pub entity_tokens : Text → EntityContent → Tokens → Tokens
entity_tokens name content rest = word_token (codes "entity") ∷ word_token name ∷ (said_entity content ++ mark_token (codes ";") ∷ rest)

module _ (n : ℕ) (name : Text) (id : is_id name ≡ true) where
  abbrev semicolon : Tokens → Tokens
  semicolon rest = mark_token (codes ";") ∷ rest

  -- the shape is at its own place or before what stands behind it, which is nowhere
  shape_stands : (shape : TypeAt) (tags : Option TypeAt) → shape_at (shape_written n shape) (behind_shape (tags_placed n tags) nowhere) ≡ shape_read shape
  shape_stands shape None = shape_is n shape
  shape_stands shape (Some ty) = shape_is n shape

  tags_are : (tags : Option TypeAt) → option_map (λ (p : Place × Node TypeTree). p.1) (tags_placed n tags) ≡ option_map node_read tags
  tags_are None = refl
  tags_are (Some ty) = refl

  pub shaped_read : (parents : List NameAt) (shape : TypeAt) (tags : Option TypeAt) (rest : Tokens) → IsEntity n (Shaped parents shape tags)
      → (standard_entity (type_upto n)).reads (entity_tokens name (Shaped parents shape tags) rest) (bare (Entity (entity_read name (Shaped parents shape tags)))) rest
  shaped_read parents shape tags rest is =
      let last = semicolon rest in
      let t3 = said_tags tags ++ last in
      let t2 = said_shape shape ++ t3 in
      let t1 = said_in said_name parents ++ t2 in
      let together : said_entity (Shaped parents shape tags) ++ last ≡ t1 = simp append_assoc in
      let decl : Declaration = Entity (Standard (record {
        names = bare name ∷ [];
        member_of_types = map name_read parents;
        attrs = shape_at (shape_written n shape) (behind_shape (tags_placed n tags) nowhere);
        tags = option_map (λ (p : Place × Node TypeTree). p.1) (tags_placed n tags);
      })) in
      let same : Entity (entity_read name (Shaped parents shape tags)) ≡ decl = ap₂ (λ (s : ContextDecl) (t : Option (Node TypeTree)). Entity (Standard (record { names = bare name ∷ []; member_of_types = map name_read parents; attrs = s; tags = t }))) (sym (shape_stands shape tags)) (sym (tags_are tags)) in
      subst (λ (ts : Tokens). (standard_entity (type_upto n)).reads (word_token (codes "entity") ∷ word_token name ∷ ts) (bare (Entity (entity_read name (Shaped parents shape tags)))) rest) (sym together) (
        bare (codes "entity"),
        word_token name ∷ t1,
        keyword_read (codes "entity") (word_token name ∷ t1) refl,
        (
          bare name ∷ [],
          t1,
          one_name name t1 id,
          (
            map name_read parents,
            t2,
            parents_read parents t2 is.0,
            (
              shape_written n shape,
              t3,
              shape_reads n shape t3 is.1,
              (
                tags_placed n tags,
                last,
                tags_read n tags last is.2,
                (bare (codes ";"), rest, mark_read (codes ";") rest refl, (ap bare same, refl)),
              ),
            ),
          ),
        ),
      )

  pub listed_read : (choice : Text) (choices : List Text) (rest : Tokens) → enum_entity.reads (entity_tokens name (Listed (choice ∷ choices)) rest) (bare (Entity (entity_read name (Listed (choice ∷ choices))))) rest
  listed_read choice choices rest =
      let last = semicolon rest in
      let t2 = said_list said_text (choice ∷ choices) ++ last in
      let t1 = word_token (codes "enum") ∷ t2 in (
        bare (codes "entity"),
        word_token name ∷ t1,
        keyword_read (codes "entity") (word_token name ∷ t1) refl,
        (
          bare name ∷ [],
          t1,
          one_name name t1 id,
          (
            bare (codes "enum"),
            t2,
            keyword_read (codes "enum") t2 refl,
            (
              bare (bare choice ∷ map bare choices),
              last,
              list_read str said_text bare (λ t. Unit {0}) (λ t behind good. str_read t behind) choice choices last tt (all choices),
              (bare (codes ";"), rest, mark_read (codes ";") rest refl, (refl, refl)),
            ),
          ),
        ),
      )
    where
      all : (ts : List Text) → AllByRecursion {X = Text} (λ t. Unit {0}) ts
      all [] = tt
      all (t ∷ ts) = (tt, all ts)

abbrev pub common_tokens : Text → TypeAt → Tokens → Tokens
common_tokens name ty rest = word_token (codes "type") ∷ word_token name ∷ mark_token (codes "=") ∷ (said_type ty ++ mark_token (codes ";") ∷ rest)

pub common_read : (n : ℕ) (name : Text) (ty : TypeAt) (rest : Tokens) → is_id name ≡ true → IsType n ty
    → (type_decl (type_upto n)).reads (common_tokens name ty rest) (bare (Common (record { name = bare name; def = node_read ty }))) rest
common_read n name ty rest id is =
    let last = mark_token (codes ";") ∷ rest in
    let t3 = said_type ty ++ last in
    let t2 = mark_token (codes "=") ∷ t3 in (
      bare (codes "type"),
      word_token name ∷ t2,
      keyword_read (codes "type") (word_token name ∷ t2) refl,
      (
        bare name,
        t2,
        ident_read name t2 id,
        (
          bare (codes "="),
          t3,
          mark_read (codes "=") t3 refl,
          (
            node_read ty,
            last,
            type_reads n ty last is.0 is.1,
            (bare (codes ";"), rest, mark_read (codes ";") rest refl, (refl, refl)),
          ),
        ),
      ),
    )
