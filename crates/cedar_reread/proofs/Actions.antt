-- SPDX-License-Identifier: Apache-2.0
-- How declarations of actions are read.
use Rattle.std.proofs.Common.{◌≡◌, ℕ, false, List, [], ◌∷◌, ◌++◌, codes, map, refl, sym, subst, inl, inr, append_assoc, Option, Some, None}
use Rattle.std.specs.Prelude.{IfSome, unwrap_or}
use Rattle.std.specs.List.{AllByRecursion}
use Rattle.std.specs.Option.{option_map}
use Rattle.cedar_tokens.specs.Lexemes.{TextToken}
use Rattle.cedar_tree.specs.Trees.{Node, Text, Principal, Resource, Types, Context, QualName, Action}
use Rattle.cedar_grammar.specs.Grammar.{action_decl, app_decl, applies_to, keyword, mark, name, names, ref, refs, type_upto}
use Rattle.cedar_grammar.specs.Productions.{Production, ReadsMany, none, more, gives, maybe, ◌>>=◌, ◌>>◌, ◌∣◌}
use Rattle.cedar_convert_fragment.specs.Fragments.{ActionAt, ActionContent, AppliesTo, NameAt, TypeAt}
use Rattle.cedar_reread.specs.Said.{Tokens, mark_token, said_action, said_applies, said_block, said_clauses, said_filled, said_in, said_list, said_name, said_parent, said_parent_type, said_parents, said_path, said_type, str_token, word_token}
use Rattle.cedar_reread.specs.TreesRead.{action_read, applies_read, bare, block_read, block_unless, lines_read, name_read, parent_read, shape_read}
use Rattle.cedar_reread.specs.TreesRead as trees
use Rattle.cedar_reread.proofs.Annotated.{mark_read}
use Rattle.cedar_reread.proofs.Classes.{str_read}
use Rattle.cedar_reread.proofs.Lists.{Named, list_or_none, list_read, types_read}
use Rattle.cedar_reread.proofs.Paths.{AreIds, path_read}
use Rattle.cedar_reread.proofs.Shapes.{IsShape, context_read}
use Rattle.cedar_reread.proofs.Types.{keyword_read}

-- the type of a parent is a path of identifiers, where it is given
abbrev pub IsParent : ActionAt → Type 0
IsParent parent = IfSome parent.ty Named

-- names, and a context that nests at most n deep
abbrev pub IsApplied : ℕ → AppliesTo → Type 0
IsApplied n a = AllByRecursion Named a.principals × AllByRecursion Named a.resources × IsShape n a.context

abbrev pub IsAction : ℕ → ActionContent → Type 0
IsAction n a = IfSome a.member_of (λ parents. AllByRecursion IsParent parents) × IfSome a.applies_to (IsApplied n)

-- ---- parents

abbrev words_of : Option NameAt → List Text
words_of ty = unwrap_or (option_map (λ (n : NameAt). n.words) ty) (codes "Action" ∷ [])

said_type_is : (ty : Option NameAt) → said_parent_type ty ≡ said_path (words_of ty)
said_type_is None = refl
said_type_is (Some name) = refl

words_are : (ty : Option NameAt) → IfSome ty Named → AreIds (words_of ty)
words_are None is = refl
words_are (Some name) is = is

parent_reads : (parent : ActionAt) (rest : Tokens) → IsParent parent → ref.reads (said_parent parent ++ rest) (parent_read parent) rest
parent_reads parent rest is =
    let words = words_of parent.ty in
    let behind = mark_token (codes "::") ∷ str_token parent.id ∷ rest in
    let same : said_path words ++ behind ≡ said_parent parent ++ rest = subst (λ (ts : Tokens). said_path words ++ behind ≡ (ts ++ (mark_token (codes "::") ∷ str_token parent.id ∷ [])) ++ rest) (sym (said_type_is parent.ty)) (sym (append_assoc (said_path words) (mark_token (codes "::") ∷ str_token parent.id ∷ []) rest)) in
    subst (λ (ts : Tokens). ref.reads ts (parent_read parent) rest) same
    (inl (
      bare words,
      behind,
      path_read words behind (words_are parent.ty is),
      (
        bare (codes "::"),
        str_token parent.id ∷ rest,
        mark_read (codes "::") (str_token parent.id ∷ rest) refl,
        (bare parent.id, rest, str_read parent.id rest, (refl, refl)),
      ),
    ))

some_parents : (parent : ActionAt) (parents : List ActionAt) (rest : Tokens) → IsParent parent → AllByRecursion IsParent parents
    → refs.reads (said_list said_parent (parent ∷ parents) ++ rest) (bare (parent_read parent ∷ map parent_read parents)) rest
some_parents parent parents rest is others =
    inr (list_or_none ref (said_list said_parent (parent ∷ parents) ++ rest) (bare (parent_read parent ∷ map parent_read parents)) rest (list_read ref said_parent parent_read IsParent parent_reads parent parents rest is others))

-- parents behind `in`, if there are any
abbrev Parents : Production TextToken (List (Node QualName))
Parents = (keyword (codes "in") >> refs >>= λ rs. gives rs.node) ∣ gives []

listed_parents : (parents : List ActionAt) (rest : Tokens) → AllByRecursion IsParent parents → Parents.reads (said_in said_parent parents ++ rest) (map parent_read parents) rest
listed_parents [] rest is = inr (refl, refl)
listed_parents (parent ∷ parents) rest is =
    let behind = said_list said_parent (parent ∷ parents) ++ rest in
    inl (bare (parent_read parent ∷ map parent_read parents), rest, (bare (codes "in"), behind, keyword_read (codes "in") behind refl, some_parents parent parents rest is.0 is.1), (refl, refl))

parents_reads : (parents : Option (List ActionAt)) (rest : Tokens) → IfSome parents (λ ps. AllByRecursion IsParent ps) → Parents.reads (said_parents parents ++ rest) (trees.parents_read parents) rest
parents_reads None rest is = inr (refl, refl)
parents_reads (Some parents) rest is = listed_parents parents rest is

-- ---- what an action applies to

module _ (n : ℕ) where
  principal_line : (name : NameAt) (names : List NameAt) (rest : Tokens) → Named name → AllByRecursion Named names
      → (app_decl (type_upto n)).reads (word_token (codes "principal") ∷ mark_token (codes ":") ∷ (said_list said_name (name ∷ names) ++ rest)) (bare (Types (bare Principal) (name_read name ∷ map name_read names))) rest
  principal_line name names rest is others =
      let t2 = said_list said_name (name ∷ names) ++ rest in
      let t1 = mark_token (codes ":") ∷ t2 in
      inl (
        bare Principal,
        t1,
        inl (bare (codes "principal"), t1, keyword_read (codes "principal") t1 refl, (refl, refl)),
        (bare (codes ":"), t2, mark_read (codes ":") t2 refl, (bare (name_read name ∷ map name_read names), rest, types_read name names rest is others, (refl, refl))),
      )

  resource_line : (name : NameAt) (names : List NameAt) (rest : Tokens) → Named name → AllByRecursion Named names
      → (app_decl (type_upto n)).reads (word_token (codes "resource") ∷ mark_token (codes ":") ∷ (said_list said_name (name ∷ names) ++ rest)) (bare (Types (bare Resource) (name_read name ∷ map name_read names))) rest
  resource_line name names rest is others =
      let t2 = said_list said_name (name ∷ names) ++ rest in
      let t1 = mark_token (codes ":") ∷ t2 in
      inl (
        bare Resource,
        t1,
        inr (bare (codes "resource"), t1, keyword_read (codes "resource") t1 refl, (refl, refl)),
        (bare (codes ":"), t2, mark_read (codes ":") t2 refl, (bare (name_read name ∷ map name_read names), rest, types_read name names rest is others, (refl, refl))),
      )

  context_line : (context : TypeAt) (rest : Tokens) → IsShape n context
      → (app_decl (type_upto n)).reads (word_token (codes "context") ∷ mark_token (codes ":") ∷ (said_type context ++ rest)) (bare (Context (shape_read context))) rest
  context_line context rest is =
      let t2 = said_type context ++ rest in
      let t1 = mark_token (codes ":") ∷ t2 in
      inr (
        bare (codes "context"),
        t1,
        keyword_read (codes "context") t1 refl,
        (bare (codes ":"), t2, mark_read (codes ":") t2 refl, (bare (shape_read context), rest, context_read n context rest is, (refl, refl))),
      )

  block_reads : (p : NameAt) (ps : List NameAt) (r : NameAt) (rs : List NameAt) (context : TypeAt) (rest : Tokens) → Named p → AllByRecursion Named ps → Named r → AllByRecursion Named rs → IsShape n context
      → (applies_to (type_upto n)).reads (said_block (record { resources = r ∷ rs; principals = p ∷ ps; context = context }) ++ rest)
      (bare (lines_read (record { resources = r ∷ rs; principals = p ∷ ps; context = context }))) rest
  block_reads p ps r rs context rest p_is ps_are r_is rs_are is =
      let a : AppliesTo = record { resources = r ∷ rs; principals = p ∷ ps; context = context } in
      let x = bare (Types (bare Principal) (map name_read (p ∷ ps))) in
      let y = bare (Types (bare Resource) (map name_read (r ∷ rs))) in
      let z = bare (Context (shape_read context)) in
      let end = mark_token (codes "}") ∷ rest in
      let t3 = word_token (codes "context") ∷ mark_token (codes ":") ∷ (said_type context ++ end) in
      let t2 = word_token (codes "resource") ∷ mark_token (codes ":") ∷ (said_list said_name (r ∷ rs) ++ mark_token (codes ",") ∷ t3) in
      let t1 = word_token (codes "principal") ∷ mark_token (codes ":") ∷ (said_list said_name (p ∷ ps) ++ mark_token (codes ",") ∷ t2) in
      let together : (said_clauses a ++ mark_token (codes "}") ∷ []) ++ rest ≡ t1 = simp append_assoc in
      let first = principal_line p ps (mark_token (codes ",") ∷ t2) p_is ps_are in
      let second = resource_line r rs (mark_token (codes ",") ∷ t3) r_is rs_are in
      let third = context_line context end is in
      let others : ReadsMany (mark (codes ",") >> app_decl (type_upto n)).reads (mark_token (codes ",") ∷ t2) (y ∷ z ∷ []) end =
      more (bare (codes ","), t2, mark_read (codes ",") t2 refl, second) (more (bare (codes ","), t3, mark_read (codes ",") t3 refl, third) none) in
      subst (λ (ts : Tokens). (applies_to (type_upto n)).reads (word_token (codes "appliesTo") ∷ mark_token (codes "{") ∷ ts) (bare (lines_read a)) rest) (sym together) (
        bare (codes "appliesTo"),
        mark_token (codes "{") ∷ t1,
        keyword_read (codes "appliesTo") (mark_token (codes "{") ∷ t1) refl,
        (
          bare (codes "{"),
          t1,
          mark_read (codes "{") t1 refl,
          (
            x ∷ y ∷ z ∷ [],
            end,
            (x ∷ y ∷ z ∷ [], end, (x, mark_token (codes ",") ∷ t2, first, (y ∷ z ∷ [], end, others, (refl, refl))), (false, end, inr (refl, refl), (refl, refl))),
            (bare (codes "}"), rest, mark_read (codes "}") rest refl, (refl, refl)),
          ),
        ),
      )

  filled_read : (resources principals : List NameAt) (context : TypeAt) (rest : Tokens) → IsApplied n (record { resources = resources; principals = principals; context = context })
      → (maybe (applies_to (type_upto n))).reads (said_filled (record { resources = resources; principals = principals; context = context }) ++ rest)
      (block_read (record { resources = resources; principals = principals; context = context })) rest
  filled_read resources [] context rest is = inr (refl, refl)
  filled_read [] (p ∷ ps) context rest is = inr (refl, refl)
  filled_read (r ∷ rs) (p ∷ ps) context rest is =
      inl (bare (lines_read (record { resources = r ∷ rs; principals = p ∷ ps; context = context })), rest, block_reads p ps r rs context rest is.0.0 is.0.1 is.1.0 is.1.1 is.2, (refl, refl))

  applies_reads : (a : Option AppliesTo) (rest : Tokens) → IfSome a (IsApplied n) → (maybe (applies_to (type_upto n))).reads (said_applies a ++ rest) (applies_read a) rest
  applies_reads None rest is = inr (refl, refl)
  applies_reads (Some a) rest is = filled_read a.resources a.principals a.context rest is

  -- ---- the declaration

  one_text : (id : Text) (rest : Tokens) → names.reads (str_token id ∷ rest) (bare id ∷ []) rest
  one_text id rest = (bare id, rest, inr (str_read id rest), ([], rest, none, (refl, refl)))

  pub action_reads : (id : Text) (a : ActionContent) (rest : Tokens) → IsAction n a
      → (action_decl (type_upto n)).reads (word_token (codes "action") ∷ str_token id ∷ (said_action a ++ mark_token (codes ";") ∷ rest)) (bare (Action (action_read id a))) rest
  action_reads id a rest is =
      let last = mark_token (codes ";") ∷ rest in
      let t2 = said_applies a.applies_to ++ last in
      let t1 = said_parents a.member_of ++ t2 in
      subst (λ (ts : Tokens). (action_decl (type_upto n)).reads (word_token (codes "action") ∷ str_token id ∷ ts) (bare (Action (action_read id a))) rest) (sym (append_assoc (said_parents a.member_of) (said_applies a.applies_to) last)) (
        bare (codes "action"),
        str_token id ∷ t1,
        keyword_read (codes "action") (str_token id ∷ t1) refl,
        (
          bare id ∷ [],
          t1,
          one_text id t1,
          (
            trees.parents_read a.member_of,
            t2,
            parents_reads a.member_of t2 is.0,
            (
              applies_read a.applies_to,
              last,
              applies_reads a.applies_to last is.1,
              (
                false,
                last,
                inr (refl, refl),
                (bare (codes ";"), rest, mark_read (codes ";") rest refl, (refl, refl)),
              ),
            ),
          ),
        ),
      )
