-- SPDX-License-Identifier: Apache-2.0
-- The reader of entity types reads what the grammar reads.
use Rattle.std.proofs.Common.{ℕ, Bool, true, false, ◌||◌, List, Option, Some, None, option_map, codes, ap, ◌∙◌, subst, refl, inl, inr}
use Rattle.cedar_tokens.specs.Lexemes.{TextToken}
use Rattle.cedar_tokens.specs.declared.token.TokenKind.TheVariants as kind
use Rattle.cedar_grammar.specs.Productions.{Production, gives, ◌>>=◌, ◌∣◌, maybe}
use Rattle.cedar_tree.specs.Trees.{Node, Place, placed, Text, Path, TypeTree, ContextDecl, Named, Shape, Standard, Enum, Declaration, Entity}
use Rattle.cedar_grammar.specs.Grammar.{is_keyword, is_mark_token, literal_value, keyword, mark, str, ident, idents, path, types, commas, bracketed, shape_decl, tags_clause, behind_shape, shape_at}
use Rattle.cedar_grammar.specs.Reading.{Reader, done, expect, on_next, a_keyword, a_mark, an_ident, commas_at, path_at, types_at, above_at, record_or_path, shape_reader, tags_at, record_behind, standard_behind, enum_behind, entity_behind}
use Rattle.cedar_grammar.proofs.Agreement.{Agrees, gives_agrees, then_agrees, either_agrees, maybe_agrees}
use Rattle.cedar_grammar.proofs.Viability.{keyword_agrees, mark_agrees, str_agrees, ident_agrees, commas_agree, bracketed_agrees, shape_agrees, tags_agree}
use Rattle.cedar_grammar.proofs.Readers.{Tokens, never, takes, Right, Opens, Sub, bind, then_starts, starts_open, either_opens, then_opens, never_opens, then_right, map_right, done_right, on_next_same, expect_right, stops_right, same_right}
use Rattle.cedar_grammar.proofs.Lists.{left_false, right_false, not_taken_starts, gives_not_taken, mark_done, or_comma, commas_right}
use Rattle.cedar_grammar.proofs.Choices.{Misses, keyword_starts, the_mark_starts, or_nothing_opens, maybe_opens, or_in, Above, above_opens, above_right}
use Rattle.cedar_grammar.proofs.Names.{is_colons, path_starts, path_right, ident_starts, types_right}
use Rattle.cedar_grammar.proofs.Types.{InBraces, record_right, type_goes, no_type_goes}

-- `=` or `{`, or `::`, with which a name would go on
abbrev pub opens_shape : TextToken → Bool
opens_shape t = (is_mark_token (codes "=") t || is_mark_token (codes "{") t) || is_colons t

-- `tags`, or what goes on with a type
abbrev pub or_tags : TextToken → Bool
or_tags t = is_keyword (codes "tags") t || type_goes t

module _ (type : Production TextToken (Node TypeTree)) where
  -- [['='] Record | '=' Path]
  abbrev pub ShapePart : Production TextToken (Option ContextDecl)
  ShapePart = maybe (shape_decl type)

  -- a record or a name that must stand here
  abbrev Wanted : Production TextToken ContextDecl
  Wanted = (mark (codes "{") >>= λ opening. InBraces type opening >>= λ r. gives (Shape r)) ∣ (path >>= λ p. gives (Named p))

  -- a record
  abbrev RecordPart : Production TextToken (Option ContextDecl)
  RecordPart = mark (codes "{") >>= λ opening. InBraces type opening >>= λ r. gives (Some (Shape r))

  -- the same by the next token
  abbrev ShapeChoice : Production TextToken (Option ContextDecl)
  ShapeChoice = (mark (codes "=") >>= λ _. Wanted >>= λ shape. gives (Some shape)) ∣ (RecordPart ∣ gives None)

  -- both ways to put it read the same
  shape_there : Sub ShapeChoice ShapePart
  shape_there ts v rest (inl (e, mid, re, (shape, end, inl (o, left, ro, (r, end', rr, (is, here))), same))) =
      inl (shape, end, inl (r, end', (true, mid, inl (e, mid, re, (refl, refl)), (o, left, ro, rr)), (is, here)), same)
  shape_there ts v rest (inl (e, mid, re, (shape, end, inr (p, end', rp, (is, here)), same))) =
      inl (shape, end, inr (p, end', (e, mid, re, rp), (is, here)), same)
  shape_there ts v rest (inr (inl (o, left, ro, (r, end, rr, same)))) =
      inl (Shape r, end, inl (r, end, (false, ts, inr (refl, refl), (o, left, ro, rr)), (refl, refl)), same)
  shape_there ts v rest (inr (inr same)) = inr same

  shape_back : Sub ShapePart ShapeChoice
  shape_back ts v rest (inl (shape, end, inl (r, end', (b, begin, inl (e, mid, re, (_, here)), (o, left, ro, rr)), (is, stop)), same)) =
      inl (e, mid, re, (shape, end, inl (o, left, subst (λ (us : Tokens). (mark (codes "{")).reads us o left) here ro, (r, end', rr, (is, stop))), same))
  shape_back ts v rest (inl (shape, end, inl (r, end', (b, begin, inr (_, here), (o, left, ro, rr)), (is, stop)), (same, last))) =
      inr (inl (o, left, subst (λ (us : Tokens). (mark (codes "{")).reads us o left) here ro, (r, end', rr, (same ∙ ap (λ s. Some s) is, last ∙ stop))))
  shape_back ts v rest (inl (shape, end, inr (p, end', (e, mid, re, rp), (is, stop)), same)) =
      inl (e, mid, re, (shape, end, inr (p, end', rp, (is, stop)), same))
  shape_back ts v rest (inr same) = inr (inr same)

  -- it begins with none of p where none of p follows and p misses `=` and `{`
  shape_opens : (p : TextToken → Bool) → Misses p kind.Punct (codes "=") → Misses p kind.Punct (codes "{") → Opens ShapePart p p
  shape_opens p equals opening = record { opens = λ ts x rest r stop. choice_opens.opens ts x rest (shape_back ts x rest r) stop }
    where
      choice_opens : Opens ShapeChoice p p
      choice_opens =
          either_opens (mark (codes "=") >>= λ _. Wanted >>= λ shape. gives (Some shape)) (RecordPart ∣ gives None) p p
          (starts_open (mark (codes "=") >>= λ _. Wanted >>= λ shape. gives (Some shape)) p p (then_starts (mark (codes "=")) _ p (the_mark_starts (codes "=") p equals)))
          (or_nothing_opens RecordPart None p (then_starts (mark (codes "{")) _ p (the_mark_starts (codes "{") p opening)))

  -- ['tags' Type]
  abbrev pub Tags : Production TextToken (Option (Place × Node TypeTree))
  Tags = maybe (tags_clause type)

  -- the same by the next token
  abbrev TagsChoice : Production TextToken (Option (Place × Node TypeTree))
  TagsChoice = (keyword (codes "tags") >>= λ tags. type >>= λ ty. gives (Some (tags.loc, ty))) ∣ gives None

  -- both ways to put it read the same
  tags_there : Sub TagsChoice Tags
  tags_there ts v rest (inl (k, mid, rk, (ty, end, r, same))) = inl ((k.loc, ty), end, (k, mid, rk, (ty, end, r, (refl, refl))), same)
  tags_there ts v rest (inr same) = inr same

  tags_back : Sub Tags TagsChoice
  tags_back ts v rest (inl (x, stop, (k, mid, rk, (ty, end, r, (is, left))), (same, left'))) = inl (k, mid, rk, (ty, end, r, (same ∙ ap (λ y. Some y) is, left' ∙ left)))
  tags_back ts v rest (inr same) = inr same

  -- it begins with none of p where none of p follows and p misses `tags`
  tags_open : (p : TextToken → Bool) → Misses p kind.Word (codes "tags") → Opens Tags p p
  tags_open p m = maybe_opens (tags_clause type) p (then_starts (keyword (codes "tags")) _ p (keyword_starts (codes "tags") p m))

  module _ (entity : Node Text) (ns : List (Node Text)) where
    -- what follows the shape
    abbrev TagsOn : List Path → Option ContextDecl → Production TextToken (Node Declaration)
    TagsOn parents shape =
        Tags >>= λ tags. mark (codes ";") >>= λ semicolon.
        gives (placed (Entity (Standard (record {
          names = ns;
          member_of_types = parents;
          attrs = shape_at shape (behind_shape tags semicolon.loc);
          tags = option_map (λ p. p.1) tags;
        }))) entity.loc semicolon.loc)

    -- what follows the parents
    abbrev ShapeOn : List Path → Production TextToken (Node Declaration)
    ShapeOn parents = ShapePart >>= TagsOn parents

    -- what follows the names of entity types that aren't enumerated
    abbrev pub StandardBehind : Production TextToken (Node Declaration)
    StandardBehind = Above types >>= ShapeOn

    -- none of p stands before what follows the shape
    tags_on_open : (p : TextToken → Bool) → Misses p kind.Word (codes "tags") → Misses p kind.Punct (codes ";") → (parents : List Path) (shape : Option ContextDecl) → Opens (TagsOn parents shape) p never
    tags_on_open p tags semicolon parents shape =
        then_opens Tags _ p p never (tags_open p tags) (λ _. starts_open _ p never (then_starts (mark (codes ";")) _ p (the_mark_starts (codes ";") p semicolon)))

    -- none of p stands before what follows the parents
    shape_on_opens : (p : TextToken → Bool) → Misses p kind.Punct (codes "=") → Misses p kind.Punct (codes "{") → Misses p kind.Word (codes "tags") → Misses p kind.Punct (codes ";") → (parents : List Path) → Opens (ShapeOn parents) p never
    shape_on_opens p equals opening tags semicolon parents = then_opens ShapePart _ p p never (shape_opens p equals opening) (tags_on_open p tags semicolon parents)

    -- none of p stands before what follows the names
    standard_opens : (p : TextToken → Bool) → Misses p kind.Word (codes "in") → Misses p kind.Punct (codes "=") → Misses p kind.Punct (codes "{") → Misses p kind.Word (codes "tags") → Misses p kind.Punct (codes ";") → Opens StandardBehind p never
    standard_opens p above equals opening tags semicolon = then_opens (Above types) _ p p never (above_opens types p above) (shape_on_opens p equals opening tags semicolon)

module _ (n : ℕ) (f : Reader (Node TypeTree)) (type : Production TextToken (Node TypeTree)) (a : Right n f type type_goes) where
  -- what follows the `{` of a record, as a shape
  shape_in_braces : (q : TextToken → Bool) (opening : Node Text) → Right n (bind (record_behind f opening) (λ r. done (Shape r))) (InBraces type opening >>= λ r. gives (Shape r)) q
  shape_in_braces q opening = map_right n (record_behind f opening) (λ r. Shape r) (InBraces type opening) q (record_right n f type type_goes a (no_type_goes (codes ",") refl refl) (no_type_goes (codes "}") refl refl) opening q)

  -- the reader of a record or a name reads it
  wanted_right : Right n (record_or_path f) (Wanted type) is_colons
  unfolding record_or_path
  wanted_right =
      on_next_same n (a_mark (codes "{")) (λ opening. bind (record_behind f opening) (λ r. done (Shape r))) (bind path_at (λ p. done (Named p)))
      (λ opening. InBraces type opening >>= λ r. gives (Shape r)) (path >>= λ p. gives (Named p)) is_colons (mark_agrees (codes "{"))
      (shape_in_braces is_colons)
      (map_right n path_at (λ p. Named p) path is_colons (path_right n))
      (starts_open (path >>= λ p. gives (Named p)) _ is_colons (then_starts path _ _ (path_starts _ (not_taken_starts ident (is_mark_token (codes "{")) (ident_starts (codes "{"))))))

  -- the reader of the shape reads it
  shape_right : Right n (shape_reader f) (ShapePart type) opens_shape
  unfolding shape_reader
  shape_right =
      same_right n (shape_reader f) (ShapeChoice type) (ShapePart type) opens_shape
      (on_next_same n (a_mark (codes "=")) (λ _. bind (record_or_path f) (λ shape. done (Some shape))) (on_next (a_mark (codes "{")) (λ opening. bind (record_behind f opening) (λ r. done (Some (Shape r)))) (done None))
      (λ _. Wanted type >>= λ shape. gives (Some shape)) (RecordPart type ∣ gives None) opens_shape (mark_agrees (codes "="))
      (λ _. map_right n (record_or_path f) (λ shape. Some shape) (Wanted type) opens_shape (stops_right n (record_or_path f) (Wanted type) is_colons opens_shape (λ t e. right_false _ _ e) wanted_right))
      (on_next_same n (a_mark (codes "{")) (λ opening. bind (record_behind f opening) (λ r. done (Some (Shape r)))) (done None) (λ opening. InBraces type opening >>= λ r. gives (Some (Shape r))) (gives None) opens_shape (mark_agrees (codes "{"))
      (λ opening. map_right n (record_behind f opening) (λ r. Some (Shape r)) (InBraces type opening) opens_shape (record_right n f type type_goes a (no_type_goes (codes ",") refl refl) (no_type_goes (codes "}") refl refl) opening opens_shape))
      (done_right n None opens_shape) (gives_not_taken None (is_mark_token (codes "{")) opens_shape (λ t e. right_false _ _ (left_false _ _ e))))
      (either_opens (RecordPart type) (gives None) _ opens_shape
      (starts_open (RecordPart type) _ opens_shape (then_starts (mark (codes "{")) _ _ (the_mark_starts (codes "{") _ (λ t k e. rw (k, e) refl))))
      (gives_not_taken None (is_mark_token (codes "=")) opens_shape (λ t e. left_false _ _ (left_false _ _ e)))))
      (maybe_agrees (shape_decl type) (shape_agrees type a.agrees)) (shape_there type) (shape_back type)

  -- the reader of the tags reads them
  tags_right : Right n (tags_at f) (Tags type) or_tags
  unfolding tags_at
  tags_right =
      same_right n (tags_at f) (TagsChoice type) (Tags type) or_tags
      (on_next_same n (a_keyword (codes "tags")) (λ tags. bind f (λ ty. done (Some (tags.loc, ty)))) (done None) (λ tags. type >>= λ ty. gives (Some (tags.loc, ty))) (gives None) or_tags (keyword_agrees (codes "tags"))
      (λ tags. map_right n f (λ ty. Some (tags.loc, ty)) type or_tags (stops_right n f type type_goes or_tags (λ t e. right_false _ _ e) a))
      (done_right n None or_tags)
      (gives_not_taken None (is_keyword (codes "tags")) or_tags (λ t e. left_false _ _ e)))
      (maybe_agrees (tags_clause type) (tags_agree type a.agrees)) (tags_there type) (tags_back type)

  -- the reader of what follows the names reads it
  standard_right : (entity : Node Text) (ns : List (Node Text)) → Right n (standard_behind f entity ns) (StandardBehind type entity ns) never
  unfolding standard_behind
  standard_right entity ns =
      then_right n (above_at types_at) _ (Above types) _ (or_in is_colons) never (above_right types n types_at is_colons (types_right n)) (λ parents.
      then_right n (shape_reader f) _ (ShapePart type) _ opens_shape never shape_right (λ shape.
      then_right n (tags_at f) _ (Tags type) _ or_tags never tags_right (λ tags.
      mark_done n (codes ";") _ never)
      (λ tags. starts_open _ or_tags never (then_starts (mark (codes ";")) _ or_tags (the_mark_starts (codes ";") or_tags (λ t k e. rw (k, e) refl)))))
      (tags_on_open type entity ns opens_shape (λ t k e. rw k refl) (λ t k e. rw (k, e) refl) parents))
      (shape_on_opens type entity ns (or_in is_colons) (λ t k e. rw (k, e) refl) (λ t k e. rw (k, e) refl) (λ t k e. rw (k, e) refl) (λ t k e. rw (k, e) refl))

-- ---- enumerated entity types

module _ (entity : Node Text) (ns : List (Node Text)) where
  -- what follows the names of enumerated entity types
  abbrev EnumBehind : Production TextToken (Node Declaration)
  EnumBehind =
      keyword (codes "enum") >>= λ _. bracketed (codes "[") (codes "]") (commas str) >>= λ choices. mark (codes ";") >>= λ semicolon.
      gives (placed (Entity (Enum (record { names = ns; choices = choices.node }))) entity.loc semicolon.loc)

  -- what follows `enum`, one token after the other
  abbrev EnumOn : Production TextToken (Node Declaration)
  EnumOn =
      mark (codes "[") >>= λ _. commas str >>= λ choices. mark (codes "]") >>= λ _. mark (codes ";") >>= λ semicolon.
      gives (placed (Entity (Enum (record { names = ns; choices = choices }))) entity.loc semicolon.loc)

  -- the reader of what follows `enum` reads it
  enum_on_right : (n : ℕ) → Right n (enum_behind entity ns) EnumOn never
  unfolding enum_behind
  enum_on_right n =
      then_right n (expect (a_mark (codes "["))) _ (mark (codes "[")) _ never never (expect_right n (a_mark (codes "[")) (mark_agrees (codes "[")) never)
      (λ _. then_right n (commas_at (expect literal_value)) _ (commas str) _ (or_comma never) never (commas_right n (expect literal_value) str never (expect_right n literal_value str_agrees never) (λ t e. refl))
      (λ choices. then_right n (expect (a_mark (codes "]"))) _ (mark (codes "]")) _ never never (expect_right n (a_mark (codes "]")) (mark_agrees (codes "]")) never)
      (λ _. mark_done n (codes ";") _ never)
      (λ _. never_opens _ never))
      (λ choices. starts_open _ (or_comma never) never (then_starts (mark (codes "]")) _ (or_comma never) (the_mark_starts (codes "]") (or_comma never) (λ t k e. rw (k, e) refl)))))
      (λ _. never_opens _ never)

-- what follows `entity`
module _ (type : Production TextToken (Node TypeTree)) (entity : Node Text) where
  -- the names, and then a choice by the next token
  abbrev EntityBehind : Production TextToken (Node Declaration)
  EntityBehind = idents >>= λ ns. (keyword (codes "enum") >>= λ _. EnumOn entity ns) ∣ StandardBehind type entity ns

  -- the names and the rest, of the one kind or the other
  abbrev pub EntityOn : Production TextToken (Node Declaration)
  EntityOn = (idents >>= λ ns. StandardBehind type entity ns) ∣ (idents >>= λ ns. EnumBehind entity ns)

  -- both ways to put it read the same
  entity_there : Sub EntityBehind EntityOn
  entity_there ts v rest (ns, mid, r, inl (k, left, rk, (o, begin, ro, (xs, end, rx, (c, close, rc, semicolon))))) =
      inr (ns, mid, r, (k, left, rk, (placed xs o.loc c.loc, close, (o, begin, ro, (xs, end, rx, (c, close, rc, (refl, refl)))), semicolon)))
  entity_there ts v rest (ns, mid, r, inr s) = inl (ns, mid, r, s)

  entity_back : Sub EntityOn EntityBehind
  entity_back ts v rest (inl (ns, mid, r, s)) = (ns, mid, r, inr s)
  entity_back ts v rest (inr (ns, mid, r, (k, left, rk, (xs, close', (o, begin, ro, (ys, end, ry, (c, close, rc, (is, here)))), (s, last, rs, (same, stop)))))) = (
    ns,
    mid,
    r,
    inl (
      k,
      left,
      rk,
      (
        o,
        begin,
        ro,
        (
          ys,
          end,
          ry,
          (
            c,
            close,
            rc,
            (
              s,
              last,
              subst (λ (us : Tokens). (mark (codes ";")).reads us s last) here rs,
              (same ∙ ap (λ (zs : Node (List (Node Text))). placed (Entity (Enum (record { names = ns; choices = zs.node }))) entity.loc s.loc) is, stop),
            ),
          ),
        ),
      ),
    ),
  )

-- beginnings of it are what further tokens complete
enum_agrees_on : (entity : Node Text) (ns : List (Node Text)) → Agrees (EnumBehind entity ns)
enum_agrees_on entity ns =
    then_agrees (keyword (codes "enum")) _ (keyword_agrees (codes "enum")) (λ _.
    then_agrees (bracketed (codes "[") (codes "]") (commas str)) _ (bracketed_agrees (codes "[") (codes "]") (commas str) (commas_agree str str_agrees)) (λ choices.
    then_agrees (mark (codes ";")) _ (mark_agrees (codes ";")) (λ semicolon. gives_agrees _)))

module _ (n : ℕ) (f : Reader (Node TypeTree)) (type : Production TextToken (Node TypeTree)) (a : Right n f type type_goes) (entity : Node Text) where
  -- beginnings of it are what further tokens complete
  entity_on_agrees : Agrees (EntityOn type entity)
  entity_on_agrees =
      either_agrees (idents >>= λ ns. StandardBehind type entity ns) (idents >>= λ ns. EnumBehind entity ns)
      (then_agrees idents _ (commas_agree ident ident_agrees) (λ ns. (standard_right n f type a entity ns).agrees))
      (then_agrees idents _ (commas_agree ident ident_agrees) (λ ns. enum_agrees_on entity ns))

  -- the reader of what follows `entity` reads it
  pub entity_right : Right n (entity_behind f entity) (EntityOn type entity) never
  unfolding entity_behind
  entity_right =
      same_right n (entity_behind f entity) (EntityBehind type entity) (EntityOn type entity) never
      (then_right n (commas_at (expect an_ident)) _ idents _ (or_comma never) never
      (commas_right n (expect an_ident) ident never (expect_right n an_ident ident_agrees never) (λ t e. refl))
      (λ ns.
      on_next_same n (a_keyword (codes "enum")) (λ _. enum_behind entity ns) (standard_behind f entity ns) (λ _. EnumOn entity ns) (StandardBehind type entity ns) never (keyword_agrees (codes "enum"))
      (λ _. enum_on_right entity ns n)
      (standard_right n f type a entity ns)
      (standard_opens type entity ns (takes (a_keyword (codes "enum"))) (λ t k e. rw (k, e) refl) (λ t k e. rw k refl) (λ t k e. rw k refl) (λ t k e. rw (k, e) refl) (λ t k e. rw k refl)))
      (λ ns.
      either_opens (keyword (codes "enum") >>= λ _. EnumOn entity ns) (StandardBehind type entity ns) (or_comma never) never
      (starts_open (keyword (codes "enum") >>= λ _. EnumOn entity ns) (or_comma never) never (then_starts (keyword (codes "enum")) _ (or_comma never) (keyword_starts (codes "enum") (or_comma never) (λ t k e. rw k refl))))
      (standard_opens type entity ns (or_comma never) (λ t k e. rw k refl) (λ t k e. rw (k, e) refl) (λ t k e. rw (k, e) refl) (λ t k e. rw k refl) (λ t k e. rw (k, e) refl))))
      entity_on_agrees (entity_there type entity) (entity_back type entity)
