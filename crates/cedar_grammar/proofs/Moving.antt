-- SPDX-License-Identifier: Apache-2.0
-- What the grammar reads at some places it reads at any: where the places of tokens are left out, those of the tree are.
use Rattle.std.proofs.Common.{◌≡◌, ℕ, zero, suc, Bool, true, false, if◌then◌else◌, List, [], ◌∷◌, map, Option, Some, None, option_map, codes, refl, sym, ap, ◌∙◌, subst, inl, inr}
use Rattle.std.specs.Option.{option_and_then}
use Rattle.std.proofs.lemmas.List.{map-append}
use Rattle.cedar_data.specs.Maps.{map_of}
use Rattle.cedar_data.proofs.MapsMade.{map-map_of}
use Rattle.cedar_tree.specs.of_names.Order.{word_cmp}
use Rattle.cedar_tokens.specs.Lexemes.{TextToken}
use Rattle.cedar_grammar.specs.Productions.{Production, class, gives, ◌>>=◌, ◌>>◌, ◌∣◌, ReadsMany, none, more, many, ReadsEach, none_yet, then_one, each, optional, maybe, separated, trailing}
use Rattle.cedar_tree.specs.Trees.{Node, Place, Text, Annotation, Annotations, by_key, stands, placed, Annotated, TypeTree, Set, Attrs, attrs_of, no_attrs, AttrDecl, ContextDecl, Named, Shape, Principal, Resource, Types, Context, Declaration, Schema}
use Rattle.cedar_tree.specs.Unplaced.{nowhere, unplaced, anywhere, annotations_unplaced, annotated_unplaced, type_unplaced, attrs_unplaced, context_unplaced, line_unplaced, reference_unplaced, decl_unplaced, namespace_unplaced, schema_unplaced}
use Rattle.cedar_grammar.specs.Grammar.{at_token, text_where, is_str_kind, is_word_token, is_keyword, is_mark_token, is_ident_token, is_new_key, keys_of, literal_body, literal_value, text_of_body, keyword, mark, word, ident, idents, names, last_of, path_of, path, bracketed, commas, str, name, types, one_or_list, qualified, ref, refs, annotation_of, annotation, annotated, annots, attr_of, attr_decl, record_type, pr, context_type, app_decl, set_type, as_record, as_name, type_upto, tags_clause, shape_at, behind_shape, shape_decl, standard_entity, enum_entity, applies_to, attributes_tail, action_decl, type_decl, decl, namespace, alone, item_behind, schema, Reads}
use Rattle.cedar_grammar.specs.Unplaced.{token_unplaced, tokens_unplaced}
use Rattle.cedar_grammar.proofs.Wholes.{one_schema}

-- what R reads, R' reads of tokens without places, as e leaves it
record Moves {A : Type 0} (R R' : Production TextToken A) (e : A → A) : Type 0 where
  pub moves : (ts : List TextToken) (x : A) (rest : List TextToken) → R.reads ts x rest → R'.reads (tokens_unplaced ts) (e x) (tokens_unplaced rest)

-- ---- the ways to put productions together

gives_moves : {A : Type 0} (e : A → A) (a b : A) → e a ≡ b → Moves (gives a) (gives b) e
gives_moves e a b same = record { moves = λ ts x rest r. (ap e r.0 ∙ same, ap tokens_unplaced r.1) }

then_moves : {A B : Type 0} (R R' : Production TextToken A) (S S' : A → Production TextToken B) (d : A → A) (e : B → B) → Moves R R' d → ((x : A) → Moves (S x) (S' (d x)) e) → Moves (R >>= S) (R' >>= S') e
then_moves R R' S S' d e a b = record { moves = λ ts y rest (x, mid, r, s). (d x, tokens_unplaced mid, a.moves ts x mid r, (b x).moves mid y rest s) }

either_moves : {A : Type 0} (R R' S S' : Production TextToken A) (e : A → A) → Moves R R' e → Moves S S' e → Moves (R ∣ S) (R' ∣ S') e
either_moves {A} R R' S S' e a b = record { moves = by }
  where
    by : (ts : List TextToken) (x : A) (rest : List TextToken) → (R ∣ S).reads ts x rest → (R' ∣ S').reads (tokens_unplaced ts) (e x) (tokens_unplaced rest)
    by ts x rest (inl r) = inl (a.moves ts x rest r)
    by ts x rest (inr s) = inr (b.moves ts x rest s)

many_moves : {A : Type 0} (R : Production TextToken A) (e : A → A) → Moves R R e → Moves (many R) (many R) (map e)
many_moves {A} R e a = record { moves = by }
  where
    by : (ts : List TextToken) (xs : List A) (rest : List TextToken) → ReadsMany R.reads ts xs rest → ReadsMany R.reads (tokens_unplaced ts) (map e xs) (tokens_unplaced rest)
    by ts _ _ none = none
    by ts _ rest (more {mid = mid} {x = x} {xs = xs} r others) = more (a.moves ts x mid r) (by mid xs rest others)

each_moves : {A : Type 0} (R : List A → Production TextToken A) (e : A → A) → ((xs : List A) → Moves (R xs) (R (map e xs)) e) → Moves (each R) (each R) (map e)
each_moves {A} R e a = record { moves = by }
  where
    by : (ts : List TextToken) (xs : List A) (rest : List TextToken) → ReadsEach (λ ys. (R ys).reads) ts xs rest → ReadsEach (λ ys. (R ys).reads) (tokens_unplaced ts) (map e xs) (tokens_unplaced rest)
    by ts _ _ none_yet = none_yet
    by ts _ rest (then_one {mid = mid} {x = x} {xs = xs} before r) =
        subst (λ ys. ReadsEach (λ zs. (R zs).reads) (tokens_unplaced ts) ys (tokens_unplaced rest)) (sym (map-append e xs (x ∷ []))) (then_one (by ts xs mid before) ((a xs).moves mid x rest r))

optional_moves : {A : Type 0} (R : Production TextToken A) (d : A → A) → Moves R R d → Moves (optional R) (optional R) (λ b. b)
optional_moves R d a =
    either_moves (R >> gives true) (R >> gives true) (gives false) (gives false) (λ b. b)
    (then_moves R R (λ _. gives true) (λ _. gives true) d (λ b. b) a (λ _. gives_moves (λ b. b) true true refl))
    (gives_moves (λ b. b) false false refl)

maybe_moves : {A : Type 0} (R : Production TextToken A) (e : A → A) → Moves R R e → Moves (maybe R) (maybe R) (option_map e)
maybe_moves R e a =
    either_moves (R >>= λ x. gives (Some x)) (R >>= λ x. gives (Some x)) (gives None) (gives None) (option_map e)
    (then_moves R R (λ x. gives (Some x)) (λ x. gives (Some x)) e (option_map e) a (λ x. gives_moves (option_map e) (Some x) (Some (e x)) refl))
    (gives_moves (option_map e) None None refl)

separated_moves : {S A : Type 0} (separator : Production TextToken S) (d : S → S) (R : Production TextToken A) (e : A → A) → Moves separator separator d → Moves R R e → Moves (separated separator R) (separated separator R) (map e)
separated_moves separator d R e s a =
    then_moves R R _ _ e (map e) a (λ x.
    then_moves (many (separator >> R)) (many (separator >> R)) _ _ (map e) (map e)
    (many_moves (separator >> R) e (then_moves separator separator (λ _. R) (λ _. R) d e s (λ _. a)))
    (λ xs. gives_moves (map e) (x ∷ xs) (e x ∷ map e xs) refl))

trailing_moves : {S A : Type 0} (separator : Production TextToken S) (d : S → S) (R : Production TextToken A) (e : A → A) → Moves separator separator d → Moves R R e → Moves (trailing separator R) (trailing separator R) (map e)
trailing_moves separator d R e s a =
    then_moves (separated separator R) (separated separator R) _ _ (map e) (map e) (separated_moves separator d R e s a) (λ xs.
    then_moves (optional separator) (optional separator) _ _ (λ b. b) (map e) (optional_moves separator d s) (λ b. gives_moves (map e) xs (map e xs) refl))

-- ---- single tokens

class_moves : {A : Type 0} (f f' : TextToken → Option A) (e : A → A) → ((t : TextToken) → f' (token_unplaced t) ≡ option_map e (f t)) → Moves (class f) (class f') e
class_moves f f' e same = record {
  moves = λ ts x rest r. record {
    token = token_unplaced r.token;
    front = ap tokens_unplaced r.front;
    is = same r.token ∙ ap (option_map e) r.is;
  };
}

-- the text of a token that passes a test, where the test of the token without place answers the same
text_moves : (p p' : TextToken → Bool) → ((t : TextToken) → p' (token_unplaced t) ≡ p t) → Moves (class (text_where p)) (class (text_where p')) anywhere
text_moves p p' same = class_moves (text_where p) (text_where p') anywhere (λ t. rw (same t) (by (p t) t))
  where
    by : (b : Bool) (t : TextToken) → ◌≡◌ {A = Option (Node Text)} (if b then Some (stands t.text nowhere) else None) (option_map anywhere (if b then Some (at_token t t.text) else None))
    by true t = refl
    by false t = refl

keyword_moves : (s : List ℕ) → Moves (keyword s) (keyword s) anywhere
keyword_moves s = text_moves (is_keyword s) (is_keyword s) (λ t. refl)

mark_moves : (s : List ℕ) → Moves (mark s) (mark s) anywhere
mark_moves s = text_moves (is_mark_token s) (is_mark_token s) (λ t. refl)

word_moves : Moves word word anywhere
word_moves = text_moves is_word_token is_word_token (λ t. refl)

ident_moves : Moves ident ident anywhere
ident_moves = text_moves is_ident_token is_ident_token (λ t. refl)

str_moves : Moves str str anywhere
str_moves = class_moves literal_value literal_value anywhere (λ t. by (is_str_kind t.kind) (option_and_then text_of_body (literal_body t.text)) t)
  where
    by : (b : Bool) (o : Option Text) (t : TextToken)
        → ◌≡◌ {A = Option (Node Text)} (if b then option_map (at_token (token_unplaced t)) o else None) (option_map anywhere (if b then option_map (at_token t) o else None))
    by true None t = refl
    by true (Some x) t = refl
    by false o t = refl

name_moves : Moves name name anywhere
name_moves = either_moves word word str str anywhere word_moves str_moves

commas_moves : {A : Type 0} (R : Production TextToken A) (e : A → A) → Moves R R e → Moves (commas R) (commas R) (map e)
commas_moves R e a = separated_moves (mark (codes ",")) anywhere R e (mark_moves (codes ",")) a

bracketed_moves : {A : Type 0} (opening closing : List ℕ) (R : Production TextToken A) (e : A → A) → Moves R R e → Moves (bracketed opening closing R) (bracketed opening closing R) (unplaced e)
bracketed_moves opening closing R e a =
    then_moves (mark opening) (mark opening) _ _ anywhere (unplaced e) (mark_moves opening) (λ before.
    then_moves R R _ _ e (unplaced e) a (λ x.
    then_moves (mark closing) (mark closing) _ _ anywhere (unplaced e) (mark_moves closing) (λ behind.
    gives_moves (unplaced e) (placed x before.loc behind.loc) (stands (e x) nowhere) refl)))

one_or_list_moves : {A : Type 0} (R : Production TextToken (Node A)) (e : A → A) → Moves R R (unplaced e) → Moves (one_or_list R) (one_or_list R) (unplaced (map (unplaced e)))
one_or_list_moves R e a =
    either_moves (R >>= λ x. gives (stands (x ∷ []) x.loc)) (R >>= λ x. gives (stands (x ∷ []) x.loc)) _ _ (unplaced (map (unplaced e)))
    (then_moves R R _ _ (unplaced e) (unplaced (map (unplaced e))) a (λ x. gives_moves (unplaced (map (unplaced e))) (stands (x ∷ []) x.loc) (stands (unplaced e x ∷ []) nowhere) refl))
    (bracketed_moves (codes "[") (codes "]") (commas R ∣ gives []) (map (unplaced e))
    (either_moves (commas R) (commas R) (gives []) (gives []) (map (unplaced e)) (commas_moves R (unplaced e) a) (gives_moves (map (unplaced e)) [] [] refl)))

-- ---- annotations

keys_still : (before : Annotations) → keys_of (map anywhere before) ≡ keys_of before
keys_still [] = refl
keys_still (a ∷ before) = ap (λ ks. a.node.key ∷ ks) (keys_still before)

note_still : (at : Place) (key : Node Text) (value : Option (Node (Node Text))) → anywhere (annotation_of at key value) ≡ annotation_of nowhere (anywhere key) (option_map (unplaced anywhere) value)
note_still at key None = refl
note_still at key (Some value) = refl

annotation_moves : (before : Annotations) → Moves (annotation before) (annotation (map anywhere before)) anywhere
annotation_moves before =
    then_moves (mark (codes "@")) (mark (codes "@")) _ _ anywhere anywhere (mark_moves (codes "@")) (λ at.
    then_moves (class (text_where (is_new_key before))) (class (text_where (is_new_key (map anywhere before)))) _ _ anywhere anywhere
    (text_moves (is_new_key before) (is_new_key (map anywhere before)) (λ t. rw (keys_still before) refl)) (λ key.
    then_moves (maybe (bracketed (codes "(") (codes ")") str)) (maybe (bracketed (codes "(") (codes ")") str)) _ _ (option_map (unplaced anywhere)) anywhere
    (maybe_moves (bracketed (codes "(") (codes ")") str) (unplaced anywhere) (bracketed_moves (codes "(") (codes ")") str anywhere str_moves)) (λ value.
    gives_moves anywhere (annotation_of at.loc key value) (annotation_of nowhere (anywhere key) (option_map (unplaced anywhere) value)) (note_still at.loc key value))))

abbrev keyed : Node Annotation → Text × Node Text
keyed a = (a.node.key, stands a.node.value a.loc)

keyed_still : (written : Annotations) → map (λ e. (e.0, anywhere e.1)) (map keyed written) ≡ map keyed (map anywhere written)
keyed_still [] = refl
keyed_still (a ∷ written) = ap (λ es. keyed (anywhere a) ∷ es) (keyed_still written)

annots_moves : Moves annots annots annotations_unplaced
annots_moves =
    then_moves (each annotation) (each annotation) _ _ (map anywhere) annotations_unplaced (each_moves annotation anywhere annotation_moves) (λ written.
    gives_moves annotations_unplaced (by_key written) (by_key (map anywhere written))
    (map-map_of word_cmp word_cmp (λ k. k) anywhere (λ a b. refl) (map keyed written) ∙ ap (map_of word_cmp) (keyed_still written)))

annotated_moves : {A : Type 0} (R : Production TextToken A) (e : A → A) → Moves R R e → Moves (annotated R) (annotated R) (annotated_unplaced e)
annotated_moves R e a =
    then_moves annots annots _ _ annotations_unplaced (annotated_unplaced e) annots_moves (λ annotations.
    then_moves R R _ _ e (annotated_unplaced e) a (λ x.
    gives_moves (annotated_unplaced e) (record { item = x; annotations = annotations }) (record { item = e x; annotations = annotations_unplaced annotations }) refl))

-- ---- paths and references

last_still : (n : Node Text) (others : List (Node Text)) → last_of (anywhere n) (map anywhere others) ≡ anywhere (last_of n others)
last_still n [] = refl
last_still n (m ∷ others) = last_still m others

words_still : (others : List (Node Text)) → map (λ (m : Node Text). m.node) (map anywhere others) ≡ map (λ (m : Node Text). m.node) others
words_still [] = refl
words_still (m ∷ others) = ap (λ ws. m.node ∷ ws) (words_still others)

path_still : (n : Node Text) (others : List (Node Text)) → anywhere (path_of n others) ≡ path_of (anywhere n) (map anywhere others)
path_still n others = rw (last_still n others, words_still others) refl

path_moves : Moves path path anywhere
path_moves =
    then_moves ident ident _ _ anywhere anywhere ident_moves (λ n.
    then_moves (many (mark (codes "::") >> ident)) (many (mark (codes "::") >> ident)) _ _ (map anywhere) anywhere
    (many_moves (mark (codes "::") >> ident) anywhere (then_moves (mark (codes "::")) (mark (codes "::")) (λ _. ident) (λ _. ident) anywhere anywhere (mark_moves (codes "::")) (λ _. ident_moves)))
    (λ others. gives_moves anywhere (path_of n others) (path_of (anywhere n) (map anywhere others)) (path_still n others)))

types_moves : Moves types types (unplaced (map anywhere))
types_moves = one_or_list_moves path (λ p. p) path_moves

ref_moves : Moves ref ref (unplaced reference_unplaced)
ref_moves =
    either_moves _ _ (name >>= λ id. gives (qualified None id id.loc)) (name >>= λ id. gives (qualified None id id.loc)) (unplaced reference_unplaced)
    (then_moves path path _ _ anywhere (unplaced reference_unplaced) path_moves (λ p.
    then_moves (mark (codes "::")) (mark (codes "::")) _ _ anywhere (unplaced reference_unplaced) (mark_moves (codes "::")) (λ _.
    then_moves str str _ _ anywhere (unplaced reference_unplaced) str_moves (λ id.
    gives_moves (unplaced reference_unplaced) (qualified (Some p) id p.loc) (qualified (Some (anywhere p)) (anywhere id) nowhere) refl))))
    (then_moves name name _ _ anywhere (unplaced reference_unplaced) name_moves (λ id.
    gives_moves (unplaced reference_unplaced) (qualified None id id.loc) (qualified None (anywhere id) nowhere) refl))

refs_moves : Moves refs refs (unplaced (map (unplaced reference_unplaced)))
refs_moves = one_or_list_moves ref reference_unplaced ref_moves

-- ---- types

-- an attribute without places
abbrev attr_unplaced : AttrDecl → AttrDecl
attr_unplaced a = record { name = anywhere a.name; required = a.required; ty = unplaced type_unplaced a.ty }

attrs_still : (xs : List (Annotated (Node AttrDecl))) → attrs_unplaced (attrs_of xs) ≡ attrs_of (map (annotated_unplaced (unplaced attr_unplaced)) xs)
attrs_still [] = refl
attrs_still (x ∷ xs) = ap (Attrs.attr (annotations_unplaced x.annotations) (anywhere x.item.node.name) x.item.node.required (type_unplaced x.item.node.ty.node) nowhere nowhere) (attrs_still xs)

module _ (type : Production TextToken (Node TypeTree)) (t : Moves type type (unplaced type_unplaced)) where
  attr_moves : Moves (attr_decl type) (attr_decl type) (annotated_unplaced (unplaced attr_unplaced))
  attr_moves =
      annotated_moves _ (unplaced attr_unplaced)
      (then_moves name name _ _ anywhere (unplaced attr_unplaced) name_moves (λ n.
      then_moves (optional (mark (codes "?"))) (optional (mark (codes "?"))) _ _ (λ b. b) (unplaced attr_unplaced) (optional_moves (mark (codes "?")) anywhere (mark_moves (codes "?"))) (λ question.
      then_moves (mark (codes ":")) (mark (codes ":")) _ _ anywhere (unplaced attr_unplaced) (mark_moves (codes ":")) (λ _.
      then_moves type type _ _ (unplaced type_unplaced) (unplaced attr_unplaced) t (λ ty.
      gives_moves (unplaced attr_unplaced) (attr_of n question ty) (attr_of (anywhere n) question (unplaced type_unplaced ty)) refl)))))

  record_moves : Moves (record_type type) (record_type type) (unplaced attrs_unplaced)
  record_moves =
      bracketed_moves (codes "{") (codes "}") _ attrs_unplaced
      (either_moves _ _ (gives no_attrs) (gives no_attrs) attrs_unplaced
      (then_moves (trailing (mark (codes ",")) (attr_decl type)) (trailing (mark (codes ",")) (attr_decl type)) _ _ (map (annotated_unplaced (unplaced attr_unplaced))) attrs_unplaced
      (trailing_moves (mark (codes ",")) anywhere (attr_decl type) (annotated_unplaced (unplaced attr_unplaced)) (mark_moves (codes ",")) attr_moves)
      (λ xs. gives_moves attrs_unplaced (attrs_of xs) (attrs_of (map (annotated_unplaced (unplaced attr_unplaced)) xs)) (attrs_still xs)))
      (gives_moves attrs_unplaced no_attrs no_attrs refl))

  set_moves : Moves (set_type type) (set_type type) (unplaced type_unplaced)
  set_moves =
      then_moves (keyword (codes "Set")) (keyword (codes "Set")) _ _ anywhere (unplaced type_unplaced) (keyword_moves (codes "Set")) (λ set.
      then_moves (bracketed (codes "<") (codes ">") type) (bracketed (codes "<") (codes ">") type) _ _ (unplaced (unplaced type_unplaced)) (unplaced type_unplaced)
      (bracketed_moves (codes "<") (codes ">") type (unplaced type_unplaced) t) (λ element.
      gives_moves (unplaced type_unplaced) (placed (Set element.node.node element.node.loc) set.loc element.loc) (stands (Set (type_unplaced element.node.node) nowhere) nowhere) refl))

  context_moves : Moves (context_type type) (context_type type) (unplaced context_unplaced)
  context_moves =
      either_moves _ _ _ _ (unplaced context_unplaced)
      (then_moves path path _ _ anywhere (unplaced context_unplaced) path_moves (λ p. gives_moves (unplaced context_unplaced) (stands (Named p) p.loc) (stands (Named (anywhere p)) nowhere) refl))
      (then_moves (record_type type) (record_type type) _ _ (unplaced attrs_unplaced) (unplaced context_unplaced) record_moves
      (λ r. gives_moves (unplaced context_unplaced) (stands (Shape r) r.loc) (stands (Shape (unplaced attrs_unplaced r)) nowhere) refl))

  shape_moves : Moves (shape_decl type) (shape_decl type) context_unplaced
  shape_moves =
      either_moves _ _ _ _ context_unplaced
      (then_moves (optional (mark (codes "=")) >> record_type type) (optional (mark (codes "=")) >> record_type type) _ _ (unplaced attrs_unplaced) context_unplaced
      (then_moves (optional (mark (codes "="))) (optional (mark (codes "="))) (λ _. record_type type) (λ _. record_type type) (λ b. b) (unplaced attrs_unplaced) (optional_moves (mark (codes "=")) anywhere (mark_moves (codes "="))) (λ _. record_moves))
      (λ r. gives_moves context_unplaced (Shape r) (Shape (unplaced attrs_unplaced r)) refl))
      (then_moves (mark (codes "=") >> path) (mark (codes "=") >> path) _ _ anywhere context_unplaced
      (then_moves (mark (codes "=")) (mark (codes "=")) (λ _. path) (λ _. path) anywhere anywhere (mark_moves (codes "=")) (λ _. path_moves))
      (λ p. gives_moves context_unplaced (Named p) (Named (anywhere p)) refl))

  pr_moves : Moves pr pr anywhere
  pr_moves =
      either_moves _ _ _ _ anywhere
      (then_moves (keyword (codes "principal")) (keyword (codes "principal")) _ _ anywhere anywhere (keyword_moves (codes "principal")) (λ k. gives_moves anywhere (stands Principal k.loc) (stands Principal nowhere) refl))
      (then_moves (keyword (codes "resource")) (keyword (codes "resource")) _ _ anywhere anywhere (keyword_moves (codes "resource")) (λ k. gives_moves anywhere (stands Resource k.loc) (stands Resource nowhere) refl))

  app_moves : Moves (app_decl type) (app_decl type) (unplaced line_unplaced)
  app_moves =
      either_moves _ _ _ _ (unplaced line_unplaced)
      (then_moves pr pr _ _ anywhere (unplaced line_unplaced) pr_moves (λ which.
      then_moves (mark (codes ":")) (mark (codes ":")) _ _ anywhere (unplaced line_unplaced) (mark_moves (codes ":")) (λ _.
      then_moves types types _ _ (unplaced (map anywhere)) (unplaced line_unplaced) types_moves (λ ts.
      gives_moves (unplaced line_unplaced) (placed (Types which ts.node) which.loc ts.loc) (stands (Types (anywhere which) (map anywhere ts.node)) nowhere) refl))))
      (then_moves (keyword (codes "context")) (keyword (codes "context")) _ _ anywhere (unplaced line_unplaced) (keyword_moves (codes "context")) (λ context.
      then_moves (mark (codes ":")) (mark (codes ":")) _ _ anywhere (unplaced line_unplaced) (mark_moves (codes ":")) (λ _.
      then_moves (context_type type) (context_type type) _ _ (unplaced context_unplaced) (unplaced line_unplaced) context_moves (λ c.
      gives_moves (unplaced line_unplaced) (placed (Context c.node) context.loc c.loc) (stands (Context (context_unplaced c.node)) nowhere) refl))))

  applies_moves : Moves (applies_to type) (applies_to type) (unplaced (map (unplaced line_unplaced)))
  applies_moves =
      then_moves (keyword (codes "appliesTo")) (keyword (codes "appliesTo")) _ _ anywhere (unplaced (map (unplaced line_unplaced))) (keyword_moves (codes "appliesTo")) (λ _.
      bracketed_moves (codes "{") (codes "}") (trailing (mark (codes ",")) (app_decl type)) (map (unplaced line_unplaced))
      (trailing_moves (mark (codes ",")) anywhere (app_decl type) (unplaced line_unplaced) (mark_moves (codes ",")) app_moves))

  -- the type of tags without places
  abbrev tagged : Place × Node TypeTree → Place × Node TypeTree
  tagged p = (nowhere, unplaced type_unplaced p.1)

  tags_moves : Moves (tags_clause type) (tags_clause type) tagged
  tags_moves =
      then_moves (keyword (codes "tags")) (keyword (codes "tags")) _ _ anywhere tagged (keyword_moves (codes "tags")) (λ tags.
      then_moves type type _ _ (unplaced type_unplaced) tagged t (λ ty. gives_moves tagged (tags.loc, ty) (nowhere, unplaced type_unplaced ty) refl))

  -- ---- declarations

  abbrev decl_at : Node Declaration → Node Declaration
  decl_at d = unplaced decl_unplaced d

  shape_still : (shape : Option ContextDecl) (tags : Option (Place × Node TypeTree)) (semicolon : Place)
      → context_unplaced (shape_at shape (behind_shape tags semicolon)) ≡ shape_at (option_map context_unplaced shape) (behind_shape (option_map tagged tags) nowhere)
  shape_still None None semicolon = refl
  shape_still None (Some tags) semicolon = refl
  shape_still (Some shape) tags semicolon = refl

  tags_still : (tags : Option (Place × Node TypeTree)) → option_map (unplaced type_unplaced) (option_map (λ p. p.1) tags) ≡ option_map (λ p. p.1) (option_map tagged tags)
  tags_still None = refl
  tags_still (Some tags) = refl

  above_moves : Moves ((keyword (codes "in") >> types >>= λ ps. gives ps.node) ∣ gives []) ((keyword (codes "in") >> types >>= λ ps. gives ps.node) ∣ gives []) (map anywhere)
  above_moves =
      either_moves _ _ (gives []) (gives []) (map anywhere)
      (then_moves (keyword (codes "in") >> types) (keyword (codes "in") >> types) _ _ (unplaced (map anywhere)) (map anywhere)
      (then_moves (keyword (codes "in")) (keyword (codes "in")) (λ _. types) (λ _. types) anywhere (unplaced (map anywhere)) (keyword_moves (codes "in")) (λ _. types_moves))
      (λ ps. gives_moves (map anywhere) ps.node (map anywhere ps.node) refl))
      (gives_moves (map anywhere) [] [] refl)

  standard_moves : Moves (standard_entity type) (standard_entity type) decl_at
  standard_moves =
      then_moves (keyword (codes "entity")) (keyword (codes "entity")) _ _ anywhere decl_at (keyword_moves (codes "entity")) (λ entity.
      then_moves idents idents _ _ (map anywhere) decl_at (commas_moves ident anywhere ident_moves) (λ ns.
      then_moves ((keyword (codes "in") >> types >>= λ ps. gives ps.node) ∣ gives []) ((keyword (codes "in") >> types >>= λ ps. gives ps.node) ∣ gives []) _ _ (map anywhere) decl_at above_moves (λ parents.
      then_moves (maybe (shape_decl type)) (maybe (shape_decl type)) _ _ (option_map context_unplaced) decl_at (maybe_moves (shape_decl type) context_unplaced shape_moves) (λ shape.
      then_moves (maybe (tags_clause type)) (maybe (tags_clause type)) _ _ (option_map tagged) decl_at (maybe_moves (tags_clause type) tagged tags_moves) (λ tags.
      then_moves (mark (codes ";")) (mark (codes ";")) _ _ anywhere decl_at (mark_moves (codes ";")) (λ semicolon.
      gives_moves decl_at _ _ (rw (shape_still shape tags semicolon.loc, tags_still tags) refl)))))))

  enum_moves : Moves enum_entity enum_entity decl_at
  enum_moves =
      then_moves (keyword (codes "entity")) (keyword (codes "entity")) _ _ anywhere decl_at (keyword_moves (codes "entity")) (λ entity.
      then_moves idents idents _ _ (map anywhere) decl_at (commas_moves ident anywhere ident_moves) (λ ns.
      then_moves (keyword (codes "enum")) (keyword (codes "enum")) _ _ anywhere decl_at (keyword_moves (codes "enum")) (λ _.
      then_moves (bracketed (codes "[") (codes "]") (commas str)) (bracketed (codes "[") (codes "]") (commas str)) _ _ (unplaced (map anywhere)) decl_at
      (bracketed_moves (codes "[") (codes "]") (commas str) (map anywhere) (commas_moves str anywhere str_moves)) (λ choices.
      then_moves (mark (codes ";")) (mark (codes ";")) _ _ anywhere decl_at (mark_moves (codes ";")) (λ semicolon.
      gives_moves decl_at _ _ refl)))))

  groups_moves : Moves ((keyword (codes "in") >> refs >>= λ rs. gives rs.node) ∣ gives []) ((keyword (codes "in") >> refs >>= λ rs. gives rs.node) ∣ gives []) (map (unplaced reference_unplaced))
  groups_moves =
      either_moves _ _ (gives []) (gives []) (map (unplaced reference_unplaced))
      (then_moves (keyword (codes "in") >> refs) (keyword (codes "in") >> refs) _ _ (unplaced (map (unplaced reference_unplaced))) (map (unplaced reference_unplaced))
      (then_moves (keyword (codes "in")) (keyword (codes "in")) (λ _. refs) (λ _. refs) anywhere (unplaced (map (unplaced reference_unplaced))) (keyword_moves (codes "in")) (λ _. refs_moves))
      (λ rs. gives_moves (map (unplaced reference_unplaced)) rs.node (map (unplaced reference_unplaced) rs.node) refl))
      (gives_moves (map (unplaced reference_unplaced)) [] [] refl)

  tail_moves : Moves attributes_tail attributes_tail anywhere
  tail_moves =
      then_moves (keyword (codes "attributes") >> mark (codes "{")) (keyword (codes "attributes") >> mark (codes "{")) (λ _. mark (codes "}")) (λ _. mark (codes "}")) anywhere anywhere
      (then_moves (keyword (codes "attributes")) (keyword (codes "attributes")) (λ _. mark (codes "{")) (λ _. mark (codes "{")) anywhere anywhere (keyword_moves (codes "attributes")) (λ _. mark_moves (codes "{")))
      (λ _. mark_moves (codes "}"))

  action_moves : Moves (action_decl type) (action_decl type) decl_at
  action_moves =
      then_moves (keyword (codes "action")) (keyword (codes "action")) _ _ anywhere decl_at (keyword_moves (codes "action")) (λ action.
      then_moves names names _ _ (map anywhere) decl_at (commas_moves name anywhere name_moves) (λ ns.
      then_moves ((keyword (codes "in") >> refs >>= λ rs. gives rs.node) ∣ gives []) ((keyword (codes "in") >> refs >>= λ rs. gives rs.node) ∣ gives []) _ _ (map (unplaced reference_unplaced)) decl_at groups_moves (λ parents.
      then_moves (maybe (applies_to type)) (maybe (applies_to type)) _ _ (option_map (unplaced (map (unplaced line_unplaced)))) decl_at (maybe_moves (applies_to type) (unplaced (map (unplaced line_unplaced))) applies_moves) (λ applies.
      then_moves (optional attributes_tail) (optional attributes_tail) _ _ (λ b. b) decl_at (optional_moves attributes_tail anywhere tail_moves) (λ _.
      then_moves (mark (codes ";")) (mark (codes ";")) _ _ anywhere decl_at (mark_moves (codes ";")) (λ semicolon.
      gives_moves decl_at _ _ refl))))))

  common_moves : Moves (type_decl type) (type_decl type) decl_at
  common_moves =
      then_moves (keyword (codes "type")) (keyword (codes "type")) _ _ anywhere decl_at (keyword_moves (codes "type")) (λ keyword_type.
      then_moves ident ident _ _ anywhere decl_at ident_moves (λ n.
      then_moves (mark (codes "=")) (mark (codes "=")) _ _ anywhere decl_at (mark_moves (codes "=")) (λ _.
      then_moves type type _ _ (unplaced type_unplaced) decl_at t (λ ty.
      then_moves (mark (codes ";")) (mark (codes ";")) _ _ anywhere decl_at (mark_moves (codes ";")) (λ semicolon.
      gives_moves decl_at _ _ refl)))))

  decl_moves : Moves (decl type) (decl type) decl_at
  decl_moves =
      either_moves (standard_entity type ∣ enum_entity ∣ action_decl type) (standard_entity type ∣ enum_entity ∣ action_decl type) (type_decl type) (type_decl type) decl_at
      (either_moves (standard_entity type ∣ enum_entity) (standard_entity type ∣ enum_entity) (action_decl type) (action_decl type) decl_at
      (either_moves (standard_entity type) (standard_entity type) enum_entity enum_entity decl_at standard_moves enum_moves)
      action_moves)
      common_moves

  namespace_moves : Moves (namespace type) (namespace type) namespace_unplaced
  namespace_moves =
      then_moves (keyword (codes "namespace")) (keyword (codes "namespace")) _ _ anywhere namespace_unplaced (keyword_moves (codes "namespace")) (λ keyword_namespace.
      then_moves path path _ _ anywhere namespace_unplaced path_moves (λ p.
      then_moves (bracketed (codes "{") (codes "}") (many (annotated (decl type)))) (bracketed (codes "{") (codes "}") (many (annotated (decl type)))) _ _ (unplaced (map (annotated_unplaced decl_at))) namespace_unplaced
      (bracketed_moves (codes "{") (codes "}") (many (annotated (decl type))) (map (annotated_unplaced decl_at)) (many_moves (annotated (decl type)) (annotated_unplaced decl_at) (annotated_moves (decl type) decl_at decl_moves)))
      (λ ds. gives_moves namespace_unplaced _ _ refl)))

  schema_moves : Moves (schema type) (schema type) schema_unplaced
  schema_moves =
      many_moves (annots >>= item_behind type) (annotated_unplaced namespace_unplaced)
      (then_moves annots annots _ _ annotations_unplaced (annotated_unplaced namespace_unplaced) annots_moves (λ annotations.
      either_moves _ _ _ _ (annotated_unplaced namespace_unplaced)
      (then_moves (namespace type) (namespace type) _ _ namespace_unplaced (annotated_unplaced namespace_unplaced) namespace_moves
      (λ n. gives_moves (annotated_unplaced namespace_unplaced) (record { item = n; annotations = annotations }) (record { item = namespace_unplaced n; annotations = annotations_unplaced annotations }) refl))
      (then_moves (decl type) (decl type) _ _ decl_at (annotated_unplaced namespace_unplaced) decl_moves
      (λ d. gives_moves (annotated_unplaced namespace_unplaced) (alone annotations d) (alone (annotations_unplaced annotations) (decl_at d)) refl))))

-- the types of each level
types_move : (n : ℕ) → Moves (type_upto n) (type_upto n) (unplaced type_unplaced)
types_move zero = then_moves path path _ _ anywhere (unplaced type_unplaced) path_moves (λ p. gives_moves (unplaced type_unplaced) (as_name p) (as_name (anywhere p)) refl)
types_move (suc n) =
    either_moves (set_type (type_upto n) ∣ (record_type (type_upto n) >>= λ r. gives (as_record r))) (set_type (type_upto n) ∣ (record_type (type_upto n) >>= λ r. gives (as_record r)))
    (path >>= λ p. gives (as_name p)) (path >>= λ p. gives (as_name p)) (unplaced type_unplaced)
    (either_moves (set_type (type_upto n)) (set_type (type_upto n)) (record_type (type_upto n) >>= λ r. gives (as_record r)) (record_type (type_upto n) >>= λ r. gives (as_record r)) (unplaced type_unplaced)
    (set_moves (type_upto n) (types_move n))
    (then_moves (record_type (type_upto n)) (record_type (type_upto n)) _ _ (unplaced attrs_unplaced) (unplaced type_unplaced) (record_moves (type_upto n) (types_move n))
    (λ r. gives_moves (unplaced type_unplaced) (as_record r) (as_record (unplaced attrs_unplaced r)) refl)))
    (then_moves path path _ _ anywhere (unplaced type_unplaced) path_moves (λ p. gives_moves (unplaced type_unplaced) (as_name p) (as_name (anywhere p)) refl))

-- what tokens are, they are without their places
reads_unplaced : (ts : List TextToken) (s : Schema) → Reads ts s → Reads (tokens_unplaced ts) (schema_unplaced s)
reads_unplaced ts s (n, r) = (n, (schema_moves (type_upto n) (types_move n)).moves ts s [] r)

-- so tokens that are the same but for places are schemas that are
pub same_but_places : (ts us : List TextToken) (s s' : Schema) → tokens_unplaced ts ≡ tokens_unplaced us → Reads ts s → Reads us s' → schema_unplaced s ≡ schema_unplaced s'
same_but_places ts us s s' same r r' = one_schema (tokens_unplaced us) (schema_unplaced s) (schema_unplaced s') (subst (λ xs. Reads xs (schema_unplaced s)) same (reads_unplaced ts s r)) (reads_unplaced us s' r')
