-- SPDX-License-Identifier: Apache-2.0
-- A text has one cause at most for being no schema.
use Rattle.std.proofs.Common.{◌≡◌, ◌⊎◌, inl, inr, ℕ, suc, ◌+◌, ◌<◌, ◌≤◌, Bool, true, false, ◌&&◌, IsTrue, List, [], ◌∷◌, ◌++◌, length, map, Option, Some, None, Result, Ok, Err, refl, ap, sym, ◌∙◌, subst, append_assoc, arith}
use Rattle.std.proofs.lemmas.List.{append-nil, length-append, same_from_push}
use Rattle.std.specs.Coded.{coded_bool}
use denote.Struct.Props.{≡_prop}
use Rattle.cedar_names.specs.Identifiers.{any_word}
use Rattle.cedar_names.specs.declared.any_id.AnyId.{AnyId}
use Rattle.cedar_text.specs.Words.{is_word}
use Rattle.cedar_text.specs.Places.{span_of}
use Rattle.cedar_text.specs.Unescaping.{unescaped}
use Rattle.cedar_text.specs.declared.location.Span.{Span}
use Rattle.cedar_text.specs.declared.unescaping.BadEscape.{BadEscape}
use Rattle.cedar_tokens.specs.Lexemes.{TextToken}
use Rattle.cedar_tokens.specs.Lexing.{Lexes, NoTokenAt}
use Rattle.cedar_tokens.specs.declared.token.TokenKind.{TokenKind}
use Rattle.cedar_tokens.specs.declared.token.TokenKind.TheVariants as kind
use Rattle.cedar_tree.specs.Nesting.{nest, nest_at_most, outermost_types}
use Rattle.cedar_tree.specs.Trees.{Node, TypeTree, Schema}
use Rattle.cedar_tree.specs.declared.parse_error.ParseErrorKind.{ParseErrorKind}
use Rattle.cedar_tree.specs.declared.parse_error.ParseErrorKind.TheVariants.{InvalidToken, UnrecognizedEof, UnrecognizedToken, ExtraToken, User, TooDeep}
use Rattle.cedar_tree.specs.declared.parse_error.UserError.{UserError}
use Rattle.cedar_tree.specs.declared.parse_error.UserError.TheVariants.{EmptyList, StringEscape, ReservedIdentifierUsed, DuplicateAnnotations}
use Rattle.cedar_grammar.specs.Grammar.{Reads, Viable, OpensAtMost, is_punct_kind, is_str_kind, is_word_kind, literal_body}
use Rattle.cedar_grammar.specs.Stops.{IsFirstStray, EndsEarly}
use Rattle.cedar_syntax.specs.Causes.{Cause, IsFirstTooMany, IsFirstTooDeep, IsLastRepeat, StraysBy, StraysAs}
use Rattle.cedar_syntax.specs.Texts.{HasTokens, open_at_most}
use Rattle.cedar_syntax.proofs.Completing.{Law, viable_front}
use Rattle.cedar_syntax.proofs.Wholes.{OneList, same_tokens, not_too_many, none_deep}

-- ---- where a list is cut

-- of two places in a list either both are the same, or one is behind the other
abbrev Cuts : {A : Type 0} → List A → A → List A → A → Type 0
Cuts {A} front t front' t' = ((front ≡ front') × (t ≡ t')) ⊎ (((more : List A) × (front' ≡ front ++ t ∷ more)) ⊎ ((more : List A) × (front ≡ front' ++ t' ∷ more)))

cuts_on : {A : Type 0} (x y : A) (front : List A) (t : A) (front' : List A) (t' : A) → x ≡ y → Cuts front t front' t' → Cuts (x ∷ front) t (y ∷ front') t'
cuts_on x y front t front' t' e (inl (f, s)) = inl (cc (e, f), s)
cuts_on x y front t front' t' e (inr (inl (more, f))) = inr (inl (more, cc (e, f)))
cuts_on x y front t front' t' e (inr (inr (more, f))) = inr (inr (more, cc (e, f)))

cuts : {A : Type 0} (front : List A) (t : A) (rest front' : List A) (t' : A) (rest' : List A) → front ++ t ∷ rest ≡ front' ++ t' ∷ rest' → Cuts front t front' t'
cuts [] t rest [] t' rest' e = inl (refl, cc)
cuts [] t rest (x ∷ front') t' rest' e = inr (inl (front', cc))
cuts (x ∷ front) t rest [] t' rest' e = inr (inr (front, cc))
cuts (x ∷ front) t rest (y ∷ front') t' rest' e =
    let heads : x ≡ y = cc in
    let tails : front ++ t ∷ rest ≡ front' ++ t' ∷ rest' = cc in
    cuts_on x y front t front' t' heads (cuts front t rest front' t' rest' tails)

-- with as many behind them, both are the same
cut_alike : {A : Type 0} (front : List A) (t : A) (rest front' : List A) (t' : A) (rest' : List A) → front ++ t ∷ rest ≡ front' ++ t' ∷ rest' → length rest ≡ length rest' → t ≡ t'
cut_alike {A} front t rest front' t' rest' e many = by (cuts front t rest front' t' rest' e)
  where
    whole : length front + suc (length rest) ≡ length front' + suc (length rest')
    whole = sym (length-append front (t ∷ rest)) ∙ ap length e ∙ length-append front' (t' ∷ rest')

    by : Cuts front t front' t' → t ≡ t'
    by (inl same) = same.1
    by (inr (inl (more, f))) = absurd (omega (arith, ap length f, length-append front (t ∷ more), whole, many))
    by (inr (inr (more, f))) = absurd (omega (arith, ap length f, length-append front' (t' ∷ more), whole, many))

-- ---- what strays

-- a kind is one kind alone
mark_no_word : (k : TokenKind) (b : Bool) → IsTrue (is_punct_kind k && b) → IsTrue (is_word_kind k) → ⊥
mark_no_word kind.Word b h w = absurd cc
mark_no_word kind.Str b h w = absurd cc
mark_no_word kind.Punct b h w = absurd cc

mark_no_str : (k : TokenKind) (b : Bool) → IsTrue (is_punct_kind k && b) → IsTrue (is_str_kind k) → ⊥
mark_no_str kind.Word b h s = absurd cc
mark_no_str kind.Str b h s = absurd cc
mark_no_str kind.Punct b h s = absurd cc

str_no_word : (k : TokenKind) → IsTrue (is_str_kind k) → IsTrue (is_word_kind k) → ⊥
str_no_word kind.Word s w = absurd cc
str_no_word kind.Str s w = absurd cc
str_no_word kind.Punct s w = absurd cc

-- a key is its word
same_key : (key other : AnyId) → any_word key ≡ any_word other → key ≡ other
same_key key other e =
    subst (λ (w : List ℕ). (f : IsTrue (is_word w)) → key ≡ record { word = w; form = f }) e (λ f. ap (λ (g : IsTrue (is_word key.word)). record { word = key.word; form = g }) (≡_prop coded_bool _ _ key.form f)) other.form

-- the last of the keys that a word repeats is one
same_first : (front : List TextToken) (t one other : TextToken) → IsLastRepeat front one t → IsLastRepeat front other t → one ≡ other
same_first front t one other a b =
    cut_alike (a.key.outside ++ a.key.at ∷ []) one a.key.after (b.key.outside ++ b.key.at ∷ []) other b.key.after
    (append_assoc a.key.outside (a.key.at ∷ []) (one ∷ a.key.after) ∙ parts ∙ sym (append_assoc b.key.outside (b.key.at ∷ []) (other ∷ b.key.after)))
    (omega (arith, a.last other b.key, b.last one a.key))
  where
    parts : a.key.outside ++ (a.key.at ∷ one ∷ a.key.after) ≡ b.key.outside ++ (b.key.at ∷ other ∷ b.key.after)
    parts =
        (same_from_push (a.key.outside ++ (a.key.at ∷ one ∷ a.key.after)) (b.key.outside ++ (b.key.at ∷ other ∷ b.key.after)) a.key.again b.key.again (sym a.key.is ∙ b.key.is)).0

same_escape : (one other : List ℕ) (a b : BadEscape) → ◌≡◌ {A = Option (List ℕ)} (Some one) (Some other) → unescaped one ≡ Err a.at → unescaped other ≡ Err b.at → a ≡ b
same_escape one other a b same e f =
    let bodies : one ≡ other = cc in
    let fault : ◌≡◌ {A = Result (List ℕ) ℕ} (Err a.at) (Err b.at) = sym e ∙ ap unescaped bodies ∙ f in
    let at : a.at ≡ b.at = cc in
    ap (λ (n : ℕ). record { at = n }) at

-- a token that strays breaks one rule at most
one_rule : (front : List TextToken) (t : TextToken) (one other : UserError) → StraysBy front t one → StraysBy front t other → one ≡ other
one_rule front t (EmptyList span) (EmptyList span') a b = ap EmptyList (a.1 ∙ sym b.1)
one_rule front t (EmptyList span) (StringEscape span' bad) a b = absurd (mark_no_str t.kind _ a.0.closes b.0.literal)
one_rule front t (EmptyList span) (ReservedIdentifierUsed word) a b = absurd (mark_no_word t.kind _ a.0.closes b.0.word)
one_rule front t (EmptyList span) (DuplicateAnnotations key first second) a b = absurd (mark_no_word t.kind _ a.0.closes b.2.1.key.key)
one_rule front t (StringEscape span bad) (EmptyList span') a b = absurd (mark_no_str t.kind _ b.0.closes a.0.literal)
one_rule front t (StringEscape span bad) (StringEscape span' bad') a b =
    let spans : span ≡ span' = a.1 ∙ sym b.1 in
    let escapes : bad ≡ bad' = same_escape a.0.body b.0.body bad bad' (sym a.0.is ∙ b.0.is) a.0.escape b.0.escape in
    rw (spans, escapes) refl
one_rule front t (StringEscape span bad) (ReservedIdentifierUsed word) a b = absurd (str_no_word t.kind a.0.literal b.0.word)
one_rule front t (StringEscape span bad) (DuplicateAnnotations key first second) a b = absurd (str_no_word t.kind a.0.literal b.2.1.key.key)
one_rule front t (ReservedIdentifierUsed word) (EmptyList span) a b = absurd (mark_no_word t.kind _ b.0.closes a.0.word)
one_rule front t (ReservedIdentifierUsed word) (StringEscape span bad) a b = absurd (str_no_word t.kind b.0.literal a.0.word)
one_rule front t (ReservedIdentifierUsed word) (ReservedIdentifierUsed word') a b = ap ReservedIdentifierUsed (a.1 ∙ sym b.1)
one_rule front t (ReservedIdentifierUsed word) (DuplicateAnnotations key first second) a b = absurd (a.0.new b.2.0 b.2.1.key)
one_rule front t (DuplicateAnnotations key first second) (EmptyList span) a b = absurd (mark_no_word t.kind _ b.0.closes a.2.1.key.key)
one_rule front t (DuplicateAnnotations key first second) (StringEscape span bad) a b = absurd (str_no_word t.kind b.0.literal a.2.1.key.key)
one_rule front t (DuplicateAnnotations key first second) (ReservedIdentifierUsed word) a b = absurd (b.0.new a.2.0 a.2.1.key)
one_rule front t (DuplicateAnnotations key first second) (DuplicateAnnotations key' first' second') a b =
    let keys : key ≡ key' = same_key key key' (a.0 ∙ sym b.0) in
    let seconds : second ≡ second' = a.1 ∙ sym b.1 in
    let firsts : first ≡ first' = a.2.2 ∙ ap (λ (u : TextToken). span_of u.loc) (same_first front t a.2.0 b.2.0 a.2.1 b.2.1) ∙ sym b.2.2 in
    rw (keys, firsts, seconds) refl

-- of a token that strays one error speaks at most
one_error : (front : List TextToken) (t : TextToken) (one other : ParseErrorKind) → StraysAs front t one → StraysAs front t other → one ≡ other
one_error front t (InvalidToken location) other a b = absurd a
one_error front t (UnrecognizedEof location) other a b = absurd a
one_error front t (ExtraToken span token) other a b = absurd a
one_error front t (TooDeep span) other a b = absurd a
one_error front t (UnrecognizedToken span token) (InvalidToken location) a b = absurd b
one_error front t (UnrecognizedToken span token) (UnrecognizedEof location) a b = absurd b
one_error front t (UnrecognizedToken span token) (UnrecognizedToken span' token') a b =
    let spans : span ≡ span' = a.0 ∙ sym b.0 in
    let tokens : token ≡ token' = a.1 ∙ sym b.1 in
    rw (spans, tokens) refl
one_error front t (UnrecognizedToken span token) (ExtraToken span' token') a b = absurd b
one_error front t (UnrecognizedToken span token) (User error) a b = absurd (a.2 error b)
one_error front t (UnrecognizedToken span token) (TooDeep span') a b = absurd b
one_error front t (User error) (InvalidToken location) a b = absurd b
one_error front t (User error) (UnrecognizedEof location) a b = absurd b
one_error front t (User error) (UnrecognizedToken span token) a b = absurd (b.2 error a)
one_error front t (User error) (ExtraToken span token) a b = absurd b
one_error front t (User error) (User error') a b = ap User (one_rule front t error error' a b)
one_error front t (User error) (TooDeep span) a b = absurd b

-- ---- whole texts

-- what is wrong with a text, and the tokens that show it
data Fault (text : List ℕ) (kind : ParseErrorKind) : Type 0 where
  nowhere : (location : ℕ) → NoTokenAt text location → kind ≡ InvalidToken location → Fault text kind
  many : (ts : List TextToken) (t : TextToken) → HasTokens text ts → IsFirstTooMany ts t → kind ≡ TooDeep (span_of t.loc) → Fault text kind
  nested : (ts : List TextToken) (s : Schema) (t : Node TypeTree) → HasTokens text ts → OpensAtMost open_at_most ts → Reads ts s → IsFirstTooDeep s t → kind ≡ TooDeep (span_of t.loc) → Fault text kind
  early : (ts : List TextToken) → HasTokens text ts → OpensAtMost open_at_most ts → EndsEarly ts → kind ≡ UnrecognizedEof (length text) → Fault text kind
  stray : (ts front : List TextToken) (t : TextToken) (rest : List TextToken) → HasTokens text ts → OpensAtMost open_at_most ts → IsFirstStray ts front t rest → StraysAs front t kind → Fault text kind

fault_of : (text : List ℕ) (kind : ParseErrorKind) → Cause text kind → Fault text kind
fault_of text (InvalidToken location) c = nowhere location c refl
fault_of text (UnrecognizedEof location) c = early c.1.0 c.1.1 c.1.2 c.1.3 (ap UnrecognizedEof c.0)
fault_of text (ExtraToken span token) c = absurd c
fault_of text (UnrecognizedToken span token) c = stray c.tokens c.front c.stray c.rest c.lexed c.brackets c.first c.by
fault_of text (User error) c = stray c.tokens c.front c.stray c.rest c.lexed c.brackets c.first c.by
fault_of text (TooDeep span) (inl (ts, t, lexed, first, is)) = many ts t lexed first (ap TooDeep is)
fault_of text (TooDeep span) (inr (ts, s, t, lexed, brackets, reads, first, is)) = nested ts s t lexed brackets reads first (ap TooDeep is)

module _ (list : OneList) (place : (text : List ℕ) (one other : ℕ) → NoTokenAt text one → NoTokenAt text other → one ≡ other)
    (apart : (text : List ℕ) (ts : List _) (place : ℕ) → Lexes text ts → NoTokenAt text place → ⊥) (law : Law)
    (reading : (ts : List TextToken) (s s' : Schema) → Reads ts s → Reads ts s' → s ≡ s') where
  -- a text with tokens has no place at which none begins
  lexes : {A : Type 0} (text : List ℕ) (ts : List TextToken) (location : ℕ) → HasTokens text ts → NoTokenAt text location → A
  lexes text ts location lexed none = absurd (apart text lexed.0 location lexed.1 none)

  -- too many brackets are open, or not
  opens : {A : Type 0} (text : List ℕ) (ts us : List TextToken) (t : TextToken) → HasTokens text ts → HasTokens text us → IsFirstTooMany ts t → OpensAtMost open_at_most us → A
  opens text ts us t lexed lexed' first brackets = absurd (not_too_many ts t first (subst (OpensAtMost open_at_most) (same_tokens list text us ts lexed' lexed) brackets))

  -- tokens that are a schema don't end early
  ends : {A : Type 0} (text : List ℕ) (ts us : List TextToken) (s : Schema) → HasTokens text ts → HasTokens text us → Reads ts s → EndsEarly us → A
  ends text ts us s lexed lexed' reads short = absurd (short.unread s (subst (λ (vs : List TextToken). Reads vs s) (same_tokens list text ts us lexed lexed') reads))

  -- viable tokens don't stray
  viable_no_stray : {A : Type 0} (text : List ℕ) (ts us front : List TextToken) (t : TextToken) (rest : List TextToken) → HasTokens text ts → HasTokens text us → Viable ts → IsFirstStray us front t rest → A
  viable_no_stray text ts us front t rest lexed lexed' viable first =
      absurd (first.here (viable_front law (front ++ t ∷ []) rest (subst Viable (same_tokens list text ts us lexed lexed' ∙ first.is ∙ sym (append_assoc front (t ∷ []) rest)) viable)))

  -- a schema is viable
  read_viable : (ts : List TextToken) (s : Schema) → Reads ts s → Viable ts
  read_viable ts s reads = (law ts).1 ([], s, subst (λ (vs : List TextToken). Reads vs s) (sym (append-nil ts)) reads)

  same_many : (ts us : List TextToken) (t u : TextToken) → ts ≡ us → IsFirstTooMany ts t → IsFirstTooMany us u → t ≡ u
  same_many ts us t u same a b = by (cuts a.front t a.rest b.front u b.rest (sym a.is ∙ same ∙ b.is))
    where
      by : Cuts a.front t b.front u → t ≡ u
      by (inl e) = e.1
      by (inr (inl (more, e))) = absurd (not_too_many b.front t (record { front = a.front; rest = more; is = e; before = a.before; here = a.here }) b.before)
      by (inr (inr (more, e))) = absurd (not_too_many a.front u (record { front = b.front; rest = more; is = e; before = b.before; here = b.here }) a.before)

  same_nested : (s s' : Schema) (t u : Node TypeTree) → s ≡ s' → IsFirstTooDeep s t → IsFirstTooDeep s' u → t ≡ u
  same_nested s s' t u same a b = by (cuts a.front t a.rest b.front u b.rest (sym a.is ∙ ap outermost_types same ∙ b.is))
    where
      by : Cuts a.front t b.front u → t ≡ u
      by (inl e) = e.1
      by (inr (inl (more, e))) = absurd (none_deep b.front a.front t more e a.here b.before)
      by (inr (inr (more, e))) = absurd (none_deep a.front b.front u more e b.here a.before)

  same_stray : (ts us front : List TextToken) (t : TextToken) (rest front' : List TextToken) (u : TextToken) (rest' : List TextToken) → ts ≡ us → IsFirstStray ts front t rest → IsFirstStray us front' u rest' → (front ≡ front') × (t ≡ u)
  same_stray ts us front t rest front' u rest' same a b = by (cuts front t rest front' u rest' (sym a.is ∙ same ∙ b.is))
    where
      by : Cuts front t front' u → (front ≡ front') × (t ≡ u)
      by (inl e) = e
      by (inr (inl (more, e))) = absurd (a.here (viable_front law (front ++ t ∷ []) more (subst Viable (e ∙ sym (append_assoc front (t ∷ []) more)) b.before)))
      by (inr (inr (more, e))) = absurd (b.here (viable_front law (front' ++ u ∷ []) more (subst Viable (e ∙ sym (append_assoc front' (u ∷ []) more)) a.before)))

  one_fault : (text : List ℕ) (one other : ParseErrorKind) → Fault text one → Fault text other → one ≡ other
  one_fault text one other (nowhere l n e) (nowhere l' n' e') = e ∙ ap InvalidToken (place text l l' n n') ∙ sym e'
  one_fault text one other (nowhere l n e) (many ts t lexed first e') = lexes text ts l lexed n
  one_fault text one other (nowhere l n e) (nested ts s t lexed brackets reads first e') = lexes text ts l lexed n
  one_fault text one other (nowhere l n e) (early ts lexed brackets ends_early e') = lexes text ts l lexed n
  one_fault text one other (nowhere l n e) (stray ts front t rest lexed brackets first by) = lexes text ts l lexed n
  one_fault text one other (many us u lexed' first' e) (nowhere l n e') = lexes text us l lexed' n
  one_fault text one other (many us u lexed' first' e) (many ts t lexed first e') = e ∙ ap (λ (v : TextToken). TooDeep (span_of v.loc)) (same_many us ts u t (same_tokens list text us ts lexed' lexed) first' first) ∙ sym e'
  one_fault text one other (many us u lexed' first' e) (nested ts s t lexed brackets reads first e') = opens text us ts u lexed' lexed first' brackets
  one_fault text one other (many us u lexed' first' e) (early ts lexed brackets ends_early e') = opens text us ts u lexed' lexed first' brackets
  one_fault text one other (many us u lexed' first' e) (stray ts front t rest lexed brackets first by) = opens text us ts u lexed' lexed first' brackets
  one_fault text one other (nested us s' u lexed' brackets' reads' first' e) (nowhere l n e') = lexes text us l lexed' n
  one_fault text one other (nested us s' u lexed' brackets' reads' first' e) (many ts t lexed first e') = opens text ts us t lexed lexed' first brackets'
  one_fault text one other (nested us s' u lexed' brackets' reads' first' e) (nested ts s t lexed brackets reads first e') =
      let same : s' ≡ s = reading us s' s reads' (subst (λ (vs : List TextToken). Reads vs s) (same_tokens list text ts us lexed lexed') reads) in
      e ∙ ap (λ (v : Node TypeTree). TooDeep (span_of v.loc)) (same_nested s' s u t same first' first) ∙ sym e'
  one_fault text one other (nested us s' u lexed' brackets' reads' first' e) (early ts lexed brackets ends_early e') = ends text us ts s' lexed' lexed reads' ends_early
  one_fault text one other (nested us s' u lexed' brackets' reads' first' e) (stray ts front t rest lexed brackets first by) = viable_no_stray text us ts front t rest lexed' lexed (read_viable us s' reads') first
  one_fault text one other (early us lexed' brackets' early' e) (nowhere l n e') = lexes text us l lexed' n
  one_fault text one other (early us lexed' brackets' early' e) (many ts t lexed first e') = opens text ts us t lexed lexed' first brackets'
  one_fault text one other (early us lexed' brackets' early' e) (nested ts s t lexed brackets reads first e') = ends text ts us s lexed lexed' reads early'
  one_fault text one other (early us lexed' brackets' early' e) (early ts lexed brackets ends_early e') = e ∙ sym e'
  one_fault text one other (early us lexed' brackets' early' e) (stray ts front t rest lexed brackets first by) = viable_no_stray text us ts front t rest lexed' lexed early'.viable first
  one_fault text one other (stray us front' u rest' lexed' brackets' first' by') (nowhere l n e') = lexes text us l lexed' n
  one_fault text one other (stray us front' u rest' lexed' brackets' first' by') (many ts t lexed first e') = opens text ts us t lexed lexed' first brackets'
  one_fault text one other (stray us front' u rest' lexed' brackets' first' by') (nested ts s t lexed brackets reads first e') = viable_no_stray text ts us front' u rest' lexed lexed' (read_viable ts s reads) first'
  one_fault text one other (stray us front' u rest' lexed' brackets' first' by') (early ts lexed brackets ends_early e') = viable_no_stray text ts us front' u rest' lexed lexed' ends_early.viable first'
  one_fault text one other (stray us front' u rest' lexed' brackets' first' by') (stray ts front t rest lexed brackets first by) =
      let same = same_stray us ts front' u rest' front t rest (same_tokens list text us ts lexed' lexed) first' first in
      one_error front t one other (subst (λ (v : TextToken). StraysAs front v one) same.1 (subst (λ (vs : List TextToken). StraysAs vs u one) same.0 by')) by

  pub one_at_most : (text : List ℕ) (one other : ParseErrorKind) → Cause text one → Cause text other → one ≡ other
  one_at_most text one other a b = one_fault text one other (fault_of text one a) (fault_of text other b)
