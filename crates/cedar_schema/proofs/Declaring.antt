-- SPDX-License-Identifier: Apache-2.0
-- A text declares one fragment at most, and none where an error says why it declares none.
use Rattle.std.proofs.Common.{◌≡◌, inl, inr, ℕ, List, [], ◌∷◌, ◌++◌, ap, sym, ◌∙◌, subst, append_assoc}
use Rattle.std.proofs.lemmas.List.{append-nil}
use Rattle.cedar_fragment_world.proofs.of_convert_faults.DeclarationLaws.{fine_where_declared}
use Rattle.cedar_fragment_world.specs.of_convert_faults.Faults.{schema_faults}
use Rattle.cedar_fragment_world.specs.of_convert_faults.Gathering.{namespaces_of}
use Rattle.cedar_fragment_world.specs.of_convert_fragment.Declares.{fragment_of}
use Rattle.cedar_fragment_world.specs.of_convert_fragment.Fragments.{Fragment}
use Rattle.cedar_schema_errors.specs.of_convert_text.Texts.{DeclaresText, TellsText}
use Rattle.cedar_schema_errors.specs.of_convert_text.declared.parsing.CedarSchemaParseErrors.{CedarSchemaParseErrors}
use Rattle.cedar_schema_errors.specs.of_convert_text.declared.parsing.CedarSchemaParseErrors.TheVariants.{SyntaxError, JsonError}
use Rattle.cedar_schema_errors.specs.of_convert_warnings.Shadowing.{warnings}
use Rattle.cedar_schema_errors.specs.of_convert_warnings.declared.warnings.SchemaWarning.{SchemaWarning}
use Rattle.cedar_grammar.proofs.Viability.{viable_as_completable}
use Rattle.cedar_grammar.proofs.Wholes as grammar
use Rattle.cedar_grammar.specs.Grammar.{OpensAtMost, Reads, Viable}
use Rattle.cedar_grammar.specs.Stops.{IsFirstStray}
use Rattle.cedar_schema_errors.proofs.of_syntax.Completing.{viable_front}
use Rattle.cedar_schema_errors.proofs.of_syntax.Wholes.{none_deep, not_too_many, same_tokens}
use Rattle.cedar_schema_errors.specs.of_syntax.Causes.{Cause, IsFirstTooDeep}
use Rattle.cedar_schema_errors.specs.of_syntax.Texts.{HasTokens, ReadsText, open_at_most}
use Rattle.cedar_tokens.proofs.Lexed.{not_both, one_list}
use Rattle.cedar_tokens.specs.Lexemes.{TextToken}
use Rattle.cedar_tree.specs.Nesting.{outermost_types}
use Rattle.cedar_tree.specs.Trees.{Node, Schema, TypeTree}
use Rattle.cedar_tree.specs.declared.parse_error.ParseErrorKind.{ParseErrorKind}
use Rattle.cedar_tree.specs.declared.parse_error.ParseErrorKind.TheVariants.{InvalidToken, UnrecognizedEof, UnrecognizedToken, ExtraToken, User, TooDeep}

-- a text is one tree
pub one_tree : (text : List ℕ) (s t : Schema) → ReadsText text s → ReadsText text t → s ≡ t
one_tree text s t p q =
    grammar.one_schema p.tokens s t p.reads (subst (λ (ts : List TextToken). Reads ts t) (sym (same_tokens one_list text p.tokens q.tokens p.lexed q.lexed)) q.reads)

-- and declares one fragment
pub one_declared : (text : List ℕ) (extensions : List (List ℕ)) (F G : Fragment) (fs gs : List SchemaWarning)
    → DeclaresText text extensions F fs → DeclaresText text extensions G gs → (F ≡ G) × (fs ≡ gs)
one_declared text extensions F G fs gs p q =
    let same : p.tree ≡ q.tree = one_tree text p.tree q.tree p.reads q.reads in
    (p.declares.fragment_is ∙ ap (λ s. fragment_of (namespaces_of s)) same ∙ sym q.declares.fragment_is, p.warned ∙ ap (warnings extensions) same ∙ sym q.warned)

-- the tokens of a text that is a schema
module _ (text : List ℕ) (s : Schema) (reads : ReadsText text s) where
  -- they are the same, however they are found
  tokens_here : (ts : List TextToken) → HasTokens text ts → reads.tokens ≡ ts
  tokens_here ts lexed = same_tokens one_list text reads.tokens ts reads.lexed lexed

  reads_here : (ts : List TextToken) → HasTokens text ts → Reads ts s
  reads_here ts lexed = subst (λ (us : List TextToken). Reads us s) (tokens_here ts lexed) reads.reads

  viable_here : (ts : List TextToken) → HasTokens text ts → Viable ts
  viable_here ts lexed = (viable_as_completable ts).1 ([], s, subst (λ (us : List TextToken). Reads us s) (sym (append-nil ts)) (reads_here ts lexed))

  -- none of them strays
  none_strays : (ts front : List TextToken) (t : TextToken) (rest : List TextToken) → HasTokens text ts → IsFirstStray ts front t rest → ⊥
  none_strays ts front t rest lexed first =
      first.here (viable_front viable_as_completable (front ++ t ∷ []) rest (subst Viable (first.is ∙ sym (append_assoc front (t ∷ []) rest)) (viable_here ts lexed)))

  -- none of its types nests too deep
  none_nests : (ts : List TextToken) (s' : Schema) (t : Node TypeTree) → HasTokens text ts → Reads ts s' → IsFirstTooDeep s' t → ⊥
  none_nests ts s' t lexed reads' first =
      let same : s' ≡ s = grammar.one_schema ts s' s reads' (reads_here ts lexed) in
      none_deep (outermost_types s) first.front t first.rest (ap outermost_types (sym same) ∙ first.is) first.here reads.nests

  -- there is no cause for being none
  pub no_cause : (kind : ParseErrorKind) → Cause text kind → ⊥
  no_cause (InvalidToken location) c = not_both text reads.lexed.0 location reads.lexed.1 c
  no_cause (UnrecognizedEof location) c = c.1.3.unread s (reads_here c.1.0 c.1.1)
  no_cause (ExtraToken span token) c = c
  no_cause (UnrecognizedToken span token) c = none_strays c.tokens c.front c.stray c.rest c.lexed c.first
  no_cause (User error) c = none_strays c.tokens c.front c.stray c.rest c.lexed c.first
  no_cause (TooDeep span) (inl (ts, t, lexed, first, is)) = not_too_many ts t first (subst (OpensAtMost open_at_most) (tokens_here ts lexed) reads.brackets)
  no_cause (TooDeep span) (inr (ts, s', t, lexed, brackets, reads', first, is)) = none_nests ts s' t lexed reads' first

no_fault : {A : Type 0} (x : A) (xs ys : List A) → x ∷ xs ≡ ys → ys ≡ [] → ⊥
no_fault x xs ys e none = let some : x ∷ xs ≡ [] = e ∙ none in cc

-- of a text that declares a fragment no error says why it declares none
pub declared_or_not : (text : List ℕ) (extensions : List (List ℕ)) (F : Fragment) (warned : List SchemaWarning) (e : CedarSchemaParseErrors)
    → DeclaresText text extensions F warned → TellsText text e → ⊥
declared_or_not text extensions F warned (SyntaxError errors) d tells = no_cause text d.tree d.reads errors.errors.head.kind tells.cause
declared_or_not text extensions F warned (JsonError errors) d tells =
    let same : tells.tree ≡ d.tree = one_tree text tells.tree d.tree tells.reads d.reads in
    no_fault errors.faults.head errors.faults.tail (schema_faults d.tree) (tells.faults_are ∙ ap schema_faults same) (fine_where_declared (namespaces_of d.tree) d.declares.declares_one)
