-- SPDX-License-Identifier: Apache-2.0
-- What a text declares, from the tree that it is.
use Rattle.std.proofs.Common.{◌≡◌, ℕ, List, Result, Ok, Err, IfOk, subst, sym}
use Rattle.cedar_data.specs.Answers.{Accepts, IfRefused}
use Rattle.cedar_data.specs.declared.memory.Failure.{Failure}
use Rattle.cedar_data.specs.declared.memory.Failure.TheVariants.{Refused, NoMemory}
use Rattle.cedar_tree.specs.Trees.{Schema, Text}
use Rattle.cedar_syntax.specs.Texts.{ReadsText}
use Rattle.cedar_convert.specs.of_convert_faults.Faults.{schema_faults}
use Rattle.cedar_convert.specs.of_convert_warnings.Shadowing.{warnings}
use Rattle.cedar_convert.specs.of_convert_warnings.declared.warnings.SchemaWarning.{SchemaWarning}
use Rattle.cedar_convert.specs.of_convert_fragment.Declares.{Declares}
use Rattle.cedar_convert.specs.of_convert_fragment.Fragments.{Fragment}
use Rattle.cedar_convert_text.specs.Texts.{AreFaults, DeclaresText, TellsText}
use Rattle.cedar_convert_text.specs.declared.parsing.CedarSchemaParseErrors.{CedarSchemaParseErrors}
use Rattle.cedar_convert_text.specs.declared.parsing.CedarSchemaParseErrors.TheVariants.{SyntaxError, JsonError}

module _ {M : Type 0} (seen : M → Fragment) (given : M → List SchemaWarning) (text : List ℕ) (extensions : List Text) (read : Schema) where
  -- a text declares what its tree declares
  pub declares_text : (r : Result M (Failure CedarSchemaParseErrors)) → ReadsText text read → IfOk r (λ m. Declares read (seen m)) → IfOk r (λ m. given m ≡ warnings extensions read)
      → IfOk r (λ m. DeclaresText text extensions (seen m) (given m))
  declares_text (Ok m) reads declares warned = record { tree = read; reads = reads; declares = declares; warned = warned }
  declares_text (Err e) reads declares warned = tt

  -- a text has the faults of its tree
  pub tells_text : (r : Result M (Failure CedarSchemaParseErrors)) → ReadsText text read → IfRefused r (λ e. AreFaults e (schema_faults read)) → IfRefused r (λ e. TellsText text e)
  tells_text (Ok m) reads are = tt
  tells_text (Err NoMemory) reads are = tt
  tells_text (Err (Refused (SyntaxError errors))) reads are = elim are [ ]
  tells_text (Err (Refused (JsonError errors))) reads are = record { tree = read; reads = reads; faults_are = are }

  -- the faults of a tree that the text is too
  pub faults_too : (r : Result M (Failure CedarSchemaParseErrors)) (tree : Schema) → read ≡ tree → IfRefused r (λ e. AreFaults e (schema_faults read)) → IfRefused r (λ e. AreFaults e (schema_faults tree))
  faults_too r tree same are = subst (λ t. IfRefused r (λ e. AreFaults e (schema_faults t))) same are

-- a fragment that a tree declares that the text is too
pub declared_too : (read tree : Schema) (fragment : Fragment) → read ≡ tree → Declares tree fragment → Declares read fragment
declared_too read tree fragment same declares = subst (λ t. Declares t fragment) (sym same) declares

-- what may not be refused is refused for want of memory alone
pub no_refusal : {S : Type 0} {E : Type 0} (M : Type 0) (e : Failure E) (G : S → Type 0) (P : E → Type 0) → Accepts {T = S} {E = E} G (Err e) → IfRefused {T = M} {E = E} (Err e) P
no_refusal M NoMemory G P accepted = tt
no_refusal M (Refused e) G P accepted = elim accepted [ ]

-- and another call answers it too
pub also_accepted : {S : Type 0} {E : Type 0} (M : Type 0) (e : Failure E) (G : S → Type 0) (H : M → Type 0) → Accepts {T = S} {E = E} G (Err e) → Accepts {T = M} {E = E} H (Err e)
also_accepted M NoMemory G H accepted = tt
also_accepted M (Refused e) G H accepted = elim accepted [ ]
