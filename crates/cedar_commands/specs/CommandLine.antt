-- SPDX-License-Identifier: Apache-2.0
-- What the words of the command line ask for.
use Rattle.std.specs.Prelude.{◌≡◌, ◌⊎◌, ◌≤◌, ℕ, List, [], ◌∷◌, ◌++◌, None, flat_map, codes, decimal, IsTrue}
use Rattle.cedar_data.specs.Sets.{IsSetOf}
use Rattle.cedar_names.specs.ExtensionFaults.{extensions_fault}
use Rattle.cedar_names.specs.Order.{word_cmp}
use Rattle.cedar_text.specs.Words.{has_word}
use Rattle.cedar_commands.specs.declared.command.Command.{Command}
use Rattle.cedar_commands.specs.declared.command.Command.TheVariants.{Resolve, ResolveJson, Check, ToJson, ToCedar, Review, Bench}
use Rattle.cedar_commands.specs.declared.command.Review.{Review as Reviewing}
use Rattle.cedar_commands.specs.declared.command.Review.TheVariants.{Conform, Request, Merge, Compat}

-- the word of a review
abbrev pub review_word : Reviewing → List ℕ
review_word Conform = codes "conform"
review_word Request = codes "request"
review_word Merge = codes "merge"
review_word Compat = codes "compat"

-- the words of a command
abbrev pub command_words : Command → List (List ℕ)
command_words Resolve = codes "resolve" ∷ []
command_words ResolveJson = codes "resolve-json" ∷ []
command_words Check = codes "check" ∷ []
command_words ToJson = codes "to-json" ∷ []
command_words ToCedar = codes "to-cedar" ∷ []
command_words (Review review) = review_word review ∷ []
command_words (Bench n) = codes "bench" ∷ decimal n ∷ []

-- the number of a command, if it has one, is one that it takes
abbrev pub TakesNumber : Command → Type 0
TakesNumber Resolve = Unit {0}
TakesNumber ResolveJson = Unit {0}
TakesNumber Check = Unit {0}
TakesNumber ToJson = Unit {0}
TakesNumber ToCedar = Unit {0}
TakesNumber (Review review) = Unit {0}
TakesNumber (Bench n) = (1 ≤ n) × (n ≤ 5000)

-- the extension types that are known where the words name none
abbrev pub available : List (List ℕ)
available = codes "datetime" ∷ codes "decimal" ∷ codes "duration" ∷ codes "ipaddr" ∷ []

-- `--ext NAME` for each name
abbrev pub ext_words : List (List ℕ) → List (List ℕ)
ext_words names = flat_map (λ name. codes "--ext" ∷ name ∷ []) names

-- the words behind a command ask for these extension types
abbrev pub AsksOptions : List (List ℕ) → List (List ℕ) → Type 0
AsksOptions options names =
    ((options ≡ []) × (names ≡ available))
    ⊎ ((options ≡ codes "--ext-none" ∷ []) × (names ≡ []))
    ⊎ ((first : List ℕ) × (others : List (List ℕ)) × (names ≡ first ∷ others) × (options ≡ ext_words names) × (extensions_fault [] names ≡ None))

-- the words ask for the command with these extension types
pub record Asks (words : List (List ℕ)) (command : Command) (names : List (List ℕ)) : Type 0 where
  pub options : List (List ℕ)
  pub begins : words ≡ command_words command ++ options
  pub number : TakesNumber command
  pub asks : AsksOptions options names

-- the extension types of these names, in order
abbrev pub AreNamed : List (List ℕ) → List (List ℕ) → Type 0
AreNamed names extensions = IsSetOf word_cmp (λ word. IsTrue (has_word names word)) extensions
