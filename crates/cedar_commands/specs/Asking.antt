-- SPDX-License-Identifier: Apache-2.0
-- What is found out of the words of the command line.
use Rattle.std.specs.Prelude.{◌≡◌, ℕ, List, [], ◌∷◌, ◌++◌, Option, None, MatchOption, decimal}
use Rattle.cedar_names.specs.ExtensionFaults.{extensions_fault}
use Rattle.cedar_names.specs.Extensions.{extension_words}
use Rattle.cedar_names.specs.declared.extensions.Extensions.{Extensions}
use Rattle.cedar_commands.specs.CommandLine.{AreNamed, Asks, AsksOptions, TakesNumber, command_words, ext_words, review_word}
use Rattle.cedar_commands.specs.declared.command.Command.{Command}
use Rattle.cedar_commands.specs.declared.command.Command.TheVariants.{Bench}
use Rattle.cedar_commands.specs.declared.command.Review.{Review as Reviewing}

-- ---- all words

-- no command and no names are asked for
abbrev pub AskForNothing : List (List ℕ) → Type 0
AskForNothing words = (command : Command) (names : List (List ℕ)) → Asks words command names → ⊥

-- this command is asked for, with some names that are those of the extension types
abbrev pub AskFor : List (List ℕ) → Command → Extensions → Type 0
AskFor words command x = (names : List (List ℕ)) × Asks words command names × AreNamed names (extension_words x)

-- the command and the extension types that the words ask for, or that they ask for nothing
abbrev pub Found : List (List ℕ) → Option (Command × Extensions) → Type 0
Found words found = MatchOption found (AskForNothing words) (λ made. AskFor words made.0 made.1)

-- ---- the command

-- the words begin with a command, which takes its number, and these are the words behind it
pub record Begin (words : List (List ℕ)) (command : Command) (options : List (List ℕ)) : Type 0 where
  pub begins : words ≡ command_words command ++ options
  pub number : TakesNumber command

-- the words begin with no command
abbrev pub BeginWithNone : List (List ℕ) → Type 0
BeginWithNone words = (command : Command) (options : List (List ℕ)) → Begin words command options → ⊥

-- the words are a number that `bench` takes, and these behind it
pub record Number (words : List (List ℕ)) (n : ℕ) (options : List (List ℕ)) : Type 0 where
  pub begins : words ≡ decimal n ∷ options
  pub takes : TakesNumber (Bench n)

-- the words begin with no number that `bench` takes
abbrev pub NoNumber : List (List ℕ) → Type 0
NoNumber words = (n : ℕ) (options : List (List ℕ)) → Number words n options → ⊥

-- the number that `bench` takes and that a word is, or that it is none
abbrev pub FoundNumber : List ℕ → Option ℕ → Type 0
FoundNumber word found =
    MatchOption found ((n : ℕ) → TakesNumber (Bench n) → word ≡ decimal n → ⊥) (λ n. (word ≡ decimal n) × TakesNumber (Bench n))

-- the command that a word is by itself, or that it is none
abbrev pub FoundPlain : List ℕ → Option Command → Type 0
FoundPlain word found =
    MatchOption found ((command : Command) → command_words command ≡ word ∷ [] → ⊥) (λ command. (command_words command ≡ word ∷ []) × TakesNumber command)

-- the same of a command that asks for a review
abbrev pub FoundReview : List ℕ → Option Command → Type 0
FoundReview word found =
    MatchOption found ((review : Reviewing) → review_word review ≡ word → ⊥) (λ command. (command_words command ≡ word ∷ []) × TakesNumber command)

-- ---- the words behind it

-- some names that the words ask for are those of the extension types
abbrev pub NamedBy : (List (List ℕ) → Type 0) → Extensions → Type 0
NamedBy asks x = (names : List (List ℕ)) × asks names × AreNamed names (extension_words x)

-- the extension types that are asked for, or that none are
abbrev pub FoundBy : (List (List ℕ) → Type 0) → Option Extensions → Type 0
FoundBy asks found = MatchOption found ((names : List (List ℕ)) → asks names → ⊥) (λ x. NamedBy asks x)

-- the words behind the command ask for names, one by one
abbrev pub AsksNamed : List (List ℕ) → List (List ℕ) → Type 0
AsksNamed options names = (options ≡ ext_words names) × (extensions_fault [] names ≡ None)

abbrev pub FoundNamed : List (List ℕ) → Option Extensions → Type 0
FoundNamed options = FoundBy (AsksNamed options)

-- the words behind the command ask
abbrev pub FoundOptions : List (List ℕ) → Option Extensions → Type 0
FoundOptions options = FoundBy (AsksOptions options)
