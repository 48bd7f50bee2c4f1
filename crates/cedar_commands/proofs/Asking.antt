-- SPDX-License-Identifier: Apache-2.0
-- What the words of the command line ask for.
use Rattle.std.proofs.Common.{◌≡◌, ℕ, ◌+◌, ◌-◌, ◌<◌, ◌≤◌, ◌⊎◌, List, [], ◌∷◌, ◌++◌, length, map, drop, get_or, Option, None, Some, Result, Ok, Err, IfOk, String, Global, Bool, true, false, not, bytes_eq, inl, inr, codes, decimal, refl, ap, sym, ◌∙◌, subst, append_assoc, add_assoc, length-drop, arith}
use Rattle.std.specs.String.{string_bytes}
use Rattle.std.specs.Str.Parse.{ParsesUnsigned}
use Rattle.std.proofs.lemmas.Fmt.{decimal_injective, parse-decimal}
use Rattle.std.proofs.lemmas.List.{length-map}
use Rattle.std.proofs.lemmas.Slice.Eq.{bytes_eq-Decides}
use Rattle.std.proofs.lemmas.List.Concat.{flat_map-append}
use Rattle.std.specs.BTreeMap.{is_at}
use Rattle.std.specs.Cmp.Lexicographic.{texts_ties}
use Rattle.std.specs.List.Sorted.{IsStrictlySortedBy}
use Rattle.cedar_data.proofs.Exact.{texts_exact, one_set}
use Rattle.cedar_data.specs.Sets.{contains}
use Rattle.cedar_names.specs.ExtensionFaults.{extensions_fault}
use Rattle.cedar_names.specs.Extensions.{extension_words}
use Rattle.cedar_names.specs.Order.{word_cmp}
use Rattle.cedar_text.specs.Words.{has_word}
use Rattle.cedar_names.specs.declared.extensions.Extensions.{Extensions}
use Rattle.cedar_names.specs.declared.extensions.ExtensionsFault.{ExtensionsFault}
use Rattle.cedar_streams.proofs.InLoop.{item_at}
use Rattle.cedar_commands.specs.Asking.{AskFor, AskForNothing, AsksNamed, Begin, BeginWithNone, FoundNamed, FoundNumber, FoundOptions, FoundPlain, NamedBy, NoNumber, Number}
use Rattle.cedar_commands.specs.CommandLine.{AreNamed, Asks, AsksOptions, TakesNumber, available, command_words, ext_words}
use Rattle.cedar_commands.specs.declared.command.Command.{Command}
use Rattle.cedar_commands.specs.declared.command.Command.TheVariants.{Resolve, ResolveJson, Check, ToJson, ToCedar, Review, Bench}
use Rattle.cedar_commands.specs.declared.command.Review.TheVariants.{Conform, Request, Merge, Compat}

not_false : (t : Bool) → not t ≡ false → t ≡ true
not_false true e = refl
not_false false e = absurd cc

not_true : (t : Bool) → not t ≡ true → t ≡ true → ⊥
not_true true e f = cc
not_true false e f = cc

-- the extension types of some names

contains-word : (words : List (List ℕ)) (w : List ℕ) → contains word_cmp words w ≡ has_word words w
contains-word [] w = refl
contains-word (a ∷ words) w = let same : is_at (word_cmp w) a ≡ bytes_eq w a = sym (texts_ties w a) in rw (same, contains-word words w) refl

known-by : (names extensions : List (List ℕ)) → IsStrictlySortedBy word_cmp extensions → ((w : List ℕ) → has_word extensions w ≡ has_word names w) → AreNamed names extensions
known-by names extensions ascends same = record {
  ascends = ascends;
  members = λ w. let e : contains word_cmp extensions w ≡ has_word names w = contains-word extensions w ∙ same w in (λ h. sym e ∙ h, λ h. e ∙ h);
}

available-ascends : IsStrictlySortedBy word_cmp available
unfolding IsStrictlySortedBy
available-ascends = ((refl, (refl, (refl, tt))), ((refl, (refl, tt)), ((refl, tt), (tt, tt))))

none-ascends : IsStrictlySortedBy word_cmp []
unfolding IsStrictlySortedBy
none-ascends = tt

-- names that are in order
known-itself : (names extensions : List (List ℕ)) → IsStrictlySortedBy word_cmp names → extensions ≡ names → AreNamed names extensions
known-itself names extensions ascends is = subst (AreNamed names) (sym is) (known-by names names ascends (λ w. refl))

-- they are one list
pub one-known : (names xs ys : List (List ℕ)) → AreNamed names xs → AreNamed names ys → xs ≡ ys
one-known names xs ys s t = one_set texts_exact _ xs ys s t

-- what tests on texts say

pub is_equal : (a b : List ℕ) (r : Bool) → r ≡ bytes_eq a b → r ≡ true → a ≡ b
is_equal a b r e t = (bytes_eq-Decides a b).0 (sym e ∙ t)

pub is_not_unequal : (a b : List ℕ) (r : Bool) → r ≡ not (bytes_eq a b) → r ≡ false → a ≡ b
is_not_unequal a b r e t = (bytes_eq-Decides a b).0 (not_false (bytes_eq a b) (sym e ∙ t))

pub is_unequal : (a b : List ℕ) (r : Bool) → r ≡ not (bytes_eq a b) → r ≡ true → a ≡ b → ⊥
is_unequal a b r e t same = not_true (bytes_eq a b) (sym e ∙ t) ((bytes_eq-Decides a b).1 same)

-- texts that a test tells apart aren't the same, nor lists that begin with them
other_head : (a b : List ℕ) (o p : List (List ℕ)) → a ∷ o ≡ b ∷ p → bytes_eq a b ≡ false → ⊥
other_head a b o p e f = let same : a ≡ b = cc in let t : bytes_eq a b ≡ true = (bytes_eq-Decides a b).1 same in cc

ext_words-push : (names : List (List ℕ)) (name : List ℕ) → ext_words (names ++ name ∷ []) ≡ ext_words names ++ (codes "--ext" ∷ name ∷ [])
ext_words-push names name = flat_map-append (λ n. codes "--ext" ∷ n ∷ []) names (name ∷ [])

-- the words tell the names
pub ext_words-injective : (a b : List (List ℕ)) → ext_words a ≡ ext_words b → a ≡ b
ext_words-injective [] [] e = refl
ext_words-injective [] (n ∷ ns) e = absurd cc
ext_words-injective (n ∷ ns) [] e = absurd cc
ext_words-injective (n ∷ ns) (m ∷ ms) e =
    let rest : ext_words ns ≡ ext_words ms = cc in
    let first : n ≡ m = cc in
    let others : ns ≡ ms = ext_words-injective ns ms rest in cc

-- what is left behind some names
left_behind : (names others rest : List (List ℕ)) → ext_words names ++ rest ≡ ext_words others → (more : List (List ℕ)) × (rest ≡ ext_words more)
left_behind [] others rest e = (others, e)
left_behind (n ∷ ns) [] rest e = absurd cc
left_behind (n ∷ ns) (m ∷ ms) rest e = let tail : ext_words ns ++ rest ≡ ext_words ms = cc in left_behind ns ms rest tail

not_single : (rest more : List (List ℕ)) → rest ≡ ext_words more → 0 < length rest → length rest < 2 → ⊥
not_single rest [] e some few = let none : length rest ≡ 0 = ap length e in omega arith
not_single rest (m ∷ ms) e some few = let many : length rest ≡ length (codes "--ext" ∷ m ∷ ext_words ms) = ap length e in omega arith

not_flag : (flag : List ℕ) (rest more : List (List ℕ)) → flag ∷ rest ≡ ext_words more → (flag ≡ codes "--ext" → ⊥) → ⊥
not_flag flag rest [] e other = cc
not_flag flag rest (m ∷ ms) e other = other (cc)

module _ (words : List (String Global)) (index : ℕ) (names : List (List ℕ)) (read : map string_bytes words ≡ ext_words names ++ map string_bytes (drop index words)) where
  pub named-next : (flag name : String Global) → index < length words → flag ≡ get_or words index flag → index + 1 < length words → name ≡ get_or words (index + 1) name
      → string_bytes flag ≡ codes "--ext" → map string_bytes words ≡ ext_words (names ++ string_bytes name ∷ []) ++ map string_bytes (drop (index + 2) words)
  named-next flag name in_flag flag_is in_name name_is is_flag =
      let second : drop (index + 1) words ≡ name ∷ drop (index + 2) words = item_at words (index + 1) name in_name name_is ∙ ap (λ k. name ∷ drop k words) (add_assoc index 1 1) in
      let rest : List (List ℕ) = map string_bytes (drop (index + 2) words) in
      read ∙ ap (λ r. ext_words names ++ map string_bytes r) (item_at words index flag in_flag flag_is ∙ ap (λ r. flag ∷ r) second)
      ∙ ap (λ f. ext_words names ++ (f ∷ string_bytes name ∷ rest)) is_flag
      ∙ sym (append_assoc (ext_words names) (codes "--ext" ∷ string_bytes name ∷ []) rest)
      ∙ ap (λ s. s ++ rest) (sym (ext_words-push names (string_bytes name)))

  pub named-odd : index < length words → length words - index < 2 → (others : List (List ℕ)) → map string_bytes words ≡ ext_words others → ⊥
  named-odd some few others e =
      let m : (more : List (List ℕ)) × (map string_bytes (drop index words) ≡ ext_words more) = left_behind names others (map string_bytes (drop index words)) (sym read ∙ e) in
      let long : length (map string_bytes (drop index words)) ≡ length words - index = length-map (drop index words) string_bytes ∙ length-drop index words in
      not_single (map string_bytes (drop index words)) m.0 m.1 (omega arith) (omega arith)

  pub named-other : (flag : String Global) → index < length words → flag ≡ get_or words index flag → (string_bytes flag ≡ codes "--ext" → ⊥)
      → (others : List (List ℕ)) → map string_bytes words ≡ ext_words others → ⊥
  named-other flag some flag_is other others e =
      let m : (more : List (List ℕ)) × (map string_bytes (drop index words) ≡ ext_words more) = left_behind names others (map string_bytes (drop index words)) (sym read ∙ e) in
      not_flag (string_bytes flag) (map string_bytes (drop (index + 1) words)) m.0 (sym (ap (map string_bytes) (item_at words index flag some flag_is)) ∙ m.1) other

-- names that are faulty are asked for by no words
pub named-faulty : (words names : List (List ℕ)) (fault : ExtensionsFault) → words ≡ ext_words names → extensions_fault [] names ≡ Some fault
    → (others : List (List ℕ)) → AsksNamed words others → ⊥
named-faulty words names fault e faulty others a =
    let same : names ≡ others = ext_words-injective names others (sym e ∙ a.0) in
    let none : extensions_fault [] names ≡ None = ap (extensions_fault []) same ∙ a.1 in cc

pub named-unread : (words : List (List ℕ)) → ((names : List (List ℕ)) → words ≡ ext_words names → ⊥) → (names : List (List ℕ)) → AsksNamed words names → ⊥
named-unread words unread names a = unread names a.0

pub named-found : (words names : List (List ℕ)) (x : Extensions) → words ≡ ext_words names → extensions_fault [] names ≡ None
    → IsStrictlySortedBy word_cmp (extension_words x) → ((w : List ℕ) → has_word (extension_words x) w ≡ has_word names w) → NamedBy (AsksNamed words) x
named-found words names x e good ascends same = (names, (e, good), known-by names (extension_words x) ascends same)

-- the words behind the command

pub single_option : (options : List (String Global)) (option : String Global) → 1 ≤ length options → length options < 2 → option ≡ get_or options 0 option → map string_bytes options ≡ string_bytes option ∷ []
single_option [] option some few is = absurd (omega arith)
single_option (o ∷ []) option some few is = ap (λ x. string_bytes x ∷ []) (sym is)
single_option (o ∷ p ∷ os) option some few is = absurd (omega arith)

pub no_option : (options : List (String Global)) → length options < 1 → map string_bytes options ≡ []
no_option [] few = refl
no_option (o ∷ os) few = absurd (omega arith)

pub options-none : (options : List (List ℕ)) (x : Extensions) → options ≡ [] → extension_words x ≡ available → NamedBy (AsksOptions options) x
options-none options x e is = (available, inl (e, refl), known-itself available (extension_words x) available-ascends is)

pub options-ext_none : (options : List (List ℕ)) (option : List ℕ) (x : Extensions) → options ≡ option ∷ [] → option ≡ codes "--ext-none" → extension_words x ≡ [] → NamedBy (AsksOptions options) x
options-ext_none options option x e o is = ([], inr (inl (e ∙ ap (λ n. n ∷ []) o, refl)), known-itself [] (extension_words x) none-ascends is)

pub options-other : (options : List (List ℕ)) (option : List ℕ) → options ≡ option ∷ [] → (option ≡ codes "--ext-none" → ⊥) → (names : List (List ℕ)) → AsksOptions options names → ⊥
options-other options option e other names (inl a) = let p : options ≡ [] = a.0 in cc
options-other options option e other names (inr (inl a)) = let p : options ≡ codes "--ext-none" ∷ [] = a.0 in other (cc)
options-other options option e other names (inr (inr a)) =
    let p : options ≡ codes "--ext" ∷ a.0 ∷ ext_words a.1 = a.3 ∙ ap (λ n. ext_words n) a.2 in cc

many_named : (options names : List (List ℕ)) → 2 ≤ length options → AsksOptions options names → AsksNamed options names
many_named options names many (inl a) = let l : length options ≡ 0 = ap length a.0 in absurd (omega arith)
many_named options names many (inr (inl a)) = let l : length options ≡ 1 = ap length a.0 in absurd (omega arith)
many_named options names many (inr (inr a)) = (a.3, a.4)

named_many : (options names : List (List ℕ)) → 2 ≤ length options → AsksNamed options names → AsksOptions options names
named_many options [] many a = let l : length options ≡ 0 = ap length a.0 in absurd (omega arith)
named_many options (first ∷ others) many a = inr (inr (first, others, refl, a.0, a.1))

pub options-named : (options : List (List ℕ)) (found : Option Extensions) → 2 ≤ length options → FoundNamed options found → FoundOptions options found
options-named options None many none = λ names a. none names (many_named options names many a)
options-named options (Some x) many found = (found.0, named_many options found.0 many found.1, found.2)

pub many-found : {E : Type 0} (options : List (String Global)) (result : Result (Option Extensions) E) → 2 ≤ length options
    → IfOk result (λ found. FoundNamed (map string_bytes options) found) → IfOk result (λ found. FoundOptions (map string_bytes options) found)
many-found options (Ok found) many f = options-named (map string_bytes options) found (omega (arith, length-map options string_bytes)) f
many-found options (Err e) many f = tt

-- the words behind the command ask for one list of names
options-one : (options a b : List (List ℕ)) → AsksOptions options a → AsksOptions options b → a ≡ b
options-one options a b (inl p) (inl q) = p.1 ∙ sym q.1
options-one options a b (inl p) (inr (inl q)) = absurd (cc (p.0, q.0))
options-one options a b (inl p) (inr (inr q)) =
    let w : options ≡ codes "--ext" ∷ q.0 ∷ ext_words q.1 = q.3 ∙ ap (λ n. ext_words n) q.2 in absurd (cc (p.0, w))
options-one options a b (inr (inl p)) (inl q) = absurd (cc (p.0, q.0))
options-one options a b (inr (inl p)) (inr (inl q)) = p.1 ∙ sym q.1
options-one options a b (inr (inl p)) (inr (inr q)) =
    let w : options ≡ codes "--ext" ∷ q.0 ∷ ext_words q.1 = q.3 ∙ ap (λ n. ext_words n) q.2 in absurd (cc (p.0, w))
options-one options a b (inr (inr p)) (inl q) =
    let w : options ≡ codes "--ext" ∷ p.0 ∷ ext_words p.1 = p.3 ∙ ap (λ n. ext_words n) p.2 in absurd (cc (q.0, w))
options-one options a b (inr (inr p)) (inr (inl q)) =
    let w : options ≡ codes "--ext" ∷ p.0 ∷ ext_words p.1 = p.3 ∙ ap (λ n. ext_words n) p.2 in absurd (cc (q.0, w))
options-one options a b (inr (inr p)) (inr (inr q)) = ext_words-injective a b (sym p.3 ∙ q.3)

-- the number

-- a number that is taken is what the word is read as
number-read : {E : Type 0} (word : List ℕ) (r : Result ℕ E) → ParsesUnsigned 32 10 word r → (n : ℕ) → TakesNumber (Bench n) → word ≡ decimal n → r ≡ Ok n
number-read word r p n takes e = parse-decimal 32 n word r (omega arith) (omega arith) e p

pub number-unread : {E : Type 0} (word : List ℕ) (r : Result ℕ E) (d : E) → ParsesUnsigned 32 10 word r → r ≡ Err d → FoundNumber word None
number-unread word r d p is n takes e = let o = number-read word r p n takes e in cc

pub number-beyond : {E : Type 0} (word : List ℕ) (r : Result ℕ E) (m : ℕ) → ParsesUnsigned 32 10 word r → r ≡ Ok m → (m ≡ 0) ⊎ (5000 < m) → FoundNumber word None
number-beyond word r m p is (inl none) n takes e = let o = number-read word r p n takes e in let same : m ≡ n = cc in omega arith
number-beyond word r m p is (inr many) n takes e = let o = number-read word r p n takes e in let same : m ≡ n = cc in omega arith

pub number-other : {E : Type 0} (word : List ℕ) (r : Result ℕ E) (m : ℕ) → ParsesUnsigned 32 10 word r → r ≡ Ok m → (decimal m ≡ word → ⊥) → FoundNumber word None
number-other word r m p is other n takes e =
    let o = number-read word r p n takes e in let same : m ≡ n = cc in other (ap (λ k. decimal k) same ∙ sym e)

-- the words that begin with a number

pub sizes-none : (words : List (List ℕ)) → words ≡ [] → NoNumber words
sizes-none words e n options a = cc (e, a.begins)

pub sizes-other : (words options : List (List ℕ)) (word : List ℕ) → words ≡ word ∷ options → FoundNumber word None → NoNumber words
sizes-other words options word e none n others a = none n a.takes (cc (e, a.begins))

pub sizes-found : (words options : List (List ℕ)) (word : List ℕ) (n : ℕ) → words ≡ word ∷ options → FoundNumber word (Some n) → Number words n options
sizes-found words options word n e found = record { begins = e ∙ ap (λ w. w ∷ options) found.0; takes = found.1 }

-- the command that the words begin with

pub begin-none : (words : List (List ℕ)) → words ≡ [] → BeginWithNone words
begin-none words e Resolve options b = cc (e, b.begins)
begin-none words e ResolveJson options b = cc (e, b.begins)
begin-none words e Check options b = cc (e, b.begins)
begin-none words e ToJson options b = cc (e, b.begins)
begin-none words e ToCedar options b = cc (e, b.begins)
begin-none words e (Review review) options b = cc (e, b.begins)
begin-none words e (Bench n) options b = cc (e, b.begins)

pub begin-unsized : (words others : List (List ℕ)) (word : List ℕ) → words ≡ word ∷ others → word ≡ codes "bench" → NoNumber others → BeginWithNone words
begin-unsized words others word e w none (Bench n) options b = none n options (record { begins = cc (e, b.begins); takes = b.number })
begin-unsized words others word e w none (Review Conform) options b = absurd (other_head _ _ _ _ (ap (λ v. v ∷ others) (sym w) ∙ sym e ∙ b.begins) refl)
begin-unsized words others word e w none (Review Request) options b = absurd (other_head _ _ _ _ (ap (λ v. v ∷ others) (sym w) ∙ sym e ∙ b.begins) refl)
begin-unsized words others word e w none (Review Merge) options b = absurd (other_head _ _ _ _ (ap (λ v. v ∷ others) (sym w) ∙ sym e ∙ b.begins) refl)
begin-unsized words others word e w none (Review Compat) options b = absurd (other_head _ _ _ _ (ap (λ v. v ∷ others) (sym w) ∙ sym e ∙ b.begins) refl)
begin-unsized words others word e w none command options b = absurd (other_head _ _ _ _ (ap (λ v. v ∷ others) (sym w) ∙ sym e ∙ b.begins) refl)

pub begin-sized : (words others options : List (List ℕ)) (word : List ℕ) (n : ℕ) → words ≡ word ∷ others → word ≡ codes "bench" → Number others n options → Begin words (Bench n) options
begin-sized words others options word n e w found = record { begins = e ∙ ap (λ v. v ∷ others) w ∙ ap (λ o. codes "bench" ∷ o) found.begins; number = found.takes }

pub begin-unknown : (words others : List (List ℕ)) (word : List ℕ) → words ≡ word ∷ others → (word ≡ codes "bench" → ⊥) → FoundPlain word None → BeginWithNone words
begin-unknown words others word e other none Resolve options b = none Resolve (cc (e, b.begins))
begin-unknown words others word e other none ResolveJson options b = none ResolveJson (cc (e, b.begins))
begin-unknown words others word e other none Check options b = none Check (cc (e, b.begins))
begin-unknown words others word e other none ToJson options b = none ToJson (cc (e, b.begins))
begin-unknown words others word e other none ToCedar options b = none ToCedar (cc (e, b.begins))
begin-unknown words others word e other none (Review review) options b = none (Review review) (cc (e, b.begins))
begin-unknown words others word e other none (Bench n) options b = other (cc (e, b.begins))

pub begin-plain : (words others : List (List ℕ)) (word : List ℕ) (command : Command) → words ≡ word ∷ others → FoundPlain word (Some command) → Begin words command others
begin-plain words others word command e found = record { begins = e ∙ ap (λ w. w ++ others) (sym found.0); number = found.1 }

-- the words begin with one command, and leave the rest
one_command : (c d : Command) (o p : List (List ℕ)) → TakesNumber c → TakesNumber d → command_words c ++ o ≡ command_words d ++ p → (c ≡ d) × (o ≡ p)
one_command Resolve Resolve o p m n e = (refl, (cc))
one_command ResolveJson ResolveJson o p m n e = (refl, (cc))
one_command Check Check o p m n e = (refl, (cc))
one_command ToJson ToJson o p m n e = (refl, (cc))
one_command ToCedar ToCedar o p m n e = (refl, (cc))
one_command (Review Conform) (Review Conform) o p m n e = (refl, (cc))
one_command (Review Request) (Review Request) o p m n e = (refl, (cc))
one_command (Review Merge) (Review Merge) o p m n e = (refl, (cc))
one_command (Review Compat) (Review Compat) o p m n e = (refl, (cc))
one_command (Bench a) (Bench b) o p m n e = (ap (λ k. Bench k) (decimal_injective a b (omega arith) (omega arith) (cc)), (cc))
one_command c (Review Conform) o p m n e = absurd (other_head _ _ _ _ e refl)
one_command c (Review Request) o p m n e = absurd (other_head _ _ _ _ e refl)
one_command c (Review Merge) o p m n e = absurd (other_head _ _ _ _ e refl)
one_command c (Review Compat) o p m n e = absurd (other_head _ _ _ _ e refl)
one_command (Review Conform) d o p m n e = absurd (other_head _ _ _ _ e refl)
one_command (Review Request) d o p m n e = absurd (other_head _ _ _ _ e refl)
one_command (Review Merge) d o p m n e = absurd (other_head _ _ _ _ e refl)
one_command (Review Compat) d o p m n e = absurd (other_head _ _ _ _ e refl)
one_command c d o p m n e = absurd (other_head _ _ _ _ e refl)

-- all words

pub words-none : (words : List (List ℕ)) → BeginWithNone words → AskForNothing words
words-none words none command names a = none command a.options (record { begins = a.begins; number = a.number })

pub words-unnamed : (words options : List (List ℕ)) (command : Command) → Begin words command options → FoundOptions options None → AskForNothing words
words-unnamed words options command b none other names a =
    let one = one_command command other options a.options b.number a.number (sym b.begins ∙ a.begins) in
    none names (subst (λ (o : List (List ℕ)). AsksOptions o names) (sym one.1) a.asks)

pub words-found : (words options : List (List ℕ)) (command : Command) (x : Extensions) → Begin words command options → FoundOptions options (Some x) → AskFor words command x
words-found words options command x b found =
    (found.0, record { options = options; begins = b.begins; number = b.number; asks = found.1 }, found.2)

-- the words ask for one command, and for one list of names
pub Asks-one : (words : List (List ℕ)) (command other : Command) (a b : List (List ℕ)) → Asks words command a → Asks words other b → (command ≡ other) × (a ≡ b)
Asks-one words command other a b p q =
    let one = one_command command other p.options q.options p.number q.number (sym p.begins ∙ q.begins) in
    (one.0, options-one p.options a b p.asks (subst (λ (o : List (List ℕ)). AsksOptions o b) (sym one.1) q.asks))
