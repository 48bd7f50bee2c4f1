-- SPDX-License-Identifier: Apache-2.0
use Rattle.std.specs.Prelude.{◌≡◌, ◌≢◌, ℕ, ◌+◌, ◌==◌, not, if◌then◌else◌, true, List, [], ◌∷◌, ◌++◌, length, take, drop, codes, Option, Some, None, Result, Ok, Err}
use Rattle.std.specs.List.{take_while, list_all}
use Rattle.cedar_text.specs.Joining.{joined}
use Rattle.cedar_text.specs.Faults.{token_at, first_fault, no_unreserved_id}
use Rattle.cedar_text.specs.NormalNames.{parts, parts_fault, words_fault}
use Rattle.cedar_text.specs.Unescaping.{unescaped}
use Rattle.cedar_text.specs.Words.{is_unreserved_id}
use Rattle.cedar_text.specs.declared.fault.NameFault.{NameFault}
use Rattle.cedar_text.specs.declared.fault.NameFault.TheVariants.{Empty, BadToken, Reserved}
use Rattle.cedar_text.specs.declared.literal.Scan.{Scan}
use Rattle.cedar_text.specs.declared.literal.Scan.TheVariants.{Closed, Unclosed, Broken}

-- what the items of a literal come to, from this place behind its quote on; a backslash just before has its place: the quote that closes it, the end of the text, or a backslash before a line feed
abbrev pub scan_items : ℕ → Option ℕ → List ℕ → Scan
scan_items at backslash [] = Unclosed
scan_items at (Some backslash) (b ∷ bs) = if b == 10 then Broken backslash else scan_items (at + 1) None bs
scan_items at None (b ∷ bs) = if b == 34 then Closed at else scan_items (at + 1) (if b == 92 then Some at else None) bs

-- what is wrong with an escape of a literal whose body begins at this place
abbrev pub escape_fault : ℕ → Result (List ℕ) ℕ → Option NameFault
escape_fault at (Ok text) = None
escape_fault at (Err bad) = Some (BadToken (at + bad) (codes "\\"))

-- what is wrong where a text has to end at this place
abbrev pub trailing_fault : ℕ → List ℕ → Option NameFault
trailing_fault at [] = None
trailing_fault at (b ∷ bs) = Some (BadToken at (token_at (b ∷ bs)))

-- what is wrong with a literal of these items, whose body begins at this place, and what follows it
abbrev pub scanned_fault : ℕ → List ℕ → Scan → Option NameFault
scanned_fault at inner Unclosed = Some Empty
scanned_fault at inner (Broken n) = Some (BadToken (at + n) (codes "\\"))
scanned_fault at inner (Closed n) = first_fault (escape_fault at (unescaped (take n inner))) (trailing_fault (at + n + 1) (drop (n + 1) inner))

-- what is wrong with a text that has to be the rest of a literal, behind the quote that opens it
abbrev pub literal_fault : ℕ → List ℕ → Option NameFault
literal_fault at inner = scanned_fault at inner (scan_items 0 None inner)

-- items of a literal, one after another: any byte but `"` and `\`, or `\` and a byte that is no line feed
pub data AreItemBytes : List ℕ → Type 0 where
  no_item : AreItemBytes []
  plain_item : {b : ℕ} {bs : List ℕ} → b ≢ 34 → b ≢ 92 → AreItemBytes bs → AreItemBytes (b ∷ bs)
  escaped_item : {b : ℕ} {bs : List ℕ} → b ≢ 10 → AreItemBytes bs → AreItemBytes (92 ∷ b ∷ bs)

-- the rest of a literal that stands for a text, behind the quote that opens it: items, and the quote that closes it
pub record ClosesLiteral (inner text : List ℕ) : Type 0 where
  pub body : List ℕ
  pub is : inner ≡ body ++ codes "\""
  pub items : AreItemBytes body
  pub value : unescaped body ≡ Ok text

-- what is wrong with the text before a quote, which has to end behind `::`; its form has this fault
abbrev pub opened_fault : List ℕ → Option NameFault → Option NameFault
opened_fault [] fault = Some (BadToken 0 (codes "\""))
opened_fault (b ∷ bs) None = Some (BadToken (length (b ∷ bs)) (codes "\""))
opened_fault (b ∷ bs) (Some Empty) = None
opened_fault (b ∷ bs) (Some (BadToken at token)) = Some (BadToken at token)
opened_fault (b ∷ bs) (Some (Reserved word)) = Some (Reserved word)

abbrev pub opening_fault : List ℕ → Option NameFault
opening_fault front = opened_fault front (parts_fault front 0 (parts front))

-- the text before the first quote, and the text from it
abbrev pub before_quote : List ℕ → List ℕ
before_quote s = take_while (λ b. not (b == 34)) s

abbrev pub from_quote : List ℕ → List ℕ
from_quote s = drop (length (before_quote s)) s

-- what is wrong with a text that has to be a name, `::` and a literal: the text before the quote, and from it
abbrev pub split_fault : List ℕ → List ℕ → Option NameFault
split_fault front [] = first_fault (parts_fault front 0 (parts front)) (Some Empty)
split_fault front (quote ∷ inner) = first_fault (opening_fault front) (first_fault (literal_fault (length front + 1) inner) (words_fault no_unreserved_id (parts front)))

-- what is wrong with a text that has to be a normalized name, `::` and a literal
abbrev pub uid_fault : List ℕ → Option NameFault
uid_fault s = split_fault (before_quote s) (from_quote s)

-- the words with `::` between them, `::`, and a literal of this body
abbrev pub uid_with : List (List ℕ) → List ℕ → List ℕ
uid_with words body = joined words ++ codes "::\"" ++ body ++ codes "\""

-- the text is the words with `::` between them, `::`, and a literal of the id
pub record WritesUid (s : List ℕ) (words : List (List ℕ)) (id : List ℕ) : Type 0 where
  pub body : List ℕ
  pub is : s ≡ uid_with words body
  pub items : AreItemBytes body
  pub value : unescaped body ≡ Ok id

-- the text writes an entity: unreserved identifiers, one at least, and an id
pub record WritesEntity (s : List ℕ) : Type 0 where
  pub first : List ℕ
  pub others : List (List ℕ)
  pub id : List ℕ
  pub identifiers : list_all is_unreserved_id (first ∷ others) ≡ true
  pub writes : WritesUid s (first ∷ others) id
