-- SPDX-License-Identifier: Apache-2.0
-- What the fronts of two texts say of their order.
use Rattle.std.proofs.Common.{◌≡◌, ◌⊎◌, inl, inr, ℕ, zero, suc, ◌+◌, ◌*◌, ◌^◌, ◌<◌, ◌≤◌, min, List, [], ◌∷◌, length, take, get_or, ltb, ltb-true, true, false, refl, ap, sym, ◌∙◌, arith}
use Rattle.std.proofs.lemmas.Bool.{cases_order}
use Rattle.std.proofs.lemmas.Bool.Decides.{nat_tests}
use Rattle.std.proofs.lemmas.Nat.{mul-add-lt, row_fits, same_from_place}
use Rattle.std.proofs.Math.Nat.{pow-suc, one-le-pow, pow-le-pow_right, le_refl, mul_assoc}
use Rattle.std.specs.Cmp.{nat_cmp_is, Equal-is}
use Rattle.std.specs.Cmp.Lexicographic.{slice_cmp, nat_list_cmp_total, texts_ties, bytes_decides}
use Rattle.std.specs.Ordering.{ordering_then, ordering_reverse, nat_cmp}
use Rattle.std.specs.declared.cmp.Ordering.TheVariants.{Less, Equal, Greater}
use Rattle.std.specs.Int.{w64, from_be_bytes, to_be_bytes}
use Rattle.std.proofs.lemmas.Nat.{be_bytes_8, from_be_bytes-to_be_bytes_8}
use Rattle.cedar_data.specs.Fronts.{digits, front_of, held_text, HasFront, IsFront, IsFrontNumber}

-- each is a byte
abbrev pub Bytes : List ℕ → Type 0
Bytes text = (k : ℕ) → get_or text k 0 < 256

rest_bytes : (x : ℕ) (xs : List ℕ) → Bytes (x ∷ xs) → Bytes xs
rest_bytes x xs h k = h (suc k)

-- one byte more
pub digits-suc : (k : ℕ) (text : List ℕ) → digits (suc k) text ≡ digits k text * 256 + get_or text k 0
unfolding digits
digits-suc zero [] = refl
digits-suc zero (x ∷ xs) = omega arith
digits-suc (suc k) [] = refl
digits-suc (suc k) (x ∷ xs) =
    let more = digits-suc k xs in
    rw (pow-suc 256 k) (omega (arith, more, mul_assoc x (256 ^ k) 256))

-- the digits are below a power
pub digits-lt : (k : ℕ) (text : List ℕ) → Bytes text → digits k text < 256 ^ k
unfolding digits
digits-lt zero text h = omega arith
digits-lt (suc k) [] h = one-le-pow (suc k) 256 (omega arith)
digits-lt (suc k) (x ∷ xs) h = rw (pow-suc 256 k) (mul-add-lt x (256 ^ k) (digits k xs) 256 (h 0) (digits-lt k xs (rest_bytes x xs h)))

then_less : (x y : ℕ) (xs ys : List ℕ) → x < y → slice_cmp nat_cmp (x ∷ xs) (y ∷ ys) ≡ Less
then_less x y xs ys h = ap (λ o. ordering_then o (slice_cmp nat_cmp xs ys)) (sym (nat_cmp_is x y Less h))

then_rest : (x y : ℕ) (xs ys : List ℕ) → x ≡ y → slice_cmp nat_cmp (x ∷ xs) (y ∷ ys) ≡ slice_cmp nat_cmp xs ys
then_rest x y xs ys h = ap (λ o. ordering_then o (slice_cmp nat_cmp xs ys)) (sym (nat_cmp_is x y Equal h))

-- two places below the unit u are ordered first by their digits
places : (x y u a b : ℕ) → a < u → b < u → x * u + a < y * u + b → (x < y) ⊎ ((x ≡ y) × (a < b))
places x y u a b p q h = elim (cases_order x y) as (λ _. (x < y) ⊎ ((x ≡ y) × (a < b))) [
  | inl e ↦ let f = ap (λ (n : ℕ). n * u) e in inr (e, omega arith)
  | inr (inl l) ↦ inl l
  | inr (inr g) ↦ let f = row_fits y u x u g (le_refl u) in absurd (omega arith)
]

-- the texts are ordered as their digits
pub digits_less : (k : ℕ) (xs ys : List ℕ) → Bytes xs → Bytes ys → digits k xs < digits k ys → slice_cmp nat_cmp xs ys ≡ Less
unfolding digits
digits_less zero xs ys a b h = absurd (omega arith)
digits_less (suc k) [] [] a b h = absurd (omega arith)
digits_less (suc k) [] (y ∷ ys) a b h = refl
digits_less (suc k) (x ∷ xs) [] a b h = absurd (omega arith)
digits_less (suc k) (x ∷ xs) (y ∷ ys) a b h =
    elim (places x y (256 ^ k) (digits k xs) (digits k ys) (digits-lt k xs (rest_bytes x xs a)) (digits-lt k ys (rest_bytes y ys b)) h) as (λ _. slice_cmp nat_cmp (x ∷ xs) (y ∷ ys) ≡ Less) [
      | inl l ↦ then_less x y xs ys l
      | inr p ↦ then_rest x y xs ys p.0 ∙ digits_less k xs ys (rest_bytes x xs a) (rest_bytes y ys b) p.1
    ]

-- of two texts with the same digits, one that they hold whole is less than a longer one
pub digits_shorter : (k : ℕ) (xs ys : List ℕ) → Bytes xs → Bytes ys → digits k xs ≡ digits k ys → length xs ≤ k → length xs < length ys → slice_cmp nat_cmp xs ys ≡ Less
unfolding digits
digits_shorter k [] [] a b h l m = absurd (omega arith)
digits_shorter k [] (y ∷ ys) a b h l m = refl
digits_shorter k (x ∷ xs) [] a b h l m = absurd (omega arith)
digits_shorter zero (x ∷ xs) (y ∷ ys) a b h l m = absurd (omega arith)
digits_shorter (suc k) (x ∷ xs) (y ∷ ys) a b h l m =
    let rest_a = rest_bytes x xs a in
    let rest_b = rest_bytes y ys b in
    let p = same_from_place x (digits k xs) y (digits k ys) (256 ^ k) (digits-lt k xs rest_a) (digits-lt k ys rest_b) h in
    then_rest x y xs ys p.0 ∙ digits_shorter k xs ys rest_a rest_b p.1 (omega arith) (omega arith)

-- and it is the other, where that is as long
pub digits_same : (k : ℕ) (xs ys : List ℕ) → Bytes xs → Bytes ys → digits k xs ≡ digits k ys → length xs ≤ k → length xs ≡ length ys → xs ≡ ys
unfolding digits
digits_same k [] [] a b h l m = refl
digits_same k [] (y ∷ ys) a b h l m = absurd (omega arith)
digits_same k (x ∷ xs) [] a b h l m = absurd (omega arith)
digits_same zero (x ∷ xs) (y ∷ ys) a b h l m = absurd (omega arith)
digits_same (suc k) (x ∷ xs) (y ∷ ys) a b h l m =
    let rest_a = rest_bytes x xs a in
    let rest_b = rest_bytes y ys b in
    let p = same_from_place x (digits k xs) y (digits k ys) (256 ^ k) (digits-lt k xs rest_a) (digits-lt k ys rest_b) h in
    let rest = digits_same k xs ys rest_a rest_b p.1 (omega arith) (omega arith) in
    λ i. p.0 i ∷ rest i

-- the texts are ordered as their fronts
pub front_less : (xs ys : List ℕ) → Bytes xs → Bytes ys → front_of xs < front_of ys → slice_cmp nat_cmp xs ys ≡ Less
unfolding front_of
front_less xs ys a b h = elim (cases_order (digits 7 xs) (digits 7 ys)) as (λ _. slice_cmp nat_cmp xs ys ≡ Less) [
  | inl e ↦ digits_shorter 7 xs ys a b e (omega arith) (omega arith)
  | inr (inl l) ↦ digits_less 7 xs ys a b l
  | inr (inr g) ↦ absurd (omega arith)
]

-- short texts with one front are the same
pub front_same : (xs ys : List ℕ) → Bytes xs → Bytes ys → front_of xs ≡ front_of ys → length xs < 8 → xs ≡ ys
unfolding front_of
front_same xs ys a b h l = digits_same 7 xs ys a b (omega arith) (omega arith) (omega arith)

-- up to seven digits, and one more, fit 64 bits
pub digits-fit : (k : ℕ) (text : List ℕ) → Bytes text → k ≤ 7 → digits k text < 2 ^ 56
digits-fit k text h l =
    let p = digits-lt k text h in
    let q : 256 ^ k ≤ 256 ^ 7 = pow-le-pow_right {n = 256} (omega arith) {i = k} {j = 7} l in
    omega arith

-- the bytes of the front: seven of the text, zeros behind fewer, and its length, at most 8
abbrev pub front_bytes : List ℕ → List ℕ
front_bytes text =
    get_or text 0 0 ∷ get_or text 1 0 ∷ get_or text 2 0 ∷ get_or text 3 0 ∷ get_or text 4 0 ∷ get_or text 5 0 ∷ get_or text 6 0 ∷ min (length text) 8 ∷ []

digits_7 : (text : List ℕ) → front_of text ≡ from_be_bytes w64 (front_bytes text)
unfolding front_of digits
digits_7 text =
    omega (arith, digits-suc 0 text, digits-suc 1 text, digits-suc 2 text, digits-suc 3 text, digits-suc 4 text, digits-suc 5 text, digits-suc 6 text)

each_small : (text : List ℕ) → Bytes text → (i : ℕ) → get_or (front_bytes text) i 0 < 256
each_small text h zero = h 0
each_small text h (suc zero) = h 1
each_small text h (suc (suc zero)) = h 2
each_small text h (suc (suc (suc zero))) = h 3
each_small text h (suc (suc (suc (suc zero)))) = h 4
each_small text h (suc (suc (suc (suc (suc zero))))) = h 5
each_small text h (suc (suc (suc (suc (suc (suc zero)))))) = h 6
each_small text h (suc (suc (suc (suc (suc (suc (suc zero))))))) = omega arith
each_small text h (suc (suc (suc (suc (suc (suc (suc (suc i)))))))) = omega arith

-- the bytes of the front's number
pub to_be_bytes-front : (text : List ℕ) → Bytes text → to_be_bytes w64 (front_of text) ≡ front_bytes text
to_be_bytes-front text h = be_bytes_8 (front_bytes text) (front_of text) refl (each_small text h) (digits_7 text)

-- the front's number fits 64 bits
pub front_of-fits : (text : List ℕ) → Bytes text → front_of text < 2 ^ 64
unfolding front_of
front_of-fits text h = omega (arith, digits-fit 7 text h (omega arith))

-- and is the number of its bytes
pub front_of-is : (text : List ℕ) → Bytes text → from_be_bytes w64 (to_be_bytes w64 (front_of text)) ≡ front_of text
front_of-is text h = from_be_bytes-to_be_bytes_8 (front_of text) (front_of-fits text h)

-- the front of a short text holds it
take-front_bytes : (text : List ℕ) → length text < 8 → take (length text) (front_bytes text) ≡ text
take-front_bytes [] h = refl
take-front_bytes (a ∷ []) h = refl
take-front_bytes (a ∷ b ∷ []) h = refl
take-front_bytes (a ∷ b ∷ c ∷ []) h = refl
take-front_bytes (a ∷ b ∷ c ∷ d ∷ []) h = refl
take-front_bytes (a ∷ b ∷ c ∷ d ∷ e ∷ []) h = refl
take-front_bytes (a ∷ b ∷ c ∷ d ∷ e ∷ f ∷ []) h = refl
take-front_bytes (a ∷ b ∷ c ∷ d ∷ e ∷ f ∷ g ∷ []) h = refl
take-front_bytes (a ∷ b ∷ c ∷ d ∷ e ∷ f ∷ g ∷ k ∷ rest) h = absurd (omega arith)

-- the last byte of a front is the length, at most 8
pub HasFront-length : {front text : List ℕ} → HasFront front text → get_or front 7 0 ≡ min (length text) 8
HasFront-length {text = text} is = ap (λ (bytes : List ℕ). get_or bytes 7 0) (is.number ∙ to_be_bytes-front text is.bytes)

-- a front holds a short text
pub HasFront-short : {front text : List ℕ} → HasFront front text → length text < 8 → take (get_or front 7 0) front ≡ text
HasFront-short {front = front} {text = text} is short =
    let whole = is.number ∙ to_be_bytes-front text is.bytes in
    let long : get_or front 7 0 ≡ length text = omega (arith, HasFront-length is) in
    ap (λ (n : ℕ). take n front) long ∙ ap (λ (bytes : List ℕ). take (length text) bytes) whole ∙ take-front_bytes text short

-- whether the text is short, by its front
pub HasFront-is_short : {front text : List ℕ} → HasFront front text → ltb (get_or front 7 0) 8 ≡ ltb (length text) 8
HasFront-is_short is =
    let e = HasFront-length is in
    grind (arith, nat_tests)

-- what a front and the shared bytes hold
pub held_text-is : {front text : List ℕ} (shared : List ℕ) → HasFront front text → (8 ≤ length text → shared ≡ text) → held_text front shared ≡ text
held_text-is {front = front} {text = text} shared is long =
    elim (cases_order (length text) 8) as (λ _. held_text front shared ≡ text) [
      | inl e ↦ rw (HasFront-is_short is) (rw (not_short (omega arith)) (long (omega arith)))
      | inr (inl l) ↦ rw (HasFront-is_short is) (rw (is_short l) (HasFront-short is l))
      | inr (inr g) ↦ rw (HasFront-is_short is) (rw (not_short (omega arith)) (long (omega arith)))
    ]
  where
    is_short : length text < 8 → ltb (length text) 8 ≡ true
    is_short h = grind (arith, nat_tests)

    not_short : 8 ≤ length text → ltb (length text) 8 ≡ false
    not_short h = grind (arith, nat_tests)

-- what a front says, opened and closed
pub opened : {front text : List ℕ} → IsFront front text → HasFront front text
unfolding IsFront
opened is = is

pub closed : {front text : List ℕ} → HasFront front text → IsFront front text
unfolding IsFront
closed has = has

-- the front of a text, read at what the front and the shared bytes hold
pub IsFront-held : (front text shared : List ℕ) → IsFront front text → (8 ≤ length text → shared ≡ text) → IsFront front (held_text front shared)
IsFront-held front text shared is long = rw (held_text-is shared (opened is) long) is

-- two texts by the numbers of their fronts
pub number_less : {m n : ℕ} {xs ys : List ℕ} → IsFrontNumber m xs → IsFrontNumber n ys → m < n → slice_cmp nat_cmp xs ys ≡ Less
number_less {xs = xs} {ys = ys} a b h = front_less xs ys a.bytes b.bytes (omega (arith, a.number, b.number))

pub number_greater : {m n : ℕ} {xs ys : List ℕ} → IsFrontNumber m xs → IsFrontNumber n ys → n < m → slice_cmp nat_cmp xs ys ≡ Greater
number_greater {xs = xs} {ys = ys} a b h = nat_list_cmp_total.antisymm xs ys ∙ ap ordering_reverse (number_less b a h)

pub number_same : {m n : ℕ} {xs ys : List ℕ} → IsFrontNumber m xs → IsFrontNumber n ys → m ≡ n → ltb (length xs) 8 ≡ true → xs ≡ ys
number_same {xs = xs} {ys = ys} a b h short = front_same xs ys a.bytes b.bytes (sym a.number ∙ h ∙ b.number) (ltb-true (length xs) 8 short)

pub number_equal : {m n : ℕ} {xs ys : List ℕ} → IsFrontNumber m xs → IsFrontNumber n ys → m ≡ n → ltb (length xs) 8 ≡ true → slice_cmp nat_cmp xs ys ≡ Equal
number_equal {xs = xs} {ys = ys} a b h short =
    (Equal-is (slice_cmp nat_cmp xs ys)).0 (sym (texts_ties xs ys) ∙ (bytes_decides xs ys).1 (number_same a b h short))
