-- SPDX-License-Identifier: Apache-2.0
-- The reader of annotations reads what the grammar reads.
use Rattle.std.proofs.Common.{◌≡◌, ℕ, zero, suc, Bool, false, ◌||◌, [], ◌∷◌, ◌++◌, Option, Some, None, codes, length, ap, ◌∙◌, subst, refl, inl, inr, arith}
use Rattle.cedar_tokens.specs.Lexemes.{TextToken}
use Rattle.cedar_grammar.specs.Productions.{Production, class, gives, ◌>>=◌, ◌∣◌, ReadsEach, none_yet, then_one, maybe}
use Rattle.cedar_tree.specs.Trees.{Node, Text, Annotation, Annotations, ByKey, by_key, placed}
use Rattle.cedar_grammar.specs.Grammar.{text_where, is_mark_token, literal_value, mark, str, bracketed, annotation_of, keys_of, is_new_key, annotation, annots, annotated}
use Rattle.cedar_grammar.specs.Reading.{Reader, done, expect, a_mark, value_at, annotation_behind, annots_from, annots_at, annotated_at}
use Rattle.cedar_grammar.proofs.Agreement.{Agrees, gives_agrees, either_agrees, then_agrees, maybe_agrees}
use Rattle.cedar_grammar.proofs.Viability.{some, text_agrees, new_key, mark_agrees, str_agrees, bracketed_agrees, annotation_agrees, annots_agree}
use Rattle.cedar_grammar.proofs.FreshKeys.{fresh}
use Rattle.cedar_tokens.specs.declared.token.TokenKind.TheVariants as kind
use Rattle.cedar_grammar.proofs.Readers.{Tokens, Before, never, Right, Opens, Starts, Takes, Sub, bind, never_opens, gives_opens, then_opens, later_takes, then_takes, before_less, then_right, map_right, done_right, on_next_right, on_next_same, expect_right, same_right, zero_right}
use Rattle.cedar_grammar.proofs.Tokens.{mark_other}
use Rattle.cedar_grammar.proofs.Lists.{Free, mark_starts, gives_not_taken, mark_done, left_false, right_false}
use Rattle.cedar_grammar.proofs.Names.{str_right}

-- ---- the value of an annotation

-- `(`
abbrev is_paren : TextToken → Bool
is_paren = is_mark_token (codes "(")

-- the value of an annotation, if one stands
abbrev Value : Production TextToken (Option (Node (Node Text)))
Value = maybe (bracketed (codes "(") (codes ")") str)

-- the same with `(` before the choice is made
abbrev ValueChoice : Production TextToken (Option (Node (Node Text)))
ValueChoice = (mark (codes "(") >>= λ opening. str >>= λ value. mark (codes ")") >>= λ closing. gives (Some (placed value opening.loc closing.loc))) ∣ gives None

value_there : Sub ValueChoice Value
value_there ts v rest (inl (o, m, ro, (x, m', rx, (c, m'', rc, same)))) = inl (placed x o.loc c.loc, m'', (o, m, ro, (x, m', rx, (c, m'', rc, (refl, refl)))), same)
value_there ts v rest (inr r) = inr r

value_back : Sub Value ValueChoice
value_back ts v rest (inl (y, end, (o, m, ro, (x, m', rx, (c, m'', rc, (same', stop')))), (same, stop))) =
    inl (o, m, ro, (x, m', rx, (c, m'', rc, (same ∙ ap (λ (u : Node (Node Text)). Some u) same', stop ∙ stop'))))
value_back ts v rest (inr r) = inr r

value_right : (n : ℕ) → Right n value_at Value is_paren
unfolding value_at
value_right n =
    same_right n value_at ValueChoice Value is_paren
    (on_next_same n (a_mark (codes "(")) (λ opening. bind (expect literal_value) (λ value. bind (expect (a_mark (codes ")"))) (λ closing. done (Some (placed value opening.loc closing.loc))))) (done None)
    (λ opening. str >>= λ value. mark (codes ")") >>= λ closing. gives (Some (placed value opening.loc closing.loc))) (gives None) is_paren (mark_agrees (codes "("))
    (λ opening.
    then_right n (expect literal_value) _ str _ never is_paren (str_right n never)
    (λ value. mark_done n (codes ")") (λ closing. Some (placed value opening.loc closing.loc)) is_paren)
    (λ value. never_opens _ is_paren))
    (done_right n None is_paren)
    (gives_not_taken None is_paren is_paren (λ t e. e)))
    (maybe_agrees (bracketed (codes "(") (codes ")") str) (bracketed_agrees (codes "(") (codes ")") str str_agrees))
    value_there value_back

-- ---- an annotation

-- what follows the `@` of an annotation behind these
abbrev AnnotationBehind : Annotations → Node Text → Production TextToken (Node Annotation)
AnnotationBehind before at = class (text_where (is_new_key before)) >>= λ key. Value >>= λ value. gives (annotation_of at.loc key value)

key_agrees : (before : Annotations) → Agrees (class (text_where (is_new_key before)))
key_agrees before = text_agrees (is_new_key before) (some kind.Word (fresh (keys_of before))) (new_key before)

annotation_right : (n : ℕ) (before : Annotations) (at : Node Text) → Right n (annotation_behind before at) (AnnotationBehind before at) is_paren
unfolding annotation_behind
annotation_right n before at =
    then_right n (expect (text_where (is_new_key before))) _ (class (text_where (is_new_key before))) _ never is_paren
    (expect_right n (text_where (is_new_key before)) (key_agrees before) never)
    (λ key. map_right n value_at (λ value. annotation_of at.loc key value) Value is_paren (value_right n))
    (λ key. never_opens _ is_paren)

-- ---- annotations

-- `@`, which begins another annotation, or `(`, which begins the value of the last
abbrev pub is_more : TextToken → Bool
is_more t = is_mark_token (codes "@") t || is_paren t

-- what each R k reads
abbrev any : {A : Type 0} → (ℕ → Production TextToken A) → Production TextToken A
any R = record { reads = λ ts x rest. (k : ℕ) × (R k).reads ts x rest; begins = λ ts. (k : ℕ) × (R k).begins ts }

any_agrees : {A : Type 0} (R : ℕ → Production TextToken A) → ((k : ℕ) → Agrees (R k)) → Agrees (any R)
any_agrees R a = record {
  took = λ ts x rest (k, r). let f = (a k).took ts x rest r in record { front = f.front; parts = f.parts; reads = λ tail. (k, f.reads tail) };
  completes = λ ts (k, b). let c = (a k).completes ts b in record { further = c.further; value = c.value; reads = λ tail. (k, c.reads tail) };
  fronts = λ ts others x rest (k, r) short. (k, (a k).fronts ts others x rest r short);
  empty = (zero, (a zero).empty);
}

-- at most k annotations behind these
abbrev annots_upto : ℕ → Annotations → Production TextToken ByKey
annots_upto zero before = gives (by_key before)
annots_upto (suc k) before = (annotation before >>= λ a. annots_upto k (before ++ a ∷ [])) ∣ gives (by_key before)

upto_agrees : (k : ℕ) (before : Annotations) → Agrees (annots_upto k before)
upto_agrees zero before = gives_agrees (by_key before)
upto_agrees (suc k) before =
    either_agrees (annotation before >>= λ a. annots_upto k (before ++ a ∷ [])) (gives (by_key before))
    (then_agrees (annotation before) _ (annotation_agrees before) (λ a. upto_agrees k (before ++ a ∷ [])))
    (gives_agrees (by_key before))

-- annotations behind these
abbrev AnnotsBehind : Annotations → Production TextToken ByKey
AnnotsBehind before = any (λ k. annots_upto k before)

behind_agrees : (before : Annotations) → Agrees (AnnotsBehind before)
behind_agrees before = any_agrees (λ k. annots_upto k before) (λ k. upto_agrees k before)

-- `@`, an annotation and others, or none
abbrev AnnotsChoice : Annotations → Production TextToken ByKey
AnnotsChoice before = (mark (codes "@") >>= λ at. AnnotationBehind before at >>= λ a. AnnotsBehind (before ++ a ∷ [])) ∣ gives (by_key before)

behind_there : (before : Annotations) → Sub (AnnotsChoice before) (AnnotsBehind before)
behind_there before ts v rest (inl (at, m, ra, (a, m', r, (k, others)))) = (suc k, inl (a, m', (at, m, ra, r), others))
behind_there before ts v rest (inr r) = (zero, r)

behind_back_at : (before : Annotations) (k : ℕ) (ts : Tokens) (v : ByKey) (rest : Tokens) → (annots_upto k before).reads ts v rest → (AnnotsChoice before).reads ts v rest
behind_back_at before zero ts v rest r = inr r
behind_back_at before (suc k) ts v rest (inl (a, m', (at, m, ra, r), others)) = inl (at, m, ra, (a, m', r, (k, others)))
behind_back_at before (suc k) ts v rest (inr r) = inr r

behind_back : (before : Annotations) → Sub (AnnotsBehind before) (AnnotsChoice before)
behind_back before ts v rest (k, r) = behind_back_at before k ts v rest r

behind_opens : (before : Annotations) (p q : TextToken → Bool) → Free (codes "@") p → ((t : TextToken) → q t ≡ false → p t ≡ false) → Opens (AnnotsBehind before) p q
behind_opens before p q free less = record { opens = λ ts v rest r stop. of ts v rest (behind_back before ts v rest r) stop }
  where
    of : (ts : Tokens) (v : ByKey) (rest : Tokens) → (AnnotsChoice before).reads ts v rest → Before q rest → Before p ts
    of ts v rest (inl (at, m, ra, r)) stop = (mark_starts (codes "@") p free).starts ts at m ra
    of ts v rest (inr (same, stay)) stop = before_less q p less ts (subst (Before q) stay stop)

from_right : (n : ℕ) (before : Annotations) → Right n (annots_from n before) (AnnotsBehind before) is_more
unfolding annots_from
from_right zero before = zero_right (annots_from zero before) (AnnotsBehind before) is_more (behind_agrees before)
from_right (suc n) before =
    same_right (suc n) (annots_from (suc n) before) (AnnotsChoice before) (AnnotsBehind before) is_more
    (on_next_right n (a_mark (codes "@")) (λ at. bind (annotation_behind before at) (λ a. annots_from n (before ++ a ∷ []))) (done (by_key before))
    (λ at. AnnotationBehind before at >>= λ a. AnnotsBehind (before ++ a ∷ [])) (gives (by_key before)) is_more (mark_agrees (codes "@"))
    (λ at.
    then_right n (annotation_behind before at) _ (AnnotationBehind before at) (λ a. AnnotsBehind (before ++ a ∷ [])) is_paren is_more (annotation_right n before at)
    (λ a. from_right n (before ++ a ∷ []))
    (λ a. behind_opens (before ++ a ∷ []) is_paren is_more (λ t e. mark_other (codes "@") (codes "(") t e refl) (λ t e. right_false _ _ e)))
    (done_right (suc n) (by_key before) is_more)
    (gives_not_taken (by_key before) (is_mark_token (codes "@")) is_more (λ t e. left_false _ _ e)))
    (behind_agrees before) (behind_there before) (behind_back before)

-- annotations behind those that were read before
annots_gather : (k : ℕ) (before : Annotations) (all ts : Tokens) (v : ByKey) (rest : Tokens) → ReadsEach (λ xs. (annotation xs).reads) all before ts → (annots_upto k before).reads ts v rest → annots.reads all v rest
annots_gather zero before all ts v rest h r = (before, ts, h, r)
annots_gather (suc k) before all ts v rest h (inl (a, m, ra, r)) = annots_gather k (before ++ a ∷ []) all m v rest (then_one h ra) r
annots_gather (suc k) before all ts v rest h (inr r) = (before, ts, h, r)

annots_spread : (all : Tokens) (xs : Annotations) (ts : Tokens) (k : ℕ) (v : ByKey) (rest : Tokens) → ReadsEach (λ ys. (annotation ys).reads) all xs ts → (annots_upto k xs).reads ts v rest → (AnnotsBehind []).reads all v rest
annots_spread all _ _ k v rest none_yet r = (k, r)
annots_spread all _ ts k v rest (then_one {mid = mid} {x = x} {xs = xs} h ra) r = annots_spread all xs mid (suc k) v rest h (inl (x, ts, ra, r))

annots_back : Sub annots (AnnotsBehind [])
annots_back ts v rest (xs, mid, h, r) = annots_spread ts xs mid zero v rest h r

behind_right : (n : ℕ) → Right n annots_at (AnnotsBehind []) is_more
unfolding annots_at
behind_right n = record {
  agrees = behind_agrees [];
  says = λ ts low. (from_right (suc (length ts)) []).says ts (omega arith);
  finds = λ ts x rest low r stop. (from_right (suc (length ts)) []).finds ts x rest (omega arith) r stop;
  presses = λ ts others low begins. (from_right (suc (length (ts ++ others))) []).presses ts others (omega arith) begins;
}

-- Annots
pub annots_right : (n : ℕ) → Right n annots_at annots is_more
annots_right n = same_right n annots_at (AnnotsBehind []) annots is_more (behind_right n) annots_agree (λ ts v rest (k, r). annots_gather k [] ts ts v rest none_yet r) annots_back

-- annotations begin with `@`, or with what follows them
pub annots_open : (p : TextToken → Bool) → Free (codes "@") p → Opens annots p p
annots_open p free = record { opens = λ ts v rest r stop. (behind_opens [] p p free (λ t e. e)).opens ts v rest (annots_back ts v rest r) stop }

module _ {A : Type 0} (R : Production TextToken A) where
  pub annotated_opens : (p q : TextToken → Bool) → Free (codes "@") p → Opens R p q → Opens (annotated R) p q
  annotated_opens p q free o = then_opens annots _ p p q (annots_open p free) (λ annotations. then_opens R _ p q q o (λ x. gives_opens _ q))

  pub annotated_starts : (p : TextToken → Bool) → Free (codes "@") p → Starts R p → Starts (annotated R) p
  annotated_starts p free a = record { starts = λ ts v rest (annotations, mid, r, (x, m, s, same)). (annots_open p free).opens ts annotations mid r (a.starts mid x m s) }

  pub annotated_takes : Takes R → Takes (annotated R)
  annotated_takes a = later_takes annots _ annots_agree (λ annotations. then_takes R _ a (λ x. gives_agrees _))

-- Annots R
pub annotated_right : {A : Type 0} (n : ℕ) (f : Reader A) (R : Production TextToken A) (p : TextToken → Bool) → Right n f R p → Opens R is_more p → Right n (annotated_at f) (annotated R) p
unfolding annotated_at
annotated_right n f R p a o =
    then_right n annots_at _ annots _ is_more p (annots_right n)
    (λ annotations. map_right n f (λ x. record { item = x; annotations = annotations }) R p a)
    (λ annotations. then_opens R _ is_more p p o (λ x. gives_opens _ p))
