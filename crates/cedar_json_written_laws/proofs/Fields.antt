-- SPDX-License-Identifier: Apache-2.0
-- Objects made of fields: what is found at a key, and which keys there are.
use Rattle.std.proofs.Common.{◌≡◌, ℕ, Bool, true, false, true≢false, ◌||◌, if◌then◌else◌, List, [], ◌∷◌, ◌++◌, Option, Some, None, refl, sym, ap, ◌∙◌, subst}
use Rattle.std.proofs.lemmas.Slice.Eq.{bytes_eq-Decides}
use Rattle.std.specs.Cmp.Lexicographic.{slice_cmp}
use Rattle.std.specs.List.{AllByRecursion}
use Rattle.std.specs.Option.{option_or}
use Rattle.std.specs.Ordering.{nat_cmp, match_ordering}
use Rattle.std.specs.Str.{bytes_eq}
use Rattle.std.specs.declared.cmp.Ordering.{Ordering}
use Rattle.std.specs.declared.cmp.Ordering.TheVariants.{Less, Equal, Greater}
use Rattle.cedar_text.specs.Words.{has_word}
use Rattle.serde_json.specs.Data.{Data, Members, no_members, member, put}
use Rattle.serde_json.specs.Find.{get, get_member}
use Rattle.serde_json.proofs.Views.{get_member-put, get_member-put_other}
use Rattle.cedar_json_types.specs.Shapes.{At, Keyed, KeysWithin, MayHave, OrAbsent}
use Rattle.cedar_json_write.specs.Written.{Field, if_any, if_some, object_of, put_all, unless}

-- ---- what is found at a key

-- the last field at the key
abbrev pub field_at : List ℕ → List Field → Option Data
field_at k [] = None
field_at k (f ∷ fs) = option_or (field_at k fs) (if bytes_eq k f.0 then Some f.1 else None)

or_none : (a : Option Data) → option_or a None ≡ a
or_none None = refl
or_none (Some d) = refl

or_or : (a b c : Option Data) → option_or (option_or a b) c ≡ option_or a (option_or b c)
or_or None b c = refl
or_or (Some d) b c = refl

-- a text is itself
pub itself : (k : List ℕ) → bytes_eq k k ≡ true
itself k = (bytes_eq-Decides k k).1 refl

put_at : (b : Bool) (k l : List ℕ) (d : Data) (ms : Members) → bytes_eq k l ≡ b → get_member k (put l d ms) ≡ option_or (if b then Some d else None) (get_member k ms)
put_at true k l d ms same = subst (λ j. get_member j (put l d ms) ≡ Some d) (sym ((bytes_eq-Decides k l).0 same)) (get_member-put l d ms)
put_at false k l d ms other = get_member-put_other k l d ms (λ (h : k ≡ l). true≢false (sym ((bytes_eq-Decides k l).1 h) ∙ other))

all_at : (k : List ℕ) (fs : List Field) (ms : Members) → get_member k (put_all fs ms) ≡ option_or (field_at k fs) (get_member k ms)
all_at k [] ms = refl
all_at k (f ∷ fs) ms =
    all_at k fs (put f.0 f.1 ms) ∙ ap (option_or (field_at k fs)) (put_at (bytes_eq k f.0) k f.0 f.1 ms refl)
    ∙ sym (or_or (field_at k fs) (if bytes_eq k f.0 then Some f.1 else None) (get_member k ms))

-- an object has at a key what the last field at the key has
pub get_field : (k : List ℕ) (fs : List Field) → get k (object_of fs) ≡ field_at k fs
get_field k fs = all_at k fs no_members ∙ or_none (field_at k fs)

pub field_at-append : (k : List ℕ) (fs gs : List Field) → field_at k (fs ++ gs) ≡ option_or (field_at k gs) (field_at k fs)
field_at-append k [] gs = sym (or_none (field_at k gs))
field_at-append k (f ∷ fs) gs =
    ap (λ o. option_or o (if bytes_eq k f.0 then Some f.1 else None)) (field_at-append k fs gs)
    ∙ or_or (field_at k gs) (field_at k fs) (if bytes_eq k f.0 then Some f.1 else None)

-- behind these fields, none is at the key
pub not_behind : (k : List ℕ) (fs gs : List Field) → field_at k gs ≡ None → field_at k (fs ++ gs) ≡ field_at k fs
not_behind k fs gs none = field_at-append k fs gs ∙ ap (λ o. option_or o (field_at k fs)) none

-- before these fields, none is at the key
pub not_before : (k : List ℕ) (fs gs : List Field) → field_at k fs ≡ None → field_at k (fs ++ gs) ≡ field_at k gs
not_before k fs gs none = field_at-append k fs gs ∙ ap (option_or (field_at k gs)) none ∙ or_none (field_at k gs)

pub in_neither : (k : List ℕ) (fs gs : List Field) → field_at k fs ≡ None → field_at k gs ≡ None → field_at k (fs ++ gs) ≡ None
in_neither k fs gs first second = not_behind k fs gs second ∙ first

-- ---- fields that stand only where they say something

pub unless-other : (k : List ℕ) (b : Bool) (l : List ℕ) (d : Data) → bytes_eq k l ≡ false → field_at k (unless b l d) ≡ None
unless-other k true l d other = refl
unless-other k false l d other = ap (λ (b : Bool). if b then Some d else None) other

module _ {A : Type 0} where
  pub some-other : (k l : List ℕ) (of : A → Data) (o : Option A) → bytes_eq k l ≡ false → field_at k (if_some l of o) ≡ None
  some-other k l of None other = refl
  some-other k l of (Some x) other = ap (λ (b : Bool). if b then Some (of x) else None) other

  pub any-other : (k l : List ℕ) (of : List A → Data) (xs : List A) → bytes_eq k l ≡ false → field_at k (if_any l of xs) ≡ None
  any-other k l of [] other = refl
  any-other k l of (x ∷ xs) other = ap (λ (b : Bool). if b then Some (of (x ∷ xs)) else None) other

-- a lone field
pub lone : (k : List ℕ) (d : Data) → field_at k ((k, d) ∷ []) ≡ Some d
lone k d = ap (λ (b : Bool). if b then Some d else None) (itself k)

-- ---- members of an object

module _ {V : Type 0} (P : Data → V → Type 0) where
  pub at_field : (k : List ℕ) (fs : List Field) (e : Data) (v : V) → field_at k fs ≡ Some e → P e v → At k P (object_of fs) v
  at_field k fs e v is shape = (e, get_field k fs ∙ is, shape)

  pub may_have_field : (k : List ℕ) (absent : V → Type 0) (fs : List Field) (o : Option Data) (v : V) → field_at k fs ≡ o → OrAbsent absent P o v → MayHave k absent P (object_of fs) v
  may_have_field k absent fs o v is shape = subst (λ o. OrAbsent absent P o v) (sym (get_field k fs ∙ is)) shape

  -- a value that is written unless it says nothing
  pub unless-shape : (k : List ℕ) (absent : V → Type 0) (b : Bool) (d : Data) (v : V) → (b ≡ true → absent v) → (b ≡ false → P d v) → OrAbsent absent P (field_at k (unless b k d)) v
  unless-shape k absent true d v none some = none refl
  unless-shape k absent false d v none some = subst (λ o. OrAbsent absent P o v) (sym (lone k d)) (some refl)

-- ---- which keys there are

abbrev pub Within : List (List ℕ) → List Field → Type 0
Within keys fs = AllByRecursion (λ f. has_word keys f.0 ≡ true) fs

within_at : (keys : List (List ℕ)) (o : Ordering) (a b c : Members) → KeysWithin keys a → KeysWithin keys b → KeysWithin keys c → KeysWithin keys (match_ordering o a b c)
within_at keys Less a b c first second third = first
within_at keys Equal a b c first second third = second
within_at keys Greater a b c first second third = third

put_within : (keys : List (List ℕ)) (k : List ℕ) (d : Data) (ms : Members) → has_word keys k ≡ true → KeysWithin keys ms → KeysWithin keys (put k d ms)
put_within keys k d no_members has within = (has, tt)
put_within keys k d (member l e ms) has within = within_at keys (slice_cmp nat_cmp k l) _ _ _ (has, within) (within.0, within.1) (within.0, put_within keys k d ms has within.1)

all_within : (keys : List (List ℕ)) (fs : List Field) (ms : Members) → Within keys fs → KeysWithin keys ms → KeysWithin keys (put_all fs ms)
all_within keys [] ms all within = within
all_within keys (f ∷ fs) ms all within = all_within keys fs (put f.0 f.1 ms) all.1 (put_within keys f.0 f.1 ms all.0 within)

pub keyed_object : (keys : List (List ℕ)) (fs : List Field) → Within keys fs → Keyed keys (object_of fs)
keyed_object keys fs within = (put_all fs no_members, refl, all_within keys fs no_members within tt)

module _ (keys : List (List ℕ)) where
  pub within-append : (fs gs : List Field) → Within keys fs → Within keys gs → Within keys (fs ++ gs)
  within-append [] gs first second = second
  within-append (f ∷ fs) gs first second = (first.0, within-append fs gs first.1 second)

  pub within-unless : (b : Bool) (k : List ℕ) (d : Data) → has_word keys k ≡ true → Within keys (unless b k d)
  within-unless true k d has = tt
  within-unless false k d has = (has, tt)

  pub within-some : {A : Type 0} (k : List ℕ) (of : A → Data) (o : Option A) → has_word keys k ≡ true → Within keys (if_some k of o)
  within-some k of None has = tt
  within-some k of (Some x) has = (has, tt)

  pub within-any : {A : Type 0} (k : List ℕ) (of : List A → Data) (xs : List A) → has_word keys k ≡ true → Within keys (if_any k of xs)
  within-any k of [] has = tt
  within-any k of (x ∷ xs) has = (has, tt)

  -- no field is at a key that is none of these
  not_at : (b : Bool) (k : List ℕ) (f : Field) → bytes_eq k f.0 ≡ b → has_word keys f.0 ≡ true → has_word keys k ≡ false → (if b then Some f.1 else None) ≡ None
  not_at true k f same has lacks = absurd (true≢false (sym has ∙ ap (has_word keys) (sym ((bytes_eq-Decides k f.0).0 same)) ∙ lacks))
  not_at false k f same has lacks = refl

  pub outside : (k : List ℕ) (fs : List Field) → Within keys fs → has_word keys k ≡ false → field_at k fs ≡ None
  outside k [] within lacks = refl
  outside k (f ∷ fs) within lacks =
      ap (λ o. option_or o (if bytes_eq k f.0 then Some f.1 else None)) (outside k fs within.1 lacks) ∙ not_at (bytes_eq k f.0) k f refl within.0 lacks

-- of more keys too
either : (a b c : Bool) → (b ≡ true → c ≡ true) → (a || b) ≡ true → (a || c) ≡ true
either true b c more is = refl
either false b c more is = more is

has_more : (keys others : List (List ℕ)) (k : List ℕ) → has_word keys k ≡ true → has_word (keys ++ others) k ≡ true
has_more [] others k has = absurd (cc)
has_more (l ∷ keys) others k has = either (bytes_eq k l) (has_word keys k) (has_word (keys ++ others) k) (has_more keys others k) has

pub within-more : (keys others : List (List ℕ)) (fs : List Field) → Within keys fs → Within (keys ++ others) fs
within-more keys others [] within = tt
within-more keys others (f ∷ fs) within = (has_more keys others f.0 within.0, within-more keys others fs within.1)

has_behind : (keys others : List (List ℕ)) (k : List ℕ) → has_word others k ≡ true → has_word (keys ++ others) k ≡ true
has_behind [] others k has = has
has_behind (l ∷ keys) others k has = ap (λ b. bytes_eq k l || b) (has_behind keys others k has) ∙ or_true (bytes_eq k l)
  where
    or_true : (b : Bool) → (b || true) ≡ true
    or_true true = refl
    or_true false = refl

pub within-behind : (keys others : List (List ℕ)) (fs : List Field) → Within others fs → Within (keys ++ others) fs
within-behind keys others [] within = tt
within-behind keys others (f ∷ fs) within = (has_behind keys others f.0 within.0, within-behind keys others fs within.1)
