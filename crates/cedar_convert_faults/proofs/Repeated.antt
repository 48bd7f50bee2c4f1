-- SPDX-License-Identifier: Apache-2.0
-- The search for the first repeat: the places of the names that were seen, and the first repeat among those that are left.
use Rattle.std.proofs.Common.{◌≡◌, ℕ, Bool, true, false, List, [], ◌∷◌, ◌++◌, cond, bytes_eq, Option, Some, None, sym, ap, ◌∙◌, refl}
use Rattle.std.proofs.lemmas.Slice.Eq.{bytes_eq-Decides}
use Rattle.std.specs.BTreeMap.{is_at}
use Rattle.std.specs.Cmp.Lexicographic.{texts_ties}
use Rattle.cedar_data.specs.Maps.{get, Puts}
use Rattle.cedar_names.specs.Order.{word_cmp}
use Rattle.cedar_text.specs.declared.location.Loc.{Loc}
use Rattle.cedar_text.specs.declared.node.Node.{Node}
use Rattle.cedar_convert_faults.specs.Repeats.{Names, place_of, repeat_behind, first_repeat, repeat_or}
use Rattle.cedar_convert_faults.specs.declared.repeats.Repeat.{Repeat}

-- the place at each word is that of the first name that is the word
abbrev pub HavePlaces : List (List ℕ × Loc) → Names → Type 0
HavePlaces places seen = (word : List ℕ) → get word_cmp places word ≡ place_of seen word

same_word : (a b : List ℕ) → is_at (word_cmp a) b ≡ bytes_eq a b
same_word a b = sym (texts_ties a b)

-- whether the first is the new name is b, whether the new one is the word is m, and whether the first is the word is n
last_step : (b m n : Bool) (here there : Loc) (more of_key of_word : Option Loc) → (m ≡ true → n ≡ b) → cond b (Some here) of_key ≡ None
    → (of_key ≡ None → more ≡ cond m (Some there) of_word) → cond n (Some here) more ≡ cond m (Some there) (cond n (Some here) of_word)
last_step true m n here there more of_key of_word same new rest = absurd cc
last_step false true n here there more of_key of_word same new rest = rw (same refl) (rest new)
last_step false false true here there more of_key of_word same new rest = refl
last_step false false false here there more of_key of_word same new rest = rest new

-- the place of a word, with a name behind that was not seen
pub place_last : (seen : Names) (n : Node (List ℕ)) (word : List ℕ) → place_of seen n.node ≡ None → place_of (seen ++ n ∷ []) word ≡ cond (bytes_eq n.node word) (Some n.loc) (place_of seen word)
place_last [] n word new = refl
place_last (k ∷ seen) n word new =
    last_step (bytes_eq k.node n.node) (bytes_eq n.node word) (bytes_eq k.node word) k.loc n.loc _ _ _ (λ e. ap (bytes_eq k.node) (sym ((bytes_eq-Decides n.node word).0 e))) new (place_last seen n word)

-- one more place, of a name that was not seen
pub places_next : (places places' : List (List ℕ × Loc)) (n : Node (List ℕ)) (word : List ℕ) (place : Loc) (seen : Names) → HavePlaces places seen → place_of seen n.node ≡ None → word ≡ n.node → place ≡ n.loc
    → Puts word_cmp places places' word place → HavePlaces places' (seen ++ n ∷ [])
places_next places places' n word place seen have fresh named placed puts other =
    puts other
    ∙ ap (λ b. cond b (Some place) (get word_cmp places other)) (same_word word other ∙ ap (λ w. bytes_eq w other) named)
    ∙ ap (λ p. cond (bytes_eq n.node other) (Some p) (get word_cmp places other)) placed
    ∙ ap (cond (bytes_eq n.node other) (Some n.loc)) (have other)
    ∙ sym (place_last seen n other fresh)

-- the places of the names that were seen, and the first repeat of all
pub record Seen (all : Names) (places : List (List ℕ × Loc)) (left : Names) : Type 0 where
  pub before : Names
  pub have : HavePlaces places before
  pub is : repeat_behind before left ≡ first_repeat all

pub Seen-start : (all left : Names) (places : List (List ℕ × Loc)) → places ≡ [] → left ≡ all → Seen all places left
Seen-start all left places none whole = record { before = []; have = λ word. ap (λ ps. get word_cmp ps word) none; is = ap first_repeat whole }

-- a name that was not seen, put at its place
pub Seen-next : {all left rest : Names} {places places' : List (List ℕ × Loc)} (n : Node (List ℕ)) (word : List ℕ) (place : Loc) → Seen all places left → left ≡ n ∷ rest
    → None ≡ get word_cmp places word → word ≡ n.node → place ≡ n.loc → Puts word_cmp places places' word place → Seen all places' rest
Seen-next {all} {left} {rest} {places} {places'} n word place r first new named placed puts =
    let fresh : place_of r.before n.node ≡ None = sym (r.have n.node) ∙ ap (λ w. get word_cmp places w) (sym named) ∙ sym new in
    record {
      before = r.before ++ n ∷ [];
      have = places_next places places' n word place r.before r.have fresh named placed puts;
      is = sym (ap (λ p. repeat_or p n (repeat_behind (r.before ++ n ∷ []) rest)) fresh) ∙ ap (repeat_behind r.before) (sym first) ∙ r.is;
    }

-- a name that was seen
pub Seen-found : {all left rest : Names} {places : List (List ℕ × Loc)} (n : Node (List ℕ)) (word : List ℕ) (place : Loc) (found : Repeat) → Seen all places left → left ≡ n ∷ rest
    → Some place ≡ get word_cmp places word → word ≡ n.node → found.name ≡ n.node → found.first ≡ place → found.second ≡ n.loc → Some found ≡ first_repeat all
Seen-found {all} {left} {rest} {places} n word place found r first here same named one two =
    let known : place_of r.before n.node ≡ Some place = sym (r.have n.node) ∙ ap (λ w. get word_cmp places w) (sym same) ∙ sym here in
    (λ i. Some (record { name = named i; first = one i; second = two i }))
    ∙ sym (ap (λ p. repeat_or p n (repeat_behind (r.before ++ n ∷ []) rest)) known) ∙ ap (repeat_behind r.before) (sym first) ∙ r.is

-- after the last
pub Seen-none : {all left : Names} {places : List (List ℕ × Loc)} → Seen all places left → left ≡ [] → None ≡ first_repeat all
Seen-none r none = ap (repeat_behind r.before) (sym none) ∙ r.is

pub ruleset repeated = (Seen-start, Seen-next, Seen-found, Seen-none)
