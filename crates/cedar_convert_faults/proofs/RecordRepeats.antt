-- SPDX-License-Identifier: Apache-2.0
-- The search for the leftmost repeat of a record: the places of the names that were seen, and the leftmost repeat among the attributes that are left.
use Rattle.std.proofs.Common.{◌≡◌, ℕ, ◌+◌, List, [], ◌∷◌, ◌++◌, Some, None, sym, ap, ◌∙◌, refl, map, take, drop}
use Rattle.cedar_text.proofs.Members.{map-append}
use Rattle.cedar_data.specs.Maps.{get, Puts}
use Rattle.cedar_tree.specs.Trees as tree
use Rattle.cedar_tree.specs.Trees.{TypeTree, Record, attr, attrs_of}
use Rattle.cedar_tree.specs.Meanings.{attrs_tree, attr_tree, type_tree, type_level, attr_level, attr_node, annotations_tree}
use Rattle.cedar_tree.specs.declared.ty.AttrDecl.{fold_out-AttrDecl}
use Rattle.cedar_tree.specs.declared.ty.«Type».{«Type», «fold_out-Type», «map-Type»}
use Rattle.cedar_tree.specs.declared.ty.«Type».TheVariants as made
use Rattle.cedar_names.specs.Order.{word_cmp}
use Rattle.cedar_text.specs.declared.location.Loc.{Loc}
use Rattle.cedar_text.specs.declared.node.Node.{Node}
use Rattle.cedar_tree.specs.declared.annotated.Annotated.{Annotated}
use Rattle.cedar_tree.specs.declared.ty.AttrDecl.{AttrDecl}
use Rattle.std.specs.Option.{option_or}
use Rattle.cedar_convert_faults.specs.TypeRepeats.{leftmost_repeat, repeat_among}
use Rattle.cedar_convert_faults.specs.Repeats.{Names, place_of, repeat_or}
use Rattle.cedar_convert_faults.specs.declared.repeats.Repeat.{Repeat}
use Rattle.cedar_convert_faults.proofs.Repeated.{HavePlaces, places_next}

-- attributes as they are written
abbrev pub Written : Type 0
Written = Node (Annotated AttrDecl)

-- attributes whose types are trees already are the trees of the attributes
nodes_mapped : (attrs : List Written) → attrs_of (map (attr_node (λ a. a)) (map (λ n. record { node = record { item = attr_tree n.node.item; annotations = n.node.annotations }; loc = n.loc }) attrs)) ≡ attrs_tree attrs
nodes_mapped [] = refl
nodes_mapped (a ∷ attrs) =
    let t = attr_tree a.node.item in
    ap (λ others. attr (annotations_tree a.node.annotations) t.name t.required t.ty.node t.ty.loc a.loc others) (nodes_mapped attrs)

-- the leftmost repeat of a record is that among its attributes
pub record_repeat : (ty : «Type») (attrs : List Written) → ty ≡ made.Record attrs → repeat_among (attrs_tree attrs) [] ≡ leftmost_repeat (type_tree ty)
record_repeat ty attrs is =
    sym (ap leftmost_repeat (
    ap type_tree is
    ∙ «fold_out-Type» TypeTree tree.AttrDecl type_level attr_level (made.Record attrs)
    ∙ ap (λ o. type_level («map-Type» «Type» AttrDecl TypeTree tree.AttrDecl type_tree attr_tree o)) (made.outs-Record attrs)
    ∙ ap Record (nodes_mapped attrs)))

-- the places of the names that were seen, and the leftmost repeat of all
pub record Among (all : List Written) (places : List (List ℕ × Loc)) (left : List Written) : Type 0 where
  pub before : Names
  pub have : HavePlaces places before
  pub is : repeat_among (attrs_tree left) before ≡ repeat_among (attrs_tree all) []

pub Among-start : (all left : List Written) (places : List (List ℕ × Loc)) → places ≡ [] → left ≡ all → Among all places left
Among-start all left places none whole = record { before = []; have = λ word. ap (λ ps. get word_cmp ps word) none; is = ap (λ l. repeat_among (attrs_tree l) []) whole }

unfolded : (a : Written) (rest : List Written) (before : Names) → repeat_among (attrs_tree (a ∷ rest)) before ≡ repeat_or (place_of before a.node.item.name.node) a.node.item.name (option_or (leftmost_repeat (type_tree a.node.item.ty.node)) (repeat_among (attrs_tree rest) (before ++ a.node.item.name ∷ [])))
unfolded a rest before =
    ap (λ (t : tree.AttrDecl). repeat_or (place_of before t.name.node) t.name (option_or (leftmost_repeat t.ty.node) (repeat_among (attrs_tree rest) (before ++ t.name ∷ []))))
    (fold_out-AttrDecl TypeTree tree.AttrDecl type_level attr_level a.node.item)

-- at attributes before which these names stand, the first is the repeat
found_at : (a : Written) (rest : List Written) (before : Names) (place : Loc) (found : Repeat) → place_of before a.node.item.name.node ≡ Some place
    → found.name ≡ a.node.item.name.node → found.first ≡ place → found.second ≡ a.node.item.name.loc → Some found ≡ repeat_among (attrs_tree (a ∷ rest)) before
found_at a rest before place found known named one two =
    let n = a.node.item.name in
    (λ i. Some (record { name = named i; first = one i; second = two i }))
    ∙ sym (ap (λ p. repeat_or p n (option_or (leftmost_repeat (type_tree a.node.item.ty.node)) (repeat_among (attrs_tree rest) (before ++ n ∷ [])))) known)
    ∙ sym (unfolded a rest before)

-- the repeat is in the type of the first
inner_at : (a : Written) (rest : List Written) (before : Names) (inner : Repeat) → place_of before a.node.item.name.node ≡ None
    → Some inner ≡ leftmost_repeat (type_tree a.node.item.ty.node) → Some inner ≡ repeat_among (attrs_tree (a ∷ rest)) before
inner_at a rest before inner fresh is =
    let n = a.node.item.name in
    ap (λ q. option_or q (repeat_among (attrs_tree rest) (before ++ n ∷ []))) is
    ∙ sym (ap (λ p. repeat_or p n (option_or (leftmost_repeat (type_tree a.node.item.ty.node)) (repeat_among (attrs_tree rest) (before ++ n ∷ [])))) fresh)
    ∙ sym (unfolded a rest before)

-- the repeat is behind the first
next_at : (a : Written) (rest : List Written) (before : Names) → place_of before a.node.item.name.node ≡ None
    → None ≡ leftmost_repeat (type_tree a.node.item.ty.node) → repeat_among (attrs_tree rest) (before ++ a.node.item.name ∷ []) ≡ repeat_among (attrs_tree (a ∷ rest)) before
next_at a rest before fresh clean =
    let n = a.node.item.name in
    ap (λ q. option_or q (repeat_among (attrs_tree rest) (before ++ n ∷ []))) clean
    ∙ sym (ap (λ p. repeat_or p n (option_or (leftmost_repeat (type_tree a.node.item.ty.node)) (repeat_among (attrs_tree rest) (before ++ n ∷ [])))) fresh)
    ∙ sym (unfolded a rest before)

-- a name that was seen
pub Among-found : {all left rest : List Written} {places : List (List ℕ × Loc)} (a : Written) (word : List ℕ) (place : Loc) (found : Repeat) → Among all places left → left ≡ a ∷ rest
    → Some place ≡ get word_cmp places word → word ≡ a.node.item.name.node → found.name ≡ a.node.item.name.node → found.first ≡ place → found.second ≡ a.node.item.name.loc → Some found ≡ repeat_among (attrs_tree all) []
Among-found {all} {left} {rest} {places} a word place found r first here same named one two =
    let known : place_of r.before a.node.item.name.node ≡ Some place = sym (r.have a.node.item.name.node) ∙ ap (λ w. get word_cmp places w) (sym same) ∙ sym here in
    found_at a rest r.before place found known named one two ∙ ap (λ l. repeat_among (attrs_tree l) r.before) (sym first) ∙ r.is

-- a name that was not seen, with a repeat in its type
pub Among-inner : {all left rest : List Written} {places : List (List ℕ × Loc)} (a : Written) (word : List ℕ) (inner : Repeat) → Among all places left → left ≡ a ∷ rest
    → None ≡ get word_cmp places word → word ≡ a.node.item.name.node → Some inner ≡ leftmost_repeat (type_tree a.node.item.ty.node) → Some inner ≡ repeat_among (attrs_tree all) []
Among-inner {all} {left} {rest} {places} a word inner r first new same is =
    let fresh : place_of r.before a.node.item.name.node ≡ None = sym (r.have a.node.item.name.node) ∙ ap (λ w. get word_cmp places w) (sym same) ∙ sym new in
    inner_at a rest r.before inner fresh is ∙ ap (λ l. repeat_among (attrs_tree l) r.before) (sym first) ∙ r.is

-- one without, put at its place
pub Among-next : {all left rest : List Written} {places places' : List (List ℕ × Loc)} (a : Written) (word : List ℕ) (place : Loc) → Among all places left → left ≡ a ∷ rest
    → None ≡ get word_cmp places word → None ≡ leftmost_repeat (type_tree a.node.item.ty.node) → word ≡ a.node.item.name.node → place ≡ a.node.item.name.loc
    → Puts word_cmp places places' word place → Among all places' rest
Among-next {all} {left} {rest} {places} {places'} a word place r first new clean named placed puts =
    let n = a.node.item.name in
    let fresh : place_of r.before n.node ≡ None = sym (r.have n.node) ∙ ap (λ w. get word_cmp places w) (sym named) ∙ sym new in
    record {
      before = r.before ++ n ∷ [];
      have = places_next places places' n word place r.before r.have fresh named placed puts;
      is = next_at a rest r.before fresh clean ∙ ap (λ l. repeat_among (attrs_tree l) r.before) (sym first) ∙ r.is;
    }

-- after the last
pub Among-none : {all left : List Written} {places : List (List ℕ × Loc)} → Among all places left → left ≡ [] → None ≡ repeat_among (attrs_tree all) []
Among-none r none = ap (λ l. repeat_among (attrs_tree l) r.before) (sym none) ∙ r.is

-- the names of attributes
abbrev pub names_of : List Written → Names
names_of attrs = map (λ a. a.node.item.name) attrs

-- the leftmost repeat of all is that among the attributes from an index on, behind the names of those before
pub record Tried (all : List Written) (at : ℕ) : Type 0 where
  pub is : repeat_among (attrs_tree (drop at all)) (names_of (take at all)) ≡ repeat_among (attrs_tree all) []

pub Tried-start : (all : List Written) → Tried all 0
Tried-start all = record { is = refl }

-- the attribute at the index, whose name stands before
pub Tried-found : {all rest : List Written} {at : ℕ} (a : Written) (place : Loc) (found : Repeat) → Tried all at → drop at all ≡ a ∷ rest
    → Some place ≡ place_of (names_of (take at all)) a.node.item.name.node → found ≡ record { name = a.node.item.name.node; first = place; second = a.node.item.name.loc } → Some found ≡ repeat_among (attrs_tree all) []
Tried-found {all} {rest} {at} a place found r first here is =
    found_at a rest (names_of (take at all)) place found (sym here) (ap (λ t. t.name) is) (ap (λ t. t.first) is) (ap (λ t. t.second) is)
    ∙ ap (λ l. repeat_among (attrs_tree l) (names_of (take at all))) (sym first) ∙ r.is

-- one with a repeat in its type
pub Tried-inner : {all rest : List Written} {at : ℕ} (a : Written) (inner : Repeat) → Tried all at → drop at all ≡ a ∷ rest
    → None ≡ place_of (names_of (take at all)) a.node.item.name.node → Some inner ≡ leftmost_repeat (type_tree a.node.item.ty.node) → Some inner ≡ repeat_among (attrs_tree all) []
Tried-inner {all} {rest} {at} a inner r first new is =
    inner_at a rest (names_of (take at all)) inner (sym new) is ∙ ap (λ l. repeat_among (attrs_tree l) (names_of (take at all))) (sym first) ∙ r.is

-- one without
pub Tried-next : {all : List Written} {at : ℕ} (a : Written) → Tried all at → drop at all ≡ a ∷ drop (at + 1) all → take (at + 1) all ≡ take at all ++ a ∷ []
    → None ≡ place_of (names_of (take at all)) a.node.item.name.node → None ≡ leftmost_repeat (type_tree a.node.item.ty.node) → Tried all (at + 1)
Tried-next {all} {at} a r first more new clean = record {
  is =
      ap (λ l. repeat_among (attrs_tree (drop (at + 1) all)) (names_of l)) more
      ∙ ap (λ seen. repeat_among (attrs_tree (drop (at + 1) all)) seen) (map-append (λ (b : Written). b.node.item.name) (take at all) (a ∷ []))
      ∙ next_at a (drop (at + 1) all) (names_of (take at all)) (sym new) clean
      ∙ ap (λ l. repeat_among (attrs_tree l) (names_of (take at all))) (sym first) ∙ r.is;
}

-- after the last
pub Tried-none : {all : List Written} {at : ℕ} → Tried all at → drop at all ≡ [] → None ≡ repeat_among (attrs_tree all) []
Tried-none {all} {at} r none = ap (λ l. repeat_among (attrs_tree l) (names_of (take at all))) (sym none) ∙ r.is

pub ruleset among = (Among-start, Among-found, Among-inner, Among-next, Among-none, Tried-start, Tried-found, Tried-inner, Tried-next, Tried-none)
