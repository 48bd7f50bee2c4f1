-- SPDX-License-Identifier: Apache-2.0
use Rattle.std.specs.Prelude.{◌≡◌, ◌&&◌, Bool, true, false, List, [], ◌∷◌, ◌++◌, nat_eq, refl}
use Rattle.std.proofs.Common.{ap, sym, ◌∙◌}
use Rattle.std.specs.Cmp.Lexicographic.{pointwise, bytes_decides}
use Rattle.std.specs.Hash as fed
use Rattle.std.specs.Hash.{Alike, same_Alike, on_Alike, and-Alike, items_Alike}
use Rattle.cedar_names.specs.Components.{components}
use Rattle.cedar_names.specs.Identifiers.{id_words}
use Rattle.cedar_names.specs.Order.{words_eq}
use Rattle.cedar_names.specs.declared.id.Id.{Id}
use Rattle.cedar_names.specs.declared.internal_name.InternalName.{InternalName}

-- what an identifier feeds a hasher: its word
abbrev pub id_fed : Id → fed.HashWrites
id_fed id = fed.str id.word

-- what a name feeds a hasher: its basename, and then its namespace
abbrev pub name_fed : InternalName → fed.HashWrites
name_fed n = id_fed n.basename ++ fed.slice id_fed n.namespace

-- two identifiers have the same word
abbrev pub id_eq : Id → Id → Bool
id_eq i j = pointwise nat_eq i.word j.word

and-false : (b : Bool) → b && false ≡ false
and-false true = refl
and-false false = refl

and-true : (b : Bool) → b && true ≡ b
and-true true = refl
and-true false = refl

and-swap : (a b c : Bool) → a && (b && c) ≡ b && (a && c)
and-swap true b c = refl
and-swap false true c = refl
and-swap false false c = refl

-- no list with one more word is the empty namespace with a basename
one_more : (i a b : Id) (is : List Id) → words_eq (id_words ((i ∷ is) ++ a ∷ [])) (id_words (b ∷ [])) ≡ false
one_more i a b [] = and-false (id_eq i b)
one_more i a b (j ∷ is) = and-false (id_eq i b)

one_fewer : (j a b : Id) (js : List Id) → words_eq (id_words (a ∷ [])) (id_words ((j ∷ js) ++ b ∷ [])) ≡ false
one_fewer j a b [] = and-false (id_eq a j)
one_fewer j a b (i ∷ js) = and-false (id_eq a j)

-- two names have the same components where basenames and namespaces are equal
pub words_eq-parts : (is js : List Id) (a b : Id) → id_eq a b && pointwise id_eq is js ≡ words_eq (id_words (is ++ a ∷ [])) (id_words (js ++ b ∷ []))
words_eq-parts [] [] a b = refl
words_eq-parts [] (j ∷ js) a b = and-false (id_eq a b) ∙ sym (one_fewer j a b js)
words_eq-parts (i ∷ is) [] a b = and-false (id_eq a b) ∙ sym (one_more i a b is)
words_eq-parts (i ∷ is) (j ∷ js) a b = and-swap (id_eq a b) (id_eq i j) (pointwise id_eq is js) ∙ ap (λ t. id_eq i j && t) (words_eq-parts is js a b)

-- the basenames are equal, and the namespaces
abbrev parts_eq : InternalName → InternalName → Bool
parts_eq n m = id_eq n.basename m.basename && pointwise id_eq n.namespace m.namespace

ids_alike : Alike id_eq id_fed
ids_alike = on_Alike (λ (i : Id). i.word) (same_Alike fed.str bytes_decides)

parts_alike : Alike parts_eq name_fed
parts_alike = and-Alike (on_Alike (λ (n : InternalName). n.basename) ids_alike) (on_Alike (λ (n : InternalName). n.namespace) (items_Alike ids_alike))

-- names of the same components feed a hasher alike
pub name_fed-alike : (n m : InternalName) → words_eq (components n) (components m) ≡ true → name_fed n ≡ name_fed m
name_fed-alike n m e = parts_alike.fed n m (words_eq-parts n.namespace m.namespace n.basename m.basename ∙ e)
