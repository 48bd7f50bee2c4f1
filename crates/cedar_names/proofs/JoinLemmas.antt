-- SPDX-License-Identifier: Apache-2.0
use Rattle.std.proofs.Common.{◌≡◌, ◌≤◌, ℕ, List, [], ◌∷◌, ◌++◌, length, take, codes, sym, ap, ◌∙◌, append_assoc}
use Rattle.std.proofs.lemmas.List.{append-nil, take_all}
use Rattle.std.specs.List.{flat_map}
use Rattle.cedar_text.specs.Joining.{joined}
use Rattle.cedar_names.specs.Identifiers.{id_words}
use Rattle.cedar_names.specs.declared.id.Id.{Id}

-- the words of identifiers with `::` behind each
abbrev pub opened : List Id → List ℕ
opened ids = flat_map (λ (id : Id). id.word ++ codes "::") ids

regroup : (a b c d : List ℕ) → ((a ++ b) ++ c) ++ d ≡ a ++ (b ++ (c ++ d))
regroup a b c d = simp append_assoc

-- the words behind the first, with `::` before each
joined-rest : (id : Id) (ids : List Id) → flat_map (λ (v : List ℕ). codes "::" ++ v) (id_words (ids ++ id ∷ [])) ≡ codes "::" ++ (opened ids ++ id.word)
joined-rest id [] = append-nil (codes "::" ++ id.word)
joined-rest id (i ∷ ids) =
    ap (λ (l : List ℕ). codes "::" ++ (i.word ++ l)) (joined-rest id ids) ∙ ap (λ (l : List ℕ). codes "::" ++ l) (sym (regroup i.word (codes "::") (opened ids) id.word))

-- the namespace with `::` behind each identifier, and then the basename
joined-words : (ids : List Id) (id : Id) → opened ids ++ id.word ≡ joined (id_words (ids ++ id ∷ []))
joined-words [] id = sym (append-nil id.word)
joined-words (i ∷ ids) id = regroup i.word (codes "::") (opened ids) id.word ∙ ap (λ (l : List ℕ). i.word ++ l) (sym (joined-rest id ids))

-- the same at the end of the way through the namespace
pub joined-taken : (ids namespace : List Id) (index : ℕ) (id : Id) → ids ≡ namespace → length ids ≤ index → opened (take index ids) ++ id.word ≡ joined (id_words (namespace ++ id ∷ []))
joined-taken ids namespace index id same past =
    ap (λ (l : List Id). opened l ++ id.word) (take_all index ids past ∙ same) ∙ joined-words namespace id
