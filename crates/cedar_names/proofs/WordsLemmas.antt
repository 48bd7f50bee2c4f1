-- SPDX-License-Identifier: Apache-2.0
use Rattle.std.proofs.Common.{◌≡◌, Bool, true, false, List, [], ◌∷◌, ◌++◌, length, refl, sym, ap, ◌∙◌, arith}
use Rattle.std.specs.declared.cmp.Ordering.TheVariants.{Less, Equal, Greater}
use Rattle.std.specs.Cmp.Lexicographic.{pointwise, slice_cmp}
use Rattle.std.specs.declared.cmp.Ordering.{Ordering}
use Rattle.std.specs.Ordering.{ordering_then, nat_cmp}
use Rattle.cedar_names.specs.HashLaws.{id_eq, words_eq-parts}
use Rattle.cedar_names.specs.Identifiers.{id_words}
use Rattle.cedar_names.specs.Order.{words_cmp, words_eq}
use Rattle.cedar_names.specs.Components.{components}
use Rattle.cedar_names.specs.declared.id.Id.{Id}
use Rattle.cedar_names.specs.declared.internal_name.InternalName.{InternalName}

-- the order of two identifiers is that of their words
abbrev pub id_cmp : Id → Id → Ordering
id_cmp i j = slice_cmp nat_cmp i.word j.word

-- two lists of identifiers are ordered as their words
pub slice_cmp-id_words : (is js : List Id) → slice_cmp id_cmp is js ≡ words_cmp (id_words is) (id_words js)
slice_cmp-id_words [] [] = refl
slice_cmp-id_words [] (j ∷ js) = refl
slice_cmp-id_words (i ∷ is) [] = refl
slice_cmp-id_words (i ∷ is) (j ∷ js) = ap (ordering_then (id_cmp i j)) (slice_cmp-id_words is js)

then-equal : (o : Ordering) → ordering_then o Equal ≡ o
then-equal Less = refl
then-equal Equal = refl
then-equal Greater = refl

then-then : (o p r : Ordering) → ordering_then o (ordering_then p r) ≡ ordering_then (ordering_then o p) r
then-then Less p r = refl
then-then Equal p r = refl
then-then Greater p r = refl

-- lists of one length decide before what stands behind them
slice_cmp-last : (is js : List Id) (i j : Id) → length is ≡ length js → slice_cmp id_cmp (is ++ i ∷ []) (js ++ j ∷ []) ≡ ordering_then (slice_cmp id_cmp is js) (id_cmp i j)
slice_cmp-last [] [] i j same = then-equal (id_cmp i j)
slice_cmp-last [] (y ∷ ys) i j same = absurd cc
slice_cmp-last (x ∷ xs) [] i j same = absurd cc
slice_cmp-last (x ∷ xs) (y ∷ ys) i j same =
    ap (ordering_then (id_cmp x y)) (slice_cmp-last xs ys i j (omega arith)) ∙ then-then (id_cmp x y) (slice_cmp id_cmp xs ys) (id_cmp i j)

-- the order of the identifiers of two names is that of their components
pub slice_cmp-components : (n m : InternalName) → slice_cmp id_cmp (n.namespace ++ n.basename ∷ []) (m.namespace ++ m.basename ∷ []) ≡ words_cmp (components n) (components m)
slice_cmp-components n m = slice_cmp-id_words (n.namespace ++ n.basename ∷ []) (m.namespace ++ m.basename ∷ [])

-- what the test of the namespaces answers after basenames that are equal
pub words_eq-then : (n m : InternalName) (r s : Bool) → r ≡ id_eq n.basename m.basename → r ≡ true → s ≡ pointwise id_eq n.namespace m.namespace → s ≡ words_eq (components n) (components m)
words_eq-then n m r s base equal rest = rw (← words_eq-parts n.namespace m.namespace n.basename m.basename, ← base, equal) rest

-- what the test answers after basenames that differ
pub words_eq-else : (n m : InternalName) (r : Bool) → r ≡ id_eq n.basename m.basename → r ≡ false → r ≡ words_eq (components n) (components m)
words_eq-else n m r base differ = rw (← words_eq-parts n.namespace m.namespace n.basename m.basename, ← base, differ) refl

-- namespaces of one length decide before the basenames
pub words_cmp-parts : (n m : InternalName) → length n.namespace ≡ length m.namespace → words_cmp (components n) (components m) ≡ ordering_then (slice_cmp id_cmp n.namespace m.namespace) (id_cmp n.basename m.basename)
words_cmp-parts n m same = sym (slice_cmp-components n m) ∙ slice_cmp-last n.namespace m.namespace n.basename m.basename same
