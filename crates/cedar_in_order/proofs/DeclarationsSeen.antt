-- SPDX-License-Identifier: Apache-2.0
-- Declarations by name stand in order as they are seen.
use Rattle.std.proofs.Common.{◌≡◌, List, [], ◌∷◌, map, sym, subst}
use Rattle.std.specs.List.{AllByRecursion}
use Rattle.cedar_data.specs.Maps.{IsSortedMap}
use Rattle.cedar_names.specs.Order.{word_cmp}
use Rattle.cedar_tree.specs.Trees.{Text}
use Rattle.cedar_convert_fragment.specs.Fragments.{ByName, Declared}
use Rattle.cedar_in_order.specs.InOrder.{ByNameInOrder, InOrder}
use Rattle.cedar_in_order.proofs.Ascending.{seen_ascending}

module _ {K V A : Type 0} (P : A → Type 0) (word : K → Text) (see : V → Declared A) where
  abbrev seen : List (K × V) → ByName A
  seen es = map (λ e. (word e.0, see e.1)) es

  abbrev Annotated : List (K × V) → Type 0
  Annotated es = AllByRecursion {X = Text × Declared A} (λ e. InOrder e.1.annotations) (seen es)

  abbrev Contents : List (K × V) → Type 0
  Contents es = AllByRecursion {X = Text × Declared A} (λ e. P e.1.content) (seen es)

  -- a loop over `whole` that has `left` before it has found each declaration before in order
  pub record DeclarationsSoFar (whole left : List (K × V)) : Type 0 where
    pub sorted : IsSortedMap word_cmp (seen whole)
    pub annotations : Annotated left → Annotated whole
    pub contents : Contents left → Contents whole

  pub Declarations-start : (whole left : List (K × V)) → left ≡ whole → IsSortedMap (λ a b. word_cmp (word a) (word b)) whole → DeclarationsSoFar whole left
  Declarations-start whole left all sorted = record {
    sorted = seen_ascending word_cmp word see whole sorted;
    annotations = λ h. subst Annotated all h;
    contents = λ h. subst Contents all h;
  }

  pub Declarations-next : {whole left rest : List (K × V)} {e : K × V} → DeclarationsSoFar whole left → left ≡ e ∷ rest → InOrder (see e.1).annotations → P (see e.1).content → DeclarationsSoFar whole rest
  Declarations-next sofar first notes content = record {
    sorted = sofar.sorted;
    annotations = λ others. sofar.annotations (subst Annotated (sym first) (notes, others));
    contents = λ others. sofar.contents (subst Contents (sym first) (content, others));
  }

  pub Declarations-maps : {whole left : List (K × V)} → DeclarationsSoFar whole left → left ≡ [] → ByNameInOrder (seen whole)
  Declarations-maps sofar none = (sofar.sorted, sofar.annotations (subst Annotated (sym none) tt))

  pub Declarations-types : {whole left : List (K × V)} → DeclarationsSoFar whole left → left ≡ [] → AllByRecursion {X = Text × Declared A} (λ e. P e.1.content) (seen whole)
  Declarations-types sofar none = sofar.contents (subst Contents (sym none) tt)

pub ruleset each_declaration = (Declarations-start, Declarations-next, Declarations-maps, Declarations-types)
