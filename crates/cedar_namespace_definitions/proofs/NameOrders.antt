-- SPDX-License-Identifier: Apache-2.0
-- The names of a namespace are in the order of their identifiers.
use Rattle.std.proofs.Common.{◌≡◌, ℕ, List, [], ◌∷◌, ◌++◌, Option, Some, None, refl, ap, ◌∙◌}
use Rattle.std.specs.Cmp.{IsTotalOrder}
use Rattle.std.specs.Cmp.Lexicographic.{lists_total, nat_list_cmp_total}
use Rattle.std.specs.Ordering.{ordering_reverse, ordering_then}
use Rattle.std.specs.declared.cmp.Ordering.{Ordering}
use Rattle.std.specs.declared.cmp.Ordering.TheVariants.{Less, Equal, Greater}
use Rattle.cedar_text.specs.declared.location.Loc.{Loc}
use Rattle.cedar_names.specs.Components.{components, internal_name, qualified}
use Rattle.cedar_names.specs.Identifiers.{id_word, id_words}
use Rattle.cedar_names.specs.Names.{internal_cmp}
use Rattle.cedar_names.specs.Order.{word_cmp, words_cmp}
use Rattle.cedar_names.specs.declared.id.Id.{Id}
use Rattle.cedar_names.specs.declared.internal_name.InternalName.{InternalName}
use Rattle.cedar_namespace_definitions.specs.NamesIn.{action_at, action_key_cmp}

own_reverse : (o : Ordering) → o ≡ ordering_reverse o → o ≡ Equal
own_reverse Less same = absurd (cc)
own_reverse Equal same = refl
own_reverse Greater same = absurd (cc)

-- in a total order, each is equal to itself
pub equal_to_itself : {K : Type 0} {cmp : K → K → Ordering} → IsTotalOrder cmp → (x : K) → cmp x x ≡ Equal
equal_to_itself {cmp = cmp} total x = own_reverse (cmp x x) (total.antisymm x x)

pub then_equal : (o : Ordering) → ordering_then o Equal ≡ o
then_equal Less = refl
then_equal Equal = refl
then_equal Greater = refl

behind_same : (ids : List Id) (i j : Id) → words_cmp (id_words (ids ++ i ∷ [])) (id_words (ids ++ j ∷ [])) ≡ word_cmp (id_word i) (id_word j)
behind_same [] i j = then_equal (word_cmp (id_word i) (id_word j))
behind_same (x ∷ ids) i j = ap (λ o. ordering_then o (words_cmp (id_words (ids ++ i ∷ [])) (id_words (ids ++ j ∷ [])))) (equal_to_itself nat_list_cmp_total (id_word x)) ∙ behind_same ids i j

-- two names in one namespace
pub names_in_order : (ns : Option InternalName) (i j : Id) (loc loc' : Option Loc) → internal_cmp (qualified (internal_name i [] loc) ns) (qualified (internal_name j [] loc') ns) ≡ word_cmp (id_word i) (id_word j)
names_in_order None i j loc loc' = behind_same [] i j
names_in_order (Some ns) i j loc loc' = behind_same (ns.namespace ++ ns.basename ∷ []) i j

-- two actions of one namespace
pub actions_in_order : (ns : Option InternalName) (id id' : List ℕ) (loc loc' : Option Loc) → action_key_cmp (action_at ns id loc) (action_at ns id' loc') ≡ word_cmp id id'
actions_in_order ns id id' loc loc' = ap (λ o. ordering_then o (word_cmp id id')) (equal_to_itself (lists_total nat_list_cmp_total) (components (action_at ns id loc).ty))
