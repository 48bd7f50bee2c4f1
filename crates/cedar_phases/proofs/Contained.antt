-- SPDX-License-Identifier: Apache-2.0
-- Names that a list contains.
use Rattle.std.proofs.Common.{◌≡◌, ◌&&◌, ◌||◌, Bool, true, false, IsTrue, List, [], ◌∷◌, refl, sym, ap, subst}
use Rattle.std.specs.BTreeMap.{is_at}
use Rattle.std.specs.Ordering.{is_eq}
use Rattle.std.specs.declared.cmp.Ordering.{Ordering}
use Rattle.std.specs.declared.cmp.Ordering.TheVariants.{Less, Equal, Greater}
use Rattle.cedar_data.specs.Firsts.{AllPass}
use Rattle.cedar_data.specs.Sets.{contains}
use Rattle.cedar_names.proofs.NameOrder.{words_cmp-equal}
use Rattle.cedar_names.specs.Order.{words_cmp}
use Rattle.cedar_schema_error.specs.FullNames.{FullName}

pub and_left : (a b : Bool) → IsTrue (a && b) → IsTrue a
and_left true b h = refl
and_left false b h = absurd (cc)

pub and_both : (a b : Bool) → IsTrue a → IsTrue b → IsTrue (a && b)
and_both true b h k = k
and_both false b h k = absurd (cc)

or_right : (a b : Bool) → IsTrue b → IsTrue (a || b)
or_right true b h = refl
or_right false b h = h

-- what holds of each name that a list contains holds of all its members
pub all_members : (P : FullName → Type 0) (whole ns : List FullName) → ((n : FullName) → IsTrue (contains words_cmp whole n) → P n) → ((n : FullName) → IsTrue (contains words_cmp ns n) → IsTrue (contains words_cmp whole n)) → AllPass P ns
all_members P whole [] each among = tt
all_members P whole (n ∷ ns) each among = (
  each n (among n (ap (λ o. is_eq o || contains words_cmp ns n) ((words_cmp-equal n n).1 refl))),
  all_members P whole ns each (λ m h. among m (or_right (is_at (words_cmp m) n) (contains words_cmp ns m) h)),
)

-- what holds of all members of a list holds of each name that it contains
pub of_contained : (P : FullName → Type 0) (ns : List FullName) (n : FullName) → AllPass P ns → IsTrue (contains words_cmp ns n) → P n
of_contained P [] n all h = absurd (cc)
of_contained P (m ∷ ns) n all h = by (words_cmp n m) refl h (of_contained P ns n all.1)
  where
    by : (o : Ordering) → words_cmp n m ≡ o → IsTrue (is_eq o || contains words_cmp ns n) → (IsTrue (contains words_cmp ns n) → P n) → P n
    by Less e h rest = rest h
    by Equal e h rest = subst P (sym ((words_cmp-equal n m).0 e)) all.0
    by Greater e h rest = rest h
