-- SPDX-License-Identifier: Apache-2.0
-- What stands under the only key of an object.
use Rattle.std.proofs.Common.{◌≡◌, ◌≢◌, List, [], ◌∷◌, length, codes, Some, None, refl, sym, ap, ◌∙◌, arith}
use Rattle.serde_json.specs.Data.{Data, null, boolean, number, string, array, object}
use Rattle.serde_json.specs.Find.{as_object, get}
use Rattle.serde_json.specs.View.{members_view}
use Rattle.cedar_conform.specs.ValueChecks.{only_entity}
use Rattle.cedar_conform.proofs.Members.{Member}

pub no-object : (d : Data) → as_object d ≡ None → only_entity d ≡ None
no-object null is = refl
no-object (boolean b) is = refl
no-object (number n) is = refl
no-object (string s) is = refl
no-object (array ds) is = refl
no-object (object ms) is = absurd (cc)

at_object : {A : Type 0} (f : Data → A) (d : Data) (es : List Member) → as_object d ≡ Some (members_view es) → f d ≡ f (object (members_view es))
at_object f null es is = absurd (cc)
at_object f (boolean b) es is = absurd (cc)
at_object f (number n) es is = absurd (cc)
at_object f (string s) es is = absurd (cc)
at_object f (array ds) es is = absurd (cc)
at_object f (object ms) es is = ap (λ m. f (object m)) (cc)

one : (es : List Member) → length es ≡ 1 → get (codes "__entity") (object (members_view es)) ≡ only_entity (object (members_view es))
one [] is = absurd (omega (arith, is))
one (e ∷ []) is = refl
one (e ∷ f ∷ es) is = absurd (omega (arith, is))

pub one-key : (d : Data) (es : List Member) → as_object d ≡ Some (members_view es) → length es ≡ 1 → get (codes "__entity") d ≡ only_entity d
one-key d es is single = at_object (get (codes "__entity")) d es is ∙ one es single ∙ sym (at_object only_entity d es is)

other : (es : List Member) → length es ≢ 1 → only_entity (object (members_view es)) ≡ None
other [] is = refl
other (e ∷ []) is = absurd (is refl)
other (e ∷ f ∷ es) is = refl

pub other-keys : (d : Data) (es : List Member) → as_object d ≡ Some (members_view es) → length es ≢ 1 → only_entity d ≡ None
other-keys d es is many = at_object only_entity d es is ∙ other es many

pub ruleset escapes = (no-object, one-key, other-keys)
