-- SPDX-License-Identifier: Apache-2.0
-- When the steps of a check pass.
use Rattle.std.proofs.Common.{◌≡◌, ℕ, ◌+◌, Bool, true, false, if◌then◌else◌, List, decimal, Option, Some, None, refl, ap, ◌∙◌, subst}
use Rattle.std.specs.declared.result.Result.TheVariants.{Ok, Err}
use Rattle.cedar_text.specs.Words.{has_word}
use Rattle.serde_json.specs.Data.{Data, null, boolean, number, string, array, object, Items, no_items, item, Members, no_members, member}
use Rattle.serde_json.specs.Find.{get}
use Rattle.cedar_json_types.specs.Shapes.{Keyed, KeysWithin}
use Rattle.cedar_checks.proofs.Steps.{both-pass, then-pass}
use Rattle.cedar_conform_fault.specs.Flaws.{Flaw}
use Rattle.cedar_conform.specs.Checks.{Check, each_item, each_member, here, if_there, in_array, in_field, in_object, in_text, key_check, keys_check, needs, under}
use Rattle.cedar_conform.specs.Entities.{IfThere}
use Rattle.cedar_conform.specs.Fits.{EachItem}
use Rattle.cedar_conform.specs.References.{At}

pub under-pass : {V : Type 0} (k : List ℕ) (check : Check V) (v : V) → under k check ≡ Ok v → check ≡ Ok v
under-pass k (Ok w) v is = is
under-pass k (Err m) v is = absurd (cc)

pub pass-under : {V : Type 0} (k : List ℕ) (check : Check V) (v : V) → check ≡ Ok v → under k check ≡ Ok v
pass-under k check v is = ap (under k) is

-- what a test decides
pub test-pass : {V : Type 0} (b : Bool) (v w : V) (flaw : Flaw) → (if b then Ok v else here flaw) ≡ Ok w → (b ≡ true) × (v ≡ w)
test-pass true v w flaw is = (refl, cc)
test-pass false v w flaw is = absurd (cc)

pub pass-test : {V : Type 0} (b : Bool) (v : V) (flaw : Flaw) → b ≡ true → (if b then Ok v else here flaw) ≡ Ok v
pass-test b v flaw is = ap (λ c. if c then Ok v else here flaw) is

-- ---- members

pub field-pass : {V : Type 0} (k : List ℕ) (check : Data → Check V) (o : Option Data) (v : V) → in_field k check o ≡ Ok v → (e : Data) × (o ≡ Some e) × (check e ≡ Ok v)
field-pass k check None v is = absurd (cc)
field-pass k check (Some e) v is = (e, refl, under-pass k (check e) v is)

pub needs-pass : {V : Type 0} (k : List ℕ) (check : Data → Check V) (d : Data) (v : V) → needs k check d ≡ Ok v → At k (λ e. check e ≡ Ok v) d
needs-pass k check d v is = field-pass k check (get k d) v is

pub pass-needs : {V : Type 0} (k : List ℕ) (check : Data → Check V) (d : Data) (v : V) → At k (λ e. check e ≡ Ok v) d → needs k check d ≡ Ok v
pass-needs k check d v at = ap (in_field k check) at.1 ∙ pass-under k (check at.0) v at.2

-- P of the member at the key leads to Q of it
pub at-map : {P Q : Data → Type 0} (k : List ℕ) (d : Data) → ((e : Data) → P e → Q e) → At k P d → At k Q d
at-map k d f at = (at.0, at.1, f at.0 at.2)

pub allows-pass : (k : List ℕ) (check : Data → Check (Unit {0})) (o : Option Data) → if_there k check o ≡ Ok tt → IfThere (λ e. check e ≡ Ok tt) o
allows-pass k check None is = tt
allows-pass k check (Some e) is = under-pass k (check e) tt is

pub pass-allows : (k : List ℕ) (check : Data → Check (Unit {0})) (o : Option Data) → IfThere (λ e. check e ≡ Ok tt) o → if_there k check o ≡ Ok tt
pass-allows k check None there = refl
pass-allows k check (Some e) there = pass-under k (check e) tt there

pub if-there-map : {P Q : Data → Type 0} (o : Option Data) → ((e : Data) → P e → Q e) → IfThere P o → IfThere Q o
if-there-map None f there = tt
if-there-map (Some e) f there = f e there

-- ---- kinds

pub object-pass : {V : Type 0} (more : Members → Check V) (d : Data) (v : V) → in_object more d ≡ Ok v → (ms : Members) × (d ≡ object ms) × (more ms ≡ Ok v)
object-pass more null v is = absurd (cc)
object-pass more (boolean b) v is = absurd (cc)
object-pass more (number n) v is = absurd (cc)
object-pass more (string s) v is = absurd (cc)
object-pass more (array ds) v is = absurd (cc)
object-pass more (object ms) v is = (ms, refl, is)

pub array-pass : {V : Type 0} (more : Items → Check V) (d : Data) (v : V) → in_array more d ≡ Ok v → (ds : Items) × (d ≡ array ds) × (more ds ≡ Ok v)
array-pass more null v is = absurd (cc)
array-pass more (boolean b) v is = absurd (cc)
array-pass more (number n) v is = absurd (cc)
array-pass more (string s) v is = absurd (cc)
array-pass more (array ds) v is = (ds, refl, is)
array-pass more (object ms) v is = absurd (cc)

pub text-pass : {V : Type 0} (more : List ℕ → Check V) (d : Data) (v : V) → in_text more d ≡ Ok v → (s : List ℕ) × (d ≡ string s) × (more s ≡ Ok v)
text-pass more null v is = absurd (cc)
text-pass more (boolean b) v is = absurd (cc)
text-pass more (number n) v is = absurd (cc)
text-pass more (string s) v is = (s, refl, is)
text-pass more (array ds) v is = absurd (cc)
text-pass more (object ms) v is = absurd (cc)

-- ---- keys

keys-pass-members : (keys : List (List ℕ)) (ms : Members) → each_member (λ k d. key_check keys k) ms ≡ Ok tt → KeysWithin keys ms
keys-pass-members keys no_members is = tt
keys-pass-members keys (member k d ms) is =
    let steps = both-pass (key_check keys k) (λ _. each_member (λ k d. key_check keys k) ms) tt is in
    ((test-pass (has_word keys k) tt steps.0 _ steps.1).0, keys-pass-members keys ms steps.2)

pass-keys-members : (keys : List (List ℕ)) (ms : Members) → KeysWithin keys ms → each_member (λ k d. key_check keys k) ms ≡ Ok tt
pass-keys-members keys no_members within = refl
pass-keys-members keys (member k d ms) within =
    then-pass (key_check keys k) (λ _. each_member (λ k d. key_check keys k) ms) tt tt (pass-test (has_word keys k) tt _ within.0) (pass-keys-members keys ms within.1)

pub keys-pass : (keys : List (List ℕ)) (d : Data) → keys_check keys d ≡ Ok tt → Keyed keys d
keys-pass keys null is = absurd (cc)
keys-pass keys (boolean b) is = absurd (cc)
keys-pass keys (number n) is = absurd (cc)
keys-pass keys (string s) is = absurd (cc)
keys-pass keys (array ds) is = absurd (cc)
keys-pass keys (object ms) is = (ms, refl, keys-pass-members keys ms is)

pub pass-keys : (keys : List (List ℕ)) (d : Data) → Keyed keys d → keys_check keys d ≡ Ok tt
pass-keys keys null keyed = absurd (cc)
pass-keys keys (boolean b) keyed = absurd (cc)
pass-keys keys (number n) keyed = absurd (cc)
pass-keys keys (string s) keyed = absurd (cc)
pass-keys keys (array ds) keyed = absurd (cc)
pass-keys keys (object ms) keyed = subst (λ m. each_member (λ k d. key_check keys k) m ≡ Ok tt) (cc) (pass-keys-members keys keyed.0 keyed.2)

-- ---- items

pub items-pass : {P : Data → Type 0} (check : Data → Check (Unit {0})) (place : ℕ) (ds : Items) → ((d : Data) → check d ≡ Ok tt → P d) → each_item check place ds ≡ Ok tt → EachItem P ds
items-pass check place no_items f is = tt
items-pass check place (item d ds) f is =
    let steps = both-pass (under (decimal place) (check d)) (λ _. each_item check (place + 1) ds) tt is in
    (f d (under-pass (decimal place) (check d) tt steps.1), items-pass check (place + 1) ds f steps.2)

pub pass-items : {P : Data → Type 0} (check : Data → Check (Unit {0})) (place : ℕ) (ds : Items) → ((d : Data) → P d → check d ≡ Ok tt) → EachItem P ds → each_item check place ds ≡ Ok tt
pass-items check place no_items f each = refl
pass-items check place (item d ds) f each =
    then-pass (under (decimal place) (check d)) (λ _. each_item check (place + 1) ds) tt tt (pass-under (decimal place) (check d) tt (f d each.0)) (pass-items check (place + 1) ds f each.1)
