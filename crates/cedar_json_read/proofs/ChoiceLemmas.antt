-- SPDX-License-Identifier: Apache-2.0
-- Enumerated entity types: at least one entity, and no key of others.
use Rattle.std.proofs.Common.{◌≡◌, ℕ, List, [], ◌∷◌, Option, Some, None, refl, sym, subst, ap, ◌∙◌}
use Rattle.cedar_text.specs.Lists.{elements}
use Rattle.cedar_text.specs.declared.non_empty.NonEmpty.{NonEmpty}
use Rattle.serde_json.specs.Data.{Data, Items, no_items, item}
use Rattle.serde_json.specs.Find.{as_array}
use Rattle.cedar_json_fault.specs.declared.json_fault.JsonFault.TheVariants as fault
use Rattle.cedar_json_types.specs.Faults.{here}
use Rattle.cedar_json_types.specs.Shapes.{ArrayOf, EachItem, IsText}
use Rattle.cedar_json_read.specs.Declarations.{AreChoices, AreTexts, no_choice, no_item, unexpected}

none_read : (ds : Items) → EachItem IsText ds [] → no_item (Some ds) ≡ Some (here fault.EmptyEnum)
none_read no_items each = refl
none_read (item d ds) each = absurd each

some_read : (ds : Items) (t : List ℕ) (ts : List (List ℕ)) → EachItem IsText ds (t ∷ ts) → no_item (Some ds) ≡ None
some_read no_items t ts each = absurd each
some_read (item d ds) t ts each = refl

pub no_choices : (d : Data) (items : List (List ℕ)) → AreTexts d items → items ≡ [] → no_choice d ≡ Some (here fault.EmptyEnum)
no_choices d [] texts none = ap no_item texts.1 ∙ none_read texts.0 texts.2
no_choices d (t ∷ ts) texts none = absurd (cc)

pub are_choices : (d : Data) (items : List (List ℕ)) (c : NonEmpty (List ℕ)) → AreTexts d items → elements c ≡ items → AreChoices d c
are_choices d items c texts same = subst (λ ts. AreTexts d ts) (sym same) texts

pub some_choices : (d : Data) (items : List (List ℕ)) (c : NonEmpty (List ℕ)) → AreTexts d items → elements c ≡ items → no_choice d ≡ None
some_choices d items c texts same = let are = are_choices d items c texts same in ap no_item are.1 ∙ some_read are.0 c.head c.tail are.2

pub ruleset choices = (no_choices, are_choices, some_choices)

pub some_fields : (fields : List (List ℕ)) → ¬ (fields ≡ []) → unexpected fields ≡ Some (here (fault.UnexpectedFields fields))
some_fields [] some = absurd (some refl)
some_fields (k ∷ ks) some = refl

pub no_fields : (fields : List (List ℕ)) → fields ≡ [] → unexpected fields ≡ None
no_fields fields none = ap unexpected none

pub ruleset fields = (some_fields, no_fields)
