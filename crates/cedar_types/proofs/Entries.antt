-- SPDX-License-Identifier: Apache-2.0
use Rattle.std.proofs.Common.{◌≡◌, ℕ, List, Result, Ok, Err, IfOk, ap, sym, ◌∙◌, subst}
use Rattle.cedar_types.specs.declared.ty.AttributeType.{AttributeType}
use Rattle.cedar_types.specs.declared.ty.Attributes.{Attributes, out-roll-Attributes}
use Rattle.cedar_types.specs.Types.{entries, attributes_of}

-- attributes have the entries that they were made of
pub entries-attributes_of : (es : List (List ℕ × AttributeType)) → entries (attributes_of es) ≡ es
entries-attributes_of es = ap (λ a. a.map) (out-roll-Attributes (record { map = es }))

-- what holds of the entries of a map holds of the attributes that are made of it
pub made-entries : {E : Type 0} (made : Result Attributes E) (es : List (List ℕ × AttributeType)) (P : List (List ℕ × AttributeType) → Type 0) → IfOk made (λ attrs. attrs ≡ attributes_of es) → P es → IfOk made (λ attrs. P (entries attrs))
made-entries (Ok attrs) es P is p = subst P (sym (ap entries is ∙ entries-attributes_of es)) p
made-entries (Err e) es P is p = tt
