-- SPDX-License-Identifier: Apache-2.0
-- Attributes are deeper than each attribute among them.
use Rattle.std.proofs.Common.{◌≡◌, ℕ, ◌+◌, max, ◌<◌, List, ◌∷◌, ap, arith}
use Rattle.std.specs.Map.{values_of}
use denote.Param.Weighed.{most}
use Rattle.cedar_types.specs.Types.{entries}
use Rattle.cedar_types.specs.declared.ty.AttributeType.{AttributeType, size-AttributeType}
use Rattle.cedar_types.specs.declared.ty.Attributes.{Attributes, size-Attributes, size_is-Attributes}

deepest : (a : Attributes) → size-Attributes a ≡ max (most size-AttributeType (values_of (entries a))) 0 + 1
deepest a = size_is-Attributes a

-- the attributes are deeper than each that is left
pub record IsDeeper (all : Attributes) (left : List (List ℕ × AttributeType)) : Type 0 where
  pub depth : most size-AttributeType (values_of left) < size-Attributes all

pub deeper-all : (a : Attributes) (left : List (List ℕ × AttributeType)) → left ≡ entries a → IsDeeper a left
deeper-all a left e =
    let same : most size-AttributeType (values_of left) ≡ most size-AttributeType (values_of (entries a)) = ap (λ es. most size-AttributeType (values_of es)) e in
    record { depth = omega (arith, deepest a) }

module _ {a : Attributes} {left rest : List (List ℕ × AttributeType)} {first : List ℕ × AttributeType} (d : IsDeeper a left) (e : left ≡ first ∷ rest) where
  pub deeper-first : size-AttributeType first.1 < size-Attributes a
  deeper-first =
      let split : most size-AttributeType (values_of left) ≡ most size-AttributeType (values_of (first ∷ rest)) = ap (λ es. most size-AttributeType (values_of es)) e in
      omega (arith, d.depth)

  pub deeper-rest : IsDeeper a rest
  deeper-rest =
      let split : most size-AttributeType (values_of left) ≡ most size-AttributeType (values_of (first ∷ rest)) = ap (λ es. most size-AttributeType (values_of es)) e in
      record { depth = omega (arith, d.depth) }
