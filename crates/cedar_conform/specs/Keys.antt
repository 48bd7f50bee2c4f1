-- SPDX-License-Identifier: Apache-2.0
-- The keys of each kind of object.
use Rattle.std.specs.Prelude.{ℕ, List}
use Rattle.cedar_conform.specs.Entities.{entity_keys}
use Rattle.cedar_conform.specs.References.{reference_keys}
use Rattle.cedar_conform.specs.declared.keys.Keyed.{Keyed}
use Rattle.cedar_conform.specs.declared.keys.Keyed.TheVariants as keyed

abbrev pub keys_of : Keyed → List (List ℕ)
keys_of keyed.Entity = entity_keys
keys_of keyed.Reference = reference_keys
