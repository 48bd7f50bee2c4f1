-- SPDX-License-Identifier: Apache-2.0
use Rattle.std.specs.Prelude.{List}
use Rattle.cedar_names.specs.declared.id.Id.{Id}
use Rattle.cedar_names.specs.declared.namespace.Held.{Held}
use Rattle.cedar_names.specs.declared.namespace.Held.TheVariants.{Alone, Together}

-- the identifiers, whoever holds them
abbrev pub ids_held : Held → List Id
ids_held (Alone ids) = ids
ids_held (Together ids) = ids
