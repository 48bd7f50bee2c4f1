-- SPDX-License-Identifier: Apache-2.0
-- What is told of a schema in JSON that can't be written in the human syntax.
use Rattle.std.specs.Prelude.{◌⊎◌, ℕ, List}
use Rattle.cedar_answers.specs.Making.{TellsCollisions, TellsJsonFault}

-- this is told of a text that has a fault, or declares names that collide
abbrev pub TellsUnprintable : List ℕ → List ℕ → Type 0
TellsUnprintable text told = TellsJsonFault text told ⊎ TellsCollisions text told
