-- SPDX-License-Identifier: Apache-2.0
-- What the crates above cite of `cedar_world`.
pub use Rattle.cedar_world.specs.DefinitionViews
pub use Rattle.cedar_world.specs.Definitions
pub use Rattle.cedar_world.specs.Denotes
pub use Rattle.cedar_world.specs.Descents
pub use Rattle.cedar_world.specs.Missing
pub use Rattle.cedar_world.specs.Qualified
pub use Rattle.cedar_world.specs.Schemas
pub use Rattle.cedar_world.specs.Undeclared
pub use Rattle.cedar_world.specs.Worlds
