-- SPDX-License-Identifier: Apache-2.0
-- What comes of a step that never refuses.
use Rattle.std.proofs.Common.{◌≡◌, sym, ap}
use Rattle.std.specs.declared.result.Result.{Result}
use Rattle.std.specs.declared.result.Result.TheVariants.{Ok}
use Rattle.cedar_written.specs.declared.qualifying.Never.{Never}
use Rattle.cedar_namespace_definitions.specs.Definitions.{sure}

pub is_sure : {T : Type 0} (r : Result T Never) (t : T) → r ≡ Ok t → t ≡ sure r
is_sure r t is = sym (ap sure is)
