-- SPDX-License-Identifier: Apache-2.0
-- Uses of types by their places.
use Rattle.std.specs.Prelude.{Bool, false, List, Option}
use Rattle.std.specs.BTreeMap.{is_at}
use Rattle.std.specs.Map.{lookup}
use Rattle.cedar_names.specs.Order.{words_cmp}
use Rattle.cedar_duplicates.specs.of_schema_error.FullNames.{uid_cmp}
use Rattle.cedar_duplicates.specs.of_schema_error.Refusals.{Context, Shape, Tags, UsePlace}

-- whether two places are one
abbrev pub same_place : UsePlace → UsePlace → Bool
same_place (Shape a) (Shape b) = is_at (words_cmp a) b
same_place (Tags a) (Tags b) = is_at (words_cmp a) b
same_place (Context a) (Context b) = is_at (uid_cmp a) b
same_place a b = false

-- what stands at a place
abbrev pub at_place : {V : Type 0} → UsePlace → List (UsePlace × V) → Option V
at_place place es = lookup (same_place place) es
