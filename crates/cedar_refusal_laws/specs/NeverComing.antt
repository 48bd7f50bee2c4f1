-- SPDX-License-Identifier: Apache-2.0
-- Refusals of resolving that never come where each reference has the kind that its place gives it.
use Rattle.std.specs.Prelude.{Bool, true, false}
use Rattle.cedar_schema_error.specs.Refusals.{Refusal, ReservedName, CommonTypeInvariantViolation, UndeclaredEntityTypes, HandedIn}

-- a name with `__cedar` as a target, a common type that is none, entity types that aren't declared, and an error that no rule of schemas gives
abbrev pub never_comes : Refusal → Bool
never_comes (ReservedName name) = true
never_comes (CommonTypeInvariantViolation name) = true
never_comes (UndeclaredEntityTypes name names) = true
never_comes (HandedIn e) = true
never_comes e = false
