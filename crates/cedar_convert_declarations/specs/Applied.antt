-- SPDX-License-Identifier: Apache-2.0
-- What the clauses of an `appliesTo` say, as code gathers it.
use Rattle.std.specs.Prelude.{map, Option, option_map, unwrap_or}
use Rattle.cedar_fragment.specs.Shapes.{type_of_shape}
use Rattle.cedar_fragment.specs.declared.attributes_or_context.AttributesOrContext.{AttributesOrContext}
use Rattle.cedar_written.specs.declared.raw_name.RawName.{RawName}
use Rattle.cedar_convert_fragment.specs.Declares.{empty_context}
use Rattle.cedar_convert_fragment.specs.Fragments.{AppliesTo, TypeAt}
use Rattle.cedar_convert_fragment.specs.Views.{name_at, type_seen}
use Rattle.cedar_convert_declarations.specs.declared.applying.Applied as gathered

-- a context, if there is one
abbrev pub context_seen : Option (AttributesOrContext RawName) → Option TypeAt
context_seen context = option_map (λ c. type_seen (type_of_shape c)) context

-- what is gathered, with the empty context where there is none
abbrev pub applied_seen : gathered.Applied → AppliesTo
applied_seen a = record { resources = map name_at a.resources; principals = map name_at a.principals; context = unwrap_or (context_seen a.context) empty_context }
