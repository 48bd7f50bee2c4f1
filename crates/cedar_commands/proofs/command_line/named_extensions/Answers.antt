-- SPDX-License-Identifier: Apache-2.0
use Rattle.std.specs.String.{string_bytes}
use Rattle.std.proofs.Common.{map, ap, sym, ◌∙◌, []}
use Rattle.cedar_names.specs.ExtensionFaults.{extensions_fault}
use Rattle.cedar_text.specs.Words.{has_word}
use Rattle.cedar_commands.proofs.Asking.{named-faulty, named-found}
use Rattle.cedar_commands.proofs.command_line.named_extensions.Goals as goal

pub returns-in-Ok : goal.returns-in-Ok
returns-in-Ok c =
    named-found (map string_bytes c.args.options.now) c.in-Some.names.items c.in-Ok.extensions (rw c.in-Some.is at c.in_ok-names.ensures)
    (ap (extensions_fault []) (sym c.as_slice.ensures.value) ∙ c.in-Ok.ensures.ok) c.in-Ok.ensures.ascending
    (λ w. c.in-Ok.ensures.words w ∙ ap (λ names. has_word names w) c.as_slice.ensures.value)

pub returns-in-Err-Refused : goal.returns-in-Err-Refused
returns-in-Err-Refused c =
    named-faulty (map string_bytes c.args.options.now) c.in-Some.names.items c.in-Err-Refused.field-0-0 (rw c.in-Some.is at c.in_ok-names.ensures)
    (ap (extensions_fault []) (sym c.as_slice.ensures.value) ∙ (rw c.in-Err-Refused.field-0-is at c.in-Err-Refused.ensures.refused))
