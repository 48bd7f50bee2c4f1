-- SPDX-License-Identifier: Apache-2.0
use Rattle.std.specs.String.{string_bytes}
use Rattle.std.proofs.Common.{map, codes, sym, ◌∙◌}
use Rattle.cedar_commands.proofs.Asking.{options-none, options-ext_none, single_option, no_option, is_equal, many-found}
use Rattle.cedar_commands.proofs.command_line.extensions_of.Goals as goal

pub returns-in_ok-extensions-in-empty : goal.returns-in_ok-extensions-in-empty
returns-in_ok-extensions-in-empty c = options-none _ c.in_ok-extensions-in-empty.extensions (no_option c.args.options.now c.in-empty.len_below) c.in_ok-extensions-in-empty.ensures

pub returns-then-eq : goal.returns-then-eq
returns-then-eq c =
    options-ext_none (map string_bytes c.args.options.now) (string_bytes c.option-item.result) c.none.result
    (single_option c.args.options.now c.option-item.result c.in-len1.len_at_least c.in-len1.len_below c.option-item.is)
    (sym c.as_str.ensures.value ∙ is_equal c.as_str.result.now (codes "--ext-none") c.eq.result c.eq.ensures c.if-eq.true)
    c.none.ensures

pub returns-in_default : goal.returns-in_default
returns-in_default c = many-found c.args.options.now c.named_extensions.result c.in_default.len_at_least c.named_extensions.ensures
