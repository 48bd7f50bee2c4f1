-- SPDX-License-Identifier: Apache-2.0
use Rattle.std.proofs.Common.{rules, ◌≡◌, ◌++◌, ◌∙◌, false, map, flat_map}
use Rattle.std.specs.List.{list_any}
use Rattle.cedar_text.specs.Words.{has_word}
use Rattle.cedar_names.specs.Extensions.{extension_words}
use Rattle.cedar_tree.specs.Meanings.{annotated_tree, decl_tree, node_of}
use Rattle.cedar_convert_faults.specs.Bindings.{common_names, entity_names, names_in}
use Rattle.cedar_convert_faults.specs.Repeats.{Names, words_of}
use Rattle.cedar_convert_warnings.specs.Shadowing.{builtin_shadowed, common_shadows, places_by_name}
use Rattle.cedar_convert_warnings.proofs.Builtins.{none_shadowed}
use Rattle.cedar_convert_warnings.proofs.shadowing.namespace_warnings.Goals as goal

pub returns-then-are_apart : goal.returns-then-are_apart
returns-then-are_apart c =
    let extensions = extension_words c.args.extensions.now in
    let decls = map (annotated_tree (node_of decl_tree)) c.args.decls.now in
    let names : Names = c.in_ok-names.names in
    let commons : Names = c.in_ok-common_names.common_names in
    let names_are : names ≡ names_in entity_names decls = c.in_ok-names.ensures in
    let commons_are : commons ≡ names_in common_names decls = c.in_ok-common_names.ensures in
    let off : c.has_builtin.result ≡ false = search rules in
    let off_there : c.has_builtin-then-not-has_builtin.result ≡ false = search rules in
    let apart : list_any (has_word (words_of names)) (words_of commons) ≡ false = search rules in
    c.new.ensures
    ∙ none_shadowed extensions names commons c.has_builtin.result c.has_builtin-then-not-has_builtin.result c.has_builtin.ensures off c.has_builtin-then-not-has_builtin.ensures off_there apart
    ∙ (λ i. flat_map (common_shadows extensions (places_by_name (names_are i))) (places_by_name (commons_are i)) ++ flat_map (builtin_shadowed extensions) (places_by_name (names_are i)))
