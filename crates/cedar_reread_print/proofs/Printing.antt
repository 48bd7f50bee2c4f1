-- SPDX-License-Identifier: Apache-2.0
-- What a printed fragment says is what the fragment is seen to say, and its pieces stand apart.
use Rattle.std.proofs.Common.{◌≡◌, List, [], ◌∷◌, ◌++◌, codes, Option, Some, None, map, refl, ap, ◌∙◌, subst, inr, append_assoc, append-nil}
use Rattle.std.specs.List.{flat_map}
use Rattle.cedar_names.specs.Components.{components}
use Rattle.cedar_names.specs.Identifiers.{unreserved_word}
use Rattle.cedar_names.specs.Names.{internal_of}
use Rattle.cedar_names.specs.declared.name.Name.{Name}
use Rattle.cedar_print.specs.Annotations.{annotations_pieces}
use Rattle.cedar_print.specs.Pieces.{Pieces, line_end, mark, name_pieces, space, word}
use Rattle.cedar_print_laws.specs.Apart.{other, Apart}
use Rattle.cedar_print_laws.specs.Tokens.{tokens_of}
use Rattle.cedar_written.specs.declared.raw_name.RawName.{RawName}
use Rattle.cedar_fragment.specs.ActionUids.{over_raw}
use Rattle.cedar_fragment.specs.Printed.{namespace_head, print, print_action_declaration, print_common, print_entity_declaration, print_entry, print_named, print_namespace, print_under}
use Rattle.cedar_fragment.specs.declared.definitions.Fragment as held
use Rattle.cedar_fragment.specs.declared.definitions.NamespaceDefinition.{NamespaceDefinition}
use Rattle.cedar_convert_fragment.specs.Views.{action_seen, common_seen, common_word, definition_seen, entity_seen, fragment_seen, namespace_words}
use Rattle.cedar_reread.specs.Said.{Tokens, mark_token, said_action_entry, said_common_entry, said_definition, said_entity_entry, said_fragment, said_named, said_namespace, said_path, said_under, word_token}
use Rattle.cedar_reread_print.specs.Spoken.{say, spoken, words}
use Rattle.cedar_reread_print.proofs.Actions.{action_prints}
use Rattle.cedar_reread_print.proofs.Declarations.{AreLines, common_prints, entity_prints}
use Rattle.cedar_reread_print.proofs.Ends.{Lines, annotations_lines, each_line, more_lines, one_blank, one_end, words_end}
use Rattle.cedar_reread_print.proofs.Names.{components_are_words}
use Rattle.cedar_reread_print.proofs.Pieces.{annotations_said, each_said, said_before, words_said}

-- lines before others
lines_before : (ps qs : Pieces RawName) (ts us : Tokens) → AreLines ps ts → AreLines qs us → AreLines (ps ++ qs) (ts ++ us)
lines_before ps qs ts us first others = (said_before ps qs ts us first.0 others.0, more_lines ps qs first.1 others.1)

-- several of them
each_prints : {T A : Type 0} (parts : T → Pieces RawName) (said : A → Tokens) (value : T → A) → ((t : T) → AreLines (parts t) (said (value t))) → (ts : List T) → AreLines (flat_map parts ts) (flat_map said (map value ts))
each_prints parts said value each ts = (each_said parts said value (λ t. (each t).0) ts, each_line parts (λ t. (each t).1) ts)

-- what a namespace declares
definition_prints : (n : NamespaceDefinition RawName over_raw) → AreLines (print_namespace n) (said_definition (definition_seen n))
definition_prints n =
    lines_before (flat_map print_common n.common_types) (flat_map print_entity_declaration n.entity_types ++ flat_map print_action_declaration n.actions) _ _
    (each_prints print_common said_common_entry (λ e. (common_word e.0, common_seen e.1)) common_prints n.common_types)
    (lines_before (flat_map print_entity_declaration n.entity_types) (flat_map print_action_declaration n.actions) _ _
    (each_prints print_entity_declaration said_entity_entry (λ e. (unreserved_word e.0, entity_seen e.1)) entity_prints n.entity_types)
    (each_prints print_action_declaration said_action_entry (λ e. (e.0, action_seen e.1)) action_prints n.actions))

-- the line that opens a namespace, before what it declares
head_prints : (path : Name) (ps : Pieces RawName) (ts : Tokens) → AreLines ps ts
    → AreLines (namespace_head path ++ ps) (word_token (codes "namespace") ∷ (said_path (components (internal_of path)) ++ (mark_token (codes "{") ∷ ts)))
head_prints path ps ts is = (said, lines)
  where
    path_pieces : Pieces RawName
    path_pieces = name_pieces (components (internal_of path))

    opening : Pieces RawName
    opening = space ∷ mark (codes "{") ∷ line_end ∷ []

    said : say (namespace_head path ++ ps) ≡ word_token (codes "namespace") ∷ (said_path (components (internal_of path)) ++ (mark_token (codes "{") ∷ ts))
    said =
        ap (λ (l : Pieces RawName). say (word (codes "namespace") ∷ l)) (append_assoc path_pieces opening ps)
        ∙ ap (λ (us : Tokens). word_token (codes "namespace") ∷ us) (said_before path_pieces (opening ++ ps) _ _ (words_said (components (internal_of path))) (ap (λ (us : Tokens). mark_token (codes "{") ∷ us) is.0))

    lines : Lines (namespace_head path ++ ps)
    lines rest apart =
        let together : path_pieces ++ (opening ++ (ps ++ rest)) ≡ ((path_pieces ++ opening) ++ ps) ++ rest = simp append_assoc in (
          tt,
          refl,
          (
            one_blank,
            subst (λ l. Apart words other l) together
                (words_end (components (internal_of path)) (components_are_words (internal_of path)) (opening ++ (ps ++ rest)) (one_blank, (tt, inr (123, refl, refl), (one_end, is.1 rest apart)))),
          ),
        )

-- the line that closes it
closing_prints : AreLines (mark (codes "}") ∷ line_end ∷ []) (mark_token (codes "}") ∷ [])
closing_prints = (refl, λ rest apart. (tt, inr (125, refl, refl), (one_end, apart)))

named_prints : (path : Name) (n : NamespaceDefinition RawName over_raw) → AreLines (print_named path n) (said_named (components (internal_of path)) (definition_seen n))
named_prints path n =
    lines_before (annotations_pieces n.annotations) (namespace_head path ++ (print_namespace n ++ (mark (codes "}") ∷ line_end ∷ []))) _ _ (annotations_said n.annotations, annotations_lines n.annotations)
    (head_prints path (print_namespace n ++ (mark (codes "}") ∷ line_end ∷ [])) _ (lines_before (print_namespace n) (mark (codes "}") ∷ line_end ∷ []) _ _ (definition_prints n) closing_prints))

under_prints : (path : Option Name) (n : NamespaceDefinition RawName over_raw) → AreLines (print_under path n) (said_under (namespace_words path) (definition_seen n))
under_prints None n = definition_prints n
under_prints (Some path) n = named_prints path n

fragment_prints : (F : held.Fragment RawName over_raw) → AreLines (print F) (said_fragment (fragment_seen F))
fragment_prints F = each_prints print_entry said_namespace (λ e. (namespace_words e.0, definition_seen e.1)) (λ e. under_prints e.0 e.1) F.0

-- the tokens of a printed fragment are what it says
pub print_said : (F : held.Fragment RawName over_raw) → map spoken (tokens_of words (print F)) ≡ said_fragment (fragment_seen F)
print_said F = (fragment_prints F).0

-- and its pieces stand apart
pub print_apart : (F : held.Fragment RawName over_raw) → Apart words other (print F)
print_apart F = subst (λ l. Apart words other l) (append-nil (print F)) ((fragment_prints F).1 [] tt)
