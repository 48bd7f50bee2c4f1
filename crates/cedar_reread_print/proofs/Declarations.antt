-- SPDX-License-Identifier: Apache-2.0
-- What printed entity types and common types say is what they are seen to say, and their pieces stand apart.
use Rattle.std.proofs.Common.{◌≡◌, ℕ, Bool, true, false, List, [], ◌∷◌, ◌++◌, codes, Option, Some, None, map, refl, ap, ◌∙◌, subst, inr, append_assoc, if◌then◌else◌}
use Rattle.std.specs.Option.{option_map}
use Rattle.cedar_text.specs.Lists.{elements}
use Rattle.cedar_text.specs.declared.non_empty.NonEmpty.{NonEmpty}
use Rattle.cedar_names.specs.Identifiers.{unreserved_word}
use Rattle.cedar_names.specs.declared.annotation.Annotations.{Annotations}
use Rattle.cedar_names.specs.declared.id.UnreservedId.{UnreservedId}
use Rattle.cedar_print.specs.Annotations.{annotations_pieces}
use Rattle.cedar_print.specs.Pieces.{Pieces, named, quoted_alone}
use Rattle.cedar_print_laws.specs.Apart.{a_word, other, Apart}
use Rattle.cedar_tree.specs.Meanings.{annotations_tree}
use Rattle.cedar_written.specs.Printed.{print_type}
use Rattle.cedar_written.specs.declared.common_type_id.CommonTypeId.{CommonTypeId}
use Rattle.cedar_written.specs.declared.raw_name.RawName.{RawName}
use Rattle.cedar_written.specs.declared.ty.SchemaType.{SchemaType}
use Rattle.cedar_fragment.specs.Printed.{closing, common_head, entity_head, is_empty_type, print_choices, print_common, print_entity, print_entity_declaration, print_kind, print_parents, print_shape_clause, print_tags, shape_printed}
use Rattle.cedar_fragment.specs.Shapes.{type_of_shape}
use Rattle.cedar_fragment.specs.declared.attributes_or_context.AttributesOrContext.{AttributesOrContext}
use Rattle.cedar_fragment.specs.declared.definitions.CommonType.{CommonType}
use Rattle.cedar_fragment.specs.declared.definitions.EntityType.{EntityType}
use Rattle.cedar_fragment.specs.declared.definitions.EntityTypeKind.{EntityTypeKind}
use Rattle.cedar_fragment.specs.declared.definitions.EntityTypeKind.TheVariants as sort
use Rattle.cedar_convert_fragment.specs.Views.{common_seen, common_word, entity_seen, kind_seen, name_at, type_seen}
use Rattle.cedar_reread.specs.Said.{Tokens, mark_token, said_annotations, said_common_entry, said_entity, said_entity_entry, said_in, said_list, said_name, said_shape, said_tags, said_text, said_type, word_token}
use Rattle.cedar_reread_print.specs.Spoken.{say, words}
use Rattle.cedar_reread_print.proofs.Empty.{empty_alike}
use Rattle.cedar_reread_print.proofs.Ends.{Ends, Lines, Passes, annotations_lines, list_ends, more_lines, named_ends, one_blank, one_end, passes_before, quoted_ends}
use Rattle.cedar_reread_print.proofs.Names.{id_is_word, unreserved_identifier}
use Rattle.cedar_reread_print.proofs.Pieces.{annotations_said, list_said, named_said, said_before}
use Rattle.cedar_reread_print.proofs.Types.{type_prints}

-- pieces of these tokens that stand where they may stand behind a word
abbrev pub Continues : Pieces RawName → Tokens → Type 0
Continues ps ts = (say ps ≡ ts) × Passes ps

-- lines of these tokens
abbrev pub AreLines : Pieces RawName → Tokens → Type 0
AreLines ps ts = (say ps ≡ ts) × Lines ps

pub continues_before : (ps qs : Pieces RawName) (ts us : Tokens) → Continues ps ts → Continues qs us → Continues (ps ++ qs) (ts ++ us)
continues_before ps qs ts us first others = (said_before ps qs ts us first.0 others.0, passes_before ps qs first.1 others.1)

-- ---- lists

module _ {T A : Type 0} (parts : T → Pieces RawName) (said : A → Tokens) (value : T → A) (same : (t : T) → say (parts t) ≡ said (value t)) (ends : (t : T) → Ends (parts t)) where
  -- ` in [P, P]`
  pub parents_print : (ps : List T) → Continues (print_parents parts ps) (said_in said (map value ps))
  parents_print [] = (refl, λ rest apart. apart)
  parents_print (p ∷ ps) = (
    ap (λ (ts : Tokens). word_token (codes "in") ∷ ts) (list_said parts said value same (p ∷ ps)),
    λ rest apart. (one_blank, (tt, refl, (one_blank, list_ends parts ends (p ∷ ps) rest apart))),
  )

texts_are : (ts : List (List ℕ)) → map (λ (t : List ℕ). t) ts ≡ ts
texts_are [] = refl
texts_are (t ∷ ts) = ap (λ (l : List (List ℕ)). t ∷ l) (texts_are ts)

-- ` enum ["A", "B"]`
choices_print : (choices : NonEmpty (List ℕ)) → Continues (print_choices choices) (word_token (codes "enum") ∷ said_list said_text (elements choices))
choices_print choices = (
  ap (λ (ts : Tokens). word_token (codes "enum") ∷ ts) (list_said quoted_alone said_text (λ (t : List ℕ). t) (λ t. refl) (elements choices) ∙ ap (said_list said_text) (texts_are (elements choices))),
  λ rest apart. (one_blank, (tt, refl, (one_blank, list_ends quoted_alone quoted_ends (elements choices) rest apart))),
)

-- ---- shapes and tags

-- ` = SHAPE`, unless it is empty
shape_prints : (s : AttributesOrContext RawName) → Continues (print_shape_clause s) (said_shape (type_seen (type_of_shape s)))
shape_prints s = subst (λ (b : Bool). Continues (print_shape_clause s) (if b then [] else mark_token (codes "=") ∷ said_type (type_seen s.0))) (empty_alike s.0) (by (is_empty_type s.0))
  where
    by : (b : Bool) → Continues (if b then [] else shape_printed s) (if b then [] else mark_token (codes "=") ∷ said_type (type_seen s.0))
    by true = (refl, λ rest apart. apart)
    by false = (
      ap (λ (ts : Tokens). mark_token (codes "=") ∷ ts) (type_prints s.0).0,
      λ rest apart. (one_blank, (tt, inr (61, refl, refl), (one_blank, (type_prints s.0).1 rest apart))),
    )

-- ` tags TYPE`, where there are tags
tags_print : (tags : Option (SchemaType RawName)) → Continues (print_tags tags) (said_tags (option_map type_seen tags))
tags_print None = (refl, λ rest apart. apart)
tags_print (Some ty) = (
  ap (λ (ts : Tokens). word_token (codes "tags") ∷ ts) (type_prints ty).0,
  λ rest apart. (one_blank, (tt, refl, (one_blank, (type_prints ty).1 rest apart))),
)

-- ---- entity types

kind_prints : (kind : EntityTypeKind RawName) → Continues (print_kind kind) (said_entity (kind_seen kind))
kind_prints (sort.Standard e) =
    continues_before (print_parents named e.member_of_types) (print_shape_clause e.shape ++ print_tags e.tags) _ _ (parents_print named said_name name_at named_said named_ends e.member_of_types)
    (continues_before (print_shape_clause e.shape) (print_tags e.tags) _ _ (shape_prints e.shape) (tags_print e.tags))
kind_prints (sort.Enum choices) = choices_print choices

-- ---- declarations

-- `;` and the end of the line
pub closing_line : (rest : Pieces RawName) → Apart words other rest → Apart words a_word (closing ++ rest)
closing_line rest apart = (tt, inr (59, refl, refl), (one_end, apart))

-- a declaration: its annotations, its head, its body and `;`
pub declaration_prints : (a : Annotations) (head body : Pieces RawName) (ts us : Tokens) → say head ≡ ts → say body ≡ us → Ends (head ++ body)
    → AreLines (annotations_pieces a ++ (head ++ (body ++ closing))) (said_annotations (annotations_tree a) ++ (ts ++ (us ++ mark_token (codes ";") ∷ [])))
declaration_prints a head body ts us head_said body_said ends = (
  said_before (annotations_pieces a) (head ++ (body ++ closing)) _ _ (annotations_said a) (said_before head (body ++ closing) ts _ head_said (said_before body closing us _ body_said refl)),
  more_lines (annotations_pieces a) (head ++ (body ++ closing)) (annotations_lines a) lines,
)
  where
    lines : Lines (head ++ (body ++ closing))
    lines rest apart =
        let together : (head ++ body) ++ (closing ++ rest) ≡ (head ++ (body ++ closing)) ++ rest = simp append_assoc in
        subst (λ l. Apart words other l) together (ends (closing ++ rest) (closing_line rest apart))

pub common_prints : (e : CommonTypeId × CommonType RawName) → AreLines (print_common e) (said_common_entry (common_word e.0, common_seen e.1))
common_prints e = declaration_prints e.1.annotations (common_head e.0) (print_type e.1.ty) _ _ refl (type_prints e.1.ty).0 ends
  where
    ends : Ends (common_head e.0 ++ print_type e.1.ty)
    ends rest apart =
        (tt, refl, (one_blank, (tt, id_is_word (common_word e.0) (unreserved_identifier e.0.id), (one_blank, (tt, inr (61, refl, refl), (one_blank, (type_prints e.1.ty).1 rest apart))))))

pub entity_prints : (e : UnreservedId × EntityType RawName) → AreLines (print_entity_declaration e) (said_entity_entry (unreserved_word e.0, entity_seen e.1))
entity_prints e = declaration_prints e.1.annotations (entity_head e.0) (print_entity e.1) _ _ refl (kind_prints e.1.kind).0 ends
  where
    ends : Ends (entity_head e.0 ++ print_entity e.1)
    ends rest apart = (tt, refl, (one_blank, (tt, id_is_word (unreserved_word e.0) (unreserved_identifier e.0), (kind_prints e.1.kind).1 rest apart)))
