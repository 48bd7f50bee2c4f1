-- SPDX-License-Identifier: Apache-2.0
-- What printed actions say is what they are seen to say, and their pieces stand apart.
use Rattle.std.proofs.Common.{◌≡◌, ℕ, List, [], ◌∷◌, ◌++◌, codes, Option, Some, None, map, refl, ap, ◌∙◌, inr, inl, append_assoc}
use Rattle.std.specs.Option.{option_map}
use Rattle.cedar_print.specs.Pieces.{Pieces, bracketed, line_end, mark, named, quoted, space, word}
use Rattle.cedar_print_laws.specs.Apart.{IsBlank}
use Rattle.cedar_written.specs.Printed.{print_type}
use Rattle.cedar_written.specs.declared.raw_name.RawName.{RawName}
use Rattle.cedar_fragment.specs.ActionUids.{over_raw}
use Rattle.cedar_fragment.specs.Printed.{action_head, indented, print_action, print_action_declaration, print_action_parents, print_applies, print_apply_clause, print_context, print_uid, print_uid_type, unless_empty}
use Rattle.cedar_fragment.specs.declared.action_uid.ActionEntityUID.{ActionEntityUID}
use Rattle.cedar_fragment.specs.declared.attributes_or_context.AttributesOrContext.{AttributesOrContext}
use Rattle.cedar_fragment.specs.declared.definitions.ActionType.{ActionType}
use Rattle.cedar_fragment.specs.declared.definitions.ApplySpec.{ApplySpec}
use Rattle.cedar_convert_fragment.specs.Views.{action_seen, apply_seen, name_at, parent_seen, type_seen}
use Rattle.cedar_reread.specs.Said.{Tokens, mark_token, said_action_entry, said_applies, said_block, said_list, said_name, said_parent, said_parent_type, said_parents, said_type, unless_none, word_token}
use Rattle.cedar_reread_print.specs.Spoken.{say}
use Rattle.cedar_reread_print.proofs.Declarations.{AreLines, Continues, continues_before, declaration_prints, parents_print}
use Rattle.cedar_reread_print.proofs.Ends.{Ends, Passes, ends_before, list_ends, loosen, named_ends, one_blank, one_end}
use Rattle.cedar_reread_print.proofs.Pieces.{list_said, named_said, said_before}
use Rattle.cedar_reread_print.proofs.Types.{type_prints}

-- ---- parents

type_said : (ty : Option RawName) → say (print_uid_type ty) ≡ said_parent_type (option_map name_at ty)
type_said None = refl
type_said (Some n) = named_said n

type_ends : (ty : Option RawName) → Ends (print_uid_type ty)
type_ends None rest apart = (tt, refl, apart)
type_ends (Some n) rest apart = named_ends n rest apart

uid_said : (u : ActionEntityUID RawName over_raw) → say (print_uid u) ≡ said_parent (parent_seen u)
uid_said u = said_before (print_uid_type u.ty) (mark (codes "::") ∷ quoted u.id ∷ []) _ _ (type_said u.ty) refl

uid_ends : (u : ActionEntityUID RawName over_raw) → Ends (print_uid u)
uid_ends u = ends_before (print_uid_type u.ty) (mark (codes "::") ∷ quoted u.id ∷ []) (type_ends u.ty) (λ rest apart. (tt, inl refl, (tt, loosen rest apart)))

action_parents_print : (us : Option (List (ActionEntityUID RawName over_raw))) → Continues (print_action_parents us) (said_parents (option_map (map parent_seen) us))
action_parents_print None = (refl, λ rest apart. apart)
action_parents_print (Some us) = parents_print print_uid said_parent parent_seen uid_said uid_ends us

-- ---- what an action applies to

names_said : (ns : List RawName) → say (bracketed named ns) ≡ said_list said_name (map name_at ns)
names_said = list_said named said_name name_at named_said

names_end : (ns : List RawName) → Ends (bracketed named ns)
names_end = list_ends named named_ends

line_and_blanks : IsBlank (codes "\n  ")
line_and_blanks = (λ e. cc, refl)

-- the line of the context, and the brace behind it
abbrev context_line : Tokens → Tokens
context_line context = mark_token (codes ",") ∷ word_token (codes "context") ∷ mark_token (codes ":") ∷ context

context_said : (c : AttributesOrContext RawName) → say (print_context c) ≡ context_line (said_type (type_seen c.0) ++ mark_token (codes "}") ∷ [])
context_said c = ap context_line (said_before (print_type c.0) (line_end ∷ mark (codes "}") ∷ []) _ _ (type_prints c.0).0 refl)

context_passes : (c : AttributesOrContext RawName) → Passes (print_context c)
context_passes c rest apart = (
  tt,
  inr (44, refl, refl),
  (
    line_and_blanks,
    (
      tt,
      refl,
      (
        tt,
        inr (58, refl, refl),
        (
          one_blank,
          ends_before (print_type c.0) (line_end ∷ mark (codes "}") ∷ []) (type_prints c.0).1 (λ more behind. (one_end, (tt, inr (125, refl, refl), loosen more behind))) rest apart,
        ),
      ),
    ),
  ),
)

-- the line of the resources, and what stands behind it
abbrev resources_printed : ApplySpec RawName → Pieces RawName
resources_printed a = mark (codes ",") ∷ indented ∷ word (codes "resource") ∷ mark (codes ":") ∷ space ∷ (bracketed named a.resource_types ++ print_context a.context)

abbrev resources_line : Tokens → Tokens
resources_line resources = mark_token (codes ",") ∷ word_token (codes "resource") ∷ mark_token (codes ":") ∷ resources

resources_said : (a : ApplySpec RawName) → say (resources_printed a)
    ≡ resources_line (said_list said_name (map name_at a.resource_types) ++ context_line (said_type (type_seen a.context.0) ++ mark_token (codes "}") ∷ []))
resources_said a = ap resources_line (said_before (bracketed named a.resource_types) (print_context a.context) _ _ (names_said a.resource_types) (context_said a.context))

resources_pass : (a : ApplySpec RawName) → Passes (resources_printed a)
resources_pass a rest apart = (
  tt,
  inr (44, refl, refl),
  (
    line_and_blanks,
    (
      tt,
      refl,
      (
        tt,
        inr (58, refl, refl),
        (
          one_blank,
          ends_before (bracketed named a.resource_types) (print_context a.context) (names_end a.resource_types) (context_passes a.context) rest apart,
        ),
      ),
    ),
  ),
)

applies_said : (a : ApplySpec RawName) → say (print_applies a) ≡ said_block (apply_seen a)
applies_said a =
    ap (λ (ts : Tokens). word_token (codes "appliesTo") ∷ mark_token (codes "{") ∷ word_token (codes "principal") ∷ mark_token (codes ":") ∷ ts)
    (said_before (bracketed named a.principal_types) (resources_printed a) _ _ (names_said a.principal_types) (resources_said a)
    ∙ together (said_list said_name (map name_at a.principal_types)) (said_list said_name (map name_at a.resource_types)) (said_type (type_seen a.context.0)) (mark_token (codes "}") ∷ []))
  where
    together : (ps rs c end : Tokens) → ps ++ resources_line (rs ++ context_line (c ++ end)) ≡ (ps ++ resources_line (rs ++ context_line c)) ++ end
    together ps rs c end = simp append_assoc

applies_pass : (a : ApplySpec RawName) → Passes (print_applies a)
applies_pass a rest apart = (
  one_blank,
  (
    tt,
    refl,
    (
      one_blank,
      (
        tt,
        inr (123, refl, refl),
        (
          line_and_blanks,
          (
            tt,
            refl,
            (
              tt,
              inr (58, refl, refl),
              (
                one_blank,
                ends_before (bracketed named a.principal_types) (resources_printed a) (names_end a.principal_types) (resources_pass a) rest apart,
              ),
            ),
          ),
        ),
      ),
    ),
  ),
)

-- the same, where neither list is empty
filled : (ps rs : List RawName) (printed : Pieces RawName) (said : Tokens) → Continues printed said
    → Continues (unless_empty ps (unless_empty rs printed)) (unless_none (map name_at ps) (unless_none (map name_at rs) said))
filled [] rs printed said is = (refl, λ rest apart. apart)
filled (p ∷ ps) [] printed said is = (refl, λ rest apart. apart)
filled (p ∷ ps) (r ∷ rs) printed said is = is

apply_prints : (a : Option (ApplySpec RawName)) → Continues (print_apply_clause a) (said_applies (option_map apply_seen a))
apply_prints None = (refl, λ rest apart. apart)
apply_prints (Some a) = filled a.principal_types a.resource_types (print_applies a) (said_block (apply_seen a)) (applies_said a, applies_pass a)

-- ---- declarations

pub action_prints : (e : List ℕ × ActionType RawName over_raw) → AreLines (print_action_declaration e) (said_action_entry (e.0, action_seen e.1))
action_prints e = declaration_prints e.1.annotations (action_head e.0) (print_action e.1) _ _ refl body.0 ends
  where
    body : Continues (print_action e.1) (said_parents (option_map (map parent_seen) e.1.member_of) ++ said_applies (option_map apply_seen e.1.applies_to))
    body = continues_before (print_action_parents e.1.member_of) (print_apply_clause e.1.applies_to) _ _ (action_parents_print e.1.member_of) (apply_prints e.1.applies_to)

    ends : Ends (action_head e.0 ++ print_action e.1)
    ends rest apart = (tt, refl, (one_blank, (tt, loosen (print_action e.1 ++ rest) (body.1 rest apart))))
