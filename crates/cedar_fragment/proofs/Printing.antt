-- SPDX-License-Identifier: Apache-2.0
-- Parts of printed declarations that hold no names, or other names.
use Rattle.std.proofs.Common.{◌≡◌, ◌∙◌, ℕ, List, [], ◌∷◌, ◌++◌, Option, Some, refl, sym, ap}
use Rattle.std.specs.Prelude.{codes}
use Rattle.std.specs.Fmt.{◌++?◌}
use Rattle.cedar_types.specs.of_text.declared.non_empty.NonEmpty.{NonEmpty}
use Rattle.cedar_types.specs.of_text.Joining.{joined}
use Rattle.cedar_types.specs.of_text.Lists.{elements}
use Rattle.cedar_types.specs.of_names.Components.{components}
use Rattle.cedar_types.specs.of_names.Names.{internal_of}
use Rattle.cedar_types.specs.of_names.declared.name.Name.{Name}
use Rattle.cedar_print.specs.Annotations.{nameless}
use Rattle.cedar_print.specs.Pieces.{Pieces, line_end, mark, named, name_pieces, quoted_alone, space, text_of}
use Rattle.cedar_print.proofs.Texts.{nothing_behind, text_of-append, text_of-bracketed, text_of-name}
use Rattle.cedar_fragment.specs.Printed.{namespace_head, print_choices, print_parents}

module _ {N : Type 0} (shown : N → Option (List ℕ)) where
  pub choices-shown : (choices : NonEmpty (List ℕ)) → text_of nameless (print_choices choices) ≡ text_of shown (print_choices choices)
  choices-shown choices = ap (λ o. Some (codes " ") ++? (Some (codes "enum") ++? (Some (codes " ") ++? o))) (text_of-bracketed nameless shown quoted_alone quoted_alone (λ t. refl) (elements choices))

  -- parents, as far as each shows the same
  pub parents-shown : {T : Type 0} (parts : T → Pieces N) (ts : List T) → text_of (λ t. text_of shown (parts t)) (print_parents named ts) ≡ text_of shown (print_parents parts ts)
  parents-shown parts [] = refl
  parents-shown parts (t ∷ ts) = ap (λ o. Some (codes " ") ++? (Some (codes "in") ++? (Some (codes " ") ++? o))) (text_of-bracketed (λ t. text_of shown (parts t)) shown named parts (λ t. nothing_behind (text_of shown (parts t))) (t ∷ ts))

-- the text of the line that opens a namespace
pub head-text : {N : Type 0} (shown : N → Option (List ℕ)) (path : Name) → text_of shown (namespace_head path) ≡ Some (codes "namespace " ++ (joined (components (internal_of path)) ++ codes " {\n"))
head-text shown path =
    let ws = components (internal_of path) in
    ap (λ o. Some (codes "namespace") ++? (Some (codes " ") ++? o)) (text_of-append shown (name_pieces ws) (space ∷ mark (codes "{") ∷ line_end ∷ []) ∙ ap (λ o. o ++? Some (codes " {\n")) (text_of-name shown ws))

pub head-shown : {N : Type 0} (shown : N → Option (List ℕ)) (path : Name) → text_of nameless (namespace_head path) ≡ text_of shown (namespace_head path)
head-shown shown path = head-text nameless path ∙ sym (head-text shown path)
