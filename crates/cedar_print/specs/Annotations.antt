-- SPDX-License-Identifier: Apache-2.0
-- Printed annotations: a line for each, in the order of their keys.
use Rattle.std.specs.Prelude.{ℕ, List, [], ◌∷◌, Option, None, codes}
use Rattle.std.specs.List.{flat_map}
use Rattle.cedar_names.specs.Identifiers.{any_word}
use Rattle.cedar_names.specs.Annotating.{annotation_entries}
use Rattle.cedar_names.specs.declared.annotation.Annotation.{Annotation}
use Rattle.cedar_names.specs.declared.annotation.Annotations.{Annotations}
use Rattle.cedar_names.specs.declared.any_id.AnyId.{AnyId}
use Rattle.cedar_print.specs.Pieces.{Pieces, word, mark, quoted, line_end}

module _ {N : Type 0} where
  -- `@key("value")` and the end of the line
  abbrev pub annotation_pieces : AnyId × Annotation → Pieces N
  annotation_pieces e =
      mark (codes "@") ∷ word (any_word e.0) ∷ mark (codes "(") ∷ quoted e.1.val ∷ mark (codes ")") ∷ line_end ∷ []

  abbrev pub annotations_pieces : Annotations → Pieces N
  annotations_pieces a = flat_map annotation_pieces (annotation_entries a)

-- of what holds no names, none has to show itself
abbrev pub nameless : ⊥ → Option (List ℕ)
nameless n = None
