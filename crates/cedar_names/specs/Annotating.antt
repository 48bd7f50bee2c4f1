-- SPDX-License-Identifier: Apache-2.0
use Rattle.std.specs.Prelude.{ℕ, List, Option, ◌++◌, codes}
use Rattle.std.specs.List.{flat_map}
use Rattle.std.specs.Map.{lookup}
use Rattle.std.specs.Str.{bytes_eq}
use Rattle.std.specs.declared.cmp.Ordering.{Ordering}
use Rattle.cedar_text.specs.Escapes.{escaped}
use Rattle.cedar_names.specs.Identifiers.{any_word}
use Rattle.cedar_names.specs.Order.{word_cmp}
use Rattle.cedar_names.specs.declared.annotation.Annotation.{Annotation}
use Rattle.cedar_names.specs.declared.annotation.Annotations.{Annotations}
use Rattle.cedar_names.specs.declared.any_id.AnyId.{AnyId}

-- the order of keys, by their words
abbrev pub any_cmp : AnyId → AnyId → Ordering
any_cmp a b = word_cmp (any_word a) (any_word b)

-- the annotations with their keys, in key order
abbrev pub annotation_entries : Annotations → List (AnyId × Annotation)
annotation_entries a = a.map

-- the annotation at the key of this word
abbrev pub annotation_at : List (AnyId × Annotation) → List ℕ → Option Annotation
annotation_at es name = lookup (λ id. bytes_eq name (any_word id)) es

-- `@key("value")` and the end of the line
abbrev pub annotation_line : AnyId × Annotation → List ℕ
annotation_line e = codes "@" ++ any_word e.0 ++ codes "(\"" ++ escaped e.1.val ++ codes "\")\n"

-- a line for each
abbrev pub annotation_lines : Annotations → List ℕ
annotation_lines a = flat_map annotation_line (annotation_entries a)
