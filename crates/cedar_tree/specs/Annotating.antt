-- SPDX-License-Identifier: Apache-2.0
use Rattle.std.specs.Prelude.{ℕ, List, [], ◌∷◌, ◌++◌, Option, Some, None, cond, map}
use Rattle.std.specs.Str.{bytes_eq}
use Rattle.cedar_names.specs.of_data.Maps.{map_of}
use Rattle.cedar_names.specs.Annotating.{any_cmp}
use Rattle.cedar_names.specs.Identifiers.{any_word}
use Rattle.cedar_names.specs.declared.annotation.Annotation.{Annotation}
use Rattle.cedar_names.specs.declared.any_id.AnyId.{AnyId}
use Rattle.cedar_names.specs.of_text.Places.{span_of}
use Rattle.cedar_names.specs.of_text.declared.location.Span.{Span}
use Rattle.cedar_names.specs.of_text.declared.node.Node.{Node}
use Rattle.cedar_tree.specs.declared.parse_error.UserError.{UserError}
use Rattle.cedar_tree.specs.declared.parse_error.UserError.TheVariants.{DuplicateAnnotations}

-- an annotation as it is written: its key, and its value where it has one
abbrev pub Written : Type 0
Written = Node (Node AnyId × Option (Node (List ℕ)))

-- the keys of annotations, each at its place
abbrev pub keys_written : List Written → List (Node AnyId)
keys_written ws = map (λ w. w.node.0) ws

-- the text of a value: the empty one where there is none
abbrev pub value_text : Option (Node (List ℕ)) → List ℕ
value_text None = []
value_text (Some value) = value.node

-- what an annotation means: its value at its place, at its key
abbrev pub meant : Written → AnyId × Annotation
meant w = (w.node.0.node, record { val = value_text w.node.1; loc = Some w.loc })

-- what annotations mean, in the order of their keys
abbrev pub meaning : List Written → List (AnyId × Annotation)
meaning ws = map_of any_cmp (map meant ws)

-- the place of the first key with this word
abbrev pub place_of : List (Node AnyId) → List ℕ → Option Span
place_of [] word = None
place_of (key ∷ keys) word = cond (bytes_eq (any_word key.node) word) (Some (span_of key.loc)) (place_of keys word)

-- a key with the place of an earlier one that it repeats, where it repeats one, and else what comes later
abbrev pub repeat_or : Option Span → Node AnyId → Option UserError → Option UserError
repeat_or None key later = later
repeat_or (Some first) key later = Some (DuplicateAnnotations key.node first (span_of key.loc))

-- the first of these keys that repeats one before it, those that were seen already being before all
abbrev pub repeat_behind : List (Node AnyId) → List (Node AnyId) → Option UserError
repeat_behind seen [] = None
repeat_behind seen (key ∷ keys) = repeat_or (place_of seen (any_word key.node)) key (repeat_behind (seen ++ key ∷ []) keys)

-- the first key that repeats one before it
abbrev pub repeat_in : List Written → Option UserError
repeat_in ws = repeat_behind [] (keys_written ws)
