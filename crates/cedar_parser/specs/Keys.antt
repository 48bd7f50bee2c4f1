-- SPDX-License-Identifier: Apache-2.0
-- The keys of annotations that were found, and the annotations of the trees.
use Rattle.std.specs.Prelude.{◌≡◌, List}
use Rattle.cedar_data.specs.Sets.{contains}
use Rattle.cedar_text.specs.Words.{has_word}
use Rattle.cedar_names.specs.Annotating.{any_cmp}
use Rattle.cedar_names.specs.Identifiers.{any_word}
use Rattle.cedar_names.specs.declared.annotation.Annotation as value
use Rattle.cedar_names.specs.declared.any_id.AnyId.{AnyId}
use Rattle.cedar_grammar.specs.Grammar.{keys_of}
use Rattle.cedar_tree.specs.Meanings.{place_where}
use Rattle.cedar_tree.specs.Trees.{Node, Annotation, Annotations}

-- the keys that were found are those of the annotations of the trees
abbrev pub HaveKeys : List AnyId → Annotations → Type 0
HaveKeys keys before = (id : AnyId) → contains any_cmp keys id ≡ has_word (keys_of before) (any_word id)

-- a key and what was found for it, as one annotation at its place
abbrev pub annotation_node : AnyId × value.Annotation → Node Annotation
annotation_node a = record { node = record { key = any_word a.0; value = a.1.val }; loc = place_where a.1.loc }
