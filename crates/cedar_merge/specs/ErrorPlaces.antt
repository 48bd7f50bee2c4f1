-- SPDX-License-Identifier: Apache-2.0
-- Where the names that an error of merging keeps stand.
use Rattle.std.specs.Prelude.{List, None}
use Rattle.std.specs.Option.{option_map_or}
use Rattle.cedar_text.specs.declared.location.Span.{Span}
use Rattle.cedar_places.specs.Places.{name_place, range}
use Rattle.cedar_merge.specs.declared.errors.MergeError.{MergeError}
use Rattle.cedar_merge.specs.declared.errors.MergeError.TheVariants.{AnnotationConflict, DuplicateDeclaration}

-- the range of the namespace, where it has a place
abbrev pub error_spans : MergeError → List Span
error_spans (DuplicateDeclaration kind namespace name) = range (option_map_or name_place namespace None)
error_spans (AnnotationConflict namespace key) = range (name_place namespace)
