-- SPDX-License-Identifier: Apache-2.0
use Rattle.std.specs.Prelude.{List, ◌∷◌, ◌++◌, option_to_list}
use Rattle.std.specs.Option.{option_copied}
use Rattle.std.specs.Slice.Iter.{iter_rest}
use Rattle.cedar_text.specs.declared.non_empty.NonEmpty.{NonEmpty}
use Rattle.cedar_text.specs.declared.non_empty.NonEmptyIter.{NonEmptyIter}

-- the items of a list that is not empty
abbrev pub elements : {T : Type 0} → NonEmpty T → List T
elements l = l.head ∷ l.tail

-- the items that such an iterator has still to give
abbrev pub elements_left : {T : Type 0} → NonEmptyIter T → List T
elements_left it = option_to_list (option_copied it.head) ++ iter_rest it.tail
