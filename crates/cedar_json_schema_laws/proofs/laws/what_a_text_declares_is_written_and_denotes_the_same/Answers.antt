-- SPDX-License-Identifier: Apache-2.0
use Rattle.cedar_json_schema_laws.proofs.laws.what_a_text_declares_is_written_and_denotes_the_same.Goals as goal

pub returns : goal.returns
returns c = λ source F extensions warned S is others denoted.
    let writable = c.what_a_text_declares_may_be_written.ensures.well_formed source F extensions warned is others in
    c.what_is_written_denotes_the_same.ensures.text source F extensions warned S writable is denoted
