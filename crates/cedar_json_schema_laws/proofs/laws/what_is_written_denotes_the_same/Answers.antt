-- SPDX-License-Identifier: Apache-2.0
use Rattle.cedar_json_schema_laws.proofs.ReadAlike.{denotes_declared, denotes_written, well_formed_written}
use Rattle.cedar_json_schema_laws.proofs.laws.what_is_written_denotes_the_same.Goals as goal

pub returns-clause-well_formed : goal.returns-clause-well_formed
returns-clause-well_formed c = λ F extensions writable sound.
    well_formed_written F extensions (c.what_is_written_has_the_shape.ensures.fragment F writable) sound

pub returns-clause-denotes : goal.returns-clause-denotes
returns-clause-denotes c = λ F extensions S writable sound denotes.
    denotes_written F extensions (c.what_is_written_has_the_shape.ensures.fragment F writable) sound S denotes

pub returns-clause-text : goal.returns-clause-text
returns-clause-text c = λ source F extensions warned S writable is denoted.
    denotes_written F extensions (c.what_is_written_has_the_shape.ensures.fragment F writable) is.sound S (denotes_declared source extensions F warned S is denoted)
