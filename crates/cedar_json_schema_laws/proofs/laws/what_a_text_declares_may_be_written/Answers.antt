-- SPDX-License-Identifier: Apache-2.0
use Rattle.cedar_json_schema_laws.proofs.DeclaredWritable.{declared_writable, well_formed_writable}
use Rattle.cedar_json_schema_laws.proofs.laws.what_a_text_declares_may_be_written.Goals as goal

pub returns-clause-declared : goal.returns-clause-declared
returns-clause-declared c = declared_writable

pub returns-clause-well_formed : goal.returns-clause-well_formed
returns-clause-well_formed c = well_formed_writable
