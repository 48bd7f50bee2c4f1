-- SPDX-License-Identifier: Apache-2.0
use Rattle.cedar_json_shape_laws.proofs.Texts.{text_clean, text_shaped}
use Rattle.cedar_json_shape_laws.proofs.laws.texts_without_fault.Goals as goal

pub returns-clause-clean : goal.returns-clause-clean
returns-clause-clean c = text_clean

pub returns-clause-shape : goal.returns-clause-shape
returns-clause-shape c = text_shaped
