-- SPDX-License-Identifier: Apache-2.0
use Rattle.std.proofs.Common.{map, ap, ◌∙◌, sym}
use Rattle.cedar_convert_laws.specs.Warnings.{warning_unplaced}
use Rattle.cedar_convert_laws.proofs.Warnings.{warned_alike, warned_as}
use Rattle.cedar_convert_laws.proofs.laws.warnings_by_names.Goals as goal

pub returns-clause-schema : goal.returns-clause-schema
returns-clause-schema c = warned_as

pub returns-clause-text : goal.returns-clause-text
returns-clause-text c = λ text extensions fragment given d. ap (map warning_unplaced) d.warned ∙ warned_as extensions d.tree fragment d.declares

pub returns-clause-alike : goal.returns-clause-alike
returns-clause-alike c = λ text other extensions fragment same given told d d' alike.
    ap (map warning_unplaced) d.warned ∙ warned_as extensions d.tree fragment d.declares ∙ warned_alike extensions fragment same alike
    ∙ sym (ap (map warning_unplaced) d'.warned ∙ warned_as extensions d'.tree same d'.declares)
