-- SPDX-License-Identifier: Apache-2.0
use Rattle.std.proofs.Common.{subst, sym}
use Rattle.cedar_grammar.proofs.Wholes.{one_schema}
use Rattle.cedar_convert_fragment.specs.Declares.{Declares}
use Rattle.cedar_convert_laws.proofs.Conditioned.{one_declared}
use Rattle.cedar_convert_laws.proofs.laws.one_fragment.Goals as goal

pub returns : goal.returns
returns c = λ ts s s' fragment other reads reads' d d'. one_declared s fragment other d (subst (λ t. Declares t other) (sym (one_schema ts s s' reads reads')) d')
