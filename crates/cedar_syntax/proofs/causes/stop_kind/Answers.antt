-- SPDX-License-Identifier: Apache-2.0
use Rattle.cedar_syntax.proofs.Straying.{stop_cause}
use Rattle.cedar_syntax.proofs.causes.stop_kind.Goals as goal

pub returns : goal.returns
returns c = stop_cause c.args.source.now c.args.lexemes.now _ c.args.left c.stray_kind.result c.requires.lexed c.requires.brackets c.if-left-eq0.false c.requires.stops c.stray_kind.ensures
