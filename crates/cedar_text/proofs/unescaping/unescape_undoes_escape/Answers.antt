-- SPDX-License-Identifier: Apache-2.0
use Rattle.cedar_text.proofs.UndoLemmas.{unescaped-escaped}
use Rattle.cedar_text.proofs.unescaping.unescape_undoes_escape.Goals as goal

pub returns : goal.returns
returns c = unescaped-escaped
