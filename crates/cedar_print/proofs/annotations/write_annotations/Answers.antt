-- SPDX-License-Identifier: Apache-2.0
use Rattle.std.proofs.Common.{sym}
use Rattle.std.proofs.Output.{displays_on_ok_of_eq}
use Rattle.cedar_print.proofs.Texts.{text_of-annotation_lines}
use Rattle.cedar_print.specs.Annotations.{nameless}
use Rattle.cedar_print.proofs.annotations.write_annotations.Goals as goal

pub returns : goal.returns
returns g c =
    displays_on_ok_of_eq _ _ _ _ _ _ (sym (text_of-annotation_lines nameless c.args.annotations.now)) c.fmt.ensures.writes
