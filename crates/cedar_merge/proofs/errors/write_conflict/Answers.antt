-- SPDX-License-Identifier: Apache-2.0
use Rattle.std.proofs.Common.{codes, subst}
use Rattle.std.specs.Fmt.{HasWritten}
use Rattle.cedar_text.specs.Joining.{joined}
use Rattle.cedar_names.specs.Identifiers.{any_word}
use Rattle.cedar_names.specs.Names.{name_words}
use Rattle.cedar_merge.proofs.Texts.{in_a_row}
use Rattle.cedar_merge.proofs.errors.write_conflict.Goals as goal

pub returns : goal.returns
returns g c = λ plain ok.
    subst (λ text. HasWritten g.W.Write.write_str_gives c.args.f.now text c.write.new.self)
    (in_a_row (codes "annotation `") (any_word c.args.key.now) (codes "` of namespace `") (joined (name_words c.args.namespace.now)) (codes "` differs"))
    (c.write.ensures.writes plain ok)
