-- SPDX-License-Identifier: Apache-2.0
use Rattle.std.proofs.Common.{codes, refl}
use Rattle.std.proofs.lemmas.Grind.{put_three}
use Rattle.cedar_merge.specs.Texts.{full_text}
use Rattle.cedar_merge.proofs.errors.write_duplicate.Goals as goal

pub returns : goal.returns
returns g c = λ plain ok.
    let one = c.in_ok-write.ensures.writes plain refl in
    let two = c.in_ok-write_full_name.ensures one.plain refl in
    let three = c.write-2.ensures.writes two.plain ok in
    put_three g.W.Write.write_str_gives _ _ _ _ (codes "`") (full_text c.args.kind c.args.namespace.now c.args.name.now) (codes "` is declared in more than one fragment") _ one two three refl
