-- SPDX-License-Identifier: Apache-2.0
use Rattle.cedar_names.specs.Names.{entity_words}
use Rattle.cedar_unfold_laws.proofs.TwoLongsUnfold.{common_is, not_refused, uses_are}
use Rattle.cedar_unfold_laws.proofs.counted.unfold_two_longs.Goals as goal

pub returns-clause-common : goal.returns-clause-common
returns-clause-common g c =
    common_is (entity_words c.args.ty) c.new-defs.result c.in_ok-uses.uses c.args.extensions.now c.new-defs.ensures c.in_ok-uses.ensures c.unfold_all.result c.unfold_all.ensures.done

pub returns-clause-uses : goal.returns-clause-uses
returns-clause-uses g c =
    uses_are (entity_words c.args.ty) c.new-defs.result c.in_ok-uses.uses c.args.extensions.now c.new-defs.ensures c.in_ok-uses.ensures c.unfold_all.result c.unfold_all.ensures.done

pub returns-clause-refused : goal.returns-clause-refused
returns-clause-refused g c =
    not_refused (entity_words c.args.ty) c.new-defs.result c.in_ok-uses.uses c.args.extensions.now c.new-defs.ensures c.in_ok-uses.ensures c.unfold_all.result c.unfold_all.ensures.refused
