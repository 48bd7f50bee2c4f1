-- SPDX-License-Identifier: Apache-2.0
use Rattle.serde_json.specs.View.{view}
use Rattle.std.proofs.Common.{sym}
use Rattle.std.specs.String.{string_bytes}
use Rattle.cedar_names.specs.Extensions.{extension_words}
use Rattle.cedar_reviews.proofs.MergeLoops.{listed-told}
use Rattle.cedar_reviews.proofs.merging.merge_value.Goals as goal

pub returns-clause-told : goal.returns-clause-told
returns-clause-told c =
    listed-told string_bytes (extension_words c.args.extensions.now) (view c.args.value.now) c.in-Ok.items.now.items c.in_ok-fragments.fragments.items c.merge_fragments.result
    c.in-Ok.ensures.texts.0 c.in-Ok.ensures.texts.1 (rw (sym c.as_slice.ensures.value) c.in_ok-fragments.ensures.made) c.merge_fragments.ensures.told
