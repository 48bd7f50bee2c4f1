-- SPDX-License-Identifier: Apache-2.0
use Rattle.std.specs.String.{string_bytes}
use Rattle.cedar_names.specs.Extensions.{extension_words}
use Rattle.cedar_reviews.proofs.Reviews.{compat-accepts, merge-accepts}
use Rattle.cedar_reviews.proofs.reviewing.reviewed.Goals as goal

pub returns-in-Merge-clause-accepts : goal.returns-in-Merge-clause-accepts
returns-in-Merge-clause-accepts c = merge-accepts string_bytes c.args.input.now (extension_words c.args.extensions.now) c.args.review c.merge_schemas.result c.in-Merge.is c.merge_schemas.ensures.told

pub returns-in-Compat-clause-accepts : goal.returns-in-Compat-clause-accepts
returns-in-Compat-clause-accepts c = compat-accepts string_bytes c.args.input.now (extension_words c.args.extensions.now) c.args.review c.compare.result c.in-Compat.is c.compare.ensures.told
