-- SPDX-License-Identifier: Apache-2.0
-- Entity types and actions, seen as names and ids.
use Rattle.std.proofs.Common.{refl}
use Rattle.cedar_hierarchy.proofs.Views.{IsView}
use Rattle.cedar_names.proofs.NameOrder.{words_cmp-equal}
use Rattle.cedar_names.specs.Names.{entity_cmp, entity_words}
use Rattle.cedar_names.specs.Order.{words_cmp}
use Rattle.cedar_names.specs.declared.entity_uid.EntityUID.{EntityUID}
use Rattle.cedar_schema_error.proofs.UidOrder.{uid_equal, uid_itself}
use Rattle.cedar_schema_error.specs.FullNames.{uid_cmp, uid_in}

pub types_seen : IsView entity_cmp words_cmp entity_words
types_seen = record {
  in_order = λ a b. refl;
  ties = λ v w. (words_cmp-equal v w).0;
  itself = λ v. (words_cmp-equal v v).1 refl;
}

pub uids_seen : IsView {K = EntityUID} (λ a b. uid_cmp (uid_in a) (uid_in b)) uid_cmp uid_in
uids_seen = record {
  in_order = λ a b. refl;
  ties = uid_equal;
  itself = uid_itself;
}
