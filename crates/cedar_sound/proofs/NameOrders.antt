-- SPDX-License-Identifier: Apache-2.0
-- The orders of full names and of ids tie what is equal alone.
use Rattle.cedar_data.proofs.Exact.{IsExact}
use Rattle.cedar_names.proofs.NameOrder.{words_cmp-equal}
use Rattle.cedar_names.specs.Order.{words_cmp}
use Rattle.cedar_names.specs.OrderLaws.{words-total}
use Rattle.cedar_duplicates.specs.of_schema_error.FullNames.{FullName, uid_cmp}
use Rattle.cedar_shadowing.proofs.of_schema_error.UidOrder.{uid_equal, uid_total}

pub names_exact : IsExact words_cmp
names_exact = record { total = words-total (λ (n : FullName). n); exact = λ x y. (words_cmp-equal x y).0 }

pub uids_exact : IsExact uid_cmp
uids_exact = record { total = uid_total; exact = uid_equal }
