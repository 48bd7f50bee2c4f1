-- SPDX-License-Identifier: Apache-2.0
-- The order of actions and other entities is total, and ties what is equal alone.
use Rattle.std.proofs.Common.{◌≡◌, refl}
use Rattle.std.proofs.lemmas.Cmp.{nat_list_cmp_total, on_total, then_total, tied_itself}
use Rattle.std.proofs.lemmas.Map.Lookups.{exact_bytes}
use Rattle.std.specs.Cmp.{IsTotalOrder}
use Rattle.std.specs.Ordering.{ordering_then}
use Rattle.std.specs.declared.cmp.Ordering.{Ordering}
use Rattle.std.specs.declared.cmp.Ordering.TheVariants.{Less, Equal, Greater}
use Rattle.cedar_names.proofs.NameOrder.{words_cmp-equal}
use Rattle.cedar_names.specs.Order.{word_cmp, words_cmp}
use Rattle.cedar_names.specs.OrderLaws.{words-total}
use Rattle.cedar_schema_error.specs.FullNames.{FullName, Uid, uid_cmp}

-- where one order and then another tie, both do
pub both_equal : (o p : Ordering) → ordering_then o p ≡ Equal → (o ≡ Equal) × (p ≡ Equal)
both_equal Less p e = cc
both_equal Equal p e = (refl, e)
both_equal Greater p e = cc

pub uid_total : IsTotalOrder uid_cmp
uid_total = then_total (on_total (λ (u : Uid). u.ty) (words-total (λ (name : FullName). name))) (on_total (λ (u : Uid). u.id) nat_list_cmp_total)

-- entities that tie are equal
pub uid_equal : (u v : Uid) → uid_cmp u v ≡ Equal → u ≡ v
uid_equal u v e =
    let both = both_equal (words_cmp u.ty v.ty) (word_cmp u.id v.id) e in
    let ty : u.ty ≡ v.ty = (words_cmp-equal u.ty v.ty).0 both.0 in
    let id : u.id ≡ v.id = exact_bytes u.id v.id both.1 in
    λ i. record { ty = ty i; id = id i }

-- each ties with itself
pub uid_itself : (u : Uid) → uid_cmp u u ≡ Equal
uid_itself u = tied_itself uid_total u
