-- SPDX-License-Identifier: Apache-2.0
use Rattle.std.proofs.Common.{refl, ap, ◌≡◌, ◌∙◌, arith, rules, List, ℕ, get_or, add-one}
use Rattle.std.specs.Int.{w64, to_be_bytes}
use Rattle.cedar_data.specs.Fronts.{digits, front_of}
use Rattle.cedar_data.proofs.Fronts.{digits-suc, digits-fit, closed}
use Rattle.cedar_data.proofs.text.front_of.Goals as goal

pub loop-at-init : goal.loop-at-init
unfolding digits
loop-at-init c = refl

pub overflow_mul-digits : goal.overflow_mul-digits
overflow_mul-digits c =
    let fit = digits-fit c.loop-at.at c.args.text.now (λ k. (c.type_inv.text k).fits) (omega arith) in
    let is = c.loop-at.invariant in
    record { fits = omega arith }

pub overflow_add-digits : goal.overflow_add-digits
overflow_add-digits c =
    let fit = digits-fit c.loop-at.at c.args.text.now (λ k. (c.type_inv.text k).fits) (omega arith) in
    let is = c.loop-at.invariant in
    record { fits = omega arith }

pub loop-at-preserved : goal.loop-at-preserved
loop-at-preserved c =
    let text = c.args.text.now in
    let is : c.loop-at.digits ≡ digits c.loop-at.at text = c.loop-at.invariant in
    let read : c.unwrap_or-digit.result ≡ get_or c.as_bytes-bytes.result.now c.loop-at.at 0 = search rules in
    let same = ap (λ (bytes : List ℕ). get_or bytes c.loop-at.at 0) c.as_bytes-bytes.ensures.value in
    rw add-one (omega (arith, digits-suc c.loop-at.at text))

pub overflow_mul-front : goal.overflow_mul-front
overflow_mul-front c =
    let fit = digits-fit c.loop-at.at c.args.text.now (λ k. (c.type_inv.text k).fits) (omega arith) in
    let is = c.loop-at.invariant in
    record { fits = omega arith }

pub overflow_add-front : goal.overflow_add-front
overflow_add-front c =
    let fit = digits-fit c.loop-at.at c.args.text.now (λ k. (c.type_inv.text k).fits) (omega arith) in
    let is = c.loop-at.invariant in
    record { fits = omega arith }

pub returns : goal.returns
unfolding front_of
returns c =
    let seven = ap (λ k. digits k c.args.text.now) (let e : c.loop-at.at ≡ 7 = omega arith in e) in
    let is = c.loop-at.invariant in
    closed record { number = c.to_be_bytes.ensures ∙ ap (λ (n : ℕ). to_be_bytes w64 n) (omega arith); bytes = λ k. (c.type_inv.text k).fits; valid = c.utf8.text }
