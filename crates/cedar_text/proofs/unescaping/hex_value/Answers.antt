-- SPDX-License-Identifier: Apache-2.0
use Rattle.std.proofs.Common.{◌<◌, arith}
use Rattle.cedar_text.proofs.UnescapeLemmas.{five_digits}
use Rattle.cedar_text.proofs.unescaping.hex_value.Goals as goal

pub overflow_mul-value : goal.overflow_mul-value
overflow_mul-value c =
    let few : c.loop-digit.digit-index < 6 = omega (arith, c.requires.few) in
    let small = five_digits c.loop-digit.value c.loop-digit.digit-index c.loop-digit.invariant.1 few in
    omega arith

pub overflow_add-value : goal.overflow_add-value
overflow_add-value c =
    let few : c.loop-digit.digit-index < 6 = omega (arith, c.requires.few) in
    let small = five_digits c.loop-digit.value c.loop-digit.digit-index c.loop-digit.invariant.1 few in
    omega arith
