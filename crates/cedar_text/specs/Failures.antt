-- SPDX-License-Identifier: Apache-2.0
-- the fact of a refusal is said of all answers alike
pub use Rattle.cedar_data.specs.Answers.{IfRefused}
