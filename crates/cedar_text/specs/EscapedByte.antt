-- SPDX-License-Identifier: Apache-2.0
use Rattle.std.specs.Prelude.{ℕ, List, take}
use Rattle.cedar_text.specs.declared.escapes.EscapedByte.{EscapedByte}

-- the bytes that stand for an escaped byte
abbrev pub escape_bytes : EscapedByte → List ℕ
escape_bytes e = take e.len e.bytes
