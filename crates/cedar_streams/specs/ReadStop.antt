-- SPDX-License-Identifier: Apache-2.0
use Rattle.std.specs.Prelude.{ℕ, List, codes}
use Rattle.cedar_streams.specs.declared.reading.ReadStop.{ReadStop}
use Rattle.cedar_streams.specs.declared.reading.ReadStop.TheVariants.{Fault, TooLong, NoMemory}

-- what is printed of a stop
abbrev pub stop_text : ReadStop → List ℕ
stop_text Fault = codes "the source failed"
stop_text TooLong = codes "the source is too long"
stop_text NoMemory = codes "out of memory"
