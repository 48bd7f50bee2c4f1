-- SPDX-License-Identifier: Apache-2.0
-- What the streams over std hold.
use Rattle.std.specs.Prelude.{ℕ}
use Rattle.cedar_streams.specs.declared.std_source.StdSource.{StdSource}
use Rattle.cedar_streams.specs.declared.std_sink.StdSink.{StdSink}

-- what the source reads from
abbrev pub source_inner : {R : Type 0} → StdSource R → R
source_inner source = source.inner

-- how often reading failed, up to the greatest u64
abbrev pub source_faults : {R : Type 0} → StdSource R → ℕ
source_faults source = source.faults

-- what the sink writes to
abbrev pub sink_inner : {W : Type 0} → StdSink W → W
sink_inner sink = sink.inner

-- how often writing failed, up to the greatest u64
abbrev pub sink_faults : {W : Type 0} → StdSink W → ℕ
sink_faults sink = sink.faults

-- the same sink over another writer
abbrev pub sink_with_inner : {W : Type 0} → StdSink W → W → StdSink W
sink_with_inner sink inner = record sink { inner = inner }
