-- A sink in memory: what is observable of it, and its plan.
use Rattle.std.specs.Prelude.{ℕ}
use Rattle.md_outer.specs.Calls.{CallPlan, calls_of}
use Rattle.md_outer.specs.Outside.{SinkState}
use Rattle.md_outer.specs.declared.mem_sink.MemSink.{MemSink}

-- at most so many bytes may be written in all, and these calls of put fail
pub record SinkPlan : Type 0 where
  pub room : ℕ
  pub calls : CallPlan

-- what was written, and the count of faults
abbrev pub sink_state_of : MemSink → SinkState
sink_state_of sink = record { bytes = sink.buffer.bytes.items; faults = sink.faults }

-- the plan of a sink
abbrev pub sink_plan_of : MemSink → SinkPlan
sink_plan_of sink = record { room = sink.buffer.room; calls = calls_of sink.calls }
