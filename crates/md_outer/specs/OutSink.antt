-- Standard output as a sink: its count of faults alone is observable.
use Rattle.std.specs.Prelude.{[]}
use Rattle.md_outer.specs.Outside.{SinkState}
use Rattle.md_outer.specs.declared.out_sink.OutSink.{OutSink}

-- no bytes are observable
abbrev pub out_state : {R : Type 0} → OutSink R → SinkState
out_state sink = record { bytes = []; faults = sink.faults }
