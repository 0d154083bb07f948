use Rattle.std.specs.Prelude.{ℕ, List, min, length, ◌-◌}
use Rattle.outside.specs.declared.mem_sink.MemSink.{MemSink}
use Rattle.outside.specs.declared.calls.Calls.{Calls}

-- What the sink took so far, in how many bytes of room, at most how many bytes a write, its faults and its calls.
abbrev pub taken_by : MemSink → List ℕ
taken_by sink = sink.taken.items

abbrev pub room_of : MemSink → ℕ
room_of sink = sink.room

abbrev pub per_call_of : MemSink → ℕ
per_call_of sink = sink.per_call

abbrev pub faults_of : MemSink → ℕ
faults_of sink = sink.faults

abbrev pub calls_of : MemSink → Calls
calls_of sink = sink.calls

-- How many bytes of a piece a write takes: as many as a write may take and as there is room for.
abbrev pub takes : MemSink → List ℕ → ℕ
takes sink piece = min (length piece) (min (per_call_of sink) (room_of sink - length (taken_by sink)))
