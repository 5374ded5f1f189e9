-- Sinks in memory.
use Rattle.std.specs.Prelude.{[], ℕ, ◌<◌, List, length, map, Bool, true, not}
use Rattle.disk_model.specs.Answer.{is_failure}
use Rattle.disk_model.specs.Sink.{SinkView, SinkDone}
use Rattle.disk_memory.specs.Schedule.{Plan, plan_of, ObeysUnless}
use Rattle.disk_memory.specs.declared.past.Made.{Made}
use Rattle.disk_memory.specs.declared.sink.MemSink.{MemSink}

-- a write with what became of it
abbrev pub sink_done : Made (List ℕ) → SinkDone
sink_done m = record { bytes = m.call; failed = is_failure m.answer }

-- it tells what was written, and its writes until memory refuses an entry
abbrev pub sink_view : MemSink → SinkView
sink_view s = record {
  faults = s.schedule.faults;
  tells = true;
  written = s.written.items;
  tells_calls = not s.past.lost;
  calls = map sink_done s.past.made.items;
}

abbrev pub sink_plan : MemSink → Plan
sink_plan s = plan_of s.schedule

-- One write of these bytes was counted. It failed exactly where it was to, or memory refused its entry in the record,
-- unless there were some bytes.
abbrev pub SinkObeys : List ℕ → Bool → MemSink → MemSink → Type 0
SinkObeys bytes failed old new = ObeysUnless (0 < length bytes) failed (sink_plan old) (sink_plan new) (not old.past.lost) (not new.past.lost)

-- nothing written, and no failure
abbrev pub fresh_sink : SinkView
fresh_sink = record { faults = 0; tells = true; written = []; tells_calls = true; calls = [] }
