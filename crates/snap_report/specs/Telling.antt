-- What text leaves on a sink.
use Rattle.std.specs.Prelude.{◌≡◌, ℕ, List, [], ◌++◌, Bool, true, false, IsTrue}
use Rattle.disk_model.specs.Cause.{Rose}
use Rattle.disk_model.specs.Sink.{SinkView, SinkGoesOn, AppendsPart}

-- a sink behind lines: whether a write failed, the text that is held back, and the sink
pub record Written : Type 0 where
  pub failed : Bool
  pub held : List ℕ
  pub sink : SinkView

-- between two texts, with nothing held back
abbrev pub between : Bool → SinkView → Written
between failed sink = record { failed = failed; held = []; sink = sink }

-- Text was told. What was held and the text are appended, or still held; after a write that failed a front of them is appended.
pub record Tells (text : List ℕ) (old new : Written) : Type 0 where
  pub goes_on : SinkGoesOn old.sink new.sink
  pub stays : IsTrue old.failed → new ≡ old
  pub unfailed : new.failed ≡ false → new.sink.faults ≡ old.sink.faults
  pub cause : old.failed ≡ false → new.failed ≡ true → Rose old.sink.faults new.sink.faults
  pub whole : new.failed ≡ false → IsTrue old.sink.tells → new.sink.written ++ new.held ≡ old.sink.written ++ (old.held ++ text)
  pub part : IsTrue old.sink.tells → AppendsPart (old.held ++ text) old.sink.written new.sink.written

-- nothing is held back
abbrev pub Settled : Written → Type 0
Settled w = w.failed ≡ false → w.held ≡ []
