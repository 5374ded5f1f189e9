-- What is known of lines.
use Rattle.std.specs.Prelude.{◌≡◌, ℕ, List}
use Rattle.disk_model.specs.Sink.{SinkView}
use Rattle.snap_report.specs.declared.pages.Lines.{Lines}
use Rattle.snap_report.specs.Telling.{Written, Tells}

-- lines, by what is known of their sink
abbrev pub state_of : {W : Type 0} → (W → SinkView) → Lines W → Written
state_of view lines = record { failed = lines.failed; held = lines.page.items; sink = view lines.out.now }

-- a text was told, through the same lines
pub record Puts {W : Type 0} (view : W → SinkView) (text : List ℕ) (old new : Lines W) : Type 0 where
  pub same_reference : new.out.ghost_name ≡ old.out.ghost_name
  pub tells : Tells text (state_of view old) (state_of view new)
