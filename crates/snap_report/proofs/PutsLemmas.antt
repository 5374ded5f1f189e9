-- One text after another, through the same lines.
use Rattle.std.proofs.Common.{◌≡◌, ℕ, ◌+◌, ◌<◌, List, [], ◌++◌, length, take, get_or, refl, ◌∙◌}
use Rattle.std.specs.List.{flat_map}
use Rattle.disk_model.specs.Sink.{SinkView}
use Rattle.snap_report.specs.declared.pages.Lines.{Lines}
use Rattle.snap_report.specs.State.{state_of, Puts}
use Rattle.snap_report.proofs.TellingLemmas.{tells_then, tells_nothing, tells_same, tells_one_more}

module _ {W : Type 0} (view : W → SinkView) where
  -- one text, and then another
  pub puts_then : (front back : List ℕ) (old mid new : Lines W) → Puts view front old mid → Puts view back mid new → Puts view (front ++ back) old new
  puts_then front back old mid new one two = record {
    same_reference = two.same_reference ∙ one.same_reference;
    tells = tells_then front back (state_of view old) (state_of view mid) (state_of view new) one.tells two.tells;
  }

  -- no text
  pub puts_nothing : (lines : Lines W) → Puts view [] lines lines
  puts_nothing lines = record { same_reference = refl; tells = tells_nothing (state_of view lines) }

  -- the same text in other words
  pub puts_same : (s t : List ℕ) (old new : Lines W) → Puts view s old new → s ≡ t → Puts view t old new
  puts_same s t old new put same = record { same_reference = put.same_reference; tells = tells_same s t (state_of view old) (state_of view new) put.tells same }

  -- the texts of one item more
  pub puts_one_more : {X : Type 0} (f : X → List ℕ) (xs : List X) (i : ℕ) (d : X) (old mid new : Lines W) → i < length xs → Puts view (flat_map f (take i xs)) old mid → Puts view (f (get_or xs i d)) mid new → Puts view (flat_map f (take (i + 1) xs)) old new
  puts_one_more f xs i d old mid new within one two = record {
    same_reference = two.same_reference ∙ one.same_reference;
    tells = tells_one_more f xs i d (state_of view old) (state_of view mid) (state_of view new) within one.tells two.tells;
  }
