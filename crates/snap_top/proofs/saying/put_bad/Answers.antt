use Rattle.std.proofs.Common.{◌≡◌, ℕ, ◌==◌, List, [], ◌∷◌, Bool, true, false, if◌then◌else◌, codes, refl}
use Rattle.std.proofs.lemmas.Bool.Decides.{Decides-eqb}
use Rattle.snap_report.specs.EventLines.{joined}
use Rattle.snap_report.specs.State.{Puts}
use Rattle.snap_top.specs.End.{option_word}
use Rattle.snap_top.proofs.saying.put_bad.Goals as goal

pub returns-else-row-eq-NUMBER : goal.returns-else-row-eq-NUMBER
returns-else-row-eq-NUMBER g c = by (c.args.row == 14) refl
  where
    by : (b : Bool) → (c.args.row == 14) ≡ b → Puts g.W.Sink.view (if b then codes "bad number for 'exercise'" else joined (codes "bad value for '--" ∷ option_word c.args.row ∷ codes "'" ∷ [])) c.args.lines.now c.put_all.new.self
    by true at = absurd (c.if-row-eq-NUMBER.false ((Decides-eqb c.args.row 14).0 at))
    by false at = rw (← c.option_word.ensures) c.put_all.ensures
