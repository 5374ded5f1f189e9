use Rattle.std.proofs.Common.{◌≡◌, ◌-◌, ℕ, length, take, replicate, arith}
use Rattle.std.proofs.lemmas.Grind.{common_steps}
use Rattle.std.proofs.lemmas.List.{take-replicate}
use Rattle.std.specs.Fmt.{decimal}
use Rattle.snap_report.proofs.PutsLemmas.{puts_then, puts_same}
use Rattle.snap_report.proofs.pages.Lines.put_nine_digits.Goals as goal

pub returns : goal.returns
returns g c =
    let zeros : (n : ℕ) → take {A = ℕ} (9 - n) (replicate {A = ℕ} 9 48) ≡ replicate {A = ℕ} (9 - n) 48 = λ n. take-replicate (9 - n) 9 48 (omega arith) in
    let here = zeros (length (decimal c.args.number)) in
    puts_same _ _ _ _ _ (puts_then _ _ _ _ _ _ c.put.ensures c.put-2.ensures) (grind (arith, common_steps, here))
