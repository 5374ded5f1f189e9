use Rattle.std.proofs.Common.{◌≡◌, ◌≢◌, ◌≤◌, ℕ, List, [], arith, refl}
use Rattle.snap_report.specs.declared.answer.RunFault.TheVariants.{Folder, Vault, Memory}
use Rattle.snap_report.specs.declared.answer.Answer.{Answer}
use Rattle.snap_report.specs.declared.answer.Answer.TheVariants.{Clean, Found, OutputFailed, Zeroed, Emptied, Full, Broken}
use Rattle.snap_report.specs.Answer.{status_of, answer_line}
use Rattle.snap_report.proofs.laws.a_run_that_is_not_done_has_a_line.Goals as goal

silent : (name path : List ℕ) (answer : Answer) → status_of answer ≤ 1 → answer_line name path answer ≡ []
silent name path Clean few = refl
silent name path Found few = refl
silent name path OutputFailed few = absurd (let e : 3 ≤ 1 = few in omega (arith, e))
silent name path (Zeroed disk rec) few = absurd (let e : 2 ≤ 1 = few in omega (arith, e))
silent name path (Emptied disk) few = absurd (let e : 2 ≤ 1 = few in omega (arith, e))
silent name path (Full blocks files) few = absurd (let e : 2 ≤ 1 = few in omega (arith, e))
silent name path (Broken (Folder disk)) few = absurd (let e : 3 ≤ 1 = few in omega (arith, e))
silent name path (Broken Vault) few = absurd (let e : 3 ≤ 1 = few in omega (arith, e))
silent name path (Broken Memory) few = absurd (let e : 4 ≤ 1 = few in omega (arith, e))

said : (name path : List ℕ) (answer : Answer) → 2 ≤ status_of answer → answer_line name path answer ≢ []
said name path Clean many e = omega (arith, many)
said name path Found many e = omega (arith, many)
said name path OutputFailed many e = cc
said name path (Zeroed disk rec) many e = cc
said name path (Emptied disk) many e = cc
said name path (Full blocks files) many e = cc
said name path (Broken (Folder disk)) many e = cc
said name path (Broken Vault) many e = cc
said name path (Broken Memory) many e = cc

pub returns-clause-done : goal.returns-clause-done
returns-clause-done c = silent

pub returns-clause-not_done : goal.returns-clause-not_done
returns-clause-not_done c = said
