use Rattle.std.proofs.Common.{◌≡◌, ℕ, ◌+◌, List, arith, inl, inr}
use Rattle.disk_model.specs.Cause.{RoseBy, Rose}
use Rattle.snap_report.specs.declared.events.Event.{Event}
use Rattle.snap_report.specs.declared.answer.RunFault.TheVariants.{Folder, Vault, Memory}
use Rattle.snap_report.specs.declared.answer.Answer.{Answer}
use Rattle.snap_report.specs.declared.answer.Answer.TheVariants.{Clean, Found, OutputFailed, Zeroed, Emptied, Full, Broken}
use Rattle.snap_report.specs.Answer.{status_of, Outside, IsCaused, SomeRose}
use Rattle.snap_report.proofs.laws.status_three_has_a_cause.Goals as goal

rose_by_more : (n before now : ℕ) → RoseBy (n + 1) before now → Rose before now
rose_by_more n before now rose = omega (arith, rose)

some_rose : (answer : Answer) (counted : ℕ) (told : List Event) (old new : Outside) → IsCaused answer counted told old new → status_of answer ≡ 3 → SomeRose old new
some_rose Clean counted told old new caused three = absurd (let e : 0 ≡ 3 = three in omega (arith, e))
some_rose Found counted told old new caused three = absurd (let e : 1 ≡ 3 = three in omega (arith, e))
some_rose OutputFailed counted told old new caused three = inr (inr caused)
some_rose (Zeroed disk rec) counted told old new caused three = absurd (let e : 2 ≡ 3 = three in omega (arith, e))
some_rose (Emptied disk) counted told old new caused three = absurd (let e : 2 ≡ 3 = three in omega (arith, e))
some_rose (Full blocks files) counted told old new caused three = absurd (let e : 2 ≡ 3 = three in omega (arith, e))
some_rose (Broken (Folder disk)) counted told old new caused three = inl (disk, caused.0, rose_by_more _ _ _ caused.1.rose)
some_rose (Broken Vault) counted told old new caused three = inr (inl (rose_by_more _ _ _ caused.rose))
some_rose (Broken Memory) counted told old new caused three = absurd (let e : 4 ≡ 3 = three in omega (arith, e))

pub returns : goal.returns
returns c = some_rose
