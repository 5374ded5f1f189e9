use Rattle.std.proofs.Common.{◌≡◌, replicate}
use Rattle.disk_model.specs.declared.draft.Draft.TheVariants.{Absent}
use Rattle.disk_calm.proofs.store.absent_drafts.Given as goal

abbrev pub invariant-loop : goal.invariant-loop
invariant-loop l = l.drafts.items ≡ replicate l.counter Absent
