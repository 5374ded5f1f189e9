use Rattle.std.proofs.Common.{◌≡◌, take}
use Rattle.disk_calm.proofs.store.copied_drafts.Given as goal

abbrev pub invariant-loop-draft : goal.invariant-loop-draft
invariant-loop-draft l = l.copied.items ≡ take l.draft-index l.drafts.items
