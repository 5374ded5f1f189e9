use Rattle.std.proofs.Common.{◌≡◌, vec_len, All}
use Rattle.disk_host.specs.Drafts.{state_of}
use Rattle.disk_model.specs.declared.draft.Draft.TheVariants.{Absent}
use Rattle.disk_host.proofs.opener.contents_of.Given as goal

abbrev pub invariant-loop-name : goal.invariant-loop-name
invariant-loop-name g l = record {
  count : vec_len l.contents ≡ l.name-index;
  new : All (λ content. state_of content.draft.stage ≡ Absent) l.contents.items;
}
