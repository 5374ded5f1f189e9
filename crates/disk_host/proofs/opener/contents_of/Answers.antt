use Rattle.std.proofs.Common.{◌≡◌, arith}
use Rattle.std.proofs.lemmas.List.Elements.{All-push}
use Rattle.disk_host.specs.Drafts.{state_of}
use Rattle.disk_model.specs.declared.draft.Draft.TheVariants.{Absent}
use Rattle.disk_host.proofs.opener.contents_of.Goals as goal

pub loop-name-preserved : goal.loop-name-preserved
loop-name-preserved g c = record {
  count = omega (arith, c.in_ok-push.ensures.len, c.loop-name.invariant.count);
  new = rw c.in_ok-push.ensures.items (All-push (λ content. state_of content.draft.stage ≡ Absent) _ _ c.loop-name.invariant.new c.in_ok-new.ensures);
}
