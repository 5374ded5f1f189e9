use Rattle.std.proofs.Common.{◌≡◌, arith}
use Rattle.std.proofs.lemmas.List.Elements.{All-push}
use Rattle.disk_host.proofs.opener.folders_of.Goals as goal

pub loop-dir-preserved : goal.loop-dir-preserved
loop-dir-preserved g c = record {
  count = omega (arith, c.in_ok-push.ensures.len, c.loop-dir.invariant.count);
  new = rw c.in_ok-push.ensures.items (All-push (λ folder. folder.faults ≡ 0) _ _ c.loop-dir.invariant.new c.new.ensures.faults);
  unwritten = rw c.in_ok-push.ensures.items (All-push (λ folder. folder.writes ≡ 0) _ _ c.loop-dir.invariant.unwritten c.new.ensures.writes);
}
