use Rattle.std.proofs.Common.{subst}
use Rattle.memchr.specs.Find.{IsFirstByte, is_byte}
use Rattle.snap_config.proofs.ConfigLemmas.{cut_some, one_line}
use Rattle.snap_config.proofs.config.cut_line.Goals as goal

pub returns-in_err-end : goal.returns-in_err-end
returns-in_err-end c = rw c.from_residual.ensures (one_line c.args.text.now (subst (λ r. IsFirstByte (is_byte 10) c.args.text.now r) c.in_err-end.was c.memchr.ensures))

pub returns : goal.returns
returns c =
    cut_some c.args.text.now c.split_at.result.0.now c.split_at.result.1.now c.split_at-2.result.1.now c.in_ok-end.end
    (subst (λ r. IsFirstByte (is_byte 10) c.args.text.now r) c.in_ok-end.was c.memchr.ensures) c.split_at.ensures.front c.split_at.ensures.back c.split_at-2.ensures.back
