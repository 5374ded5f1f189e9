use Rattle.std.proofs.Common.{sym, ◌∙◌, arith}
use Rattle.snap_config.proofs.LineLemmas.{ends-index}
use Rattle.snap_config.proofs.line.ends_with_blank.Goals as goal

pub returns-in-len1-up : goal.returns-in-len1-up
returns-in-len1-up c =
    let is = rw c.as_bytes.ensures.value at c.is_blank.ensures in
    is ∙ sym (ends-index c.args.text.now (omega (arith, c.in-len1-up.len_at_least, c.as_bytes.ensures.len)))
