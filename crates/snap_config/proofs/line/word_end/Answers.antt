use Rattle.std.proofs.Common.{subst}
use Rattle.memchr.specs.Find.{IsFirstByte, is_byte2}
use Rattle.snap_config.proofs.LineLemmas.{word-some, word-none}
use Rattle.snap_config.proofs.line.word_end.Goals as goal

pub returns-in-Some-clause-place : goal.returns-in-Some-clause-place
returns-in-Some-clause-place c =
    word-some c.args.text.now c.in-Some.end
    (subst (λ r. IsFirstByte (is_byte2 32 9) c.args.text.now r) c.in-Some.is (subst (λ b. IsFirstByte (is_byte2 32 9) b c.memchr2.result) c.as_bytes.ensures.value c.memchr2.ensures))

pub returns-in-None-clause-place : goal.returns-in-None-clause-place
returns-in-None-clause-place c =
    word-none c.args.text.now
    (subst (λ r. IsFirstByte (is_byte2 32 9) c.args.text.now r) c.in-None.is (subst (λ b. IsFirstByte (is_byte2 32 9) b c.memchr2.result) c.as_bytes.ensures.value c.memchr2.ensures))
