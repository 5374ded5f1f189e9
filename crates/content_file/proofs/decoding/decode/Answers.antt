use Rattle.std.proofs.Common.{[], ◌≢◌}
use Rattle.content_file.specs.Decoding.{IsFaultOf}
use Rattle.content_file.specs.Spelling.{IsContent}
use Rattle.content_file.specs.declared.fault.DecodeFault.TheVariants as faults
use Rattle.content_file.proofs.Steps.{handed}
use Rattle.content_file.proofs.DecodingLemmas.{refused_fault, decodes_found, decodes_flawless, decodes_flawed, decodes_damaged, fault_damages}
use Rattle.content_file.proofs.decoding.decode.Goals as goal

pub returns-in_err-feed-clause-flawed : goal.returns-in_err-feed-clause-flawed
returns-in_err-feed-clause-flawed c =
    handed (IsFaultOf c.args.bytes.now) c.from_residual-in_err-feed.result c.in_err-feed.field-0.0 c.from_residual-in_err-feed.ensures.1
    (refused_fault c.args.bytes.now c.in_err-feed.field-0.0 (c.in_err-feed.ensures.answer [] c.in_ok-decoder.ensures))

pub returns-in_err-feed-clause-damaged : goal.returns-in_err-feed-clause-damaged
returns-in_err-feed-clause-damaged c =
    handed (λ fault. fault ≢ faults.Memory → ¬ (IsContent c.args.bytes.now)) c.from_residual-in_err-feed.result c.in_err-feed.field-0.0 c.from_residual-in_err-feed.ensures.1
    (fault_damages c.args.bytes.now c.in_err-feed.field-0.0 (refused_fault c.args.bytes.now c.in_err-feed.field-0.0 (c.in_err-feed.ensures.answer [] c.in_ok-decoder.ensures)))

pub returns-clause-found : goal.returns-clause-found
returns-clause-found c = decodes_found c.args.bytes.now c.finish.result (c.finish.ensures.answer c.args.bytes.now (c.feed.ensures.fed [] c.in_ok-decoder.ensures))

pub returns-clause-flawless : goal.returns-clause-flawless
returns-clause-flawless c = decodes_flawless c.args.bytes.now c.finish.result (c.finish.ensures.answer c.args.bytes.now (c.feed.ensures.fed [] c.in_ok-decoder.ensures))

pub returns-clause-flawed : goal.returns-clause-flawed
returns-clause-flawed c = decodes_flawed c.args.bytes.now c.finish.result (c.finish.ensures.answer c.args.bytes.now (c.feed.ensures.fed [] c.in_ok-decoder.ensures))

pub returns-clause-damaged : goal.returns-clause-damaged
returns-clause-damaged c = decodes_damaged c.args.bytes.now c.finish.result (c.finish.ensures.answer c.args.bytes.now (c.feed.ensures.fed [] c.in_ok-decoder.ensures))
