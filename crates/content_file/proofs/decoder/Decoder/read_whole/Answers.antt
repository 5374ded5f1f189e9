use Rattle.std.proofs.Common.{ℕ, List, ◌++◌, sym, ap, subst, ◌∙◌}
use Rattle.sha2.specs.Hashers.{Holds256}
use Rattle.content_file.specs.Decoding.{ReadsWhole, EndsWith}
use Rattle.content_file.proofs.Steps.{handed_on}
use Rattle.content_file.proofs.DecodingLemmas.{ends_told}
use Rattle.content_file.proofs.decoder.Decoder.read_whole.Goals as goal

pub returns-in_err-read_fields-clause-reads : goal.returns-in_err-read_fields-clause-reads
returns-in_err-read_fields-clause-reads c = λ fed is.
    handed_on (ReadsWhole c.read_fields.new.self fed) c.from_residual.result c.in_err-read_fields.field-0.0 c.from_residual.ensures.1 (c.in_err-read_fields.ensures.reads fed is)

pub returns-clause-reads : goal.returns-clause-reads
returns-clause-reads c = λ fed is.
    let new = c.read_fields.new.self in
    let holding = c.in_ok-read_fields.ensures.holds fed is in
    let here = c.in_ok-read_fields.ensures.reads fed is in
    let hashed = subst (λ h. Holds256 h holding.read) (sym c.in-Ok.ensures.cases) holding.hashed in
    let same = c.as_slice.ensures.value in
    let ends = c.end_of.ensures fed holding.read hashed (holding.parts ∙ ap (λ (b : List ℕ). holding.read ++ b) (sym same)) in
    subst (ReadsWhole new fed) (sym c.told.ensures) (ends_told new fed c.end_of.result holding here (subst (λ (b : List ℕ). EndsWith fed b c.end_of.result) same ends))
