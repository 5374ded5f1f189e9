use Rattle.std.proofs.Common.{◌≡◌, true, false, length, sym, ◌∙◌}
use Rattle.std.proofs.lemmas.Bool.Decides.{Decides-eqb}
use Rattle.content_file.specs.Decoding.{EndsWith}
use Rattle.content_file.proofs.Steps.{handed_on}
use Rattle.content_file.proofs.DecodingLemmas.{digest_cut, digest_wrong, digest_extra, digest_ends}
use Rattle.content_file.proofs.ending.end_of.Goals as goal

pub returns-in_err-digest : goal.returns-in_err-digest
returns-in_err-digest c = λ whole before hashed parts.
    handed_on (EndsWith whole c.args.last.now) c.from_residual.result c.in_err-digest.field-0.0 c.from_residual.ensures.1 (digest_cut whole c.args.last.now c.in_err-digest.field-0.0 c.in_err-digest.ensures)

pub returns-then-not-is_digest : goal.returns-then-not-is_digest
returns-then-not-is_digest c = λ whole before hashed parts.
    digest_wrong whole before c.args.last.now c.in_ok-digest.digest.now c.in_ok-digest.rest.now parts c.in_ok-digest.ensures
    (λ same. let e : true ≡ false = sym ((c.is_digest.ensures before hashed).1 same) ∙ c.if-not-is_digest.true in cc)

pub returns-then-not-is_empty : goal.returns-then-not-is_empty
returns-then-not-is_empty c = λ whole before hashed parts.
    digest_extra whole before c.args.last.now c.in_ok-digest.digest.now c.in_ok-digest.rest.now parts c.in_ok-digest.ensures
    ((c.is_digest.ensures before hashed).0 c.if-not-is_digest.false) (λ none. let e : true ≡ false = sym ((Decides-eqb (length c.in_ok-digest.rest.now) 0).1 none) ∙ sym c.is_empty.ensures ∙ c.if-not-is_empty.true in cc)

pub returns : goal.returns
returns c = λ whole before hashed parts.
    let ends = digest_ends whole before c.args.last.now c.in_ok-digest.digest.now c.in_ok-digest.rest.now parts c.in_ok-digest.ensures
    ((c.is_digest.ensures before hashed).0 c.if-not-is_digest.false) ((Decides-eqb (length c.in_ok-digest.rest.now) 0).0 (sym c.is_empty.ensures ∙ c.if-not-is_empty.false)) in
    (c.in_ok-digest.digest.now, ends)
