use Rattle.std.proofs.Common.{Some, None, ◌∙◌, subst}
use Rattle.memchr.specs.Find.{IsLastByte, is_byte}
use Rattle.array_setup.proofs.PathLemmas.{no_slash, last_slash, boundary, behind_last, alone}
use Rattle.array_setup.proofs.matching.last_component.Goals as goal

pub range_from-requires : goal.range_from-requires
range_from-requires c =
    let found : IsLastByte (is_byte 47) c.args.path.now (Some c.in-Some.slash) = subst (λ r. IsLastByte (is_byte 47) c.args.path.now r) c.in-Some.is (subst (λ b. IsLastByte (is_byte 47) b c.memrchr.result) c.as_bytes.ensures.value c.memrchr.ensures) in
    λ _. boundary c.args.path.now c.in-Some.slash c.utf8.path (last_slash c.args.path.now c.in-Some.slash found)

pub returns-in-Some-clause-value : goal.returns-in-Some-clause-value
returns-in-Some-clause-value c =
    let found : IsLastByte (is_byte 47) c.args.path.now (Some c.in-Some.slash) = subst (λ r. IsLastByte (is_byte 47) c.args.path.now r) c.in-Some.is (subst (λ b. IsLastByte (is_byte 47) b c.memrchr.result) c.as_bytes.ensures.value c.memrchr.ensures) in
    c.range_from.ensures.value ∙ behind_last c.args.path.now c.in-Some.slash (last_slash c.args.path.now c.in-Some.slash found)

pub returns-in-Some-clause-no_slash : goal.returns-in-Some-clause-no_slash
returns-in-Some-clause-no_slash c =
    let found : IsLastByte (is_byte 47) c.args.path.now (Some c.in-Some.slash) = subst (λ r. IsLastByte (is_byte 47) c.args.path.now r) c.in-Some.is (subst (λ b. IsLastByte (is_byte 47) b c.memrchr.result) c.as_bytes.ensures.value c.memrchr.ensures) in
    rw c.range_from.ensures.value (last_slash c.args.path.now c.in-Some.slash found).last

pub returns-in-None-clause-value : goal.returns-in-None-clause-value
returns-in-None-clause-value c =
    let found : IsLastByte (is_byte 47) c.args.path.now None = subst (λ r. IsLastByte (is_byte 47) c.args.path.now r) c.in-None.is (subst (λ b. IsLastByte (is_byte 47) b c.memrchr.result) c.as_bytes.ensures.value c.memrchr.ensures) in
    alone c.args.path.now (no_slash c.args.path.now found)

pub returns-in-None-clause-no_slash : goal.returns-in-None-clause-no_slash
returns-in-None-clause-no_slash c =
    let found : IsLastByte (is_byte 47) c.args.path.now None = subst (λ r. IsLastByte (is_byte 47) c.args.path.now r) c.in-None.is (subst (λ b. IsLastByte (is_byte 47) b c.memrchr.result) c.as_bytes.ensures.value c.memrchr.ensures) in
    no_slash c.args.path.now found
