use Rattle.std.proofs.Common.{◌≡◌, ℕ, ◌+◌, ◌-◌, ◌*◌, ◌<◌, take, get_or, set, Some, None, false, subst, sym, ap, ◌∙◌, inl, inr, arith}
use Rattle.std.specs.Prelude.{if◌then◌else◌}
use Rattle.std.proofs.lemmas.Bool.Decides.{eqb_tells}
use Rattle.std.proofs.lemmas.List.{get_or-set_same, get_or-set_other, length-set}
use Rattle.file_table.specs.declared.shape.Shape.{Shape}
use Rattle.parity_writer.specs.LevelsValue.{level_at}
use Rattle.stripe_examiner.specs.Findings.{is_wrong}
use Rattle.stripe_examiner.specs.Known.{AreRemainders}
use Rattle.stripe_examiner.specs.Surveyed.{plan_in}
use Rattle.stripe_examiner.proofs.JudgingLemmas.{left_of}
use Rattle.stripe_examiner.proofs.judging.wrong_levels.Goals as goal

pub loop-r-preserved : goal.loop-r-preserved
loop-r-preserved c =
    let plan = plan_in c.args.survey.now in
    let levels = c.args.levels.now in
    let shape = c.shape-shape.result in
    let r = c.loop-r.r in
    let start = r * shape.block_size in
    let flag = c.is_wrong_level.result in
    let inside : r < levels.count = omega (arith, c.loop-r-test.true, c.requires.count, ap (λ (s : Shape). s.levels) c.shape-shape.ensures.shape) in
    let few : r < 6 = omega (arith, inside, c.requires.count, c.shape-shape.ensures.valid.shape.levels.most) in
    record {
      long = length-set c.loop-r.wrong r flag ∙ c.loop-r.invariant.long;
      flags = λ row are k below. elim (eqb_tells k r) [
        | inl same ↦
            subst (λ (n : ℕ). get_or (set c.loop-r.wrong r flag) n false ≡ is_wrong plan c.args.stripe (level_at levels n) (if c.args.known then Some row else None) n) (sym same.1)
            (get_or-set_same c.loop-r.wrong r flag false (omega (arith, few, c.loop-r.invariant.long))
            ∙ c.is_wrong_level.ensures row
            (λ known. left_of shape.block_size row levels c.args.remainders.now r (start + shape.block_size - start)
            (subst (λ (s : Shape). AreRemainders s.block_size row (take levels.count levels.levels) c.args.remainders.now) (sym c.shape-shape.ensures.shape)
            (are known))
            inside c.requires.room (omega arith)))
        | inr other ↦
            let apart = other.1 in
            get_or-set_other c.loop-r.wrong r k flag false apart ∙ c.loop-r.invariant.flags row are k (omega (arith, below, apart))
      ];
    }

pub returns : goal.returns
returns c row are k below =
    c.loop-r.invariant.flags row are k (omega (arith, below, c.loop-r-test.false, c.requires.count, ap (λ (s : Shape). s.levels) c.shape-shape.ensures.shape))
