use Rattle.std.proofs.Common.{⊎_elim, sym, ◌∙◌, IsTrue, refl, arith}
use Rattle.std.proofs.lemmas.Bool.{cases_lt}
use Rattle.parity_split.specs.Works.{Same, LevelBy}
use Rattle.parity_split.proofs.WorksLemmas.{works_start, level_works_then, level_stays, still_within, rose_at}
use Rattle.parity_split.proofs.GrowthLemmas.{same_then}
use Rattle.parity_split.proofs.growth.empty_behind.Goals as goal

pub loop-part-init : goal.loop-part-init
loop-part-init g c = record {
  works = works_start (LevelBy c.args.parts Same) _ (λ files. level_stays c.args.parts Same (λ x. refl) files files refl);
  within = c.requires.parts;
  ready = c.requires.ready;
  emptied = λ t j low high. absurd (omega arith);
}

pub loop-part-preserved : goal.loop-part-preserved
loop-part-preserved g c =
    let p = c.args.parts in
    let old = g.V.Base.view c.args.base.now in
    let mid = g.V.Base.view c.loop-part.base in
    let new = g.V.Base.view c.empty_hidden.new.base in
    let works = level_works_then p Same old mid new same_then c.loop-part.invariant.works c.empty_hidden.ensures.works in
    record {
      works = works;
      within = still_within p (LevelBy p Same) old new works c.requires.parts;
      ready = c.empty_hidden.ensures.ready;
      emptied = λ t j low high.
          let was : IsTrue mid.tells = sym c.empty_hidden.ensures.works.calls.goes_on.tells ∙ t in
          ⊎_elim
          (λ below. c.empty_hidden.ensures.others t j (λ m from to. c.loop-part.invariant.emptied was m (omega arith) to) j (omega arith) below)
          (λ here. c.in_ok-empty_hidden.ensures.emptied t j here high)
          (cases_lt j c.loop-part.part);
    }

pub returns-in_err-empty_hidden-clause-works : goal.returns-in_err-empty_hidden-clause-works
returns-in_err-empty_hidden-clause-works g c = level_works_then c.args.parts Same _ _ _ same_then c.loop-part.invariant.works c.empty_hidden.ensures.works

pub returns-in_err-empty_hidden-clause-cause : goal.returns-in_err-empty_hidden-clause-cause
returns-in_err-empty_hidden-clause-cause g c = rose_at c.from_residual.result (LevelBy c.args.parts Same) (g.V.Base.view c.args.base.now) (g.V.Base.view c.loop-part.base) (g.V.Base.view c.empty_hidden.new.base) c.loop-part.invariant.works c.in_err-empty_hidden.ensures.cause

pub empty_hidden-requires : goal.empty_hidden-requires
empty_hidden-requires g c = record { parts = c.loop-part.invariant.within; behind = omega arith; within = omega arith; ready = c.loop-part.invariant.ready }
