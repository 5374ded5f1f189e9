use Rattle.std.proofs.Common.{◌<◌, ◌≤◌, ⊎_elim, length, IsTrue, refl, sym, ◌∙◌, subst, arith}
use Rattle.std.proofs.lemmas.Bool.{cases_eq}
use Rattle.disk_model.specs.Files.{Stays}
use Rattle.parity_split.specs.Joined.{part_of}
use Rattle.parity_split.specs.Works.{parts_in}
use Rattle.disk_model.proofs.VaultLemmas.{reading_leaves}
use Rattle.parity_split.proofs.WorksLemmas.{works_start, reads_then, still_within, rose_at, found_len, in_count}
use Rattle.parity_split.proofs.parts.find.Goals as goal
use Rattle.parity_split.proofs.parts.find.Goals.{then-part-parts-via-then-part-parts, then-part-parts-via-else-part-parts+then-len-parts}

pub loop-len-init : goal.loop-len-init
loop-len-init g c = record { works = works_start Stays _ (λ files. refl); unwritten = refl; within = c.requires; low = c.requires.some; full = λ t j below. absurd (omega arith) }

pub part_len-requires : goal.part_len-requires
part_len-requires g c = omega (arith, c.loop-len.invariant.within.within)

pub returns-in_err-len-clause-works : goal.returns-in_err-len-clause-works
returns-in_err-len-clause-works g c = reads_then _ _ _ _ _ _ c.loop-len.invariant.works c.in_err-len.ensures.call

pub returns-in_err-len-clause-cause : goal.returns-in_err-len-clause-cause
returns-in_err-len-clause-cause g c = rose_at c.from_residual.result Stays _ _ (g.V.Base.view c.part_len.new.self) c.loop-len.invariant.works c.in_err-len.ensures.call.called.cause

pub returns-in_err-len-clause-unwritten : goal.returns-in_err-len-clause-unwritten
returns-in_err-len-clause-unwritten g c = reading_leaves _ _ _ _ _ refl c.in_err-len.ensures.call ∙ c.loop-len.invariant.unwritten

pub returns-then-part-parts-clause-unwritten : goal.returns-then-part-parts-clause-unwritten
returns-then-part-parts-clause-unwritten g c = reading_leaves _ _ _ _ _ refl c.in_ok-len.ensures.call ∙ c.loop-len.invariant.unwritten

pub returns-then-part-parts-clause-works : goal.returns-then-part-parts-clause-works
returns-then-part-parts-clause-works g c = reads_then _ _ _ _ _ _ c.loop-len.invariant.works c.in_ok-len.ensures.call

pub returns-then-part-parts-clause-found : goal.returns-then-part-parts-clause-found
returns-then-part-parts-clause-found g c = λ t.
    let was : IsTrue (g.V.Base.view c.loop-len.base).tells = c.loop-len.invariant.works.calls.goes_on.tells ∙ t in
    let files = (g.V.Base.view c.args.base.now).files in
    let len = found_len c.args.parts c.loop-len.part c.in_ok-len.len files (g.V.Base.view c.loop-len.base).files c.loop-len.invariant.low (c.loop-len.invariant.works.changes.reads t) (c.in_ok-len.ensures.found was) in
    let count = in_count c.args.parts files (g.V.Base.view c.args.base.now).levels c.requires ((g.V.Base.well_formed _).shape t).files.parities in
    record {
      is = record {
        within = omega (arith, c.loop-len.invariant.low);
        full = c.loop-len.invariant.full t;
        ends = λ more. elim c.then-part-parts.branch [ then-part-parts-via-then-part-parts w ↦ absurd (omega arith) | then-part-parts-via-else-part-parts+then-len-parts w ↦ omega arith ];
      };
      len = len;
    }

pub loop-len-preserved : goal.loop-len-preserved
loop-len-preserved g c =
    let works = reads_then _ _ _ _ _ _ c.loop-len.invariant.works c.in_ok-len.ensures.call in
    let low : c.loop-len.part < c.args.parts.count = c.loop-len.invariant.low in
    record {
      works = works;
      unwritten = reading_leaves _ _ _ _ _ refl c.in_ok-len.ensures.call ∙ c.loop-len.invariant.unwritten;
      within = still_within c.args.parts Stays _ _ works c.requires;
      low = omega arith;
      full = λ t j below.
          let was : IsTrue (g.V.Base.view c.loop-len.base).tells = c.loop-len.invariant.works.calls.goes_on.tells ∙ t in
          let files = (g.V.Base.view c.args.base.now).files in
          let len = found_len c.args.parts c.loop-len.part c.in_ok-len.len files (g.V.Base.view c.loop-len.base).files low (c.loop-len.invariant.works.changes.reads t) (c.in_ok-len.ensures.found was) in
          ⊎_elim
          (λ e. subst (λ k. c.args.parts.capacity ≤ length (part_of (parts_in c.args.parts files) k)) (sym e) (omega arith))
          (λ ne. c.loop-len.invariant.full t j (omega arith))
          (cases_eq j c.loop-len.part);
    }

pub returns-then-part-parts-clause-room : goal.returns-then-part-parts-clause-room
returns-then-part-parts-clause-room g c = λ more. elim c.then-part-parts.branch [ then-part-parts-via-then-part-parts w ↦ absurd (omega arith) | then-part-parts-via-else-part-parts+then-len-parts w ↦ w.if-len-parts.true ]
