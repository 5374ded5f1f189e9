use Rattle.std.proofs.Common.{◌≡◌, ◌+◌, ◌<◌, List, length, get_or, take, sym, ap, ap₂, ◌∙◌, arith, ℕ}
use Rattle.std.specs.Prelude.{slice_set}
use Rattle.std.proofs.lemmas.List.{length-take-le, take_more}
use Rattle.file_table.specs.Table.{TableValue, info_at}
use Rattle.file_table.specs.declared.info.Info.{Info}
use Rattle.file_table.specs.declared.info.Mark.TheVariants.{Pending, Synced}
use Rattle.snap_scrub.specs.Marks.{info_by, marked}
use Rattle.snap_scrub.specs.declared.verdict.Verdict.{Verdict}
use Rattle.snap_scrub.specs.declared.verdict.Verdict.TheVariants.{Right}
use Rattle.snap_scrub.proofs.MarkLemmas.{length-marked, marked_more, marked_synced, synced_by}
use Rattle.snap_scrub.proofs.marking.mark_all.Goals as goal

pub info-requires : goal.info-requires
info-requires c =
    omega (
      arith,
      c.requires.within c.loop-i.i 0 c.loop-i-test.true,
      ap (λ (t : TableValue). length t.infos) c.loop-i.invariant,
      length-marked c.args.now (take c.loop-i.i c.args.stripes.now) (take c.loop-i.i c.args.verdicts.now) c.args.table.now.infos,
    )

pub set_info-requires-clause-stripe : goal.set_info-requires-clause-stripe
set_info-requires-clause-stripe c =
    omega (
      arith,
      c.requires.within c.loop-i.i 0 c.loop-i-test.true,
      ap (λ (t : TableValue). length t.infos) c.loop-i.invariant,
      length-marked c.args.now (take c.loop-i.i c.args.stripes.now) (take c.loop-i.i c.args.verdicts.now) c.args.table.now.infos,
    )

pub set_info-requires-clause-state : goal.set_info-requires-clause-state
set_info-requires-clause-state c =
    let i = c.loop-i.i in
    let stripe = get_or c.args.stripes.now i 0 in
    let synced : c.info_after-info.result.mark ≡ Synced =
    ap (λ (it : Info). it.mark) c.info_after-info.ensures
    ∙ synced_by c.args.now (get_or c.args.verdicts.now i Right) c.info.result
    (ap (λ (it : Info). it.mark) c.info.ensures
    ∙ ap (λ (t : TableValue). (info_at t.infos stripe).mark) c.loop-i.invariant
    ∙ marked_synced c.args.now (take i c.args.stripes.now) (take i c.args.verdicts.now) c.args.table.now.infos stripe (c.requires.within i 0 c.loop-i-test.true) (c.requires.synced i 0 c.loop-i-test.true)) in
    λ pending. absurd (let clash : Synced ≡ Pending = sym synced ∙ pending in cc)

pub loop-i-preserved : goal.loop-i-preserved
loop-i-preserved c =
    let i = c.loop-i.i in
    let now = c.args.now in
    let old = c.args.table.now in
    let stripes = c.args.stripes.now in
    let verdicts = c.args.verdicts.now in
    let stripe = get_or stripes i 0 in
    let verdict = get_or verdicts i Right in
    let info = c.info_after-info.result in
    let so_far = marked now (take i stripes) (take i verdicts) old.infos in
    let info_is : info ≡ info_by now verdict (info_at so_far stripe) =
    c.info_after-info.ensures ∙ ap (info_by now verdict) (c.info.ensures ∙ ap (λ (t : TableValue). info_at t.infos stripe) c.loop-i.invariant) in
    let here : i < length stripes = c.loop-i-test.true in
    let there : i < length verdicts = omega (arith, c.requires.count, here) in
    let many : length (take i verdicts) ≡ length (take i stripes) = length-take-le i verdicts (omega (arith, there)) ∙ sym (length-take-le i stripes (omega (arith, here))) in
    let infos : slice_set so_far stripe info ≡ marked now (take (i + 1) stripes) (take (i + 1) verdicts) old.infos =
    ap (slice_set so_far stripe) info_is
    ∙ sym (marked_more now (take i stripes) (take i verdicts) stripe verdict old.infos many)
    ∙ ap₂ (λ (ss : List ℕ) (vs : List Verdict). marked now ss vs old.infos) (sym (take_more stripes i 0 here)) (sym (take_more verdicts i Right there)) in
    c.set_info.ensures
    ∙ ap (λ (t : TableValue). let it : TableValue = record t { infos = slice_set t.infos stripe info } in it) c.loop-i.invariant
    ∙ ap (λ (its : List Info). let it : TableValue = record old { infos = its } in it) infos
