use Rattle.std.proofs.Common.{◌≡◌, List, ℕ, [], length, true, false, sym, ap, ◌∙◌, subst, arith}
use Rattle.std.specs.Prelude.{is_err}
use Rattle.std.specs.List.{All}
use Rattle.content_file.specs.Save.{HasSaved}
use Rattle.content_file.specs.Spelling.{spelling}
use Rattle.disk_model.specs.Vault.{Holds}
use Rattle.file_table.specs.Table.{info_at}
use Rattle.file_table.specs.declared.info.Mark.TheVariants.{Synced}
use Rattle.snap_report.proofs.PutsLemmas.{puts_nothing}
use Rattle.snap_scrub.specs.Course.{TouchesVault}
use Rattle.snap_scrub.proofs.EndLemmas.{length_readings, scrubs_as, marked_is, course_of}
use Rattle.snap_scrub.proofs.PlannedLemmas.{planned_synced, planned_few}
use Rattle.snap_scrub.proofs.SavingLemmas.{touch_by, ok_has, some_stripes, rose_once_more}
use Rattle.snap_scrub.proofs.scrubbing.scrub.Goals as goal

pub mark_all-requires-clause-synced : goal.mark_all-requires-clause-synced
mark_all-requires-clause-synced g c =
    let stripes = c.deref.ensures.value ∙ ap (λ it. it.items) c.look_over-findings.ensures.work.stripes ∙ c.in-Ok.ensures.plan in
    subst (λ (its : List ℕ). All (λ stripe. (info_at c.args.table.infos stripe).mark ≡ Synced) its) (sym stripes) (planned_synced c.args.table c.args.way.now c.args.now)

pub end-requires : goal.end-requires
end-requires g c =
    omega (arith, ap length c.deref-4.ensures.value, ap (λ it. length it.items) c.look_over-findings.ensures.work.stripes, ap length c.in-Ok.ensures.plan, planned_few c.args.table c.args.way.now c.args.now, c.length-count.ensures.valid.short)

pub returns-then-is_err-clause-calls : goal.returns-then-is_err-clause-calls
returns-then-is_err-clause-calls g c =
    let over = c.look_over-findings.ensures.looks in
    let same = ap (λ it. it.items) c.look_over-findings.ensures.work.stripes in
    let touches = touch_by g.V.Vault.view c.args.table c.mark_all.new.table over.readings c.deref-3.result.now c.save_marked-saved.result (g.V.Vault.view c.args.vault.now) c.look_over-findings.new.vault c.save_marked-saved.new.vault
    (c.deref-3.ensures.value ∙ same ∙ sym over.numbers) over.looks.levels c.save_marked-saved.ensures.rests c.save_marked-saved.ensures.saves in
    touches.calls

pub returns-clause-calls : goal.returns-clause-calls
returns-clause-calls g c =
    let over = c.look_over-findings.ensures.looks in
    let same = ap (λ it. it.items) c.look_over-findings.ensures.work.stripes in
    let touches = touch_by g.V.Vault.view c.args.table c.mark_all.new.table over.readings c.deref-3.result.now c.save_marked-saved.result (g.V.Vault.view c.args.vault.now) c.look_over-findings.new.vault c.save_marked-saved.new.vault
    (c.deref-3.ensures.value ∙ same ∙ sym over.numbers) over.looks.levels c.save_marked-saved.ensures.rests c.save_marked-saved.ensures.saves in
    touches.calls

pub returns-then-is_err-clause-failed : goal.returns-then-is_err-clause-failed
returns-then-is_err-clause-failed g c =
    let table = c.args.table in
    let over = c.look_over-findings.ensures.looks in
    let same = ap (λ it. it.items) c.look_over-findings.ensures.work.stripes in
    let after = c.mark_all.new.table in
    let vault = g.V.Vault.view c.save_marked-saved.new.vault in
    let first = g.V.Vault.view c.args.vault.now in
    let touches = touch_by g.V.Vault.view table after over.readings c.deref-3.result.now c.save_marked-saved.result first c.look_over-findings.new.vault c.save_marked-saved.new.vault
    (c.deref-3.ensures.value ∙ same ∙ sym over.numbers) over.looks.levels c.save_marked-saved.ensures.rests c.save_marked-saved.ensures.saves in
    let failed : is_err c.save_marked-saved.result ≡ true = sym c.is_err.ensures.value ∙ c.if-is_err.true in
    let broke = subst (λ b. TouchesVault table after over.readings b first vault) failed touches in
    let after_is = marked_is _ _ _ _ _ _ _ _ _ _ _ over c.args.now after c.deref.result.now c.deref-2.result.now c.mark_all.ensures (c.deref.ensures.value ∙ same) c.deref-2.ensures.value in
    record {
      readings = over.readings;
      course = course_of _ _ _ _ _ _ _ _ _ _ _ over c.args.way.now c.args.now true [] after vault c.look_over-findings.new.lines c.in-Ok.ensures.plan after_is broke (puts_nothing _ _);
      settled = over.looks.told.settled;
      rose = rose_once_more table after over.readings first vault broke;
    }

pub returns-clause-done : goal.returns-clause-done
returns-clause-done g c =
    let table = c.args.table in
    let over = c.look_over-findings.ensures.looks in
    let same = ap (λ it. it.items) c.look_over-findings.ensures.work.stripes in
    let after = c.mark_all.new.table in
    let vault = g.V.Vault.view c.save_marked-saved.new.vault in
    let first = g.V.Vault.view c.args.vault.now in
    let saved_stripes = c.deref-3.ensures.value ∙ same ∙ sym over.numbers in
    let touches = touch_by g.V.Vault.view table after over.readings c.deref-3.result.now c.save_marked-saved.result first c.look_over-findings.new.vault c.save_marked-saved.new.vault
    saved_stripes over.looks.levels c.save_marked-saved.ensures.rests c.save_marked-saved.ensures.saves in
    let well : is_err c.save_marked-saved.result ≡ false = sym c.is_err.ensures.value ∙ c.if-is_err.false in
    let ended = subst (λ b. TouchesVault table after over.readings b first vault) well touches in
    let after_is = marked_is _ _ _ _ _ _ _ _ _ _ _ over c.args.now after c.deref.result.now c.deref-2.result.now c.mark_all.ensures (c.deref.ensures.value ∙ same) c.deref-2.ensures.value in
    scrubs_as _ _ _ _ _ _ _ _ _ _ c.end.ensures.end (record {
      readings = over.readings;
      course = course_of _ _ _ _ _ _ _ _ _ _ _ over c.args.way.now c.args.now false _ after vault c.end.new.lines c.in-Ok.ensures.plan after_is ended c.end.ensures.puts;
      settled = c.end.ensures.settled;
      table_is = after_is;
      checked = ap length (c.deref-4.ensures.value ∙ same ∙ sym over.numbers) ∙ length_readings over.readings;
      findings = over.findings_are;
      saved = λ some.
          subst (λ n. Holds (HasSaved n (spelling after)) vault) over.looks.levels.goes_on.copies
          (ok_has c.save_marked-saved.result well (c.save_marked-saved.ensures.saves (some_stripes over.readings c.deref-3.result.now saved_stripes some)).saved);
      no_draft = λ some. ok_has c.save_marked-saved.result well (c.save_marked-saved.ensures.saves (some_stripes over.readings c.deref-3.result.now saved_stripes some)).gone;
    })
