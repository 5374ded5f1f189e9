use Rattle.std.proofs.Common.{◌≡◌, ◌≤◌, ◌+◌, ℕ, [], ◌∷◌, Bool, true, length, sym, ap, ◌∙◌, arith}
use Rattle.std.specs.List.{filter, range_with_len}
use Rattle.std.proofs.lemmas.Bool.{eqb-true}
use Rattle.std.proofs.lemmas.List.{length-map, length-append}
use Rattle.file_table.specs.Cells.{cell_view}
use Rattle.file_table.specs.Table.{column_at}
use Rattle.stripe_examiner.specs.declared.search.Wanted.{Wanted}
use Rattle.stripe_examiner.specs.Facts.{wanted_by}
use Rattle.stripe_examiner.specs.Marks.{is_marked_missing, column_mark}
use Rattle.stripe_examiner.proofs.KnowLemmas.{passed_one, passed_most, wanted_one, wanted_none}
use Rattle.stripe_examiner.proofs.knowing.wanted_blocks.Goals as goal
use Rattle.stripe_examiner.proofs.knowing.wanted_blocks.Goals.{then-is_missing+else-is_full, else-is_missing}

pub returns-then-is_full : goal.returns-then-is_full
returns-then-is_full c =
    let table = c.args.survey.now.plan.table.now in
    let d = c.loop-d.d in
    let p : ℕ → Bool = λ e. is_marked_missing (column_mark c.args.marks.now e) in
    let f : ℕ → Wanted = λ e. wanted_by table.shape e (cell_view (column_at table.columns e) c.args.stripe) in
    let missing : p d ≡ true = sym c.is_missing.ensures ∙ c.if-is_missing.true in
    let full : length c.loop-d.wanted.items ≡ 6 = eqb-true _ _ (sym c.is_full.ensures.value ∙ c.if-is_full.true) in
    let so_far : length c.loop-d.wanted.items ≡ length (filter p (range_with_len 0 d)) = ap length c.loop-d.invariant ∙ length-map (filter p (range_with_len 0 d)) f in
    let one = ap length (passed_one p d missing) ∙ length-append (filter p (range_with_len 0 d)) (d ∷ []) in
    let below : d + 1 ≤ length table.columns = omega (arith, c.disks-d-end.ensures.count) in
    let more = passed_most p (d + 1) (length table.columns) below in
    record { value = omega (arith, full, so_far, one, more, length-map (filter p (range_with_len 0 (length table.columns))) f) }

pub loop-d-preserved : goal.loop-d-preserved
loop-d-preserved c =
    let table = c.args.survey.now.plan.table.now in
    let d = c.loop-d.d in
    let p : ℕ → Bool = λ e. is_marked_missing (column_mark c.args.marks.now e) in
    let f : ℕ → Wanted = λ e. wanted_by table.shape e (cell_view (column_at table.columns e) c.args.stripe) in
    elim c.if-is_missing.branch [
      | then-is_missing+else-is_full w ↦
          wanted_one f p d c.loop-d.wanted.items c.if-is_missing.wanted.items w.wanted_cell.result (sym c.is_missing.ensures ∙ w.if-is_missing.true)
          c.loop-d.invariant w.wanted_cell.ensures.value (ap (λ v. v.items) w.wanted-is ∙ w.push.ensures.items)
      | else-is_missing w ↦
          ap (λ v. v.items) w.wanted-is ∙ wanted_none f p d c.loop-d.wanted.items (sym c.is_missing.ensures ∙ w.if-is_missing.false) c.loop-d.invariant
    ]
