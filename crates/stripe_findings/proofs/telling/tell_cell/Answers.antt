use Rattle.std.proofs.Common.{◌≡◌, List, [], ◌∷◌, get_or, sym, ◌∙◌}
use Rattle.file_table.specs.Table.{column_at}
use Rattle.file_table.proofs.CellInLemmas.{cell_in-Some}
use Rattle.snap_report.proofs.ToldLemmas.{told_nothing}
use Rattle.stripe_findings.proofs.FindingLemmas.{events_here}
use Rattle.stripe_findings.proofs.TellingLemmas.{told_as}
use Rattle.stripe_findings.proofs.telling.tell_cell.Goals as goal

pub finding-requires-clause-rec : goal.finding-requires-clause-rec
finding-requires-clause-rec g c =
    let looked = c.table_cell.ensures ∙ c.requires.holds.cells c.args.d c.requires.column c.args.i c.requires.stripe in
    (cell_in-Some (column_at c.args.table.now.columns c.args.d) (get_or c.args.stripes.now c.args.i 0) c.in-Some.cell (sym looked ∙ c.in-Some.is)).within

pub finding-requires-clause-block : goal.finding-requires-clause-block
finding-requires-clause-block g c =
    let looked = c.table_cell.ensures ∙ c.requires.holds.cells c.args.d c.requires.column c.args.i c.requires.stripe in
    (cell_in-Some (column_at c.args.table.now.columns c.args.d) (get_or c.args.stripes.now c.args.i 0) c.in-Some.cell (sym looked ∙ c.in-Some.is)).index_within

pub returns-in-None-clause-value : goal.returns-in-None-clause-value
returns-in-None-clause-value g c =
    let looked = c.table_cell.ensures ∙ c.requires.holds.cells c.args.d c.requires.column c.args.i c.requires.stripe in
    sym (events_here c.args.table.now c.args.stripes.now c.args.window.now c.args.i c.args.d c.in-Some.cell c.cell.result c.digest.result []
    (sym looked ∙ c.in-Some.is) c.cell.ensures c.digest.ensures c.in-None.ensures.value)

pub returns-in-None-clause-told : goal.returns-in-None-clause-told
returns-in-None-clause-told g c =
    let looked = c.table_cell.ensures ∙ c.requires.holds.cells c.args.d c.requires.column c.args.i c.requires.stripe in
    told_as _ _ _ _ _ _ _ _ _ _
    (events_here c.args.table.now c.args.stripes.now c.args.window.now c.args.i c.args.d c.in-Some.cell c.cell.result c.digest.result []
    (sym looked ∙ c.in-Some.is) c.cell.ensures c.digest.ensures c.in-None.ensures.value)
    (told_nothing _ _ _ _ _ _)

pub returns-in-Some-finding-clause-value : goal.returns-in-Some-finding-clause-value
returns-in-Some-finding-clause-value g c =
    let looked = c.table_cell.ensures ∙ c.requires.holds.cells c.args.d c.requires.column c.args.i c.requires.stripe in
    sym (events_here c.args.table.now c.args.stripes.now c.args.window.now c.args.i c.args.d c.in-Some.cell c.cell.result c.digest.result (c.in-Some-finding.event ∷ [])
    (sym looked ∙ c.in-Some.is) c.cell.ensures c.digest.ensures c.in-Some-finding.ensures.value)

pub returns-in-Some-finding-clause-told : goal.returns-in-Some-finding-clause-told
returns-in-Some-finding-clause-told g c =
    let looked = c.table_cell.ensures ∙ c.requires.holds.cells c.args.d c.requires.column c.args.i c.requires.stripe in
    told_as _ _ _ _ _ _ _ _ _ _
    (events_here c.args.table.now c.args.stripes.now c.args.window.now c.args.i c.args.d c.in-Some.cell c.cell.result c.digest.result (c.in-Some-finding.event ∷ [])
    (sym looked ∙ c.in-Some.is) c.cell.ensures c.digest.ensures c.in-Some-finding.ensures.value)
    c.tell.ensures
