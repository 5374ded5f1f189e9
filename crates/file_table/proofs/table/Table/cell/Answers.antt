use Rattle.std.proofs.Common.{◌≡◌, ◌≢◌, ◌<◌, ◌∙◌, ℕ, length, subst, sym}
use Rattle.std.specs.List.{AllPairs}
use Rattle.std.proofs.lemmas.List.{get_or_default}
use Rattle.file_table.specs.Table.{Column, TableValue, IsAt, column_at, column_blocks, positions_of, no_column}
use Rattle.file_table.specs.Valid.{IsValid}
use Rattle.file_table.specs.Cells.{IsCellOf}
use Rattle.file_table.proofs.CellInLemmas.{cell_in_only, cell_in_nowhere}
use Rattle.file_table.proofs.IndexedLemmas.{place_in, cell_found, nowhere}
use Rattle.file_table.proofs.table.Table.cell.Goals as goal

-- each position is used once in a column of a valid table
once_in : (table : TableValue) (d : ℕ) → IsValid table → d < length table.columns → AllPairs (λ (a b : ℕ). a ≢ b) (positions_of (column_blocks (column_at table.columns d)))
once_in table d valid within = (valid.columns.each d no_column within).once

pub cell_at-requires : goal.cell_at-requires
cell_at-requires c =
    let t = c.self.inside in
    let within : c.args.d < length t.disks.items = subst (λ (v : TableValue). c.args.d < length v.columns) (sym c.self.view_is) c.requires.column in
    let read : c.index-in-Some.result.now ≡ column_at t.disks.items c.args.d = c.index-in-Some.ensures ∙ get_or_default t.disks.items c.args.d c.index-in-Some.result.now no_column within in
    rw read (place_in t.disks.items t.indexes.items c.args.d c.args.s c.index.result.now c.self.invariant.indexed within c.index.ensures c.in-Some.place c.in-Some.ensures)

pub returns-in-Some-clause-found : goal.returns-in-Some-clause-found
returns-in-Some-clause-found c =
    let t = c.self.inside in
    let within : c.args.d < length t.disks.items = subst (λ (v : TableValue). c.args.d < length v.columns) (sym c.self.view_is) c.requires.column in
    let read : c.index-in-Some.result.now ≡ column_at t.disks.items c.args.d = c.index-in-Some.ensures ∙ get_or_default t.disks.items c.args.d c.index-in-Some.result.now no_column within in
    let is : IsCellOf (column_at t.disks.items c.args.d) c.in-Some.place c.cell_at.result = subst (λ (column : Column). IsCellOf column c.in-Some.place c.cell_at.result) read c.cell_at.ensures in
    let at = cell_found t.disks.items t.indexes.items c.args.d c.args.s c.index.result.now c.self.invariant.indexed within c.index.ensures c.in-Some.place c.cell_at.result c.in-Some.ensures is in
    subst (λ (v : TableValue). IsAt (column_at v.columns c.args.d) c.args.s c.cell_at.result.rec c.cell_at.result.index) c.self.view_is at

pub returns-in-Some-clause-value : goal.returns-in-Some-clause-value
returns-in-Some-clause-value c =
    let valid : IsValid c.args.self.now = subst IsValid c.self.view_is c.self.invariant.valid in
    sym (cell_in_only (column_at c.args.self.now.columns c.args.d) c.args.s (once_in c.args.self.now c.args.d valid c.requires.column) c.cell_at.result.rec c.cell_at.result.index (returns-in-Some-clause-found c))

pub returns-in-Some-clause-only : goal.returns-in-Some-clause-only
returns-in-Some-clause-only c = λ i index at.
    let valid : IsValid c.args.self.now = subst IsValid c.self.view_is c.self.invariant.valid in
    returns-in-Some-clause-value c ∙ cell_in_only (column_at c.args.self.now.columns c.args.d) c.args.s (once_in c.args.self.now c.args.d valid c.requires.column) i index at

pub returns-in-None-clause-value : goal.returns-in-None-clause-value
returns-in-None-clause-value c =
    let t = c.self.inside in
    let within : c.args.d < length t.disks.items = subst (λ (v : TableValue). c.args.d < length v.columns) (sym c.self.view_is) c.requires.column in
    let none = nowhere t.disks.items t.indexes.items c.args.d c.args.s c.index.result.now c.self.invariant.indexed within c.index.ensures c.in-None.ensures in
    sym (cell_in_nowhere (column_at c.args.self.now.columns c.args.d) c.args.s
    (λ (i index : ℕ) at. none i index (subst (λ (v : TableValue). IsAt (column_at v.columns c.args.d) c.args.s i index) (sym c.self.view_is) at)))

pub returns-in-None-clause-only : goal.returns-in-None-clause-only
returns-in-None-clause-only c = λ i index at.
    let valid : IsValid c.args.self.now = subst IsValid c.self.view_is c.self.invariant.valid in
    returns-in-None-clause-value c ∙ cell_in_only (column_at c.args.self.now.columns c.args.d) c.args.s (once_in c.args.self.now c.args.d valid c.requires.column) i index at
