use Rattle.std.proofs.Common.{◌≡◌, ◌*◌, ◌<◌, Bool, List, length, map, set, Vec, Global, Result, Ok, Err, IfOk, IfErr, refl, sym, ap, subst, arith}
use Rattle.std.specs.Vec.{with_item}
use Rattle.disk_model.specs.declared.fault.Failed.{Failed}
use Rattle.file_table.specs.declared.shape.Shape.{Shape}
use Rattle.stripe_reader.specs.Starts.{StartsValue, no_start}
use Rattle.stripe_reader.specs.declared.starts.Start.{Start}
use Rattle.file_restorer.specs.declared.state.FileState.{FileState}
use Rattle.file_restorer.specs.Mending.{MendsCell, MendsNot}
use Rattle.file_restorer.specs.State.{no_state}
use Rattle.file_restorer.proofs.NestedLemmas.{element_is, rows_set}
use Rattle.file_restorer.proofs.MendedCellLemmas.{given_ready, mends}
use Rattle.file_restorer.proofs.mending.mend_cell.Goals as goal
use Rattle.file_restorer.proofs.mending.mend_cell.Goals.{in-Ok, in-Err-Missing, in-Err-Failed}

if_ok : {T E : Type 0} (result : Result T E) (x : T) (P : T → Type 0) → result ≡ Ok x → P x → IfOk result P
if_ok (Ok y) x P is held = let same : y ≡ x = cc in subst P (sym same) held
if_ok (Err e) x P is held = tt

if_err : {T E : Type 0} (result : Result T E) (e : E) (P : E → Type 0) → result ≡ Err e → P e → IfErr result P
if_err (Ok y) e P is held = tt
if_err (Err f) e P is held = let same : f ≡ e = cc in subst P (sym same) held

no_ok : {T E : Type 0} (result : Result T E) (e : E) (P : T → Type 0) → result ≡ Err e → IfOk result P
no_ok (Ok y) e P is = absurd cc
no_ok (Err f) e P is = tt

no_err : {T E : Type 0} (result : Result T E) (x : T) (P : E → Type 0) → result ≡ Ok x → IfErr result P
no_err (Ok y) x P is = tt
no_err (Err f) x P is = absurd cc

pub write_bytes-requires-clause-ready : goal.write_bytes-requires-clause-ready
write_bytes-requires-clause-ready g c κs within =
    let can = c.requires in
    let starts = c.args.starts.now in
    let states = c.args.states.now in
    let starts_long : c.args.d < length starts.columns = omega (arith, can.starts_fit.columns, can.column) in
    let states_long : c.args.d < length states = omega (arith, can.states_fit.columns, can.column) in
    let column_long = can.starts_fit.records c.args.d can.column in
    let state_long = can.states_fit.records c.args.d can.column in
    given_ready c.args.table.now c.args.d c.args.cell c.args.bytes.now starts states (g.F.Folder.view c.args.folder.now) c.shape.ensures.valid can
    c.path.result.now (c.args.cell.index * c.shape.result.block_size) c.index_mut-start.result.now c.index_mut-state.result.now
    c.path.ensures (ap (λ (s : Shape). c.args.cell.index * s.block_size) c.shape.ensures.shape)
    (element_is c.starts.inside.columns.items starts.columns (ap (λ (s : StartsValue). s.columns) c.starts.view_is) c.args.d c.args.cell.rec starts_long
    c.index_mut.result.now c.index_mut.ensures.value c.index_mut-start.result.now no_start c.index_mut-start.ensures.value (omega (arith, column_long, can.rec)))
    (element_is c.states.inside.columns.items states c.states.view_is c.args.d c.args.cell.rec states_long
    c.index_mut-2.result.now c.index_mut-2.ensures.value c.index_mut-state.result.now no_state c.index_mut-state.ensures.value (omega (arith, state_long, can.rec)))

pub returns : goal.returns
returns g c =
    let can = c.requires in
    let starts = c.args.starts.now in
    let states = c.args.states.now in
    let starts_long : c.args.d < length starts.columns = omega (arith, can.starts_fit.columns, can.column) in
    let states_long : c.args.d < length states = omega (arith, can.states_fit.columns, can.column) in
    let column_long = can.starts_fit.records c.args.d can.column in
    let state_long = can.states_fit.records c.args.d can.column in
    let starts_view = ap (λ (s : StartsValue). s.columns) c.starts.view_is in
    let row = c.index_mut.result.now in
    let state_row = c.index_mut-2.result.now in
    let row_after = with_item row c.args.cell.rec c.write_bytes.new.start in
    let state_row_after = with_item state_row c.args.cell.rec c.write_bytes.new.state in
    let starts_after : StartsValue = record { columns = map (λ (v : Vec Start Global). v.items) (set c.starts.inside.columns.items c.args.d row_after) } in
    let states_after : List (List FileState) = map (λ (v : Vec FileState Global). v.items) (set c.states.inside.columns.items c.args.d state_row_after) in
    let old = g.F.Folder.view c.args.folder.now in
    let end = g.F.Folder.view c.write_bytes.new.folder in
    let is_mended : Bool → Type 0 = λ written. MendsCell c.args.table.now c.args.d c.args.cell c.args.bytes.now written starts states old starts_after states_after end in
    let is_not : Failed → Type 0 = λ failed. MendsNot c.args.table.now c.args.d c.args.cell c.args.bytes.now starts states old end in
    let ends = mends c.args.table.now c.args.d c.args.cell c.args.bytes.now starts states old c.shape.ensures.valid can
    c.path.result.now (c.args.cell.index * c.shape.result.block_size) c.index_mut-start.result.now c.index_mut-state.result.now
    c.path.ensures (ap (λ (s : Shape). c.args.cell.index * s.block_size) c.shape.ensures.shape)
    (element_is c.starts.inside.columns.items starts.columns starts_view c.args.d c.args.cell.rec starts_long
    row c.index_mut.ensures.value c.index_mut-start.result.now no_start c.index_mut-start.ensures.value (omega (arith, column_long, can.rec)))
    (element_is c.states.inside.columns.items states c.states.view_is c.args.d c.args.cell.rec states_long
    state_row c.index_mut-2.ensures.value c.index_mut-state.result.now no_state c.index_mut-state.ensures.value (omega (arith, state_long, can.rec)))
    c.write_bytes.new.start c.write_bytes.new.state end starts_after states_after
    (ap (λ (columns : List (List Start)). record { columns = columns })
    (rows_set c.starts.inside.columns.items starts.columns starts_view c.args.d c.args.cell.rec starts_long row c.index_mut.ensures.value c.write_bytes.new.start row_after refl))
    (rows_set c.states.inside.columns.items states c.states.view_is c.args.d c.args.cell.rec states_long state_row c.index_mut-2.ensures.value c.write_bytes.new.state state_row_after refl) in
    elim c.match-write_bytes.branch [
      | in-Ok w ↦ record {
        mended = if_ok c.match-write_bytes.result _ is_mended w.result-is (ends.written w.in-Ok.ensures.written);
        failed = no_err c.match-write_bytes.result _ is_not w.result-is;
      }
      | in-Err-Missing w ↦ record {
        mended = if_ok c.match-write_bytes.result _ is_mended w.result-is (ends.none w.in-Err-Missing.field-0 w.in-Err-Missing.field-0-is w.in-Err-Missing.ensures.fault);
        failed = no_err c.match-write_bytes.result _ is_not w.result-is;
      }
      | in-Err-Failed w ↦ record {
        mended = no_ok c.match-write_bytes.result _ is_mended w.result-is;
        failed = if_err c.match-write_bytes.result _ is_not w.result-is (ends.failed w.in-Err-Failed.field-0 w.in-Err-Failed.field-0-is w.in-Err-Failed.ensures.fault);
      }
    ]
