use Rattle.std.proofs.Common.{ap, refl, ◌∙◌, true}
use Rattle.std.specs.Vec.{with_item}
use Rattle.file_restorer.specs.declared.state.FileState.{FileState}
use Rattle.file_restorer.specs.Mending.{with_state}
use Rattle.file_restorer.specs.State.{no_state}
use Rattle.file_restorer.proofs.NestedLemmas.{element_is, rows_set}
use Rattle.snap_fix.proofs.repairing.cells.lose.Goals as goal

pub returns : goal.returns
returns c =
    let states = c.args.states.now in
    let row = c.index_mut.result.now in
    rows_set c.states.inside.columns.items states c.states.view_is c.args.d c.args.i c.requires.column row c.index_mut.ensures.value
    (record c.index_mut-state.result.now { lost = true }) (with_item row c.args.i (record c.index_mut-state.result.now { lost = true })) refl
    ∙ ap (λ (state : FileState). with_state states c.args.d c.args.i (record state { lost = true }))
    (element_is c.states.inside.columns.items states c.states.view_is c.args.d c.args.i c.requires.column
    row c.index_mut.ensures.value c.index_mut-state.result.now no_state c.index_mut-state.ensures.value c.requires.rec)
