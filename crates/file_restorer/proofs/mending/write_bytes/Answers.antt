use Rattle.std.proofs.Common.{ℕ, inr, [], ◌∷◌, ◌++◌, true, subst, sym}
use Rattle.disk_model.specs.Folder.{WriteAt}
use Rattle.disk_model.specs.declared.fault.FileFault.{FileFault}
use Rattle.file_restorer.specs.Mending.{EndsBy, IsBlockCall, IsSetUpCall, WritesBytes}
use Rattle.file_restorer.specs.Order.{block_calls, put_calls}
use Rattle.file_restorer.proofs.GoesOnLemmas.{ends_wider, handed_on, writes_bytes, write_ends}
use Rattle.file_restorer.proofs.mending.write_bytes.Goals as goal

pub returns-in_err-set_up-clause-fault : goal.returns-in_err-set_up-clause-fault
returns-in_err-set_up-clause-fault g c =
    let old = g.F.Folder.view c.args.folder.now in
    let new = g.F.Folder.view c.set_up.new.folder in
    let Up = IsSetUpCall c.args.start.now.place c.args.path.now in
    let Block = IsBlockCall c.args.start.now.place c.args.path.now c.args.at c.args.bytes.now in
    let puts = put_calls c.args.start.now.place c.args.state.now.touched c.args.path.now in
    let write = WriteAt c.args.path.now c.args.at c.args.bytes.now ∷ [] in
    handed_on c.from_residual.result
    (λ (fault : FileFault). EndsBy fault Block (puts ++ write) c.args.path.now c.args.start.now c.args.state.now old c.set_up.new.start c.set_up.new.state new)
    c.in_err-set_up.field-0.0 c.from_residual.ensures.1
    (ends_wider Up Block puts write (λ call is. inr is) c.in_err-set_up.field-0.0 c.args.path.now c.args.start.now c.args.state.now old c.set_up.new.start c.set_up.new.state new c.in_err-set_up.ensures.fault)

pub returns-in_err-write_at-clause-fault : goal.returns-in_err-write_at-clause-fault
returns-in_err-write_at-clause-fault g c =
    let failed = c.in_err-write_at in
    let old = g.F.Folder.view c.args.folder.now in
    let mid = g.F.Folder.view c.set_up.new.folder in
    let end = g.F.Folder.view c.write_at.new.self in
    handed_on c.from_residual-in_err-write_at.result
    (λ (fault : FileFault). EndsBy fault (IsBlockCall c.args.start.now.place c.args.path.now c.args.at c.args.bytes.now)
    (block_calls c.args.start.now.place c.args.state.now.touched c.args.path.now c.args.at c.args.bytes.now) c.args.path.now c.args.start.now c.args.state.now old c.set_up.new.start c.set_up.new.state end)
    failed.field-0.0 c.from_residual-in_err-write_at.ensures.1
    (write_ends c.args.path.now c.args.start.now c.args.state.now old c.requires.ready c.set_up.new.start c.set_up.new.state mid c.in_ok-set_up.ensures.set_up
    c.args.at c.args.bytes.now failed.field-0.0 end (g.F.Folder.well_formed _) failed.ensures.call failed.ensures.missing)

pub returns-clause-written : goal.returns-clause-written
returns-clause-written g c =
    let old = g.F.Folder.view c.args.folder.now in
    let mid = g.F.Folder.view c.set_up.new.folder in
    let end = g.F.Folder.view c.write_at.new.self in
    let state = c.set_up.new.state in
    subst (λ (n : ℕ). WritesBytes c.args.path.now c.args.at c.args.bytes.now c.args.start.now c.args.state.now old c.set_up.new.start (record { lost = state.lost; touched = true; size = n }) end)
    (sym c.max-state.ensures)
    (writes_bytes c.args.path.now c.args.start.now c.args.state.now old c.requires.ready c.set_up.new.start state mid c.in_ok-set_up.ensures.set_up
    c.args.at c.args.bytes.now end (g.F.Folder.well_formed _) c.in_ok-write_at.ensures.call)
