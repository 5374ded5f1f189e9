use Rattle.std.proofs.Common.{[], ◌+◌, ◌∙◌, false, None, Some, Ok, Err, refl, sym, arith, subst}
use Rattle.disk_model.specs.Vault.{copies_of}
use Rattle.file_table.specs.Table.{TableValue}
use Rattle.content_file.specs.Load.{ReadsBelow, ReadsInPieces, LoadsTable, GivesNoTable}
use Rattle.content_file.proofs.LoadCounts.{pieces_none, pieces_then, pieces_all}
use Rattle.content_file.proofs.LoadLoop.{passed_none, passed_absent, passed_damaged, passed_failed, passed_to_table, reads_all, went_well, not_empty, is_empty, as_called, copy_of, ends_reading, ends_failed, ends_damaged, ends_empty}
use Rattle.content_file.specs.InOrder.{IsReadFor, ReadsInOrder, AreReadFor}
use Rattle.content_file.specs.declared.loading.CopyFault.TheVariants as copies
use Rattle.content_file.specs.declared.loading.LoadFault.TheVariants as loads
use Rattle.content_file.proofs.OrderCopies.{read_none, read_as_called, read_absent, read_failed, read_damaged, read_table, read_so, found_is, fault_is, order_failed, order_damaged, order_empty}
use Rattle.content_file.proofs.loading.load_by.Given as given
use Rattle.content_file.proofs.loading.load_by.Goals as goal
use Rattle.content_file.proofs.loading.load_by.Goals.{After-load_copy, in-Ok-None, in-Err-Failed, in-Err-Damaged+else-is_err}

pub loop-copy-init : goal.loop-copy-init
loop-copy-init g c =
    let v = g.V.Vault.view c.args.vault.now in
    (as_called _ _ _ _ _ _ _ refl c.new-damages.ensures (passed_none v), pieces_none v, read_as_called v v 0 false [] _ _ refl c.new-damages.ensures (read_none v))

-- one copy more was read
reads : (g : given.Over) (c : After-load_copy g) → ReadsBelow (copies_of (g.V.Vault.view c.args.vault.now)) (g.V.Vault.view c.args.vault.now) (g.V.Vault.view c.load_copy.new.vault)
reads g c = reads_all _ (g.V.Vault.view c.loop-copy.vault) _ c.loop-copy.copy _ _ c.loop-copy.invariant.0 c.load_copy.ensures.reads (omega (arith, c.loop-copy-test.true, c.copies-copy-end.ensures))

-- and its size was asked once at most, and no more pieces read than are allowed
pieces_here : (g : given.Over) (c : After-load_copy g) → ReadsInPieces (c.loop-copy.copy + 1) (g.V.Vault.view c.args.vault.now) (g.V.Vault.view c.load_copy.new.vault)
pieces_here g c = pieces_then c.loop-copy.copy _ (g.V.Vault.view c.loop-copy.vault) _ c.loop-copy.invariant.1 c.load_copy.ensures.pieces c.loop-copy.invariant.0.reads.calls.goes_on.tells c.loop-copy.invariant.0.reads.changes

pieces : (g : given.Over) (c : After-load_copy g) → ReadsInPieces (copies_of (g.V.Vault.view c.args.vault.now)) (g.V.Vault.view c.args.vault.now) (g.V.Vault.view c.load_copy.new.vault)
pieces g c = pieces_all _ _ _ _ (omega (arith, c.loop-copy-test.true, c.copies-copy-end.ensures)) (pieces_here g c)

pub returns-in-Ok-Some-clause-pieces : goal.returns-in-Ok-Some-clause-pieces
returns-in-Ok-Some-clause-pieces g c = pieces g (goal.at.returns-in-Ok-Some-clause-pieces g c).After-load_copy

pub returns-in-Err-Memory-clause-pieces : goal.returns-in-Err-Memory-clause-pieces
returns-in-Err-Memory-clause-pieces g c = pieces g (goal.at.returns-in-Err-Memory-clause-pieces g c).After-load_copy

pub returns-then-is_err-clause-pieces : goal.returns-then-is_err-clause-pieces
returns-then-is_err-clause-pieces g c = pieces g (goal.at.returns-then-is_err-clause-pieces g c).After-load_copy

pub returns-in-Ok-Some-clause-reads : goal.returns-in-Ok-Some-clause-reads
returns-in-Ok-Some-clause-reads g c = reads g (goal.at.returns-in-Ok-Some-clause-reads g c).After-load_copy

pub returns-in-Err-Memory-clause-reads : goal.returns-in-Err-Memory-clause-reads
returns-in-Err-Memory-clause-reads g c = reads g (goal.at.returns-in-Err-Memory-clause-reads g c).After-load_copy

pub returns-then-is_err-clause-reads : goal.returns-then-is_err-clause-reads
returns-then-is_err-clause-reads g c = reads g (goal.at.returns-then-is_err-clause-reads g c).After-load_copy

pub returns-in-Ok-Some-clause-loaded : goal.returns-in-Ok-Some-clause-loaded
returns-in-Ok-Some-clause-loaded g c =
    let loaded = passed_to_table _ (g.V.Vault.view c.loop-copy.vault) _ c.loop-copy.copy _ _ c.loop-copy.invariant.0 c.load_copy.ensures.reads _ (omega (arith, c.loop-copy-test.true, c.copies-copy-end.ensures)) c.in-Ok-Some.ensures.none_failed (pieces_here g (goal.at.returns-in-Ok-Some-clause-loaded g c).After-load_copy)
    (copy_of (g.V.Vault.view c.loop-copy.vault) c.loop-copy.copy _ _ c.in-Ok-Some.field-0-is c.in-Ok-Some.ensures.found) in
    subst (λ (t : TableValue). LoadsTable (g.V.Vault.view c.args.vault.now) (g.V.Vault.view c.load_copy.new.vault) t) (sym c.in-Ok-Some.table-is) loaded

pub loop-copy-preserved : goal.loop-copy-preserved
loop-copy-preserved g c =
    let old = g.V.Vault.view c.args.vault.now in
    let mid = g.V.Vault.view c.loop-copy.vault in
    let new = g.V.Vault.view c.load_copy.new.vault in
    let copy = c.loop-copy.copy in
    let pieces = pieces_then copy old mid new c.loop-copy.invariant.1 c.load_copy.ensures.pieces c.loop-copy.invariant.0.reads.calls.goes_on.tells c.loop-copy.invariant.0.reads.changes in (
      elim c.match-load_copy.branch [
        | in-Ok-None w ↦ as_called _ _ _ _ _ _ _ w.failed-is w.damages-is
            (passed_absent old mid new copy _ _ c.loop-copy.invariant.0 c.load_copy.ensures.reads (copy_of mid copy _ _ w.in-Ok-None.field-0-is w.in-Ok-None.ensures.found) w.in-Ok-None.ensures.none_failed)
        | in-Err-Failed w ↦ as_called _ _ _ _ _ _ _ w.failed-is w.damages-is
            (passed_failed old mid new copy _ _ c.loop-copy.invariant.0 c.load_copy.ensures.reads (subst (GivesNoTable mid new copy) w.in-Err-Failed.field-0-is w.in-Err-Failed.ensures.cause))
        | in-Err-Damaged+else-is_err w ↦ as_called _ _ _ _ _ _ _ w.failed-is (w.damages-is ∙ went_well w.push.result (sym w.if-is_err.ensures.value) w.push.ensures.ok)
            (passed_damaged old mid new copy _ _ c.loop-copy.invariant.0 c.load_copy.ensures.reads w.in-Err-Damaged.damage (subst (GivesNoTable mid new copy) w.in-Err-Damaged.field-0-is w.in-Err-Damaged.ensures.cause))
      ],
      pieces,
      elim c.match-load_copy.branch [
        | in-Ok-None w ↦ read_as_called old new _ _ _ _ _ w.failed-is w.damages-is
            (read_absent old mid new copy _ _ c.loop-copy.invariant.2 (found_is copy _ None mid new w.in-Ok-None.field-0-is w.in-Ok-None.ensures.order))
        | in-Err-Failed w ↦ read_as_called old new _ _ _ _ _ w.failed-is w.damages-is
            (read_failed old mid new copy _ _ c.loop-copy.invariant.2 (fault_is copy _ copies.Failed mid new w.in-Err-Failed.field-0-is w.in-Err-Failed.ensures.order))
        | in-Err-Damaged+else-is_err w ↦ read_as_called old new _ _ _ _ _ w.failed-is (w.damages-is ∙ went_well w.push.result (sym w.if-is_err.ensures.value) w.push.ensures.ok)
            (read_damaged old mid new copy _ _ c.loop-copy.invariant.2 w.in-Err-Damaged.damage
            (fault_is copy _ (copies.Damaged w.in-Err-Damaged.damage) mid new w.in-Err-Damaged.field-0-is w.in-Err-Damaged.ensures.order))
      ],
    )

pub returns-then-failed-clause-reads : goal.returns-then-failed-clause-reads
returns-then-failed-clause-reads g c = ends_reading _ _ c.loop-copy.copy _ _ (omega (arith, c.copies-copy-end.ensures, c.loop-copy-test.false, c.loop-copy.auto.copy-end)) c.loop-copy.invariant.0

pub returns-then-failed-clause-cause : goal.returns-then-failed-clause-cause
returns-then-failed-clause-cause g c = ends_failed _ _ c.loop-copy.copy _ _ (omega (arith, c.copies-copy-end.ensures, c.loop-copy-test.false, c.loop-copy.auto.copy-end)) c.loop-copy.invariant.0 c.if-failed.true

pub returns-clause-reads : goal.returns-clause-reads
returns-clause-reads g c = ends_reading _ _ c.loop-copy.copy _ _ (omega (arith, c.copies-copy-end.ensures, c.loop-copy-test.false, c.loop-copy.auto.copy-end)) c.loop-copy.invariant.0

pub returns-clause-cause : goal.returns-clause-cause
returns-clause-cause g c =
    ends_damaged _ _ c.loop-copy.copy _ _ (omega (arith, c.copies-copy-end.ensures, c.loop-copy-test.false, c.loop-copy.auto.copy-end)) c.loop-copy.invariant.0 c.if-failed.false (not_empty c.loop-copy.damages (sym c.if-is_empty.ensures))

pub returns-then-is_empty-clause-reads : goal.returns-then-is_empty-clause-reads
returns-then-is_empty-clause-reads g c = ends_reading _ _ c.loop-copy.copy _ _ (omega (arith, c.copies-copy-end.ensures, c.loop-copy-test.false, c.loop-copy.auto.copy-end)) c.loop-copy.invariant.0

pub returns-then-is_empty-clause-loaded : goal.returns-then-is_empty-clause-loaded
returns-then-is_empty-clause-loaded g c =
    ends_empty _ _ c.loop-copy.copy _ _ (omega (arith, c.copies-copy-end.ensures, c.loop-copy-test.false, c.loop-copy.auto.copy-end)) c.loop-copy.invariant.0 c.if-failed.false (is_empty c.loop-copy.damages (sym c.if-is_empty.ensures))

pub returns-then-failed-clause-pieces : goal.returns-then-failed-clause-pieces
returns-then-failed-clause-pieces g c = pieces_all _ _ _ _ (omega (arith, c.copies-copy-end.ensures, c.loop-copy-test.false, c.loop-copy.auto.copy-end)) c.loop-copy.invariant.1

pub returns-clause-pieces : goal.returns-clause-pieces
returns-clause-pieces g c = pieces_all _ _ _ _ (omega (arith, c.copies-copy-end.ensures, c.loop-copy-test.false, c.loop-copy.auto.copy-end)) c.loop-copy.invariant.1

pub returns-then-is_empty-clause-pieces : goal.returns-then-is_empty-clause-pieces
returns-then-is_empty-clause-pieces g c = pieces_all _ _ _ _ (omega (arith, c.copies-copy-end.ensures, c.loop-copy-test.false, c.loop-copy.auto.copy-end)) c.loop-copy.invariant.1

-- no memory, with what was read so far
stops : (g : given.Over) (c : After-load_copy g) → ReadsInOrder (AreReadFor (copies_of (g.V.Vault.view c.args.vault.now)) (Err loads.Memory)) (g.V.Vault.view c.args.vault.now) (g.V.Vault.view c.load_copy.new.vault)
stops g c =
    read_so _ (g.V.Vault.view c.loop-copy.vault) _ c.loop-copy.copy _ _ c.loop-copy.invariant.2 (IsReadFor c.load_copy.result) c.load_copy.ensures.order (copies_of (g.V.Vault.view c.args.vault.now))
    (omega (arith, c.loop-copy-test.true, c.copies-copy-end.ensures))

pub returns-then-is_err-clause-order : goal.returns-then-is_err-clause-order
returns-then-is_err-clause-order g c = stops g (goal.at.returns-then-is_err-clause-order g c).After-load_copy

pub returns-in-Err-Memory-clause-order : goal.returns-in-Err-Memory-clause-order
returns-in-Err-Memory-clause-order g c = stops g (goal.at.returns-in-Err-Memory-clause-order g c).After-load_copy

pub returns-in-Ok-Some-clause-order : goal.returns-in-Ok-Some-clause-order
returns-in-Ok-Some-clause-order g c =
    let old = g.V.Vault.view c.args.vault.now in
    let mid = g.V.Vault.view c.loop-copy.vault in
    let new = g.V.Vault.view c.load_copy.new.vault in
    let copy = c.loop-copy.copy in
    let read = read_table old mid new copy _ _ c.loop-copy.invariant.2 _ (found_is copy _ (Some _) mid new c.in-Ok-Some.field-0-is c.in-Ok-Some.ensures.order) (copies_of old) (omega (arith, c.loop-copy-test.true, c.copies-copy-end.ensures)) in
    subst (λ (t : TableValue). ReadsInOrder (AreReadFor (copies_of old) (Ok (Some t))) old new) (sym c.in-Ok-Some.table-is) read

pub returns-then-failed-clause-order : goal.returns-then-failed-clause-order
returns-then-failed-clause-order g c =
    order_failed _ _ c.loop-copy.copy _ _ (copies_of (g.V.Vault.view c.args.vault.now)) (omega (arith, c.copies-copy-end.ensures, c.loop-copy-test.false, c.loop-copy.auto.copy-end)) c.loop-copy.invariant.2

pub returns-then-is_empty-clause-order : goal.returns-then-is_empty-clause-order
returns-then-is_empty-clause-order g c =
    order_empty _ _ c.loop-copy.copy _ _ (copies_of (g.V.Vault.view c.args.vault.now)) (omega (arith, c.copies-copy-end.ensures, c.loop-copy-test.false, c.loop-copy.auto.copy-end)) c.loop-copy.invariant.2
    c.if-failed.false (is_empty c.loop-copy.damages (sym c.if-is_empty.ensures))

pub returns-clause-order : goal.returns-clause-order
returns-clause-order g c =
    order_damaged _ _ c.loop-copy.copy _ _ (copies_of (g.V.Vault.view c.args.vault.now)) (omega (arith, c.copies-copy-end.ensures, c.loop-copy-test.false, c.loop-copy.auto.copy-end)) c.loop-copy.invariant.2
