use Rattle.std.proofs.Common.{◌≡◌, ℕ, ◌≤◌, List, ◌++◌, length, get_or, Bool, false, ap, sym, ◌∙◌, subst, arith, append_assoc, nat_cmp}
use Rattle.std.specs.FinSet.{FinSet, contains, len, contains-empty}
use Rattle.file_table.specs.declared.shape.Shape.{Shape}
use Rattle.file_table.specs.Table.{column_at, column_blocks, positions_of}
use Rattle.array_scan.specs.Laying.{taken, all_needed, free_positions, given, freed, touched}
use Rattle.array_scan.specs.Refusals.{capped}
use Rattle.array_scan.specs.Marks.{AreHeld, AreTouched}
use Rattle.array_scan.proofs.PlacingLemmas.{unmarked, written, small, needed_within, unheld, freed_is}
use Rattle.array_scan.proofs.LaidLemmas.{keeps_whole, room_left}
use Rattle.array_scan.proofs.placing.place.Goals as goal

pub hold_column-requires-clause-apart : goal.hold_column-requires-clause-apart
hold_column-requires-clause-apart c = c.requires.fates.apart

pub take_free-requires : goal.take_free-requires
take_free-requires c =
    let old = c.args.old.now in
    let size = old.shape.block_size in
    let records = (column_at old.columns c.args.d).records in
    let files = c.args.files.now in
    let capped_count : c.all_needed-count.result ≡ capped (all_needed size files) = c.all_needed-count.ensures ∙ ap (λ (s : Shape). capped (all_needed s.block_size files)) c.shape.ensures.shape in
    let room = room_left size records files (keeps_whole old c.args.d files c.shape.ensures.valid c.requires.column c.requires.fates c.requires.sound) in
    let count : c.all_needed-count.result ≡ all_needed size files = small c.all_needed-count.result (all_needed size files) capped_count (omega (arith, needed_within size files, c.requires.few)) in
    omega (arith, count, room, c.requires.few, ap len c.in_ok-hold_column.ensures.list)

pub hold_column-requires-clause-held : goal.hold_column-requires-clause-held
hold_column-requires-clause-held c =
    λ p.
    ap (λ (held : List Bool). get_or held p false) (c.deref_mut.ensures.value ∙ c.in_ok-held.ensures) ∙ unmarked _ p
    ∙ sym (ap (λ (l : FinSet nat_cmp). contains l p) c.new-list.ensures ∙ contains-empty nat_cmp p)

pub returns-clause-given : goal.returns-clause-given
returns-clause-given c =
    let old = c.args.old.now in
    let size = old.shape.block_size in
    let column = column_at old.columns c.args.d in
    let files = c.args.files.now in
    let capped_count : c.all_needed-count.result ≡ capped (all_needed size files) = c.all_needed-count.ensures ∙ ap (λ (s : Shape). capped (all_needed s.block_size files)) c.shape.ensures.shape in
    let few : all_needed size files ≤ 67108864 = omega (arith, needed_within size files, c.requires.few) in
    let count : c.all_needed-count.result ≡ all_needed size files = small c.all_needed-count.result (all_needed size files) capped_count few in
    c.in_ok-free.ensures ∙ ap (λ (l : FinSet nat_cmp). free_positions l c.all_needed-count.result) c.in_ok-hold_column.ensures.list ∙ ap (free_positions (taken column.records files)) count

pub returns-clause-touched : goal.returns-clause-touched
returns-clause-touched c =
    λ earlier are.
    let old = c.args.old.now in
    let column = column_at old.columns c.args.d in
    let files = c.args.files.now in
    let held = c.deref-2.result.now in
    let held_is : held ≡ c.hold_column.new.held = c.deref-2.ensures.value ∙ written c.in_ok-held.held.len c.hold_column.new.held c.in_ok-held.held.items (omega (arith, c.hold_column.auto.held, ap length c.deref_mut.ensures.value)) (omega (arith, c.in_ok-held.held.ok.0)) in
    let holds : AreHeld held c.hold_column.new.list = subst (λ (h : List Bool). AreHeld h c.hold_column.new.list) (sym held_is) c.in_ok-hold_column.ensures.held in
    let gives : c.deref.result.now ≡ given old.shape.block_size column files = c.deref.ensures.value ∙ returns-clause-given c in
    let frees : unheld held (positions_of (column_blocks column)) ≡ freed column files = freed_is held column files c.hold_column.new.list holds c.in_ok-hold_column.ensures.list in
    let all : (earlier ++ c.deref.result.now) ++ unheld held (positions_of (column_blocks column)) ≡ earlier ++ touched old.shape.block_size column files =
    append_assoc earlier c.deref.result.now (unheld held (positions_of (column_blocks column)))
    ∙ ap (λ (ps : List ℕ). earlier ++ (ps ++ unheld held (positions_of (column_blocks column)))) gives
    ∙ ap (λ (ps : List ℕ). earlier ++ (given old.shape.block_size column files ++ ps)) frees in
    subst (AreTouched c.touch_column.new.marks) all (c.touch_column.ensures (earlier ++ c.deref.result.now) (c.touch.ensures earlier are))
