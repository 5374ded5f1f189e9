use Rattle.std.proofs.Common.{◌≡◌, ◌++◌, length, take, true, ap, arith, subst, refl}
use Rattle.std.proofs.lemmas.List.{take_all}
use Rattle.file_table.specs.Table.{TableValue}
use Rattle.snap_sync.specs.Closing.{closed}
use Rattle.snap_sync.specs.Part.{IsFullSync, trees_of}
use Rattle.stripe_findings.specs.Reading.{StripeReading, is_verified}
use Rattle.snap_sync.proofs.ListFacts.{All-left, All-take}
use Rattle.snap_sync.proofs.PartLemmas.{laid_by_trees, part_copies, part_sync, full_sync, read_as_given, unfailed}
use Rattle.snap_sync.proofs.laws.a_sync_is_a_part_sync.Goals as goal

pub returns-clause-laid : goal.returns-clause-laid
returns-clause-laid c = λ run told. laid_by_trees run.setup run.loaded run.plan.start (run.readings ++ run.ahead) run.folders run.listed run.ended told

pub returns-clause-copies : goal.returns-clause-copies
returns-clause-copies c = λ run files new told.
    part_copies c.a_cell_stands_at_its_position.ensures.found run.setup run.loaded run.plan run.readings run.ahead run.folders run.listed run.ended told files new

pub returns-clause-part : goal.returns-clause-part
returns-clause-part c = λ run count files new told within parity.
    part_sync run.setup run.loaded run.plan.start (run.readings ++ run.ahead) run.folders run.listed run.ended told c.a_cell_stands_at_its_position.ensures.found
    run.readings run.ahead refl count within run.plan.now files new parity

pub returns-clause-full : goal.returns-clause-full
returns-clause-full c = λ run files new told many all parity.
    let start : TableValue = run.plan.start in
    let every : take (length run.readings) run.readings ≡ run.readings = take_all (length run.readings) run.readings (omega arith) in
    let table_is : closed run.plan.now start (take (length run.readings) run.readings) ≡ closed run.plan.now start run.readings = ap (closed run.plan.now start) every in
    subst (λ (table : TableValue). IsFullSync run.setup run.loaded (trees_of run.folders) run.plan.now files table new) table_is
    (full_sync run.setup run.loaded start (run.readings ++ run.ahead) run.folders run.listed run.ended told c.a_cell_stands_at_its_position.ensures.found
    run.readings run.ahead refl (length run.readings) (omega arith) run.plan.now files new many
    (All-take (λ (reading : StripeReading). is_verified start reading ≡ true) (length run.readings) run.readings all) parity)

pub returns-clause-given : goal.returns-clause-given
returns-clause-given c = λ run told none.
    read_as_given run.setup run.loaded run.plan.start (run.readings ++ run.ahead) run.folders run.listed run.ended told c.a_cell_stands_at_its_position.ensures.found none
    run.readings run.ahead refl

pub returns-clause-unfailed : goal.returns-clause-unfailed
returns-clause-unfailed c = λ run told none verified.
    All-left (λ (reading : StripeReading). is_verified run.plan.start reading ≡ true) run.readings run.ahead
    (unfailed run.setup run.loaded run.plan.start (run.readings ++ run.ahead) run.folders run.listed run.ended told c.a_cell_stands_at_its_position.ensures.found none verified)
