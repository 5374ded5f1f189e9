use Rattle.std.proofs.Common.{◌++◌, refl, ◌≡◌, ◌+◌, length, not, ap, arith}
use Rattle.std.specs.List.{count_by}
use Rattle.std.proofs.lemmas.List.{nil_from_length}
use Rattle.snap_sync.specs.Closing.{verified_in}
use Rattle.stripe_findings.specs.Findings.{events_of}
use Rattle.stripe_findings.specs.Reading.{StripeReading, is_verified}
use Rattle.snap_sync.proofs.FoundLemmas.{none_where_verified, verified_where_none, each_found, none_of, all_of}
use Rattle.snap_sync.proofs.ListFacts.{count_others}
use Rattle.snap_sync.proofs.ToldEvents.{told_not}
use Rattle.snap_sync.proofs.UnreadLemmas.{unread_told}
use Rattle.snap_sync.proofs.laws.what_is_pending_is_found.Goals as goal

pub returns-clause-exactly : goal.returns-clause-exactly
returns-clause-exactly c = λ table reading. (none_where_verified table reading, verified_where_none table reading)

pub returns-clause-found : goal.returns-clause-found
returns-clause-found c = λ start readings. each_found start readings

pub returns-clause-findings : goal.returns-clause-findings
returns-clause-findings c = λ start now readings end is. (
  λ none. let long : length (events_of start readings) ≡ 0 = omega (arith, is.findings, none) in all_of start readings (nil_from_length (events_of start readings) long),
  λ all. let long : length (events_of start readings) ≡ 0 = ap length (none_of start readings all) in omega (arith, is.findings, long),
)

pub returns-clause-pending : goal.returns-clause-pending
returns-clause-pending c = λ start now readings end is.
    let both : verified_in start readings + count_by (λ (reading : StripeReading). not (is_verified start reading)) readings ≡ length readings = count_others (is_verified start) readings in
    omega (arith, is.synced, is.pending, both)

pub returns-clause-told : goal.returns-clause-told
returns-clause-told c = λ run d listed valid below told.
    told_not c.a_cell_stands_at_its_position.ensures.found c.a_layout_is_of_the_kept_files.ensures run.setup run.loaded run.plan.start (run.readings ++ run.ahead)
    run.folders run.listed run.ended listed valid d below told run.readings run.ahead refl

pub returns-clause-unread : goal.returns-clause-unread
returns-clause-unread c = λ start readings ahead olds news d cell all read below i none i_in is unread.
    unread_told start readings ahead olds news read all i d none cell i_in below is unread
