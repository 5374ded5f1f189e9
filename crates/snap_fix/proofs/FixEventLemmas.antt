-- Of what a fix tells before and after its stripes no event tells a failed reading.
use Rattle.std.proofs.Common.{◌≡◌, ℕ, List, [], ◌∷◌, ◌++◌, length, Bool, true, false, not, if◌then◌else◌, Option, refl, ap, arith}
use Rattle.std.specs.Prelude.{◌&&◌}
use Rattle.std.specs.List.{count_by, flat_map, range_with_len}
use Rattle.disk_model.specs.declared.meta.Meta.{Meta}
use Rattle.file_table.specs.Table.{record_at, records_in}
use Rattle.snap_report.specs.Answer.{is_io_of, is_parity_io}
use Rattle.snap_report.specs.declared.events.Event.{Event}
use Rattle.snap_report.specs.declared.events.Event.TheVariants.{Changed, Blocked, Restored as RestoredEvent, Renamed as RenamedEvent, NoStamp}
use Rattle.repair_scope.specs.declared.entry.Entry.{Entry}
use Rattle.file_restorer.specs.declared.finishing.Finish.{Finish}
use Rattle.file_restorer.specs.declared.finishing.Finish.TheVariants.{Kept, Restored, Unstamped, Renamed, Gone}
use Rattle.snap_fix.specs.Ending.{all_finish_news, column_news_at, finish_at, finish_news, finishes_at, is_finished, record_news, stamp_news}
use Rattle.stripe_examiner.specs.Findings.{blocked_event, changed_event, column_events, file_events, opening_events, record_events}
use Rattle.repair_scope.specs.Plan.{FixPlan, entry_at, is_audit}
use Rattle.repair_scope.specs.Selected.{is_as_recorded}
use Rattle.snap_fix.proofs.FixCountLemmas.{count_append}

-- the test passes no event that is told of a file as a whole
pub record PassesNoFile (p : Event → Bool) : Type 0 where
  pub changed : (d i : ℕ) (found : Option Meta) → p (Changed d i found) ≡ false
  pub blocked : (d i : ℕ) → p (Blocked d i) ≡ false
  pub restored : (d i : ℕ) → p (RestoredEvent d i) ≡ false
  pub renamed : (d i : ℕ) → p (RenamedEvent d i) ≡ false
  pub no_stamp : (d i : ℕ) → p (NoStamp d i) ≡ false

pub io_no_file : (disk : ℕ) → PassesNoFile (is_io_of disk)
io_no_file disk = record { changed = λ d i found. refl; blocked = λ d i. refl; restored = λ d i. refl; renamed = λ d i. refl; no_stamp = λ d i. refl }

pub parity_io_no_file : PassesNoFile is_parity_io
parity_io_no_file = record { changed = λ d i found. refl; blocked = λ d i. refl; restored = λ d i. refl; renamed = λ d i. refl; no_stamp = λ d i. refl }

module _ (p : Event → Bool) (passes : PassesNoFile p) where
  none_both : (xs ys : List Event) → count_by p xs ≡ 0 → count_by p ys ≡ 0 → count_by p (xs ++ ys) ≡ 0
  none_both xs ys one two = let sum = count_append p xs ys in omega (arith, sum, one, two)

  none_each : {X : Type 0} (f : X → List Event) → ((x : X) → count_by p (f x) ≡ 0) → (xs : List X) → count_by p (flat_map f xs) ≡ 0
  none_each f each [] = refl
  none_each f each (x ∷ xs) = none_both (f x) (flat_map f xs) (each x) (none_each f each xs)

  none_if : (b : Bool) (xs ys : List Event) → count_by p xs ≡ 0 → count_by p ys ≡ 0 → count_by p (if b then xs else ys) ≡ 0
  none_if true xs ys one two = one
  none_if false xs ys one two = two

  none_one : (event : Event) → p event ≡ false → count_by p (event ∷ []) ≡ 0
  none_one event passed = rw (passed) refl

  none_of_file : (audit : Bool) (d i : ℕ) (meta : Meta) (entry : Entry) → count_by p (file_events audit d i meta entry) ≡ 0
  none_of_file audit d i meta entry =
      none_if entry.selected (changed_event d i meta entry ++ blocked_event audit d i entry) []
      (none_both (changed_event d i meta entry) (blocked_event audit d i entry)
      (none_if (is_as_recorded meta entry.listed) [] (Changed d i entry.listed ∷ []) refl (none_one (Changed d i entry.listed) (passes.changed d i entry.listed)))
      (none_if (entry.blocked && not audit) (Blocked d i ∷ []) [] (none_one (Blocked d i) (passes.blocked d i)) refl))
      refl

  -- before the stripes
  pub none_opening : (plan : FixPlan) → count_by p (opening_events plan) ≡ 0
  none_opening plan =
      none_each (column_events plan) (λ d.
      none_each (record_events plan d) (λ i. none_of_file (is_audit plan.scope.mode) d i (record_at plan.table.columns d i).meta (entry_at plan d i))
      (range_with_len 0 (length (records_in plan.table d))))
      (range_with_len 0 (length plan.table.columns))

  none_finished : (d i : ℕ) (finish : Finish) → count_by p (finish_news d i finish) ≡ 0
  none_finished d i Kept = refl
  none_finished d i (Restored stamped) =
      none_both (RestoredEvent d i ∷ []) (stamp_news d i stamped) (none_one (RestoredEvent d i) (passes.restored d i))
      (none_if stamped [] (NoStamp d i ∷ []) refl (none_one (NoStamp d i) (passes.no_stamp d i)))
  none_finished d i Unstamped = none_one (NoStamp d i) (passes.no_stamp d i)
  none_finished d i Renamed = none_one (RenamedEvent d i) (passes.renamed d i)
  none_finished d i Gone = none_one (Blocked d i) (passes.blocked d i)

  -- after them
  pub none_finishing : (plan : FixPlan) (finishes : List (List Finish)) → count_by p (all_finish_news plan finishes) ≡ 0
  none_finishing plan finishes =
      none_each (column_news_at plan finishes) (λ d.
      none_each (record_news plan d (finishes_at finishes d)) (λ i.
      none_if (is_finished plan d i) (finish_news d i (finish_at (finishes_at finishes d) i)) [] (none_finished d i (finish_at (finishes_at finishes d) i)) refl)
      (range_with_len 0 (length (records_in plan.table d))))
      (range_with_len 0 (length plan.table.columns))

  -- nor has a prefix of it
  pub none_finishing_first : (plan : FixPlan) (finishes : List (List Finish)) (first rest : List Event) → all_finish_news plan finishes ≡ first ++ rest → count_by p first ≡ 0
  none_finishing_first plan finishes first rest is =
      let whole = none_finishing plan finishes in
      let same = ap (λ (events : List Event). count_by p events) is in
      let sum = count_append p first rest in
      omega (arith, whole, same, sum)
