-- A sync that was stopped and is begun anew ends with the same table.
use Rattle.std.proofs.Common.{◌≡◌, ◌≢◌, ℕ, suc, List, [], ◌∷◌, ◌++◌, take, get_or, Bool, true, not, if◌then◌else◌, refl, sym, ap, ap₂, ◌∙◌, subst, arith}
use Rattle.std.specs.List.{All, filter}
use Rattle.std.proofs.lemmas.List.{map-set}
use Rattle.array_scan.specs.Layout.{pending_stripes}
use Rattle.disk_model.specs.Tree.{Tree}
use Rattle.file_table.specs.Table.{TableValue}
use Rattle.file_table.specs.declared.info.Info.{Info}
use Rattle.snap_sync.specs.Closing.{closed, closed_by, with_closed, synced_now}
use Rattle.snap_sync.specs.Part.{IsVerifiedBy, reading_by, readings_by, verified_stripes, without_check, without_checks}
use Rattle.stripe_findings.specs.Reading.{StripeReading, is_verified, stripes_of}
use Rattle.snap_sync.proofs.CellLemmas.{FindsCells}
use Rattle.snap_sync.proofs.CommuteLemmas.{closed_comm, steps, steps-append, steps_apart}
use Rattle.snap_sync.proofs.LeftLemmas.{columns_closed_by, is_left, left_was, pending_left, reading_same, verified_left, verified_same}
use Rattle.snap_sync.proofs.ListFacts.{All-through, kept_pass}
use Rattle.snap_sync.proofs.PartLemmas.{closed_filter}
use Rattle.snap_sync.proofs.StillPending.{pending_distinct}
use Rattle.snap_sync.proofs.SeenLemmas.{GivesItsHashes, LeavesTheOthers, shape_closed}

-- the time of a check is not seen
unchecked_closed : (now : ℕ) (reading : StripeReading) (table : TableValue) → without_checks (with_closed now reading table) ≡ with_closed 0 reading (without_checks table)
unchecked_closed now reading table = ap (λ (infos : List Info). let t : TableValue = record (with_closed 0 reading (without_checks table)) { infos = infos } in t)
    (map-set without_check table.infos reading.stripe (synced_now now))

-- readings that two tables verify close the same
closed_alike : (one other : TableValue) (now : ℕ) (readings : List StripeReading) (table : TableValue) → All (λ (reading : StripeReading). is_verified one reading ≡ true) readings
    → All (λ (reading : StripeReading). is_verified other reading ≡ true) readings → closed_by one now readings table ≡ closed_by other now readings table
closed_alike one other now [] table by_one by_other = refl
closed_alike one other now (reading ∷ readings) table by_one by_other =
    let next : TableValue = with_closed now reading table in
    ap (λ (b : Bool). closed_by one now readings (if b then next else table)) (by_one 0 reading (omega arith))
    ∙ closed_alike one other now readings next (λ k d within. by_one (suc k) d (omega arith)) (λ k d within. by_other (suc k) d (omega arith))
    ∙ ap (λ (b : Bool). closed_by other now readings (if b then next else table)) (sym (by_other 0 reading (omega arith)))

module _ (finds : FindsCells) (start : TableValue) (trees : List Tree) where
  -- a stripe that is closed by what the trees give
  abbrev step : ℕ → TableValue → TableValue
  step stripe table = with_closed 0 (reading_by start trees stripe) table

  step_comm : (a b : ℕ) (table : TableValue) → a ≢ b → step a (step b table) ≡ step b (step a table)
  step_comm a b table apart = closed_comm finds 0 (reading_by start trees a) (reading_by start trees b) table apart

  closed_steps : (now : ℕ) (stripes : List ℕ) (table : TableValue) → All (IsVerifiedBy start trees) stripes → without_checks (closed_by start now (readings_by start trees stripes) table) ≡ steps step step_comm stripes (without_checks table)
  closed_steps now [] table verified = refl
  closed_steps now (stripe ∷ stripes) table verified =
      let reading : StripeReading = reading_by start trees stripe in
      let next : TableValue = with_closed now reading table in
      ap (λ (b : Bool). without_checks (closed_by start now (readings_by start trees stripes) (if b then next else table))) (verified 0 stripe (omega arith))
      ∙ closed_steps now stripes next (λ k d within. verified (suc k) d (omega arith))
      ∙ ap (steps step step_comm stripes) (unchecked_closed now reading table)

  -- Stripes were closed by what was read of the first pending ones. The trees verify all pending stripes.
  module _ (leaves : LeavesTheOthers) (gives : GivesItsHashes) (before : ℕ) (readings : List StripeReading) (count : ℕ) (stripes : stripes_of readings ≡ take count (pending_stripes start.infos))
      (again : filter (is_verified start) readings ≡ readings_by start trees (verified_stripes start readings)) (all : All (IsVerifiedBy start trees) (pending_stripes start.infos)) where
    abbrev left : TableValue
    left = closed before start readings

    abbrev pending : List ℕ
    pending = pending_stripes start.infos

    abbrev is_open : ℕ → Bool
    is_open = is_left leaves gives start before readings count stripes

    pub left_shape : left.shape ≡ start.shape
    left_shape = shape_closed start before readings start

    -- what the trees give of a stripe that is left
    pub left_reading : (stripe : ℕ) → is_open stripe ≡ true → reading_by left trees stripe ≡ reading_by start trees stripe
    left_reading stripe is = reading_same finds left start left_shape (columns_closed_by start before readings start) stripe (left_was leaves gives start before readings count stripes stripe is).1 trees

    pub left_verified : (stripe : ℕ) → is_open stripe ≡ true → IsVerifiedBy start trees stripe → is_verified left (reading_by start trees stripe) ≡ true
    left_verified stripe is verified = verified_same finds left start left_shape (columns_closed_by start before readings start) stripe (left_was leaves gives start before readings count stripes stripe is).1
        (reading_by start trees stripe) refl verified

    -- of all that are left
    abbrev open_stripes : List ℕ
    open_stripes = filter is_open pending

    pub open_pass : All (λ (stripe : ℕ). is_open stripe ≡ true) open_stripes
    open_pass = kept_pass is_open (λ (stripe : ℕ). is_open stripe ≡ true) pending (λ k d within passes. passes)

    pub open_verified : All (IsVerifiedBy start trees) open_stripes
    open_verified = kept_pass is_open (IsVerifiedBy start trees) pending (λ k d within passes. all k d within)

    closed_verified : All (IsVerifiedBy start trees) (verified_stripes start readings)
    closed_verified = subst (All (IsVerifiedBy start trees)) (sym (verified_left leaves gives start before readings count stripes))
        (kept_pass (λ (stripe : ℕ). not (is_open stripe)) (IsVerifiedBy start trees) pending (λ k d within passes. all k d within))

    pub readings_same : (ns : List ℕ) → All (λ (stripe : ℕ). is_open stripe ≡ true) ns → readings_by left trees ns ≡ readings_by start trees ns
    readings_same [] each = refl
    readings_same (n ∷ ns) each = ap₂ (λ (r : StripeReading) (rs : List StripeReading). r ∷ rs) (left_reading n (each 0 n (omega arith))) (readings_same ns (λ k d within. each (suc k) d (omega arith)))

    pub by_start : (ns : List ℕ) → All (IsVerifiedBy start trees) ns → All (λ (reading : StripeReading). is_verified start reading ≡ true) (readings_by start trees ns)
    by_start ns each = All-through (reading_by start trees) (λ (reading : StripeReading). is_verified start reading ≡ true) ns each

    pub by_left : (ns : List ℕ) → All (λ (stripe : ℕ). is_open stripe ≡ true) ns → All (IsVerifiedBy start trees) ns → All (λ (reading : StripeReading). is_verified left reading ≡ true) (readings_by start trees ns)
    by_left ns ones each = All-through (reading_by start trees) (λ (reading : StripeReading). is_verified left reading ≡ true) ns (λ k d within. left_verified (get_or ns k d) (ones k d within) (each k d within))

    -- The table of the sync that is begun anew, and of the one that was not stopped.
    pub same_table : (now then_now : ℕ) → without_checks (closed then_now left (readings_by left trees (pending_stripes left.infos))) ≡ without_checks (closed now start (readings_by start trees pending))
    same_table now then_now =
        ap (λ (ns : List ℕ). without_checks (closed then_now left (readings_by left trees ns))) (pending_left leaves gives start before readings count stripes)
        ∙ ap (λ (rs : List StripeReading). without_checks (closed_by left then_now rs left)) (readings_same open_stripes open_pass)
        ∙ ap without_checks (closed_alike left start then_now (readings_by start trees open_stripes) left (by_left open_stripes open_pass open_verified) (by_start open_stripes open_verified))
        ∙ closed_steps then_now open_stripes left open_verified
        ∙ ap (steps step step_comm open_stripes)
        (ap without_checks (closed_filter start before readings start ∙ ap (λ (rs : List StripeReading). closed_by start before rs start) again)
        ∙ closed_steps before (verified_stripes start readings) start closed_verified)
        ∙ sym (steps-append step step_comm (verified_stripes start readings) open_stripes (without_checks start))
        ∙ ap (λ (ns : List ℕ). steps step step_comm (ns ++ open_stripes) (without_checks start)) (verified_left leaves gives start before readings count stripes)
        ∙ steps_apart step step_comm is_open pending (without_checks start) (pending_distinct start.infos)
        ∙ sym (closed_steps now pending start all)
