-- A scrub closes and opens no stripe.
use Rattle.std.proofs.Common.{◌≡◌, ℕ, ◌^◌, ◌<◌, List, [], ◌∷◌, length, get_or, map, suc, inl, inr, Bool, refl, sym, ap, ◌∙◌, subst, arith}
use Rattle.std.specs.Prelude.{slice_set}
use Rattle.std.specs.List.{All}
use Rattle.std.proofs.lemmas.Bool.{cases_eq}
use Rattle.std.proofs.lemmas.List.{get_or-set_same, get_or-set_other, length-set}
use Rattle.std.proofs.lemmas.List.Elements.{All-set}
use Rattle.disk_model.specs.Files.{Files}
use Rattle.file_table.specs.Table.{TableValue, info_at, no_info}
use Rattle.file_table.specs.Valid.{AreColumns, IsInfo, IsValid}
use Rattle.file_table.specs.declared.info.Info.{Info}
use Rattle.file_table.specs.declared.info.Mark.{Mark}
use Rattle.file_table.specs.declared.info.Mark.TheVariants.{Pending, Synced}
use Rattle.parity_writer.specs.Parity.{HasLevel}
use Rattle.parity_writer.proofs.CellsLemmas.{cells_of as closed_of, rows_by}
use Rattle.parity_writer.specs.Sound.{IsSynced, Sound, Closed, last_row}
use Rattle.array_setup.specs.declared.ways.ScrubWay.{ScrubWay}
use Rattle.stripe_findings.specs.Reading.{stripes_of}
use Rattle.snap_scrub.specs.declared.verdict.Verdict.{Verdict}
use Rattle.snap_scrub.specs.declared.verdict.Verdict.TheVariants.{Right, Wrong, Changed}
use Rattle.snap_scrub.specs.Marks.{info_by, marked, scrubbed, verdict_of}
use Rattle.snap_scrub.specs.Plan.{plan_of}
use Rattle.snap_scrub.specs.Reading.{ScrubReading, cells_of}
use Rattle.snap_scrub.proofs.MarkLemmas.{length-marked, synced_by}
use Rattle.snap_scrub.proofs.PlannedLemmas.{planned_synced, planned_within}

-- these stripes of some are synced
abbrev AreSynced : List Info → List ℕ → Type 0
AreSynced infos xs = All (λ stripe. (info_at infos stripe).mark ≡ Synced) xs

abbrev AreWithin : List Info → List ℕ → Type 0
AreWithin infos xs = All (λ stripe. stripe < length infos) xs

-- one stripe gets a verdict: all marks are as before
mark_after : (now : ℕ) (verdict : Verdict) (infos : List Info) (x stripe : ℕ) → x < length infos → (info_at infos x).mark ≡ Synced
    → (info_at (slice_set infos x (info_by now verdict (info_at infos x))) stripe).mark ≡ (info_at infos stripe).mark
mark_after now verdict infos x stripe within synced =
    let info = info_by now verdict (info_at infos x) in
    elim (cases_eq stripe x) [
      | inl same ↦
          ap (λ (n : ℕ). (info_at (slice_set infos x info) n).mark) same
          ∙ ap (λ (it : Info). it.mark) (get_or-set_same infos x info no_info within)
          ∙ synced_by now verdict (info_at infos x) synced
          ∙ sym synced
          ∙ ap (λ (n : ℕ). (info_at infos n).mark) (sym same)
      | inr other ↦ ap (λ (it : Info). it.mark) (get_or-set_other infos x stripe info no_info other)
    ]

not_pending : (mark : Mark) → mark ≡ Synced → mark ≡ Pending → ⊥
not_pending Synced is pending = cc
not_pending Pending is pending = cc

info_after : (now : ℕ) (verdict : Verdict) (info : Info) → now < 2 ^ 64 → info.mark ≡ Synced → IsInfo info → IsInfo (info_by now verdict info)
info_after now Right info in_time synced is = record { state = λ pending. absurd (not_pending Synced refl pending); last = in_time }
info_after now Wrong info in_time synced is = record { state = λ pending. absurd (not_pending info.mark synced pending); last = is.last }
info_after now Changed info in_time synced is = is

module _ (now : ℕ) where
  -- what holds of some stripes holds once one of them has its verdict
  within_after : (verdict : Verdict) (infos : List Info) (x : ℕ) (xs : List ℕ) → AreWithin infos xs → AreWithin (slice_set infos x (info_by now verdict (info_at infos x))) xs
  within_after verdict infos x xs within = λ k d below.
      let there : get_or xs k d < length infos = within k d below in
      omega (arith, there, length-set infos x (info_by now verdict (info_at infos x)))

  synced_after : (verdict : Verdict) (infos : List Info) (x : ℕ) (xs : List ℕ) → x < length infos → (info_at infos x).mark ≡ Synced → AreSynced infos xs → AreSynced (slice_set infos x (info_by now verdict (info_at infos x))) xs
  synced_after verdict infos x xs within synced are = λ k d below. mark_after now verdict infos x (get_or xs k d) within synced ∙ are k d below

  marks_stay : (xs : List ℕ) (verdicts : List Verdict) (infos : List Info) → AreWithin infos xs → AreSynced infos xs → (stripe : ℕ) → (info_at (marked now xs verdicts infos) stripe).mark ≡ (info_at infos stripe).mark
  marks_stay [] verdicts infos within synced stripe = refl
  marks_stay (x ∷ xs) [] infos within synced stripe = refl
  marks_stay (x ∷ xs) (verdict ∷ verdicts) infos within synced stripe =
      let here : x < length infos = within 0 x (omega arith) in
      let is : (info_at infos x).mark ≡ Synced = synced 0 x (omega arith) in
      marks_stay xs verdicts (slice_set infos x (info_by now verdict (info_at infos x)))
      (within_after verdict infos x xs (λ k d below. within (suc k) d (omega arith)))
      (synced_after verdict infos x xs here is (λ k d below. synced (suc k) d (omega arith)))
      stripe
      ∙ mark_after now verdict infos x stripe here is

  infos_stay : now < 2 ^ 64 → (xs : List ℕ) (verdicts : List Verdict) (infos : List Info) → AreWithin infos xs → AreSynced infos xs → All IsInfo infos → All IsInfo (marked now xs verdicts infos)
  infos_stay in_time [] verdicts infos within synced are = are
  infos_stay in_time (x ∷ xs) [] infos within synced are = are
  infos_stay in_time (x ∷ xs) (verdict ∷ verdicts) infos within synced are =
      let here : x < length infos = within 0 x (omega arith) in
      let is : (info_at infos x).mark ≡ Synced = synced 0 x (omega arith) in
      let info = info_by now verdict (info_at infos x) in
      infos_stay in_time xs verdicts (slice_set infos x info)
      (within_after verdict infos x xs (λ k d below. within (suc k) d (omega arith)))
      (synced_after verdict infos x xs here is (λ k d below. synced (suc k) d (omega arith)))
      (All-set IsInfo infos x info (info_after now verdict (info_at infos x) in_time is (are x no_info here)) are)

-- ---- a scrubbed table

module _ (table : TableValue) (way : ScrubWay) (now : ℕ) (readings : List ScrubReading) (planned : stripes_of (cells_of readings) ≡ plan_of table way now) where
  abbrev stripes : List ℕ
  stripes = stripes_of (cells_of readings)

  abbrev verdicts : List Verdict
  verdicts = map (verdict_of table) readings

  are_within : AreWithin table.infos stripes
  are_within = subst (AreWithin table.infos) (sym planned) (planned_within table way now)

  are_synced : AreSynced table.infos stripes
  are_synced = subst (AreSynced table.infos) (sym planned) (planned_synced table way now)

  pub scrubbed_marks : (stripe : ℕ) → (info_at (scrubbed now table readings).infos stripe).mark ≡ (info_at table.infos stripe).mark
  scrubbed_marks stripe = marks_stay now stripes verdicts table.infos are_within are_synced stripe

  pub scrubbed_valid : now < 2 ^ 64 → IsValid table → IsValid (scrubbed now table readings)
  scrubbed_valid in_time valid =
      let long : length (marked now stripes verdicts table.infos) ≡ length table.infos = length-marked now stripes verdicts table.infos in
      record {
        shape = valid.shape;
        some_column = valid.some_column;
        columns = subst (λ (n : ℕ). AreColumns n table.shape.block_size table.columns) (sym long) valid.columns;
        whole = valid.whole;
        short = omega (arith, long, valid.short);
        length_is = long ∙ valid.length_is;
        infos = record {
          each = infos_stay now in_time stripes verdicts table.infos are_within are_synced valid.infos.each;
          hashed = λ stripe within synced. valid.infos.hashed stripe (omega (arith, within, long)) (sym (scrubbed_marks stripe) ∙ synced);
        };
      }

  was_synced : (stripe : ℕ) → IsSynced (scrubbed now table readings) stripe → IsSynced table stripe
  was_synced stripe is = record {
    within = omega (arith, is.within, length-marked now stripes verdicts table.infos);
    mark = sym (scrubbed_marks stripe) ∙ is.mark;
  }

  pub scrubbed_sound : (old new : Files) (snapshot : Closed) (is_changed : ℕ → ℕ → Bool) → new.parities ≡ old.parities → Sound table old snapshot is_changed → Sound (scrubbed now table readings) new snapshot is_changed
  scrubbed_sound old new snapshot is_changed same sound = record {
    was_closed = λ stripe is. sound.was_closed stripe (was_synced stripe is);
    rows = rows_by (scrubbed now table readings) snapshot (λ stripe is. closed_of table old snapshot is_changed sound stripe (was_synced stripe is));
    sums = λ stripe level is below unchanged.
        subst (λ (files : List (List ℕ)). HasLevel table.shape.block_size level stripe (last_row snapshot stripe) (get_or files level [])) (sym same)
        (sound.sums stripe level (was_synced stripe is) below unchanged);
  }
