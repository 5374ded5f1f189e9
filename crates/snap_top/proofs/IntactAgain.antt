-- A level that was intact for a fix is intact for the next one, wherever the first one was stopped. So a stripe that was restorable is so again.
use Rattle.std.proofs.Common.{◌≡◌, ◌↔◌, ℕ, ◌+◌, ◌*◌, ◌<◌, ◌≤◌, ◌==◌, ◌&&◌, List, length, get_or, Bool, true, false, IsTrue, IfSome, None, Some, refl, sym, ap, ◌∙◌, subst, arith}
use Rattle.std.specs.Prelude.{Contains, filter, not}
use Rattle.std.specs.List.{range_with_len}
use Rattle.std.proofs.lemmas.Bool.{and_parts}
use Rattle.std.proofs.lemmas.Bool.Decides.{Decides-eqb}
use Rattle.std.proofs.lemmas.List.{ext_get_or}
use Rattle.std.proofs.lemmas.List.Elements.{All-contains}
use Rattle.std.proofs.lemmas.List.FromFn.{get_or-range_with_len, length-range_with_len}
use Rattle.std.proofs.lemmas.List.Sums.{length-filter}
use Rattle.cauchy.specs.Matrix.{parity_byte, parity_of as level_of}
use Rattle.disk_model.specs.Bytes.{read_from, resized}
use Rattle.disk_model.specs.Files.{Files, parity_of}
use Rattle.disk_model.specs.Vault.{VaultView}
use Rattle.disk_model.proofs.BytesLemmas.{length-resized}
use Rattle.file_table.specs.Table.{TableValue}
use Rattle.parity_writer.specs.LevelReading.{LevelReading, kept_level}
use Rattle.parity_writer.specs.LevelsValue.{LevelValue, no_level}
use Rattle.parity_writer.specs.Parity.{HasLevel, Row}
use Rattle.parity_writer.specs.Sound.{IsSynced, Sound, Closed, last_row}
use Rattle.parity_writer.specs.declared.levels.LevelRead.{LevelRead}
use Rattle.parity_writer.specs.declared.levels.LevelRead.TheVariants as here
use Rattle.parity_writer.proofs.SumLemmas.{byte_of_level, length-level}
use Rattle.snap_fix.specs.Fixing.{facts_of}
use Rattle.snap_fix.specs.Genuine.{AreGenuine, AreLevelsIn, IsIntactLevel, IsLevelOf, IsRestorableStripe, TellsIntactLevels}
use Rattle.snap_fix.specs.Mended.{Mended}
use Rattle.stripe_examiner.specs.Facts.{StripeFacts}
use Rattle.stripe_examiner.specs.Known.{AreFacts, IsTried, is_whole, whole_level, whole_levels}
use Rattle.repair_scope.specs.Plan.{is_searched}
use Rattle.stripe_examiner.specs.Place.{starts_of}
use Rattle.snap_top.specs.Fix.{FixRun, FixesOver, MayStandFixed}
use Rattle.snap_top.specs.Began.{IsFixOf}
use Rattle.snap_top.specs.Entry.{Entry, Exit}
use Rattle.snap_top.specs.Stopping.{FindsNoLess}
use Rattle.snap_top.specs.Undamaged.{is_read, was_read}
use Rattle.snap_top.proofs.KeptLemmas.{kept_in, made_in}
use Rattle.snap_top.proofs.MomentLemmas.{FixKeepsSound}
use Rattle.snap_top.proofs.OfFixLemmas.{genuine_by, levels_in}
use Rattle.snap_top.proofs.StoppingLemmas.{both_no_less, missing_no_more}
use Rattle.snap_top.proofs.UndamagedLemmas.{WholeLevelsHold, read_within, undamaged_intact}

-- ---- levels that were read whole

whole_state : (state : LevelRead) → is_whole state ≡ true → state ≡ here.Bytes
whole_state here.Bytes whole = refl
whole_state here.Short whole = absurd (let clash : false ≡ true = whole in cc)
whole_state here.Unread whole = absurd (let clash : false ≡ true = whole in cc)

whole_is_read : (state : LevelRead) → is_whole state ≡ true → is_read state ≡ true
whole_is_read state whole = ap is_read (whole_state state whole)

-- a level that was read whole is one of those
whole_among : (levels : List LevelValue) (r : ℕ) → whole_level levels r ≡ true → Contains (whole_levels levels) r
whole_among levels r whole =
    let within : r < length levels = read_within levels r (whole_is_read (get_or levels r no_level).state whole) in
    let many : length (range_with_len 0 (length levels)) ≡ length levels = length-range_with_len 0 (length levels) in
    kept_in (whole_level levels) (range_with_len 0 (length levels)) r (r, omega (arith, within, many), get_or-range_with_len 0 (length levels) r r within ∙ zero_more r) whole
  where
    zero_more : (n : ℕ) → 0 + n ≡ n
    zero_more n = omega arith

-- where it is a row's, the file that it was read of has it
file_has : WholeLevelsHold → (size stripe r : ℕ) (row : Row) (file : List ℕ) (reading : LevelReading) (level : LevelValue) → IfSome reading (λ (bytes : List ℕ). bytes ≡ read_from file (stripe * size) size)
    → level ≡ kept_level size reading → is_whole level.state ≡ true → ((p : ℕ) → p < size → get_or level.block p 0 ≡ parity_byte r row p) → HasLevel size r stripe row file
file_has holds size stripe r row file None level of kept whole intact = absurd (let clash : false ≡ true = ap (λ (it : LevelValue). is_whole it.state) (sym kept) ∙ whole in cc)
file_has holds size stripe r row file (Some bytes) level of kept whole intact = (holds size r stripe row file bytes of).1 (
  whole_state (kept_level size (Some bytes)).state (ap (λ (it : LevelValue). is_whole it.state) (sym kept) ∙ whole),
  ext_get_or 0 (resized bytes size) (level_of r size row) (length-resized bytes size ∙ sym (length-level r size row))
      (λ p below.
      let inside : p < size = omega (arith, below, length-resized bytes size) in
      ap (λ (it : LevelValue). get_or it.block p 0) (sym kept) ∙ intact p inside ∙ sym (byte_of_level r size row p inside)),
)

and_is : (a b : Bool) → (a && b) ≡ true → (a ≡ true) × (b ≡ true)
and_is true b is = (refl, is)
and_is false b is = absurd (let clash : false ≡ true = is in cc)

-- ---- a fix, and a stripe of it

module _ (holds : WholeLevelsHold) (keeps : FixKeepsSound) (copies : ℕ) (v : VaultView) (fix : FixRun) (snapshot : Closed) (is_changed : ℕ → ℕ → Bool) (tells : IsTrue v.tells) (over : FixesOver copies v fix)
    (sound : Sound fix.loaded v.files snapshot is_changed) (genuine : AreGenuine fix.plan (last_row snapshot) (facts_of fix.stripes)) (mended : Mended) (one : Contains fix.stripes mended) (is_intact : ℕ → Bool)
    (says_intact : TellsIntactLevels fix.plan mended.facts (last_row snapshot mended.facts.stripe) is_intact) where
  abbrev facts : StripeFacts
  facts = mended.facts

  abbrev size : ℕ
  size = fix.plan.table.shape.block_size

  abbrev both : ℕ → Bool
  both r = whole_level facts.levels r && is_intact r

  -- what was changed from outside, but for the intact levels of the stripe
  abbrev changed_but : ℕ → ℕ → Bool
  changed_but s r = is_changed s r && not ((s == facts.stripe) && both r)

  is_one : Contains (facts_of fix.stripes) facts
  is_one = made_in (λ (it : Mended). it.facts) fix.stripes mended one

  -- the file has each of these
  file_intact : (r : ℕ) → both r ≡ true → HasLevel size r facts.stripe (last_row snapshot facts.stripe) (parity_of v.files r)
  file_intact r is =
      let its = and_is (whole_level facts.levels r) (is_intact r) is in
      let within : r < length facts.levels = read_within facts.levels r (whole_is_read (get_or facts.levels r no_level).state its.0) in
      let in_files : AreLevelsIn size v.files (facts_of fix.stripes) = levels_in size v (facts_of fix.stripes) fix.readings tells over.finds.levels in
      let level : IsLevelOf size facts.stripe r v.files (get_or facts.levels r no_level)
      = All-contains (λ (it : StripeFacts). (k : ℕ) → k < length it.levels → IsLevelOf size it.stripe k v.files (get_or it.levels k no_level)) (facts_of fix.stripes) facts in_files is_one r within in
      let told = All-contains (λ (k : ℕ). IsTrue (is_intact k) ↔ IsIntactLevel fix.plan facts (last_row snapshot facts.stripe) k) (whole_levels facts.levels) r says_intact (whole_among facts.levels r its.0) in
      file_has holds size facts.stripe r (last_row snapshot facts.stripe) (parity_of v.files r) level.reading (get_or facts.levels r no_level) level.is_of level.is_kept its.0 (told.0 its.1)

  -- so it is sound with them unchanged
  sound_but : Sound fix.loaded v.files snapshot changed_but
  sound_but = record {
    was_closed = sound.was_closed;
    rows = sound.rows;
    sums = λ s r synced below same. by s r synced below (is_changed s r) ((s == facts.stripe) && both r) refl refl same;
  }
    where
      by : (s r : ℕ) → IsSynced fix.loaded s → r < fix.loaded.shape.levels → (c b : Bool) → is_changed s r ≡ c → ((s == facts.stripe) && both r) ≡ b → (c && not b) ≡ false
          → HasLevel fix.loaded.shape.block_size r s (last_row snapshot s) (parity_of v.files r)
      by s r synced below false b unchanged here same = sound.sums s r synced below unchanged
      by s r synced below true false changed here same = absurd (let clash : true ≡ false = same in cc)
      by s r synced below true true changed here same =
          let its = and_is (s == facts.stripe) (both r) here in
          let at : s ≡ facts.stripe = (Decides-eqb s facts.stripe).0 its.0 in
          subst (λ (n : ℕ). HasLevel fix.loaded.shape.block_size r n (last_row snapshot n) (parity_of v.files r)) (sym at)
          (subst (λ (t : TableValue). HasLevel t.shape.block_size r facts.stripe (last_row snapshot facts.stripe) (parity_of v.files r)) over.plan_is.table_is (file_intact r its.1))

  -- wherever the fix is stopped
  sound_left : (left : Files) → MayStandFixed fix v.files left → Sound fix.loaded left snapshot changed_but
  sound_left left stands = keeps fix.plan (starts_of fix.loaded fix.lists) fix.listed v.files snapshot changed_but (facts_of fix.stripes) fix.loaded v.files left
      (genuine_by copies v fix snapshot changed_but tells over sound_but genuine) (ap (λ (t : TableValue). t.shape.block_size) (sym over.plan_is.table_is)) stands sound_but

  -- ---- the next fix

  module _ (before : Entry) (exit : Exit) (again : FixRun) (is_then : IsFixOf before exit again) (tells_then : IsTrue before.opener.vault.tells) (loaded : again.loaded ≡ fix.loaded)
      (left : MayStandFixed fix v.files before.opener.vault.files) (mended_then : Mended) (one_then : Contains again.stripes mended_then) (no_less : FindsNoLess fix again mended mended_then) where
    abbrev facts_then : StripeFacts
    facts_then = mended_then.facts

    is_one_then : Contains (facts_of again.stripes) facts_then
    is_one_then = made_in (λ (it : Mended). it.facts) again.stripes mended_then one_then

    its_then : AreFacts again.plan facts_then
    its_then = All-contains (AreFacts again.plan) (facts_of again.stripes) facts_then is_then.over.finds.are is_one_then

    searched : (r : ℕ) → r < length facts_then.levels → is_searched again.plan facts_then.stripe ≡ true
    searched r within = by (is_searched again.plan facts_then.stripe) its_then.tried
      where
        by : (b : Bool) → IsTried again.plan facts_then b → b ≡ true
        by true tried = refl
        by false tried = let none : length facts_then.levels ≡ 0 = ap (λ (levels : List LevelValue). length levels) tried.1 in absurd (omega (arith, within, none))

    -- each of these levels is intact again
    intact_then : (r : ℕ) → both r ≡ true → (whole_level facts_then.levels r ≡ true) × IsIntactLevel again.plan facts_then (last_row snapshot facts_then.stripe) r
    intact_then r is =
        let whole : whole_level facts.levels r ≡ true = (and_is (whole_level facts.levels r) (is_intact r) is).0 in
        let read : was_read facts_then.levels r ≡ true = no_less.read r (whole_is_read (get_or facts.levels r no_level).state whole) in
        let within : r < length facts_then.levels = read_within facts_then.levels r read in
        let same : (facts_then.stripe == facts.stripe) ≡ true = (Decides-eqb facts_then.stripe facts.stripe).1 no_less.stripe in
        let unchanged : changed_but facts_then.stripe r ≡ false = but_none (is_changed facts_then.stripe r) (facts_then.stripe == facts.stripe) (both r) same is in
        undamaged_intact holds before exit again snapshot changed_but facts_then r is_then tells_then
        (subst (λ (t : TableValue). Sound t before.opener.vault.files snapshot changed_but) (sym loaded) (sound_left before.opener.vault.files left))
        (record { one = is_one_then; synced = (and_parts _ _ (searched r within)).0; within = within; read = read; unchanged = unchanged })
      where
        none : (c : Bool) → (c && false) ≡ false
        none true = refl
        none false = refl

        but_none : (c a b : Bool) → a ≡ true → b ≡ true → (c && not (a && b)) ≡ false
        but_none c a b a_is b_is = ap (λ (it : Bool). c && not (it && b)) a_is ∙ ap (λ (it : Bool). c && not it) b_is ∙ none c

    pub restorable_again : (is_intact_then : ℕ → Bool) → TellsIntactLevels again.plan facts_then (last_row snapshot facts_then.stripe) is_intact_then → IsRestorableStripe fix.plan facts is_intact → IsRestorableStripe again.plan facts_then is_intact_then
    restorable_again is_intact_then says_then enough =
        let levels : ℕ = length facts.levels in
        let more : (r : ℕ) → whole_level facts.levels r ≡ true → is_intact r ≡ true → (whole_level facts_then.levels r ≡ true) × (is_intact_then r ≡ true)
        = λ r whole intact.
        let its = intact_then r (ap (λ (it : Bool). it && is_intact r) whole ∙ intact) in
        let told = All-contains (λ (k : ℕ). IsTrue (is_intact_then k) ↔ IsIntactLevel again.plan facts_then (last_row snapshot facts_then.stripe) k) (whole_levels facts_then.levels) r says_then (whole_among facts_then.levels r its.0) in
        (its.0, told.1 its.1) in
        let counted : length (filter is_intact (whole_levels facts.levels)) ≤ length (filter is_intact_then (whole_levels facts_then.levels))
        = subst (λ (n : ℕ). length (filter is_intact (whole_levels facts.levels)) ≤ length (filter is_intact_then (filter (whole_level facts_then.levels) (range_with_len 0 n)))) (sym no_less.as_many)
        (both_no_less (whole_level facts.levels) is_intact (whole_level facts_then.levels) is_intact_then more (range_with_len 0 levels)) in
        let first = length-filter is_intact (whole_levels facts.levels) in
        let then_are = length-filter is_intact_then (whole_levels facts_then.levels) in
        let missing = missing_no_more fix again mended mended_then no_less in
        omega (arith, counted, first, then_are, missing, enough)
