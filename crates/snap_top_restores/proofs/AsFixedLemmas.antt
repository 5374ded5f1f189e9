-- A check and a fix of one array, in which no count of faults rose: the check met no hash by chance, if the fix didn't.
use Rattle.std.proofs.Common.{◌≡◌, ℕ, ◌<◌, ◌&&◌, List, [], length, get_or, map, not, Bool, true, false, if◌then◌else◌, is_some, refl, sym, ap, ap₂, ◌∙◌, subst, arith}
use Rattle.std.proofs.Math.Path.{fun_ext}
use Rattle.std.specs.Prelude.{filter, slice_index, slice_index_or}
use Rattle.std.specs.List.{All, Contains, range_with_len}
use Rattle.std.proofs.lemmas.Bool.{and_parts}
use Rattle.std.proofs.lemmas.List.{get_or_default, length-map}
use Rattle.std.proofs.lemmas.List.Elements.{All-contains_itself}
use Rattle.folder_listing.specs.Kept.{each_column}
use Rattle.cauchy.specs.Matrix.{parity_byte}
use Rattle.file_table.specs.Table.{TableValue}
use Rattle.file_table.specs.Valid.{IsValid}
use Rattle.parity_writer.specs.LevelsValue.{no_level}
use Rattle.parity_writer.specs.Parity.{Row}
use Rattle.parity_writer.specs.WindowRow.{bytes_found, bytes_of}
use Rattle.snap_fix.specs.Fixing.{facts_of}
use Rattle.snap_fix.specs.Found.{DifferInMode}
use Rattle.snap_fix.specs.Genuine.{AreGenuine, IsBlockIn, IsGenuine, IsIntactLevel, TellsIntactLevels, lost_of}
use Rattle.snap_sync.specs.Part.{trees_of}
use Rattle.stripe_examiner.specs.Facts.{IsGift, StripeFacts, gift_of, gift_or, is_missing, row_before, slot_of, wanted_at, wanted_in}
use Rattle.stripe_examiner.specs.Known.{AreFacts, AreRemainders, whole_level, whole_levels}
use Rattle.stripe_examiner.specs.Looking.{facts_at, no_facts, numbers_of}
use Rattle.repair_scope.specs.Plan.{FixPlan, is_audit, is_searched, names_of, plan_of, seen_at}
use Rattle.stripe_examiner.specs.Restorable.{CandidatesAreGenuine, LostStripe}
use Rattle.repair_scope.specs.declared.scope.Mode.TheVariants as modes
use Rattle.stripe_examiner.specs.declared.search.Wanted.{Wanted}
use Rattle.stripe_reader.specs.SlotValue.{SlotValue}
use Rattle.stripe_reader.specs.WindowValue.{no_slot}
use Rattle.stripe_reader.specs.declared.slot.Found.{Found}
use Rattle.snap_top.specs.Alike.{AskAlike, FixAlike, HoldAlike, KeptAlike}
use Rattle.snap_top.specs.Unbroken.{NothingRose}
use Rattle.snap_top.specs.Check.{CheckRun}
use Rattle.snap_top.specs.Fix.{FixRun}
use Rattle.snap_top.specs.Naming.{HasChecked}
use Rattle.snap_top.specs.Restoring.{EndsFixed}
use Rattle.snap_top.specs.Entry.{Entry, Exit}
use Rattle.snap_top.specs.Undamaged.{IsUndamaged}
use Rattle.snap_top.proofs.AlikeLemmas.{FixFindsWhatACheckFinds}
use Rattle.snap_top.proofs.HeldLemmas.{CameAsHeld, lists_same}
use Rattle.snap_top.proofs.OneArrayLemmas.{FactsInMode, a_fix_of_one_array, came_as, check_came, check_tells, fix_came, fix_tells, gifts_same, levels_same, plan_as, selections, setups, slot_alike, stripe_same}
use Rattle.snap_top.proofs.SeenLemmas.{IsDetermined, damaged_same, is_mid}
use Rattle.snap_top.proofs.SyncedLemmas.{OneTable}
use Rattle.snap_top_restores.specs.Named.{AllSynced}
use Rattle.snap_top_restores.proofs.LostCellLemmas.{searched_of}
use Rattle.snap_top_restores.proofs.CountLemmas.{passing, whole_is_read}
use Rattle.parity_writer.specs.Sound.{Closed, last_row}

-- ---- a stripe of which the same came, but for what was seen of files

bytes_same : (one other : SlotValue) → KeptAlike one other → bytes_of one ≡ bytes_of other
bytes_same one other alike =
    ap (λ (found : Found). bytes_found found one.cell.got one.block) alike.found
    ∙ ap (λ (got : ℕ). bytes_found other.cell.found got one.block) alike.got
    ∙ ap (λ (block : List ℕ). bytes_found other.cell.found other.cell.got block) alike.block

module _ (plan : FixPlan) (other : StripeFacts) (slots : List SlotValue) (alike : (d : ℕ) → KeptAlike (slice_index_or slots d no_slot) (slot_of other d)) where
  -- the other one, with these slots
  abbrev mid : StripeFacts
  mid = record other { slots = slots }

  abbrev columns : ℕ
  columns = length plan.table.columns

  bytes : (d : ℕ) → bytes_of (slot_of mid d) ≡ bytes_of (slot_of other d)
  bytes d = bytes_same (slot_of mid d) (slot_of other d) (alike d)

  missing : (d : ℕ) → is_missing plan mid d ≡ is_missing plan other d
  missing d = ap (λ (damaged : Bool). damaged && not (is_some (gift_of other d))) (damaged_same plan.table.shape.kind (seen_at plan other.stripe d) (slot_of mid d) (slot_of other d) (alike d))

  missing_same : ◌≡◌ {A = ℕ → Bool} (λ d. is_missing plan mid d) (λ d. is_missing plan other d)
  missing_same = fun_ext missing

  wanted_same : wanted_in plan mid ≡ wanted_in plan other
  wanted_same = ap (λ (of : ℕ → Bool). map (wanted_at plan other) (filter of (range_with_len 0 columns))) missing_same

  row_same : row_before plan mid ≡ row_before plan other
  row_same = ap (λ (of : ℕ → List ℕ). each_column of columns) (fun_ext (λ (d : ℕ).
      ap₂ (λ (lost : Bool) (came : List ℕ). if lost then [] else gift_or (gift_of other d) came) (missing d) (bytes d)))

  -- what is searched for, and the row without it
  abbrev lost_with : List ℕ → List Wanted → Row → LostStripe
  lost_with remainders wanteds row = record {
    shape = plan.table.shape;
    wanteds = wanteds;
    levels = whole_levels other.levels;
    level = λ (r : ℕ). (get_or other.levels r no_level).block;
    row = row;
    remainders = remainders;
  }

  lost_same : (remainders : List ℕ) → lost_of plan mid remainders ≡ lost_of plan other remainders
  lost_same remainders = ap₂ (lost_with remainders) wanted_same row_same

  genuine_mid : (row : Row) → IsGenuine plan row other → IsGenuine plan row mid
  genuine_mid row is = record {
    present = λ d cell below seen gift.
        subst (IsBlockIn plan.table.shape.block_size row d) (sym (bytes d)) (is.present d cell below seen (subst (IsGift plan.table.shape cell) (bytes d) gift));
    given = λ d cell came below seen gift held. is.given d cell came below seen gift held;
    recovered = λ remainders are.
        subst (λ (it : LostStripe). CandidatesAreGenuine it row) (sym (lost_same remainders))
        (is.recovered remainders (subst (λ (it : Row). AreRemainders plan.table.shape.block_size it other.levels remainders) row_same are));
  }

-- it is so by the table of a plan alone
genuine_by : (plan plan_then : FixPlan) (row : Row) (facts : StripeFacts) → plan.table ≡ plan_then.table → IsGenuine plan_then row facts → IsGenuine plan row facts
genuine_by plan plan_then row facts same is =
    let its : IsGenuine (plan_of plan_then.scope plan.table plan_then.entries) row facts
    = subst (λ (t : TableValue). IsGenuine (plan_of plan_then.scope t plan_then.entries) row facts) (sym same) is in
    record { present = its.present; given = its.given; recovered = its.recovered }

-- ---- both of one array

module _ (determined : IsDetermined) (in_mode : FactsInMode) (says : FixFindsWhatACheckFinds) (one_table : OneTable) (before before_then : Entry) (exit exit_then : Exit) (status status_then : ℕ)
    (one : CheckRun) (ends : EndsFixed before_then exit_then status_then) (hold : HoldAlike before before_then) (ask : AskAlike modes.Check modes.Fix before before_then)
    (well : NothingRose before exit) (well_then : NothingRose before_then exit_then) (has : HasChecked modes.Check before exit status one) where
  abbrev fix : FixRun
  fix = ends.run

  abbrev stripes : List StripeFacts
  stripes = facts_of fix.stripes

  pub alike : FixAlike one fix ends.finishes
  alike = a_fix_of_one_array determined in_mode says one_table before before_then exit exit_then status status_then one ends hold ask well well_then has

  trees : trees_of one.folders ≡ trees_of fix.folders
  trees = ap trees_of has.is_check.folders_are ∙ hold.trees ∙ sym (ap trees_of ends.is_fix.folders_are)

  lists : one.lists ≡ fix.lists
  lists = lists_same one.folders one.listed fix.folders fix.listed one.lists fix.lists has.is_check.over.listed ends.is_fix.over.listed
      (check_tells modes.Check before exit status hold.tells well one has) (fix_tells before_then exit_then status_then hold.tells_then well_then ends) trees

  differ : DifferInMode one.plan fix.plan
  differ =
      let is = has.is_check in
      let is_then = ends.is_fix in
      let selected : one.selection ≡ fix.selection
      = selections modes.Check modes.Fix before before_then hold ask one.selection fix.selection one.setup fix.setup is.readers is_then.readers is.configured is_then.configured in
      let set : one.setup ≡ fix.setup
      = setups modes.Check modes.Fix before before_then hold ask one.selection fix.selection one.setup fix.setup is.readers is_then.readers is.configured is_then.configured in
      says.plans one.selection (names_of one.setup) one.loaded one.lists one.plan fix.plan is.over.plan_is
      (plan_as modes.Fix one.selection fix.selection (names_of one.setup) (names_of fix.setup) one.loaded fix.loaded one.lists fix.lists fix.plan selected (ap names_of set) alike.loaded lists is_then.over.plan_is)

  valid : IsValid one.plan.table
  valid = subst IsValid (sym has.is_check.over.plan_is.table_is) has.is_check.over.valid

  are_then : All (AreFacts one.plan) stripes
  are_then = λ k d within. (in_mode one.plan fix.plan (get_or stripes k d) differ).1 (ends.is_fix.over.finds.are k d within)

  numbers : numbers_of one.stripes ≡ numbers_of stripes
  numbers = has.is_check.over.numbers ∙ says.stripes one.plan fix.plan differ ∙ sym ends.fixed.numbers

  came : CameAsHeld one.plan.table one.lists (trees_of one.folders) before.opener.vault.files one.stripes
  came = came_as one.plan.table one.loaded one.lists one.lists (trees_of one.folders) (trees_of one.folders) before.opener.vault.files before.opener.vault.files one.stripes has.is_check.over.plan_is.table_is refl refl refl
      (check_came modes.Check before exit status hold.tells well one has)

  came_then : CameAsHeld one.plan.table one.lists (trees_of one.folders) before.opener.vault.files stripes
  came_then = came_as one.plan.table fix.loaded one.lists fix.lists (trees_of one.folders) (trees_of fix.folders) before.opener.vault.files before_then.opener.vault.files stripes
      (has.is_check.over.plan_is.table_is ∙ alike.loaded) lists trees hold.files (fix_came before_then exit_then status_then hold.tells_then well_then ends)

  as_many : length one.stripes ≡ length stripes
  as_many = sym (length-map one.stripes (λ (facts : StripeFacts). facts.stripe)) ∙ ap length numbers ∙ length-map stripes (λ (facts : StripeFacts). facts.stripe)

  module _ (k : ℕ) (within : k < length one.stripes) where
    within_then : k < length stripes
    within_then = omega (arith, within, as_many)

    came_alike : (d : ℕ) → KeptAlike (slot_of (facts_at one.stripes k) d) (slot_of (facts_at stripes k) d)
    came_alike = slot_alike determined one.plan valid one.lists (trees_of one.folders) before.opener.vault.files one.stripes stripes has.is_check.over.are are_then has.is_check.over.no_gifts
        ends.is_fix.over.no_gifts numbers came came_then k within

    -- the check knows of a stripe what the fix knew, but for what was seen of files
    as_fixed : facts_at one.stripes k ≡ record (facts_at stripes k) { slots = (facts_at one.stripes k).slots }
    as_fixed = is_mid determined one.plan valid (facts_at one.stripes k) (facts_at stripes k) (has.is_check.over.are k no_facts within) (are_then k no_facts within_then)
        (stripe_same determined one.plan valid one.lists (trees_of one.folders) before.opener.vault.files one.stripes stripes has.is_check.over.are are_then has.is_check.over.no_gifts
        ends.is_fix.over.no_gifts numbers came came_then k within)
        came_alike
        (gifts_same determined one.plan valid one.lists (trees_of one.folders) before.opener.vault.files one.stripes stripes has.is_check.over.are are_then has.is_check.over.no_gifts
        ends.is_fix.over.no_gifts numbers came came_then k within)
        (ends.is_fix.over.no_gifts k no_facts within_then)
        (levels_same determined one.plan valid one.lists (trees_of one.folders) before.opener.vault.files one.stripes stripes has.is_check.over.are are_then has.is_check.over.no_gifts
        ends.is_fix.over.no_gifts numbers came came_then k within)

    searched_then : AllSynced one.plan.table → is_searched fix.plan (facts_at stripes k).stripe ≡ true
    searched_then synced =
        let its : AreFacts fix.plan (facts_at stripes k) = ends.is_fix.over.finds.are k no_facts within_then in
        searched_of fix.plan (facts_at stripes k).stripe (subst AllSynced differ.table synced) its.within (ap is_audit differ.fixes)

    genuine_at : (snapshot : Closed) → AllSynced one.plan.table → AreGenuine fix.plan (last_row snapshot) stripes
        → IsGenuine one.plan (last_row snapshot (facts_at one.stripes k).stripe) (facts_at one.stripes k)
    genuine_at snapshot synced genuine =
        let other : StripeFacts = facts_at stripes k in
        let row : Row = last_row snapshot other.stripe in
        let its : IsGenuine one.plan row other = genuine_by one.plan fix.plan row other differ.table (genuine k no_facts within_then (searched_then synced)) in
        subst (λ (it : StripeFacts). IsGenuine one.plan (last_row snapshot it.stripe) it) (sym as_fixed)
        (genuine_mid one.plan other (facts_at one.stripes k).slots came_alike row its)

  -- so it met no hash by chance
  pub genuine_then : (snapshot : Closed) → AllSynced one.plan.table → AreGenuine fix.plan (last_row snapshot) stripes → AreGenuine one.plan (last_row snapshot) one.stripes
  genuine_then snapshot synced genuine = λ k other within searched.
      subst (λ (it : StripeFacts). IsGenuine one.plan (last_row snapshot it.stripe) it) (sym (get_or_default one.stripes k other no_facts within)) (genuine_at k within snapshot synced genuine)

  -- and each level of a stripe that was read whole is intact, where nothing counts as changed
  pub intact_then : (snapshot : Closed) (is_changed : ℕ → ℕ → Bool) → AllSynced one.plan.table → ((stripe level : ℕ) → is_changed stripe level ≡ false)
      → ((facts : StripeFacts) (r : ℕ) → IsUndamaged fix is_changed facts r → IsIntactLevel fix.plan facts (last_row snapshot facts.stripe) r)
      → (facts : StripeFacts) → Contains one.stripes facts → TellsIntactLevels one.plan facts (last_row snapshot facts.stripe) (λ (r : ℕ). true)
  intact_then snapshot is_changed synced unchanged intact facts one_of =
      let k : ℕ = one_of.0 in
      let other : StripeFacts = facts_at stripes k in
      let slots : List SlotValue = (facts_at one.stripes k).slots in
      let here_is : facts ≡ record other { slots = slots } = sym one_of.2 ∙ get_or_default one.stripes k facts no_facts one_of.1 ∙ as_fixed k one_of.1 in
      subst (λ (it : StripeFacts). TellsIntactLevels one.plan it (last_row snapshot it.stripe) (λ (r : ℕ). true)) (sym here_is)
      (λ j default inside. (
        λ it. (
            let r : ℕ = get_or (whole_levels other.levels) j default in
            let its = passing (whole_level other.levels) (length other.levels) j default inside in
            let level : IsUndamaged fix is_changed other r = record {
              one = All-contains_itself stripes k no_facts (within_then k one_of.1);
              synced = (and_parts _ _ (searched_then k one_of.1 synced)).0;
              within = its.0;
              read = whole_is_read (get_or other.levels r no_level).state its.1;
              unchanged = unchanged other.stripe r;
            } in
            subst (λ (t : TableValue). (p : ℕ) → p < t.shape.block_size → slice_index (get_or other.levels r no_level).block p ≡ parity_byte r (last_row snapshot other.stripe) p) (sym differ.table)
            (intact other r level)),
        λ it. refl,
      ))
