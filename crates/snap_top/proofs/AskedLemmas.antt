-- Two runs that were asked for the same over one array begin with the same setup and the same table.
use Rattle.std.proofs.Common.{◌≡◌, ◌≢◌, ◌⊎◌, inl, inr, ⊎_elim, ℕ, zero, suc, ◌≤◌, List, take, Bool, true, false, IsTrue, Option, Ok, refl, sym, ap, ◌∙◌, subst, arith}
use Rattle.content_file.specs.Load.{HasFailed}
use Rattle.disk_model.specs.Cause.{Rose, RoseBy}
use Rattle.disk_model.specs.Files.{Files}
use Rattle.disk_model.specs.Vault.{copies_of}
use Rattle.file_table.specs.Table.{TableValue}
use Rattle.snap_config.specs.Config.{read_setup}
use Rattle.array_setup.specs.Setup.{SetupValue}
use Rattle.snap_config.specs.declared.options.Command.{Command}
use Rattle.snap_config.specs.declared.options.Options.{Options}
use Rattle.snap_sync.specs.Part.{SyncRun}
use Rattle.snap_top.specs.Alike.{HoldAlike}
use Rattle.snap_top.specs.Unbroken.{NothingRose}
use Rattle.snap_top.specs.Array.{empty_table}
use Rattle.snap_top.specs.Output.{IsEndStatus}
use Rattle.snap_top.specs.Loading.{Loading, ReadsWell}
use Rattle.snap_top.specs.Effect.{effect}
use Rattle.snap_top.specs.Asked.{asked_by, IsConfigured}
use Rattle.snap_top.specs.Entry.{Entry, Exit}
use Rattle.snap_top.specs.Sync.{BeginsFrom}
use Rattle.snap_top.specs.Did.{Did, fixes, reads_only, scrubs, syncs}
use Rattle.snap_top.proofs.CompleteLemmas.{same_ok}
use Rattle.snap_top.proofs.OfSyncLemmas.{failed_since}
use Rattle.snap_top.proofs.ResumeLemmas.{begins_same}
use Rattle.snap_top.proofs.SyncedLemmas.{OneTable}

-- the setup of a run
module _ (before : Entry) (tells : IsTrue before.opener.tells) (asked : Options) (words : asked_by before.texts ≡ Ok asked) (command : Command) (readers : ℕ) (setup : SetupValue)
    (is : IsConfigured before.texts before.opener command readers setup) where
  pub command_asked : command ≡ asked.command
  command_asked = is.command_is ∙ ap (λ (options : Options). options.command) (same_ok (asked_by before.texts) is.asked asked is.read words)

  pub setup_read : read_setup (take 1048577 before.opener.config) asked.log ≡ Ok setup
  setup_read = ap (λ (options : Options). read_setup (take 1048577 before.opener.config) options.log) (sym (same_ok (asked_by before.texts) is.asked asked is.read words))
      ∙ ap (λ (bytes : List ℕ). read_setup bytes is.asked.log) (sym (is.says.held tells)) ∙ is.says.says

-- two of one array, with one log, have one setup
pub one_setup : (before before_then : Entry) → HoldAlike before before_then → (asked asked_then : Options) → asked_by before.texts ≡ Ok asked → asked_by before_then.texts ≡ Ok asked_then → asked.log ≡ asked_then.log
    → (command command_then : Command) (readers readers_then : ℕ) (setup setup_then : SetupValue) → IsConfigured before.texts before.opener command readers setup
    → IsConfigured before_then.texts before_then.opener command_then readers_then setup_then → setup ≡ setup_then
one_setup before before_then hold asked asked_then words words_then log command command_then readers readers_then setup setup_then is is_then =
    same_ok (read_setup (take 1048577 before.opener.config) asked.log) setup setup_then
    (setup_read before hold.tells.tells asked words command readers setup is)
    (ap (λ (bytes : List ℕ). read_setup (take 1048577 bytes) asked.log) hold.config
    ∙ ap (λ (it : Option (List ℕ)). read_setup (take 1048577 before_then.opener.config) it) log
    ∙ setup_read before_then hold.tells_then.tells asked_then words_then command_then readers_then setup_then is_then)

-- where no copy's reading failed in the whole run, none failed while its table was loaded
pub well_in : (before : Entry) (exit : Exit) {setup : SetupValue} {table : TableValue} (loading : Loading before exit setup table)
    → ((copy : ℕ) → ¬ (HasFailed before.opener.vault exit.after.vault copy)) → ReadsWell before loading.at
well_in before exit loading none copy failed = none copy (failed_since before.opener.vault exit.after.vault loading.at loading.later copy failed)

pub loads_well : (before : Entry) (exit : Exit) (did : Did) (is : (effect did).is_of before exit) → ((copy : ℕ) → ¬ (HasFailed before.opener.vault exit.after.vault copy)) → (effect did).loads_well before exit is
loads_well before exit reads_only is none = tt
loads_well before exit (syncs failed run) is none = well_in before exit is.loading none
loads_well before exit (fixes failed run) is none = well_in before exit is.loading none
loads_well before exit (scrubs failed run) is none = well_in before exit is.loading none

-- so it is where a sync broke off, and the vault's count of faults rose by one at most
rose_twice : (a b c : ℕ) → Rose a b → Rose b c → RoseBy 2 a c
rose_twice a b c first then_too = omega (arith, first, then_too)

pub once_well : (before : Entry) (exit : Exit) (did : Did) (is : (effect did).is_of before exit) → (effect did).breaks_behind before exit is → (sync : SyncRun) → did ≡ syncs true sync
    → ¬ (RoseBy 2 before.opener.vault.faults exit.after.vault.faults) → (effect did).loads_well before exit is
once_well before exit reads_only is broke sync did_is once = tt
once_well before exit (syncs true run) is broke sync did_is once = λ copy failed. once (rose_twice before.opener.vault.faults is.loading.at.faults exit.after.vault.faults failed.rose broke)
once_well before exit (syncs false run) is broke sync did_is once = absurd (let clash : syncs false run ≡ syncs true sync = did_is in cc)
once_well before exit (fixes failed run) is broke sync did_is once = absurd (let clash : fixes failed run ≡ syncs true sync = did_is in cc)
once_well before exit (scrubs failed run) is broke sync did_is once = absurd (let clash : scrubs failed run ≡ syncs true sync = did_is in cc)

-- so it is where the vault's count of faults did not rise
pub unfailed : (before : Entry) (exit : Exit) {setup : SetupValue} {table : TableValue} (loading : Loading before exit setup table) → NothingRose before exit → ReadsWell before loading.at
unfailed before exit loading well = well_in before exit loading (λ copy failed. well.vault failed.rose)

module _ (one_table : OneTable) (before before_then : Entry) (hold : HoldAlike before before_then) where
  -- so they load the same
  pub same_loaded : (setup setup_then : SetupValue) (table table_then : TableValue) → setup ≡ setup_then
      → BeginsFrom setup before.seed (copies_of before.opener.vault) before.opener.vault.files table
      → BeginsFrom setup_then before_then.seed (copies_of before_then.opener.vault) before_then.opener.vault.files table_then → table ≡ table_then
  same_loaded setup setup_then table table_then setups begins begins_then =
      begins_same one_table setup before.seed (copies_of before.opener.vault) before.opener.vault.files table table_then begins (seeded here)
    where
      here : BeginsFrom setup before_then.seed (copies_of before.opener.vault) before.opener.vault.files table_then
      here =
          subst (λ (s : SetupValue). BeginsFrom s before_then.seed (copies_of before.opener.vault) before.opener.vault.files table_then) (sym setups)
          (subst (λ (n : ℕ). BeginsFrom setup_then before_then.seed n before.opener.vault.files table_then) (sym hold.copies)
          (subst (λ (fs : Files). BeginsFrom setup_then before_then.seed (copies_of before_then.opener.vault) fs table_then) (sym hold.files) begins_then))

      seeded : BeginsFrom setup before_then.seed (copies_of before.opener.vault) before.opener.vault.files table_then → BeginsFrom setup before.seed (copies_of before.opener.vault) before.opener.vault.files table_then
      seeded (inl first) = inl first
      seeded (inr none) = inr (none.0, none.1 ∙ ap (empty_table setup) (sym (hold.seed none.0)))

-- two runs of which all is well with one exactly where it is with the other have one status, where the output of neither failed
pub same_status : (status status_then : ℕ) (failed failed_then : Bool) (Well Well_then : Type 0) → (Well → Well_then) → (Well_then → Well) → IsEndStatus status failed Well → IsEndStatus status_then failed_then Well_then
    → status ≢ 3 → status_then ≢ 3 → status ≡ status_then
same_status status status_then failed failed_then Well Well_then there here is is_then fails fails_then = ⊎_elim
    (λ few. ⊎_elim (λ few_then. by status status_then few few_then refl refl) (λ three. absurd (fails_then three)) is_then.only)
    (λ three. absurd (fails three))
    is.only
  where
    unset : (b : Bool) → ¬ (IsTrue b) → b ≡ false
    unset true never = absurd (never refl)
    unset false never = refl

    over : status ≡ 0 → status_then ≡ 0
    over zero_is = is_then.clean.1 (unset failed_then (λ it. fails_then (is_then.failed.1 it)), there (is.clean.0 zero_is).1)

    back : status_then ≡ 0 → status ≡ 0
    back zero_is = is.clean.1 (unset failed (λ it. fails (is.failed.1 it)), here (is_then.clean.0 zero_is).1)

    by : (a b : ℕ) → a ≤ 1 → b ≤ 1 → status ≡ a → status_then ≡ b → status ≡ status_then
    by a b few few_then one other = ⊎_elim
        (λ none. one ∙ none ∙ sym (over (one ∙ none)))
        (λ some. ⊎_elim
        (λ none. back (other ∙ none) ∙ sym (other ∙ none))
        (λ some_then. one ∙ omega (arith, few, few_then, some, some_then) ∙ sym other)
        (zero_or b))
        (zero_or a)
      where
        zero_or : (n : ℕ) → (n ≡ 0) ⊎ (1 ≤ n)
        zero_or zero = inl refl
        zero_or (suc n) = inr (omega arith)
