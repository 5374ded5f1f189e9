-- Two checks, or a check and a fix, that read the same of one array, or that find the same array.
use Rattle.std.specs.Prelude.{◌≡◌, ◌≢◌, ℕ, ◌<◌, length, filter, map, Ok}
use Rattle.disk_model.specs.Vault.{copies_of}
use Rattle.snap_config.specs.declared.options.Options.{Options}
use Rattle.array_setup.specs.declared.ways.Selection.{Selection}
use Rattle.snap_fix.specs.Ending.{Finishes}
use Rattle.snap_fix.specs.Fixing.{facts_of}
use Rattle.snap_report.specs.Kind.{is_finding}
use Rattle.snap_sync.specs.Part.{trees_of}
use Rattle.stripe_examiner.specs.Facts.{StripeFacts, slot_of}
use Rattle.stripe_examiner.specs.Looking.{facts_at}
use Rattle.repair_scope.specs.Plan.{names_of}
use Rattle.repair_scope.specs.declared.scope.Mode.{Mode}
use Rattle.stripe_reader.specs.SlotValue.{SlotValue}
use Rattle.snap_top.specs.Check.{CheckRun}
use Rattle.snap_top.specs.Fix.{FixRun}
use Rattle.snap_top.specs.Stands.{TellsAll}
use Rattle.snap_top.specs.Naming.{events_found}
use Rattle.snap_top.specs.Began.{command_in}
use Rattle.snap_top.specs.Asked.{asked_by}
use Rattle.snap_top.specs.Restoring.{events_in}
use Rattle.snap_top.specs.Entry.{Entry}
use Rattle.snap_top.specs.Sync.{HasNoCopy}

-- what a fix has seen, said as of a check
abbrev pub seen_by : FixRun → CheckRun
seen_by run = record {
  selection = run.selection;
  setup = run.setup;
  loaded = run.loaded;
  lists = run.lists;
  plan = run.plan;
  stripes = facts_of run.stripes;
  readings = run.readings;
  folders = run.folders;
  listed = run.listed;
  ended = run.ended;
}

-- The same was kept of a cell, but for the size and the time that were seen of its file.
pub record KeptAlike (one other : SlotValue) : Type 0 where
  pub found : one.cell.found ≡ other.cell.found
  pub got : one.cell.got ≡ other.cell.got
  pub digest : one.digest ≡ other.digest
  pub block : one.block ≡ other.block

-- so of each cell of a stripe, and the same came of its levels
pub record BlocksAlike (one other : StripeFacts) : Type 0 where
  pub cells : (d : ℕ) → KeptAlike (slot_of one d) (slot_of other d)
  pub levels : one.levels ≡ other.levels

-- the same came of the cells, sizes and times included, and of the levels of a stripe
pub record CameAlike (one other : StripeFacts) : Type 0 where
  pub slots : one.slots ≡ other.slots
  pub levels : one.levels ≡ other.levels

-- They were asked for the same of disks with the same names, began with the same table, listed the same files, and read the
-- same of their stripes.
pub record ReadAlike (one other : CheckRun) : Type 0 where
  pub selection : one.selection ≡ other.selection
  pub names : names_of one.setup ≡ names_of other.setup
  pub loaded : one.loaded ≡ other.loaded
  pub lists : one.lists ≡ other.lists
  pub came : (k : ℕ) → k < length one.stripes → CameAlike (facts_at one.stripes k) (facts_at other.stripes k)

-- They were asked for the same of disks with the same names, began with the same table and listed the same files. Of the stripes of one
-- the same blocks came as of the first ones of the other.
pub record SeenAlike (one other : CheckRun) : Type 0 where
  pub selection : one.selection ≡ other.selection
  pub names : names_of one.setup ≡ names_of other.setup
  pub loaded : one.loaded ≡ other.loaded
  pub lists : one.lists ≡ other.lists
  pub came : (k : ℕ) → k < length one.stripes → BlocksAlike (facts_at one.stripes k) (facts_at other.stripes k)

-- where all that was read is the same, they know the same of the stripes, and find the same
pub record FindAlike (one other : CheckRun) : Type 0 where
  pub facts : one.stripes ≡ other.stripes
  pub events : events_found one ≡ events_found other

-- a fix tells besides what it did
pub record FixFindsAlike (one : CheckRun) (fix : FixRun) (finishes : Finishes) : Type 0 where
  pub facts : one.stripes ≡ facts_of fix.stripes
  pub events : filter is_finding (events_in fix finishes) ≡ events_found one

-- ---- two runs over one array

-- Two runs begin over the same: their openers tell all, and hold the same configuration, trees, and files of as many copies. Where there is no
-- copy, their seeds are the same.
pub record HoldAlike (one other : Entry) : Type 0 where
  pub tells : TellsAll one
  pub tells_then : TellsAll other
  pub config : one.opener.config ≡ other.opener.config
  pub trees : trees_of one.opener.folders ≡ trees_of other.opener.folders
  pub copies : copies_of one.opener.vault ≡ copies_of other.opener.vault
  pub files : one.opener.vault.files ≡ other.opener.vault.files
  pub seed : HasNoCopy (copies_of one.opener.vault) one.opener.vault.files → one.seed ≡ other.seed

-- They were asked for the same, each in its mode: of the same selection, and with the same log.
pub record AskAlike (mode mode_then : Mode) (one other : Entry) : Type 0 where
  pub asked : Options
  pub asked_then : Options
  pub selection : Selection
  pub words : asked_by one.texts ≡ Ok asked
  pub words_then : asked_by other.texts ≡ Ok asked_then
  pub command_is : asked.command ≡ command_in mode selection
  pub command_then : asked_then.command ≡ command_in mode_then selection
  pub log : asked.log ≡ asked_then.log

-- so two checks or audits have the same lines and, where the output of neither failed, the same status
pub record CheckAlike (one other : CheckRun) (status status_then : ℕ) : Type 0 where
  pub loaded : one.loaded ≡ other.loaded
  pub rows : map (λ (facts : StripeFacts). facts.row) one.stripes ≡ map (λ (facts : StripeFacts). facts.row) other.stripes
  pub events : events_found one ≡ events_found other
  pub statuses : status ≢ 3 → status_then ≢ 3 → status ≡ status_then

-- and a fix knows the same rows as a check, and finds the same; it tells besides what it did
pub record FixAlike (one : CheckRun) (fix : FixRun) (finishes : Finishes) : Type 0 where
  pub loaded : one.loaded ≡ fix.loaded
  pub rows : map (λ (facts : StripeFacts). facts.row) one.stripes ≡ map (λ (facts : StripeFacts). facts.row) (facts_of fix.stripes)
  pub events : filter is_finding (events_in fix finishes) ≡ events_found one
