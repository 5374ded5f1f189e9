-- A run begins with what fits its table.
use Rattle.std.proofs.Common.{ℕ, ◌<◌, List, [], length, get_or, All, sym, ap, ◌∙◌, subst, arith}
use Rattle.std.specs.List.{range_with_len}
use Rattle.std.proofs.lemmas.List.{length-map}
use Rattle.std.proofs.lemmas.List.Elements.{All-filter, All-from_get_or}
use Rattle.std.proofs.lemmas.List.FromFn.{length-range_with_len, get_or-range_with_len, length-map-range_with_len, get_or-map-range_with_len}
use Rattle.folder_listing.specs.Kept.{ListedFile}
use Rattle.disk_model.specs.Folder.{FolderView}
use Rattle.file_table.specs.Table.{Record, TableValue, records_in}
use Rattle.array_setup.specs.declared.ways.Selection.{Selection}
use Rattle.stripe_reader.specs.Starts.{StartsFit, StartsValue}
use Rattle.snap_fix.specs.declared.beginning.Work.{Work}
use Rattle.repair_scope.specs.declared.entry.Entry.{Entry}
use Rattle.repair_scope.specs.declared.scope.Mode.{Mode}
use Rattle.snap_fix.specs.Beginning.{Begins}
use Rattle.snap_fix.specs.Checking.{IsWorkFor, plan_for}
use Rattle.stripe_examiner.specs.Facts.{StripeFacts}
use Rattle.stripe_examiner.specs.Looking.{AreRead}
use Rattle.stripe_examiner.specs.Place.{start_of, column_starts, starts_of}
use Rattle.repair_scope.specs.Plan.{FixPlan, EntriesFit, stripes_of, is_looked_at}
use Rattle.snap_fix.proofs.BeginningLemmas.{entries_fit}

pub starts_fit : (table : TableValue) (lists : List (List ListedFile)) → StartsFit table (starts_of table lists)
starts_fit table lists = record {
  columns = length-map-range_with_len (column_starts table lists) 0 (length table.columns);
  records = λ d within.
      ap length (get_or-map-range_with_len (column_starts table lists) 0 (length table.columns) d d [] within (omega arith))
      ∙ length-map (records_in table d) (λ (kept : Record). start_of (get_or lists d []) kept.path);
}

-- the numbers below one
range_below : (n : ℕ) → All (λ k. k < n) (range_with_len 0 n)
range_below n = All-from_get_or (λ k. k < n) (range_with_len 0 n) 0 (λ i below.
    let near : i < n = omega (arith, below, length-range_with_len 0 n) in
    subst (λ (k : ℕ). k < n) (sym (get_or-range_with_len 0 n i 0 near)) (omega (arith, near)))

stripes_below : (plan : FixPlan) → All (λ stripe. stripe < length plan.table.infos) (stripes_of plan)
stripes_below plan = All-filter (is_looked_at plan) (λ stripe. stripe < length plan.table.infos) (range_with_len 0 (length plan.table.infos)) (range_below (length plan.table.infos))

module _ (mode : Mode) (selection : Selection) (names : List (List ℕ)) (table : TableValue) (work : Work) (olds news : List FolderView)
    (begun : Begins mode selection names table work olds news) where
  pub entries_begun : EntriesFit table work.entries
  entries_begun = subst (λ (entries : List (List Entry)). EntriesFit table entries) (sym begun.entries) (entries_fit selection names table begun.lists)

  pub work_begun : IsWorkFor table work
  work_begun = record {
    entries = entries_begun;
    starts = subst (λ (starts : StartsValue). StartsFit table starts) (sym begun.starts) (starts_fit table begun.lists);
    within = subst (λ (stripes : List ℕ). All (λ stripe. stripe < length table.infos) stripes) (sym begun.stripes) (stripes_below (plan_for table work));
    room = begun.room;
  }

  pub read_begun : (plan : FixPlan) (stripes : List StripeFacts) (befores afters : List FolderView) → AreRead plan work.starts stripes befores afters → AreRead plan (starts_of table begun.lists) stripes befores afters
  read_begun plan stripes befores afters read = subst (λ (starts : StartsValue). AreRead plan starts stripes befores afters) begun.starts read
