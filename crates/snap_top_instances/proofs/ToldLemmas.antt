-- A run with what it says of itself, and a disk that holds a file.
use Rattle.std.proofs.Common.{◌≡◌, ◌≢◌, ℕ, ◌<◌, List, [], ◌∷◌, length, map, get_or, None, sym, ap, ◌∙◌, arith}
use Rattle.std.specs.FinMap as finite_map
use Rattle.std.specs.Cmp.Lexicographic.{slice_cmp}
use Rattle.std.specs.Ordering.{nat_cmp}
use Rattle.disk_model.specs.Folder.{FolderView}
use Rattle.disk_model.specs.Opener.{OpenerView}
use Rattle.disk_model.specs.Sink.{SinkView}
use Rattle.disk_model.specs.Tree.{Tree, file_of}
use Rattle.disk_model.specs.Vault.{VaultView}
use Rattle.snap_top_instances.specs.Told.{HoldsFile, RunsTold, RunsWhole}

-- the first folder has a file under this name
pub first_holds : {F : Type 0} (folder_view : F → FolderView) (folders : List F) (folder default : F) (name : List ℕ) → 0 < length folders → folder ≡ get_or folders 0 default
    → file_of (folder_view folder).tree name ≢ None → HoldsFile (map folder_view folders)
first_holds folder_view [] folder default name within is there = absurd (omega (arith, within))
first_holds folder_view (first ∷ folders) folder default name within is there =
    λ empty. there (ap (λ it. file_of (folder_view it).tree name) is ∙ ap (λ (tree : Tree). file_of tree name) empty ∙ finite_map.get-empty (slice_cmp nat_cmp) name)

-- where neither the opener nor the output failed, and this was printed
module _ {O F V W : Type 0} (opener_view : O → OpenerView) (folder_view : F → FolderView) (vault_view : V → VaultView) (sink_view : W → SinkView) where
  pub whole_told : (config : List ℕ) (texts : List (List ℕ)) (seed : List ℕ) (folders : List FolderView) (vault : VaultView) (status : ℕ) (left_folders : List F) (left : V) (opener : O) (out : W)
      (printed : List ℕ) → RunsWhole opener_view folder_view vault_view sink_view config texts seed folders vault status left_folders left opener out
      → (opener_view opener).faults ≡ 0 → (sink_view out).faults ≡ 0 → printed ≡ (sink_view out).written
      → RunsTold opener_view folder_view vault_view sink_view config texts seed folders vault status left_folders left printed
  whole_told config texts seed folders vault status left_folders left opener out printed whole opener_well out_well is = record {
    over = whole.over;
    held = whole.held;
    moment_is = whole.moment_is;
    account = whole.account;
    complete = whole.complete;
    clauses = whole.clauses;
    opener_faults = ap (λ (o : O). (opener_view o).faults) whole.opener_is ∙ opener_well;
    out_begins = whole.out_begins;
    out_tells = whole.out_tells;
    out_faults = ap (λ (w : W). (sink_view w).faults) whole.out_is ∙ out_well;
    printed_is = ap (λ (w : W). (sink_view w).written) whole.out_is ∙ sym is;
  }
