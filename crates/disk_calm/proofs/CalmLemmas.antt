-- A writing call of a calm folder.
use Rattle.std.proofs.Common.{◌≡◌, ℕ, ◌≤◌, List, [], ◌∷◌, length, get_or, true, false, refl, ◌∙◌}
use Rattle.std.proofs.lemmas.List.{get_or_past}
use Rattle.disk_model.specs.Cause.{Rose, Counts, exactly}
use Rattle.disk_model.specs.Tree.{Tree}
use Rattle.disk_model.specs.Folder.{FolderView, FolderCall, any_folder_write}
use Rattle.disk_model.specs.Writing.{MayDo, IsFolderWrite, ChangesFile, WritesPart}
use Rattle.disk_model.specs.declared.answer.Answer.TheVariants.{Failed}
use Rattle.disk_calm.specs.Calm.{calm_folder_view}
use Rattle.disk_calm.specs.Kept.{tree_in}
use Rattle.disk_calm.proofs.BytesLemmas.{torn_not}
use Rattle.disk_calm.proofs.TreeLemmas.{set_same}
use Rattle.disk_calm.specs.declared.folder.CalmFolder.{CalmFolder}

-- the folder after a call
abbrev pub calm_after : CalmFolder → ℕ → ℕ → Tree → FolderView
calm_after f faults writes tree = record {
  faults = faults;
  writes = exactly writes;
  keeps = λ stamp. f.keeps_stamps;
  closed = false;
  tells = true;
  tree = tree;
  tells_calls = false;
  calls = [];
}

-- memory refused its growth
pub calm_failed : (f : CalmFolder) (faults writes : ℕ) (tree : Tree) (call : FolderCall) → f.faults ≤ faults → Rose f.faults faults → Counts (any_folder_write (record { call = call; answer = Failed } ∷ [])) (exactly f.writes) (exactly writes)
    → MayDo (λ stamp. f.keeps_stamps) call (tree_in f.files) tree → IsFolderWrite call Failed (calm_folder_view f) (calm_after f faults writes tree)
calm_failed f faults writes tree call later rose counts may = record {
  called = record {
    goes_on = record { later = later; writes = counts; keeps = refl; closed = refl; tells = refl; calls = record { told = λ told. told; more = λ (told : false ≡ true). absurd (cc) } };
    cause = λ failed. rose;
  };
  does = λ (no : true ≡ false). absurd (cc);
  may = λ failed told. may;
}

-- a write of which nothing was done
pub writes_nothing : (path : List ℕ) (at n : ℕ) (old new : Tree) → new ≡ old → ChangesFile path (WritesPart at n) old new
writes_nothing path at n old new is = record {
  none = λ none. is;
  some = λ before found. (before, record { torn = torn_not before.bytes at n; zeros = λ i past under. zero_past before.bytes i past }, is ∙ set_same old path before found);
}
  where
    zero_past : (bytes : List ℕ) (i : ℕ) → length bytes ≤ i → get_or bytes i 0 ≡ 0
    zero_past bytes i past = get_or_past bytes i 0 past
