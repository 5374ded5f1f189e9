-- When the files of two folders are the same.
use Rattle.std.proofs.Common.{◌≡◌, ◌↔◌, ℕ, ◌<◌, List, length, get_or, Bool, IsTrue, pos, [], sym, ap, ◌∙◌, arith}
use Rattle.std.proofs.lemmas.List.{get_or-map, length-map, same_lists}
use Rattle.std.specs.FinMap as map
use Rattle.disk_model.specs.Tree.{File, Tree}
use Rattle.disk_calm.specs.Files.{entries_of, entry_of, tree_of}
use Rattle.disk_calm.specs.Kept.{files_in, tree_in}
use Rattle.disk_calm.specs.declared.files.Files.{Files}
use Rattle.disk_calm.specs.declared.files.MemFile.{MemFile}
use Rattle.disk_calm.proofs.TreeLemmas.{tree_entries}

abbrev no_file : MemFile
no_file = record { path = []; stamp = record { seconds = pos 0; nanos = 0 }; bytes = [] }

pub same_files : (files others : List MemFile) → length files ≡ length others
    → ((i : ℕ) (d : MemFile) → i < length files → entry_of (get_or files i d) ≡ entry_of (get_or others i d)) → entries_of files ≡ entries_of others
same_files files others long each = same_lists (entries_of files) (entries_of others) (length-map files entry_of ∙ long ∙ sym (length-map others entry_of)) (λ i d below.
    let inside : i < length files = omega (arith, below, length-map files entry_of) in
    let there : i < length others = omega (arith, inside, long) in
    get_or-map entry_of files i no_file d inside ∙ each i no_file inside ∙ sym (get_or-map entry_of others i no_file d there))

pub same_file_at : (files others : List MemFile) (k : ℕ) (a b : MemFile) → k < length files → k < length others → a ≡ get_or files k a → b ≡ get_or others k b
    → entries_of files ≡ entries_of others → entry_of a ≡ entry_of b
same_file_at files others k a b within there a_is b_is same =
    ap entry_of a_is ∙ sym (get_or-map entry_of files k a (entry_of a) within) ∙ ap (λ (es : List (List ℕ × File)). get_or es k (entry_of a)) same
    ∙ get_or-map entry_of others k b (entry_of a) there ∙ sym (ap entry_of b_is)

-- trees are the same exactly where their files are
pub same_trees : (one other : Files) (files others : List MemFile) (same : Bool) → files ≡ files_in one → others ≡ files_in other
    → (IsTrue same ↔ (entries_of files ≡ entries_of others)) → (IsTrue same ↔ (tree_in one ≡ tree_in other))
same_trees one other files others same is also tells = (
  λ yes. ap (λ (fs : List MemFile). tree_of fs) (sym is) ∙ tree_of_entries (tells.0 yes) ∙ ap (λ (fs : List MemFile). tree_of fs) also,
  λ equal. tells.1 (ap entries_of is ∙ sym (tree_entries (files_in one) one.kept.rising) ∙ ap map.entries equal ∙ tree_entries (files_in other) other.kept.rising ∙ sym (ap entries_of also)),
)
  where
    tree_of_entries : entries_of files ≡ entries_of others → tree_of files ≡ tree_of others
    tree_of_entries equal = ap (λ (es : List (List ℕ × File)). let t : Tree = map.from_sorted es in t) equal
