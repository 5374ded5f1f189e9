-- A file that is set among files in order.
use Rattle.std.proofs.Common.{◌≡◌, ℕ, ◌+◌, ◌^◌, ◌<◌, ◌≤◌, List, length, get_or, set, Bool, true, false, cond, Option, Some, Result, Ok, Err, OnOk, OnErr, refl, sym, ◌∙◌, ap, subst, arith}
use Rattle.std.specs.Option.{option_map}
use Rattle.std.specs.List.{insert, remove}
use Rattle.std.specs.FinMap as map
use Rattle.std.specs.declared.cmp.Ordering.{Ordering}
use Rattle.std.specs.declared.cmp.Ordering.TheVariants.{Less, Equal, Greater}
use Rattle.disk_model.specs.Bytes.{AreBytes, put, resized}
use Rattle.disk_model.specs.Path.{IsValidPath}
use Rattle.disk_model.specs.Stamp.{IsStamp}
use Rattle.disk_model.specs.Tree.{Tree, File, file_of, IsTree, IsFile, IsApart}
use Rattle.disk_calm.specs.Files.{IsRising, IsKept, IsPlace, HasPath, LacksPath, tree_of, file_in, set_found, changed}
use Rattle.disk_calm.proofs.BytesLemmas.{torn_by_put, length-resized, bytes-put, bytes-resized}
use Rattle.disk_calm.proofs.PlaceLemmas.{there_at, not_there}
use Rattle.disk_calm.specs.declared.files.MemFile.{MemFile}
use Rattle.disk_calm.proofs.OrderLemmas.{path_cmp, tied_paths, rising-set, put-set, rising-insert, put-insert, rising-remove, without-remove}
use Rattle.disk_calm.proofs.TreeLemmas.{kept_put, tree_put, kept_without, tree_without}

pub tree_set : (files : List MemFile) (place : ℕ) (new : MemFile) → IsRising files → IsPlace files new.path place → HasPath files new.path place
    → tree_of (set files place new) ≡ map.insert (tree_of files) new.path (file_in new)
tree_set files place new rising at has =
    tree_put files (set files place new) new rising (rising-set files place new rising (λ d within. has.is d)) (put-set files place new has.within (λ j d below within. at.before j d below) has.is)

pub kept_set : (files : List MemFile) (place : ℕ) (new : MemFile) → IsKept files → IsPlace files new.path place → HasPath files new.path place → IsFile (tree_of files) new.path (file_in new)
    → IsKept (set files place new)
kept_set files place new kept at has file =
    kept_put files (set files place new) new kept (rising-set files place new kept.rising (λ d within. has.is d)) (put-set files place new has.within (λ j d below within. at.before j d below) has.is) file

greater : (files : List MemFile) (place : ℕ) (path : List ℕ) → IsPlace files path place → LacksPath files path → (j : ℕ) (d : MemFile) → place ≤ j → j < length files → path_cmp (get_or files j d).path path ≡ Greater
greater files place path at lacks j d above within = by_cases (path_cmp (get_or files j d).path path) refl
  where
    by_cases : (o : Ordering) → path_cmp (get_or files j d).path path ≡ o → o ≡ Greater
    by_cases Less is = absurd (at.after j d above within is)
    by_cases Equal is = absurd (lacks j d within (tied_paths (get_or files j d).path path is))
    by_cases Greater is = refl

pub tree_insert : (files : List MemFile) (place : ℕ) (new : MemFile) → IsRising files → IsPlace files new.path place → LacksPath files new.path
    → tree_of (insert files place new) ≡ map.insert (tree_of files) new.path (file_in new)
tree_insert files place new rising at lacks =
    let before = λ (j : ℕ) (d : MemFile) (below : j < place) (within : j < length files). at.before j d below in
    let after = greater files place new.path at lacks in
    tree_put files (insert files place new) new rising (rising-insert files place new rising before after) (put-insert files place new before after)

pub kept_insert : (files : List MemFile) (place : ℕ) (new : MemFile) → IsKept files → IsPlace files new.path place → LacksPath files new.path → IsFile (tree_of files) new.path (file_in new)
    → (done : Bool) → IsKept (cond done (insert files place new) files)
kept_insert files place new kept at lacks file true =
    let before = λ (j : ℕ) (d : MemFile) (below : j < place) (within : j < length files). at.before j d below in
    let after = greater files place new.path at lacks in
    kept_put files (insert files place new) new kept (rising-insert files place new kept.rising before after) (put-insert files place new before after) file
kept_insert files place new kept at lacks file false = kept

pub tree_remove : (files : List MemFile) (place : ℕ) (path : List ℕ) → IsRising files → HasPath files path place → tree_of (remove files place) ≡ map.remove (tree_of files) path
tree_remove files place path rising has = tree_without files (remove files place) path rising (rising-remove files place rising) (without-remove path files place rising has.within has.is)

pub kept_remove : (files : List MemFile) (place : ℕ) (path : List ℕ) → IsKept files → HasPath files path place → IsKept (remove files place)
kept_remove files place path kept has = kept_without files (remove files place) path kept (rising-remove files place kept.rising) (without-remove path files place kept.rising has.within has.is)

-- the file at a place, as the tree has it
pub old_file : (files : List MemFile) (path : List ℕ) (place : ℕ) (f : MemFile) → IsKept files → HasPath files path place → f ≡ get_or files place f → IsFile (tree_of files) path (file_in f)
old_file files path place f kept at is = kept.tree path (file_in f) (sym (there_at files path kept.rising place f at is))

module _ (files : List MemFile) (path : List ℕ) (place : ℕ) (f new : MemFile) (kept : IsKept files) (spot : IsPlace files path place) (at : HasPath files path place) (is : f ≡ get_or files place f) (same : new.path ≡ f.path) where
  here : new.path ≡ path
  here = same ∙ ap (λ (g : MemFile). g.path) is ∙ at.is f

  spot_here : IsPlace files new.path place
  spot_here = subst (λ (p : List ℕ). IsPlace files p place) (sym here) spot

  at_here : HasPath files new.path place
  at_here = subst (λ (p : List ℕ). HasPath files p place) (sym here) at

  pub kept_changed : IsStamp new.stamp → AreBytes new.bytes → length new.bytes < 2 ^ 64 → IsKept (set files place new)
  kept_changed stamp bytes fits =
      let old = old_file files path place f kept at is in
      kept_set files place new kept spot_here at_here
      (subst (λ (p : List ℕ). IsFile (tree_of files) p (file_in new)) (sym here) (record { valid = old.valid; stamp = stamp; bytes = bytes; size = fits; apart = old.apart }))

  pub tree_changed : (step : File → File) → file_in new ≡ step (file_in f) → tree_of (set files place new) ≡ changed step path (tree_of files)
  tree_changed step by =
      tree_set files place new kept.rising spot_here at_here
      ∙ ap (λ (p : List ℕ). map.insert (tree_of files) p (file_in new)) here
      ∙ ap (map.insert (tree_of files) path) by
      ∙ ap (λ (o : Option File). set_found (option_map step o) path (tree_of files)) (there_at files path kept.rising place f at is)

pub not_changed : (files : List MemFile) (path : List ℕ) (step : File → File) → IsRising files → LacksPath files path → tree_of files ≡ changed step path (tree_of files)
not_changed files path step rising lacks = ap (λ (o : Option File). set_found (option_map step o) path (tree_of files)) (not_there files path rising lacks)

-- a write fits where its end does, whether memory refused it or not
pub put_fits : {T E : Type 0} (r : Result T E) (old new : List ℕ) (at : ℕ) (bytes : List ℕ) → OnOk r (new ≡ put old at bytes) → OnErr r (new ≡ old) → length old < 2 ^ 64 → at + length bytes < 2 ^ 64 → length new < 2 ^ 64
put_fits (Ok x) old new at bytes ok err fits ends = let most = (torn_by_put old at bytes).no_longer in omega (arith, ap length ok, most, fits, ends)
put_fits (Err x) old new at bytes ok err fits ends = omega (arith, ap length err, fits)

pub resized_fits : {T E : Type 0} (r : Result T E) (old new : List ℕ) (len : ℕ) → OnOk r (new ≡ resized old len) → OnErr r (new ≡ old) → length old < 2 ^ 64 → len < 2 ^ 64 → length new < 2 ^ 64
resized_fits (Ok x) old new len ok err fits ends = omega (arith, ap length ok, length-resized old len, ends)
resized_fits (Err x) old new len ok err fits ends = omega (arith, ap length err, fits)

pub put_bytes : {T E : Type 0} (r : Result T E) (old new : List ℕ) (at : ℕ) (bytes : List ℕ) → OnOk r (new ≡ put old at bytes) → OnErr r (new ≡ old) → AreBytes old → AreBytes bytes → AreBytes new
put_bytes (Ok x) old new at bytes ok err one two = subst AreBytes (sym ok) (bytes-put old at bytes one two)
put_bytes (Err x) old new at bytes ok err one two = subst AreBytes (sym err) one

pub resized_bytes : {T E : Type 0} (r : Result T E) (old new : List ℕ) (len : ℕ) → OnOk r (new ≡ resized old len) → OnErr r (new ≡ old) → AreBytes old → AreBytes new
resized_bytes (Ok x) old new len ok err one = subst AreBytes (sym ok) (bytes-resized old len one)
resized_bytes (Err x) old new len ok err one = subst AreBytes (sym err) one

-- a file with another path
pub moved_file : (tree : Tree) (from to : List ℕ) (file : File) → IsTree tree → Some file ≡ file_of tree from → IsValidPath to → IsApart (map.remove tree from) to → IsFile (map.remove tree from) to file
moved_file tree from to file trees found valid apart = let old = trees from file (sym found) in record { valid = valid; stamp = old.stamp; bytes = old.bytes; size = old.size; apart = apart }

pub on_any : {T E P : Type 0} (result : Result T E) → P → OnErr result P
on_any (Ok x) p = tt
on_any (Err e) p = p
