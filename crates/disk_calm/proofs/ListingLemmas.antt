-- Files in order as they are listed.
use Rattle.std.proofs.Common.{◌≡◌, ℕ, ◌<◌, List, [], ◌∷◌, length, get_or, map as list_map, Some, Result, Ok, Err, IfOk, pos, refl, sym, ap, ◌∙◌, subst, arith}
use Rattle.std.proofs.lemmas.List.{get_or-map, length-map}
use Rattle.disk_model.specs.Stamp.{IsStamp}
use Rattle.disk_model.specs.Path.{IsValidPath}
use Rattle.disk_model.specs.Tree.{File, file_of, meta_of, listing_of, IsListing, IsListedBefore}
use Rattle.disk_model.specs.declared.meta.Meta.{Meta}
use Rattle.disk_calm.specs.Files.{IsRising, IsKept, info_of, entries_of, file_in, tree_of}
use Rattle.disk_calm.specs.declared.files.MemFile.{MemFile}
use Rattle.disk_calm.proofs.OrderLemmas.{paths_rise, find_at}
use Rattle.disk_calm.proofs.TreeLemmas.{tree_find, tree_entries}

infos_by_entries : (files : List MemFile) → list_map info_of files ≡ list_map (λ (e : List ℕ × File). (e.0, meta_of e.1)) (entries_of files)
infos_by_entries [] = refl
infos_by_entries (f ∷ files) = ap (λ (xs : List (List ℕ × Meta)). info_of f ∷ xs) (infos_by_entries files)

pub listing_is : (files : List MemFile) → IsRising files → list_map info_of files ≡ listing_of (tree_of files)
listing_is files rises = infos_by_entries files ∙ ap (list_map (λ (e : List ℕ × File). (e.0, meta_of e.1))) (sym (tree_entries files rises))

abbrev no_file : MemFile
no_file = record { path = []; stamp = record { seconds = pos 0; nanos = 0 }; bytes = [] }

held : (files : List MemFile) → IsRising files → (i : ℕ) → i < length files → file_of (tree_of files) (get_or files i no_file).path ≡ Some (file_in (get_or files i no_file))
held files rises i within = tree_find files rises (get_or files i no_file).path ∙ find_at files i no_file rises within

before : (files : List MemFile) → IsKept files → (i j : ℕ) → i < j → j < length files → IsListedBefore (get_or files i no_file).path (get_or files j no_file).path
before files kept i j order within =
    let a = get_or files i no_file in
    let b = get_or files j no_file in
    let first = held files kept.rising i (omega (arith, order, within)) in
    let second = held files kept.rising j within in
    let apart = (kept.tree b.path (file_in b) second).apart a.path (file_in a) first in
    record { less = paths_rise files kept.rising i j no_file order within; no_directory = apart.0; not_inside = apart.1 }

pub is_listing : (files : List MemFile) → IsKept files → IsListing (list_map info_of files)
is_listing files kept =
    let long = length-map files info_of in
    record {
      order = λ i j d order within.
          let second : j < length files = omega (arith, within, long) in
          let first : i < length files = omega (arith, order, second) in
          let here = before files kept i j order second in
          subst (λ (p : List ℕ × Meta). IsListedBefore p.0 (get_or (list_map info_of files) j d).0) (sym (get_or-map info_of files i no_file d first))
          (subst (λ (p : List ℕ × Meta). IsListedBefore (get_or files i no_file).path p.0) (sym (get_or-map info_of files j no_file d second)) here);
      valid = λ i d within.
          let inside : i < length files = omega (arith, within, long) in
          let file = kept.tree (get_or files i no_file).path (file_in (get_or files i no_file)) (held files kept.rising i inside) in
          subst (λ (p : List ℕ × Meta). IsValidPath p.0) (sym (get_or-map info_of files i no_file d inside)) file.valid;
      stamps = λ i d within.
          let inside : i < length files = omega (arith, within, long) in
          let file = kept.tree (get_or files i no_file).path (file_in (get_or files i no_file)) (held files kept.rising i inside) in
          subst (λ (p : List ℕ × Meta). IsStamp p.1.stamp) (sym (get_or-map info_of files i no_file d inside)) file.stamp;
    }

pub if_ok : {T E : Type 0} (P Q : T → Type 0) (r : Result T E) → ((x : T) → P x → Q x) → IfOk r P → IfOk r Q
if_ok P Q (Ok x) more p = more x p
if_ok P Q (Err e) more p = tt
