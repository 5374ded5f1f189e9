-- Which file of a disk holds the block at a place in the list of all blocks.
use Rattle.std.proofs.Common.{◌≡◌, inl, inr, ℕ, ◌+◌, ◌-◌, ◌<◌, ◌≤◌, zero, suc, List, [], ◌∷◌, length, get_or, take, drop, sym, ap, ◌∙◌, arith, add-one, true, false}
use Rattle.std.specs.List.Sorted.{IsNonDecreasingBy, IsPartitionPoint}
use Rattle.std.proofs.Math.Dec.{leb}
use Rattle.std.proofs.lemmas.List.{get_or-map, get_or-take, get_or-drop, length-take, length-drop}
use Rattle.std.proofs.lemmas.Bool.{cases_lt, leb-true, leb-false}
use Rattle.file_table.specs.declared.block.Block.{Block}
use Rattle.file_table.specs.declared.disk.File.{File}
use Rattle.file_table.specs.Table.{Record, Column, record_in, block_in, no_record, no_block}
use Rattle.file_table.specs.Disk.{AreCut, record_of, records_from, no_file}
use Rattle.file_table.specs.Cells.{IsCellOf}
use Rattle.file_table.proofs.DiskLemmas.{AreCut-within, length-records_from, column_blocks-records_from}

-- no file's blocks begin before the first file's
begins_after : (start : ℕ) (files : List File) (end i : ℕ) (d : File) → AreCut start files end → i < length files → start ≤ (get_or files i d).first
begins_after start [] end i d cut within = absurd (omega arith)
begins_after start (f ∷ files) end zero d cut within = omega (arith, cut.0)
begins_after start (f ∷ files) end (suc i) d cut within = omega (arith, begins_after (start + f.count) files end i d cut.1 (omega arith))

pub firsts_rise : (start : ℕ) (files : List File) (end : ℕ) → AreCut start files end → IsNonDecreasingBy (λ (file : File). file.first) files
firsts_rise start [] end cut i j d le within = absurd (omega arith)
firsts_rise start (f ∷ files) end cut zero j d le within = omega (arith, cut.0, begins_after start (f ∷ files) end j d cut within)
firsts_rise start (f ∷ files) end cut (suc i) zero d le within = absurd (omega arith)
firsts_rise start (f ∷ files) end cut (suc i) (suc j) d le within = firsts_rise (start + f.count) files end cut.1 i j d (omega arith) (omega arith)

-- there is a file, and the first one's blocks begin at 0, where there is a block
pub some_file : (files : List File) (end place : ℕ) → AreCut 0 files end → place < end → 0 < length files
some_file [] end place cut below = absurd (omega arith)
some_file (f ∷ files) end place cut below = omega arith

pub first_begins : (files : List File) (end place : ℕ) → AreCut 0 files end → place < end → (get_or files 0 no_file).first ≤ place
first_begins [] end place cut below = absurd (omega arith)
first_begins (f ∷ files) end place cut below = omega (arith, cut.0)

-- the blocks of a file end where the next one's begin, or at the end
ends_next : (start : ℕ) (files : List File) (end i : ℕ) → AreCut start files end → i + 1 < length files → (get_or files (i + 1) no_file).first ≡ (get_or files i no_file).first + (get_or files i no_file).count
ends_next start [] end i cut within = absurd (omega arith)
ends_next start (f ∷ []) end i cut within = absurd (omega arith)
ends_next start (f ∷ g ∷ files) end zero cut within = omega (arith, cut.0, cut.1.0)
ends_next start (f ∷ g ∷ files) end (suc i) cut within = rw add-one (rw add-one at (ends_next (start + f.count) (g ∷ files) end i cut.1 (omega arith)))

ends_last : (start : ℕ) (files : List File) (end i : ℕ) → AreCut start files end → i + 1 ≡ length files → (get_or files i no_file).first + (get_or files i no_file).count ≡ end
ends_last start [] end i cut last = absurd (omega arith)
ends_last start (f ∷ []) end zero cut last = omega (arith, cut.0, cut.1)
ends_last start (f ∷ []) end (suc i) cut last = absurd (omega arith)
ends_last start (f ∷ g ∷ files) end zero cut last = absurd (omega arith)
ends_last start (f ∷ g ∷ files) end (suc i) cut last = ends_last (start + f.count) (g ∷ files) end i cut.1 (omega arith)

-- a place before the next file's blocks is among those of the file
pub among_blocks : (files : List File) (end i place : ℕ) → AreCut 0 files end → i < length files → (i + 1 < length files → place < (get_or files (i + 1) no_file).first) → place < end
    → place < (get_or files i no_file).first + (get_or files i no_file).count
among_blocks files end i place cut within before below = elim (cases_lt (i + 1) (length files)) [
  | inl less ↦ omega (arith, ends_next 0 files end i cut less, before less)
  | inr ge ↦ let last : i + 1 ≡ length files = omega arith in omega (arith, ends_last 0 files end i cut last)
]

-- the block at a place among those of a file
pub is_cell_of : (name : List ℕ) (files : List File) (blocks : List Block) (i place : ℕ) → AreCut 0 files (length blocks) → i < length files
    → (get_or files i no_file).first ≤ place → place < (get_or files i no_file).first + (get_or files i no_file).count
    → IsCellOf (record { name = name; records = records_from blocks files }) place (record { rec = i; index = place - (get_or files i no_file).first })
is_cell_of name files blocks i place cut within begins ends =
    let file : File = get_or files i no_file in
    let column : Column = record { name = name; records = records_from blocks files } in
    let index : ℕ = place - file.first in
    let read : record_in column i ≡ record_of blocks file = get_or-map (record_of blocks) files i no_file no_record within in
    let whole : file.first + file.count ≤ length blocks = AreCut-within 0 files (length blocks) i no_file cut within in
    let inside : index < file.count = omega arith in
    let long : length (take file.count (drop file.first blocks)) ≡ file.count = simp (length-take, length-drop) (omega arith) in
    let at : file.first + index ≡ place = omega arith in
    record {
      within = omega (arith, length-records_from blocks files);
      index_within = rw read (omega (arith, long));
      block_is = ap (λ (r : Record). block_in r index) read
          ∙ get_or-take file.count (drop file.first blocks) index no_block inside
          ∙ get_or-drop file.first blocks index no_block
          ∙ ap (λ (n : ℕ). get_or blocks n no_block) at
          ∙ ap (λ (bs : List Block). get_or bs place no_block) (sym (column_blocks-records_from name files blocks cut));
    }

-- where the files part by whether their blocks begin at a place or before it, the last of the first part is there, and the next begins later
module _ (files : List File) (place n : ℕ) (splits : IsPartitionPoint (λ (file : File). leb file.first place ≡ true) (λ (file : File). leb file.first place ≡ false) files n) where
  pub some_begin : 0 < length files → (get_or files 0 no_file).first ≤ place → 0 < n
  some_begin some start = elim (cases_lt 0 n) [
    | inl less ↦ less
    | inr none ↦
        let past : place < (get_or files 0 no_file).first = leb-false (get_or files 0 no_file).first place (splits.1 0 no_file none some) in
        absurd (omega arith)
  ]

  pub last_begins : 0 < n → (get_or files (n - 1) no_file).first ≤ place
  last_begins some = leb-true (get_or files (n - 1) no_file).first place (splits.0 (n - 1) no_file (omega arith) (omega arith))

  pub next_begins : 0 < n → (n - 1) + 1 < length files → place < (get_or files ((n - 1) + 1) no_file).first
  next_begins some within = leb-false (get_or files ((n - 1) + 1) no_file).first place (splits.1 ((n - 1) + 1) no_file (omega arith) within)
