-- What a write to one block of a disk's list makes of its records.
use Rattle.std.proofs.Common.{◌≡◌, ℕ, zero, suc, ◌+◌, ◌-◌, ◌<◌, ◌≤◌, min, List, [], ◌∷◌, length, get_or, set, take, drop, refl, sym, ap, ◌∙◌, subst, arith, Some}
use Rattle.std.proofs.Math.Seq.{take-set-lt}
use Rattle.std.proofs.lemmas.List.{drop-set-add, drop-set-lt, take-set-le, get_or-map, get_or-take, get_or-drop, length-take}
use Rattle.block_hash.specs.declared.Digest16.{Digest16}
use Rattle.file_table.specs.declared.block.Block.{Block}
use Rattle.file_table.specs.declared.disk.File.{File}
use Rattle.file_table.specs.Table.{Record, Column, record_in, block_in, no_record, no_block, record_with_hash, column_with_hash}
use Rattle.file_table.specs.Disk.{AreCut, record_of, records_from}
use Rattle.file_table.proofs.DiskLemmas.{AreCut-read}

-- a write before the blocks of these files, or behind those of one
set_before : (start : ℕ) (files : List File) (end : ℕ) (blocks : List Block) (k : ℕ) (block : Block) → AreCut start files end → k < start → records_from (set blocks k block) files ≡ records_from blocks files
set_before start [] end blocks k block cut before = refl
set_before start (f ∷ files) end blocks k block cut before =
    let first : k < f.first = omega (arith, cut.0) in
    let here : record_of (set blocks k block) f ≡ record_of blocks f = ap (λ (bs : List Block). let r : Record = record { path = f.path; meta = f.meta; blocks = take f.count bs } in r) (drop-set-lt f.first blocks k block first) in
    let rest : records_from (set blocks k block) files ≡ records_from blocks files = set_before (start + f.count) files end blocks k block cut.1 (omega arith) in
    cc

set_behind : (blocks : List Block) (k : ℕ) (block : Block) (file : File) → file.first + file.count ≤ k → record_of (set blocks k block) file ≡ record_of blocks file
set_behind blocks k block file past =
    let split : k ≡ file.first + (k - file.first) = omega arith in
    let beyond : file.count ≤ k - file.first = omega arith in
    let same : take file.count (drop file.first (set blocks k block)) ≡ take file.count (drop file.first blocks) =
    ap (λ (n : ℕ). take file.count (drop file.first (set blocks n block))) split
    ∙ ap (take file.count) (drop-set-add file.first blocks (k - file.first) block)
    ∙ take-set-le file.count (drop file.first blocks) (k - file.first) block beyond in
    ap (λ (bs : List Block). let r : Record = record { path = file.path; meta = file.meta; blocks = bs } in r) same

-- a write among the blocks of one file
record_set : Record → ℕ → Block → Record
record_set kept index block = record { path = kept.path; meta = kept.meta; blocks = set kept.blocks index block }

set_within : (blocks : List Block) (index : ℕ) (block : Block) (file : File) → index < file.count → record_of (set blocks (file.first + index) block) file ≡ record_set (record_of blocks file) index block
unfolding record_set
set_within blocks index block file inside =
    ap (λ (bs : List Block). let r : Record = record { path = file.path; meta = file.meta; blocks = bs } in r)
    (ap (take file.count) (drop-set-add file.first blocks index block) ∙ take-set-lt file.count (drop file.first blocks) index block inside)

records_from-set : (start : ℕ) (files : List File) (end : ℕ) (blocks : List Block) (i index : ℕ) (block : Block) (d : File) → AreCut start files end → i < length files → index < (get_or files i d).count
    → records_from (set blocks ((get_or files i d).first + index) block) files ≡ set (records_from blocks files) i (record_set (record_of blocks (get_or files i d)) index block)
records_from-set start [] end blocks i index block d cut within inside = absurd (omega arith)
records_from-set start (f ∷ files) end blocks zero index block d cut within inside =
    let before : f.first + index < start + f.count = omega (arith, cut.0) in
    let here : record_of (set blocks (f.first + index) block) f ≡ record_set (record_of blocks f) index block = set_within blocks index block f inside in
    let rest : records_from (set blocks (f.first + index) block) files ≡ records_from blocks files = set_before (start + f.count) files end blocks (f.first + index) block cut.1 before in
    cc
records_from-set start (f ∷ files) end blocks (suc i) index block d cut within inside =
    let file : File = get_or files i d in
    let i_in : i < length files = omega arith in
    let past : start + f.count ≤ file.first = first_from (start + f.count) files end i d cut.1 i_in in
    let here : record_of (set blocks (file.first + index) block) f ≡ record_of blocks f = set_behind blocks (file.first + index) block f (omega (arith, cut.0)) in
    let rest : records_from (set blocks (file.first + index) block) files ≡ set (records_from blocks files) i (record_set (record_of blocks file) index block) = records_from-set (start + f.count) files end blocks i index block d cut.1 i_in inside in
    cc
  where
    first_from : (from : ℕ) (fs : List File) (to n : ℕ) (e : File) → AreCut from fs to → n < length fs → from ≤ (get_or fs n e).first
    first_from from [] to n e part n_in = absurd (omega arith)
    first_from from (g ∷ fs) to zero e part n_in = omega (arith, part.0)
    first_from from (g ∷ fs) to (suc n) e part n_in = omega (arith, first_from (from + g.count) fs to n e part.1 (omega arith))

-- the block that the code reads is the record's, and the write is that of the column
module _ (name : List ℕ) (files : List File) (blocks : List Block) (cut : AreCut 0 files (length blocks)) (i index : ℕ) (file : File) (i_in : i < length files) (is : file ≡ get_or files i file) where
  abbrev column_now : Column
  column_now = record { name = name; records = records_from blocks files }

  record_is : record_in column_now i ≡ record_of blocks file
  record_is = get_or-map (record_of blocks) files i file no_record i_in ∙ ap (record_of blocks) (sym is)

  pub block_of_record : index < file.count → block_in (record_in column_now i) index ≡ get_or blocks (file.first + index) no_block
  block_of_record inside =
      ap (λ (r : Record). block_in r index) record_is
      ∙ get_or-take file.count (drop file.first blocks) index no_block inside
      ∙ get_or-drop file.first blocks index no_block

  pub column_set : (hash : Digest16) (block : Block) → index < file.count → block ≡ (let b : Block = record { position = (get_or blocks (file.first + index) no_block).position; hash = Some hash } in b)
      → (let c : Column = record { name = name; records = records_from (set blocks (file.first + index) block) files } in c) ≡ column_with_hash column_now i index hash
  unfolding record_set
  column_set hash block inside block_is =
      let inside_read : index < (get_or files i file).count = subst (λ (f : File). index < f.count) is inside in
      let written : records_from (set blocks (file.first + index) block) files ≡ set (records_from blocks files) i (record_set (record_of blocks file) index block) =
      ap (λ (f : File). records_from (set blocks (f.first + index) block) files) is
      ∙ records_from-set 0 files (length blocks) blocks i index block file cut i_in inside_read
      ∙ ap (λ (f : File). set (records_from blocks files) i (record_set (record_of blocks f) index block)) (sym is) in
      let made : block ≡ (let b : Block = record { position = (block_in (record_in column_now i) index).position; hash = Some hash } in b) =
      block_is ∙ ap (λ (b : Block). let c : Block = record { position = b.position; hash = Some hash } in c) (sym (block_of_record inside)) in
      let new : record_set (record_of blocks file) index block ≡ record_with_hash (record_in column_now i) index hash =
      ap (λ (r : Record). record_set r index block) (sym record_is)
      ∙ ap (λ (b : Block). record_set (record_in column_now i) index b) made in
      ap (λ (rs : List Record). let c : Column = record { name = name; records = rs } in c) (written ∙ ap (λ (r : Record). set (records_from blocks files) i r) new)

  pub index_in_file : index < length (record_in column_now i).blocks → index < file.count
  index_in_file inside =
      let long : length (record_in column_now i).blocks ≡ min file.count (length (drop file.first blocks)) = ap (λ (r : Record). length r.blocks) record_is ∙ length-take file.count (drop file.first blocks) in
      omega arith

  pub block_in_list : index < file.count → file.first + index < length blocks
  block_in_list inside = omega (arith, AreCut-read files (length blocks) i file is cut i_in)
