-- How the records of a disk go on when one of its lists does.
use Rattle.std.proofs.Common.{◌≡◌, ℕ, ◌+◌, ◌-◌, ◌<◌, ◌≤◌, zero, suc, List, [], ◌∷◌, ◌++◌, length, get_or, set, take, drop, refl, sym, ap, ◌∙◌, subst, arith}
use Rattle.std.proofs.lemmas.List.{map_push, take-append-le, drop-append-le, length-drop, length-map, take_all, length_push, take-append-drop, drop-drop, drop_all}
use Rattle.file_table.specs.declared.block.Block.{Block}
use Rattle.file_table.specs.declared.disk.File.{File}
use Rattle.std.specs.List.{flat_map}
use Rattle.file_table.specs.Table.{Record, column_blocks}
use Rattle.file_table.specs.Disk.{AreCut, record_of, records_from}
use Rattle.file_table.specs.Building.{records_with_block, record_with_block, last_record}
use Rattle.file_table.proofs.ListFacts.{split_last, set_last, last_of_push, front_of_push}

-- one more file after the others
pub AreCut-push : (start : ℕ) (files : List File) (end : ℕ) (file : File) → AreCut start files end → file.first ≡ end → AreCut start (files ++ file ∷ []) (end + file.count)
AreCut-push start [] end file cut at = (at ∙ sym cut, ap (λ (n : ℕ). n + file.count) cut)
AreCut-push start (f ∷ files) end file cut at = (cut.0, AreCut-push (start + f.count) files end file cut.1 at)

-- where the blocks of the last file begin and end
pub AreCut-last : (start : ℕ) (files : List File) (file : File) (end : ℕ) → AreCut start (files ++ file ∷ []) end → AreCut start files file.first × (file.first + file.count ≡ end)
AreCut-last start [] file end cut = (sym cut.0, ap (λ (n : ℕ). n + file.count) cut.0 ∙ cut.1)
AreCut-last start (f ∷ files) file end cut =
    let rest = AreCut-last (start + f.count) files file end cut.1 in
    ((cut.0, rest.0), rest.1)

-- the end is not before the start
pub AreCut-le : (start : ℕ) (files : List File) (end : ℕ) → AreCut start files end → start ≤ end
AreCut-le start [] end cut = omega arith
AreCut-le start (f ∷ files) end cut = omega (arith, AreCut-le (start + f.count) files end cut.1)

-- the blocks of each file end within the list
pub AreCut-within : (start : ℕ) (files : List File) (end i : ℕ) (d : File) → AreCut start files end → i < length files → (get_or files i d).first + (get_or files i d).count ≤ end
AreCut-within start [] end i d cut within = absurd (omega arith)
AreCut-within start (f ∷ files) end zero d cut within = omega (arith, AreCut-le (start + f.count) files end cut.1)
AreCut-within start (f ∷ files) end (suc i) d cut within = AreCut-within (start + f.count) files end i d cut.1 (omega arith)

-- a block that is appended changes no record whose blocks end before it
record_of-append : (blocks more : List Block) (file : File) → file.first + file.count ≤ length blocks → record_of (blocks ++ more) file ≡ record_of blocks file
record_of-append blocks more file within =
    let start : file.first ≤ length blocks = omega arith in
    let fits : file.count ≤ length (drop file.first blocks) = omega (arith, length-drop file.first blocks) in
    let same : take file.count (drop file.first (blocks ++ more)) ≡ take file.count (drop file.first blocks) =
    ap (λ (bs : List Block). take file.count bs) (drop-append-le file.first blocks more start) ∙ take-append-le file.count (drop file.first blocks) more fits in
    ap (λ (bs : List Block). record { path = file.path; meta = file.meta; blocks = bs }) same

pub records_from-append : (start : ℕ) (files : List File) (end : ℕ) (blocks more : List Block) → AreCut start files end → end ≤ length blocks → records_from (blocks ++ more) files ≡ records_from blocks files
records_from-append start [] end blocks more cut within = refl
records_from-append start (f ∷ files) end blocks more cut within =
    let here : f.first + f.count ≤ length blocks = omega (arith, AreCut-le (start + f.count) files end cut.1) in
    let one : record_of (blocks ++ more) f ≡ record_of blocks f = record_of-append blocks more f here in
    let rest : records_from (blocks ++ more) files ≡ records_from blocks files = records_from-append (start + f.count) files end blocks more cut.1 within in
    cc

-- a file with one more block, which stands at the end of the list
abbrev pub grown : File → File
grown file = record { path = file.path; meta = file.meta; first = file.first; count = file.count + 1 }

pub AreCut-grown : (front : List File) (last : File) (end : ℕ) → AreCut 0 (front ++ last ∷ []) end → AreCut 0 (front ++ grown last ∷ []) (end + 1)
AreCut-grown front last end cut =
    let parts : AreCut 0 front last.first × (last.first + last.count ≡ end) = AreCut-last 0 front last end cut in
    let to : last.first + (last.count + 1) ≡ end + 1 = omega arith in
    subst (AreCut 0 (front ++ grown last ∷ [])) to (AreCut-push 0 front last.first (grown last) parts.0 refl)

-- the grown file's record has the block at its end
record_of-grown : (blocks : List Block) (last : File) (block : Block) → last.first + last.count ≡ length blocks → record_of (blocks ++ block ∷ []) (grown last) ≡ record_with_block (record_of blocks last) block
record_of-grown blocks last block ends =
    let start : last.first ≤ length blocks = omega arith in
    let all : length (drop last.first blocks) ≤ last.count = omega (arith, length-drop last.first blocks) in
    let more : length (drop last.first blocks ++ block ∷ []) ≤ last.count + 1 = omega (arith, length-drop last.first blocks, length_push (drop last.first blocks) block) in
    let one : take last.count (drop last.first blocks) ≡ drop last.first blocks = take_all last.count (drop last.first blocks) all in
    let two : drop last.first (blocks ++ block ∷ []) ≡ drop last.first blocks ++ block ∷ [] = drop-append-le last.first blocks (block ∷ []) start in
    let three : take (last.count + 1) (drop last.first blocks ++ block ∷ []) ≡ drop last.first blocks ++ block ∷ [] = take_all (last.count + 1) (drop last.first blocks ++ block ∷ []) more in
    let same : take (last.count + 1) (drop last.first (blocks ++ block ∷ [])) ≡ take last.count (drop last.first blocks) ++ block ∷ [] = cc in
    ap (λ (bs : List Block). record { path = last.path; meta = last.meta; blocks = bs }) same

records_from-pushed : (blocks : List Block) (front : List File) (last : File) (block : Block) → AreCut 0 (front ++ last ∷ []) (length blocks)
    → records_from (blocks ++ block ∷ []) (front ++ grown last ∷ []) ≡ records_with_block (records_from blocks (front ++ last ∷ [])) block
records_from-pushed blocks front last block cut =
    let parts : AreCut 0 front last.first × (last.first + last.count ≡ length blocks) = AreCut-last 0 front last (length blocks) cut in
    let start : last.first ≤ length blocks = omega arith in
    let bs : List Block = blocks ++ block ∷ [] in
    let old : List Record = records_from blocks front in
    let before : records_from bs front ≡ old = records_from-append 0 front last.first blocks (block ∷ []) parts.0 start in
    let here : record_of bs (grown last) ≡ record_with_block (record_of blocks last) block = record_of-grown blocks last block parts.1 in
    let new_list : records_from bs (front ++ grown last ∷ []) ≡ records_from bs front ++ record_of bs (grown last) ∷ [] = map_push (record_of bs) front (grown last) in
    let old_list : records_from blocks (front ++ last ∷ []) ≡ old ++ record_of blocks last ∷ [] = map_push (record_of blocks) front last in
    let added : records_with_block (old ++ record_of blocks last ∷ []) block ≡ old ++ record_with_block (record_of blocks last) block ∷ [] =
    ap (λ (rs : List Record). rs ++ record_with_block (last_record (old ++ record_of blocks last ∷ [])) block ∷ []) (front_of_push old (record_of blocks last))
    ∙ ap (λ (r : Record). old ++ record_with_block r block ∷ []) (last_of_push old (record_of blocks last) _) in
    let whole : records_with_block (records_from blocks (front ++ last ∷ [])) block ≡ records_with_block (old ++ record_of blocks last ∷ []) block = ap (λ (rs : List Record). records_with_block rs block) old_list in
    cc

-- the same, as the code writes it: the last file is read at its number, and written there
module _ (files : List File) (n : ℕ) (file : File) (last : n ≡ length files - 1) (some : 0 < length files) (is : file ≡ get_or files n file) where
  whole : files ≡ take (length files - 1) files ++ file ∷ []
  whole =
      let read : file ≡ get_or files (length files - 1) file = is ∙ ap (λ (k : ℕ). get_or files k file) last in
      split_last files file some ∙ ap (λ (f : File). take (length files - 1) files ++ f ∷ []) (sym read)

  written : set files n (grown file) ≡ take (length files - 1) files ++ grown file ∷ []
  written = ap (λ (k : ℕ). set files k (grown file)) last ∙ set_last files (grown file) some

  pub AreCut-set_last : (end : ℕ) → AreCut 0 files end → AreCut 0 (set files n (grown file)) (end + 1)
  AreCut-set_last end cut =
      let old : AreCut 0 (take (length files - 1) files ++ file ∷ []) end = subst (λ (fs : List File). AreCut 0 fs end) whole cut in
      subst (λ (fs : List File). AreCut 0 fs (end + 1)) (sym written) (AreCut-grown (take (length files - 1) files) file end old)

  pub records_from-set_last : (blocks : List Block) (block : Block) → AreCut 0 files (length blocks) → records_from (blocks ++ block ∷ []) (set files n (grown file)) ≡ records_with_block (records_from blocks files) block
  records_from-set_last blocks block cut =
      let old : AreCut 0 (take (length files - 1) files ++ file ∷ []) (length blocks) = subst (λ (fs : List File). AreCut 0 fs (length blocks)) whole cut in
      ap (λ (fs : List File). records_from (blocks ++ block ∷ []) fs) written
      ∙ records_from-pushed blocks (take (length files - 1) files) file block old
      ∙ ap (λ (fs : List File). records_with_block (records_from blocks fs) block) (sym whole)

-- what the code reads of a file at a number: its blocks end within the list
pub AreCut-read : (files : List File) (end i : ℕ) (file : File) → file ≡ get_or files i file → AreCut 0 files end → i < length files → file.first + file.count ≤ end
AreCut-read files end i file is cut within =
    subst (λ (f : File). f.first + f.count ≤ end) (sym is) (AreCut-within 0 files end i file cut within)

-- the number of the records
pub length-records_from : (blocks : List Block) (files : List File) → length (records_from blocks files) ≡ length files
length-records_from blocks files = length-map files (record_of blocks)

-- the blocks of the records are those of the list
blocks_from : (start : ℕ) (files : List File) (blocks : List Block) → AreCut start files (length blocks) → flat_map (λ (kept : Record). kept.blocks) (records_from blocks files) ≡ drop start blocks
blocks_from start [] blocks cut = let past : length blocks ≤ start = omega arith in sym (drop_all start blocks past)
blocks_from start (f ∷ files) blocks cut =
    let first : List Block = take f.count (drop start blocks) in
    ap (λ (n : ℕ). take f.count (drop n blocks) ++ flat_map (λ (kept : Record). kept.blocks) (records_from blocks files)) cut.0
    ∙ ap (λ (bs : List Block). first ++ bs) (blocks_from (start + f.count) files blocks cut.1 ∙ sym (drop-drop f.count start blocks))
    ∙ take-append-drop f.count (drop start blocks)

pub column_blocks-records_from : (name : List ℕ) (files : List File) (blocks : List Block) → AreCut 0 files (length blocks) → column_blocks (record { name = name; records = records_from blocks files }) ≡ blocks
column_blocks-records_from name files blocks cut = blocks_from 0 files blocks cut
