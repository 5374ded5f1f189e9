use Rattle.std.proofs.Common.{◌≡◌, ℕ, ◌+◌, ◌<◌, List, [], ◌∷◌, ◌++◌, length, get_or, take, drop, max, ap, sym, ◌∙◌, subst, append_assoc, arith}
use Rattle.std.proofs.lemmas.List.{length-drop}
use Rattle.file_table.specs.declared.block.Block.{Block}
use Rattle.file_table.specs.declared.shape.Shape.{Shape}
use Rattle.file_table.specs.Table.{Record, column_at, positions_of, end_of}
use Rattle.file_table.specs.Valid.{most_blocks}
use Rattle.file_table.proofs.BuildingLemmas.{blocks_in, blocks_in-push}
use Rattle.file_table.proofs.PrefixLemmas.{All-left, All-right}
use Rattle.std.proofs.lemmas.Grind.{flat_map-append}
use Rattle.array_scan.specs.declared.sorting.Sorted.{Sorted}
use Rattle.array_scan.specs.Laying.{needed, all_needed, laid_record, laid_records}
use Rattle.array_scan.specs.Marks.{StandBelow}
use Rattle.array_scan.proofs.EndLemmas.{end_of_blocks-append}
use Rattle.array_scan.proofs.PushingLemmas.{laid-step, needed-step}
use Rattle.array_scan.proofs.building.end_of_files.Goals as goal

-- a turn: the files that are left are one, and those behind it
record IsTurn (size : ℕ) (records : List Record) (free now rest : List ℕ) (files : List Sorted) (i : ℕ) (file : Sorted) : Type 0 where
  step : laid_records size records free (drop i files) ≡ laid_record size records now file ∷ laid_records size records rest (drop (i + 1) files)
  more : all_needed size (drop i files) ≡ needed size file + all_needed size (drop (i + 1) files)

is_turn : (size : ℕ) (records : List Record) (free now rest : List ℕ) (files : List Sorted) (i : ℕ) (file : Sorted) (count : ℕ) → i < length files → file ≡ get_or files i file → count ≡ needed size file
    → now ≡ take count free → rest ≡ drop count free → IsTurn size records free now rest files i file
is_turn size records free now rest files i file count within is many front back = record {
  step = laid-step size records free now rest files i file within is (front ∙ ap (λ (n : ℕ). take n free) many) (back ∙ ap (λ (n : ℕ). drop n free) many);
  more = needed-step size files i file within is;
}

pub end_of_file-end-requires-clause-below : goal.end_of_file-end-requires-clause-below
end_of_file-end-requires-clause-below c =
    let size = c.args.old.now.shape.block_size in
    let records = (column_at c.args.old.now.columns c.args.d).records in
    let files = c.args.files.now in
    let i = c.loop-file.file-index in
    let file = c.file-item.result in
    let free = c.loop-file.free.now in
    let done = c.loop-file.invariant.0 in
    let count : c.needed-count.result ≡ needed size file = c.needed-count.ensures ∙ ap (λ (s : Shape). needed s.block_size file) c.shape-block_size.ensures.shape in
    let turn = is_turn size records free c.split_at.result.0.now c.split_at.result.1.now files i file c.needed-count.result c.loop-file-test.true c.file-item.is count c.split_at.ensures.front c.split_at.ensures.back in
    let later = laid_records size records c.split_at.result.1.now (drop (i + 1) files) in
    let here = laid_record size records c.split_at.result.0.now file in
    let all : StandBelow most_blocks (blocks_in (done ++ here ∷ later)) =
    subst (λ (rs : List Record). StandBelow most_blocks (blocks_in rs)) (sym c.loop-file.invariant.2 ∙ ap (λ (rs : List Record). done ++ rs) turn.step) c.requires.below in
    let parts : StandBelow most_blocks (blocks_in done ++ blocks_in (here ∷ later)) = subst (StandBelow most_blocks) (flat_map-append (λ (r : Record). r.blocks) done (here ∷ later)) all in
    All-left (λ (b : Block). b.position < most_blocks) here.blocks (blocks_in later) (All-right (λ (b : Block). b.position < most_blocks) (blocks_in done) (blocks_in (here ∷ later)) parts)

pub loop-file-preserved : goal.loop-file-preserved
loop-file-preserved c =
    let size = c.args.old.now.shape.block_size in
    let records = (column_at c.args.old.now.columns c.args.d).records in
    let files = c.args.files.now in
    let i = c.loop-file.file-index in
    let file = c.file-item.result in
    let free = c.loop-file.free.now in
    let rest = c.split_at.result.1.now in
    let done = c.loop-file.invariant.0 in
    let count : c.needed-count.result ≡ needed size file = c.needed-count.ensures ∙ ap (λ (s : Shape). needed s.block_size file) c.shape-block_size.ensures.shape in
    let turn = is_turn size records free c.split_at.result.0.now rest files i file c.needed-count.result c.loop-file-test.true c.file-item.is count c.split_at.ensures.front c.split_at.ensures.back in
    let here = laid_record size records c.split_at.result.0.now file in
    let blocks : end_of (positions_of (blocks_in (done ++ here ∷ []))) ≡ max (end_of (positions_of (blocks_in done))) (end_of (positions_of here.blocks)) =
    ap (λ (bs : List Block). end_of (positions_of bs)) (blocks_in-push done here) ∙ end_of_blocks-append (blocks_in done) here.blocks in (
      done ++ here ∷ [],
      omega (arith, c.end_of_file-end.ensures, c.loop-file.invariant.1, blocks),
      append_assoc done (here ∷ []) (laid_records size records rest (drop (i + 1) files)) ∙ ap (λ (rs : List Record). done ++ rs) (sym turn.step) ∙ c.loop-file.invariant.2,
      omega (arith, ap length c.split_at.ensures.back, length-drop c.needed-count.result free, count, c.loop-file.invariant.3, turn.more),
    )
