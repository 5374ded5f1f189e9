use Rattle.std.proofs.Common.{◌≡◌, ◌/◌, ◌<◌, ℕ, List, [], length, take, length-set, refl, sym, ap, ◌∙◌, subst, arith}
use Rattle.std.proofs.lemmas.List.{get_or-map, length-map, take_all}
use Rattle.cauchy.specs.Levels.{blocks_of, HoldsLevel}
use Rattle.parity_writer.specs.WindowRow.{bytes_in, row_at}
use Rattle.parity_writer.proofs.SumLemmas.{blocks_more}
use Rattle.parity_writer.proofs.sums.sum_levels.Goals as goal

pub loop-d-init : goal.loop-d-init
loop-d-init c = record { long = refl; row = refl }

pub loop-d-preserved : goal.loop-d-preserved
loop-d-preserved c =
    let lanes = c.args.window.now.lanes in
    let d = c.loop-d.d in
    let row = row_at c.args.window.now c.args.i in
    let within : d < length lanes = omega arith in
    record {
      long = length-set c.loop-d.row d c.cell_bytes.result ∙ c.loop-d.invariant.long;
      row = blocks_more c.loop-d.row d c.cell_bytes.result row (omega (arith, within, c.loop-d.invariant.long, c.requires.columns)) (omega (arith, within, length-map lanes (bytes_in c.args.i)))
          c.loop-d.invariant.row (c.cell_bytes.ensures.value ∙ sym (get_or-map (bytes_in c.args.i) lanes d [] [] within));
    }

pub returns : goal.returns
returns c =
    λ r h.
    let row = row_at c.args.window.now c.args.i in
    let size : length c.args.sums.now / 6 ≡ c.args.window.now.block_size = omega (arith, c.requires.sums) in
    let all : c.columns.result ≡ c.loop-d.d = omega arith in
    let whole : blocks_of (take c.columns.result c.loop-d.row) ≡ row =
    ap (λ (n : ℕ). blocks_of (take n c.loop-d.row)) all ∙ c.loop-d.invariant.row
    ∙ take_all c.loop-d.d row (omega (arith, c.columns-d-end.ensures, length-map c.args.window.now.lanes (bytes_in c.args.i))) in
    subst (λ (n : ℕ). HoldsLevel n row r c.fill_levels.new.out) size
    (subst (λ (blocks : List (List ℕ)). HoldsLevel (length c.args.sums.now / 6) blocks r c.fill_levels.new.out) whole (c.fill_levels.ensures r h))
