use Rattle.std.proofs.Common.{◌≡◌, ◌+◌, ◌<◌, ◌++◌, ◌∷◌, ℕ, List, [], length, get_or, take, sym, ◌∙◌, subst, arith}
use Rattle.std.proofs.lemmas.List.{get_or_default, length-map, take_all}
use Rattle.cauchy.specs.Levels.{blocks_of, AreColumnTables, HoldLanes}
use Rattle.cauchy.proofs.LevelsLemmas.{lanes_none, lanes_past, next_block_of, count_of_front}
use Rattle.cauchy.proofs.levels.groups.row_lanes.Goals as goal
use Rattle.cauchy.proofs.levels.groups.row_lanes.Goals.{then-start-block, else-start-block}

pub loop-c-init : goal.loop-c-init
loop-c-init g c = λ are. lanes_none g.row.N c.args.start

pub loop-c-preserved : goal.loop-c-preserved
loop-c-preserved g c =
    λ are.
    let N = g.row.N in
    let start = c.args.start in
    let front = take c.loop-c.c (blocks_of c.args.blocks.now) in
    let block : List ℕ = (get_or c.args.blocks.now c.loop-c.c (record { ref_ptr = (0, 0); now = [] })).now in
    let within : c.loop-c.c < length c.args.blocks.now = c.loop-c-test.true in
    let next : take (c.loop-c.c + 1) (blocks_of c.args.blocks.now) ≡ front ++ block ∷ [] = next_block_of c.args.blocks.now c.loop-c.c _ within in
    let count : c.loop-c.c ≡ length front = sym (count_of_front c.args.blocks.now c.loop-c.c within) in
    elim c.if-start-block.branch [
      | then-start-block w ↦
          let these : AreColumnTables N c.loop-c.c w.index-tables-c.result =
          subst (AreColumnTables N c.loop-c.c) (get_or_default c.args.tables.now c.loop-c.c [] w.index-tables-c.result (omega (arith, within, c.requires.columns)) ∙ sym w.index-tables-c.is) (are c.loop-c.c within) in
          subst (λ (lanes : List (List ℕ)). HoldLanes N start (take (c.loop-c.c + 1) (blocks_of c.args.blocks.now)) lanes) (sym w.levels-is)
          (subst (λ (row : List (List ℕ)). HoldLanes N start row w.add_lanes.new.levels) (sym next)
          (w.add_lanes.ensures front block start (subst (λ (n : ℕ). AreColumnTables N n w.index-tables-c.result) count these) w.load_padded.ensures (c.loop-c.invariant are)))
      | else-start-block w ↦
          subst (λ (lanes : List (List ℕ)). HoldLanes N start (take (c.loop-c.c + 1) (blocks_of c.args.blocks.now)) lanes) (sym w.levels-is)
          (subst (λ (row : List (List ℕ)). HoldLanes N start row c.loop-c.levels) (sym next)
          (lanes_past N start front block c.loop-c.levels w.if-start-block.false (c.loop-c.invariant are)))
    ]

pub returns : goal.returns
returns g c =
    λ are.
    subst (λ (row : List (List ℕ)). HoldLanes g.row.N c.args.start row c.loop-c.levels)
    (take_all c.loop-c.c (blocks_of c.args.blocks.now) (omega (arith, c.loop-c-test.false, length-map c.args.blocks.now (λ block. block.now))))
    (c.loop-c.invariant are)
