use Rattle.std.proofs.Common.{◌≡◌, ◌≢◌, inl, inr, ℕ, ◌+◌, ◌-◌, ◌*◌, ◌<◌, List, take, length, get_or, sym, ◌∙◌, ap, subst, arith}
use Rattle.std.proofs.lemmas.Bool.{cases_lt, false≢true}
use Rattle.std.proofs.lemmas.List.{get_or-take}
use Rattle.cauchy.specs.Field.{product}
use Rattle.cauchy.specs.Matrix.{entry_of}
use Rattle.cauchy.specs.System.{byte_in}
use Rattle.gf256.specs.Field.{field_sum}
use Rattle.parity_writer.specs.LevelsValue.{LevelValue, no_level}
use Rattle.stripe_examiner.specs.Known.{is_whole, whole_level}
use Rattle.stripe_examiner.proofs.StripeLemmas.{levels_as_many}
use Rattle.stripe_examiner.proofs.TakenLemmas.{added_elsewhere, added_here, taken}
use Rattle.stripe_examiner.proofs.finding.take_block.Goals as goal
use Rattle.stripe_examiner.proofs.finding.take_block.Goals.{then-is_whole, else-is_whole}

pub loop-r-preserved : goal.loop-r-preserved
loop-r-preserved c =
    let levels = c.args.levels.now in
    let size = c.args.size in
    let r = c.loop-r.r in
    let old = c.loop-r.remainders in
    let block = c.args.block.now in
    let column = c.args.column in
    let so_far = c.loop-r.invariant in
    let read = take levels.count levels.levels in
    let within : r < levels.count = omega (arith, c.requires.levels.count_is) in
    let known : r < 6 = omega (arith, within, c.requires.levels.count_is, c.requires.levels.most) in
    let here : get_or read r no_level ≡ get_or levels.levels r no_level = get_or-take levels.count levels.levels r no_level within in
    let test : whole_level read r ≡ c.is_whole.result =
    ap (λ (level : LevelValue). is_whole level.state) here ∙ ap is_whole (sym c.state.ensures) ∙ sym c.is_whole.ensures in
    let all : length old ≡ 6 * size = omega (arith, c.loop-r.auto.remainders, c.requires.remainders.long) in
    elim c.if-is_whole.branch [
      | then-is_whole w ↦
          let out = w.add_column.new.out in
          let start = r * size in
          let n = start + length block - start in
          let many : n ≡ length block = omega arith in
          let new = c.if-is_whole.remainders in
          let is = w.remainders-is in
          record {
            added = λ k p below whole less. elim (cases_lt k r) [
              | inl earlier ↦
                  let apart : k ≢ r = omega (arith, earlier) in
                  ap (λ (xs : List ℕ). byte_in size xs p k) is
                  ∙ added_elsewhere c.products.ensures.zero size r column n old out block known all c.requires.block many w.add_column.ensures.added k p apart less
                  ∙ so_far.added k p earlier whole less
              | inr later ↦
                  let same : r ≡ k = omega (arith, below, later) in
                  subst (λ (m : ℕ). byte_in size new p m ≡ field_sum (byte_in size c.args.remainders.now p m) (product (entry_of m column) (get_or block p 0))) same
                  (ap (λ (xs : List ℕ). byte_in size xs p r) is
                  ∙ added_here c.products.ensures.zero size r column n old out block known all c.requires.block many w.add_column.ensures.added p less
                  ∙ ap (λ (x : ℕ). field_sum x (product (entry_of r column) (get_or block p 0))) (so_far.rest r p (omega arith) less))
            ];
            rest = λ k p far less.
                let apart : k ≢ r = omega (arith, far) in
                ap (λ (xs : List ℕ). byte_in size xs p k) is
                ∙ added_elsewhere c.products.ensures.zero size r column n old out block known all c.requires.block many w.add_column.ensures.added k p apart less
                ∙ so_far.rest k p (omega (arith, far)) less;
          }
      | else-is_whole w ↦ record {
        added = λ k p below whole less. elim (cases_lt k r) [
          | inl earlier ↦ ap (λ (xs : List ℕ). byte_in size xs p k) w.remainders-is ∙ so_far.added k p earlier whole less
          | inr later ↦
              let same : k ≡ r = omega (arith, below, later) in
              absurd (false≢true (sym (test ∙ w.if-is_whole.false) ∙ ap (whole_level read) (sym same) ∙ whole))
        ];
        rest = λ k p far less. ap (λ (xs : List ℕ). byte_in size xs p k) w.remainders-is ∙ so_far.rest k p (omega (arith, far)) less;
      }
    ]

pub returns-clause-left : goal.returns-clause-left
returns-clause-left c row below empty are =
    let levels = c.args.levels.now in
    taken c.products.ensures.zero c.args.size c.args.column c.loop-r.r row c.args.block.now c.args.remainders.now c.loop-r.remainders (take levels.count levels.levels)
    c.loop-r.auto.remainders below empty
    (omega (arith, c.loop-r-test.false, c.requires.levels.count_is, levels_as_many levels (omega (arith, c.requires.levels.count_is, c.requires.levels.room))))
    c.loop-r.invariant.added are
