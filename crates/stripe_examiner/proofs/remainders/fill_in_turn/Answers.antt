use Rattle.std.proofs.Common.{◌≡◌, inl, inr, ℕ, ◌+◌, ◌-◌, ◌*◌, ◌<◌, ◌≤◌, List, take, drop, length, get_or, sym, ◌∙◌, ap, ap₂, subst, arith}
use Rattle.std.proofs.lemmas.Bool.{cases_lt, false≢true}
use Rattle.std.proofs.lemmas.List.{get_or-drop, get_or-take, length-take, length-drop}
use Rattle.cauchy.specs.Levels.{HoldsLevel}
use Rattle.cauchy.specs.Matrix.{parity_byte}
use Rattle.cauchy.specs.System.{byte_in}
use Rattle.gf256.specs.Field.{field_sum}
use Rattle.parity_writer.specs.LevelsValue.{LevelValue, no_level}
use Rattle.parity_writer.specs.WindowRow.{row_at}
use Rattle.stripe_examiner.specs.Known.{is_whole, whole_level}
use Rattle.stripe_examiner.proofs.KnowRemainders.{byte_of_sums}
use Rattle.stripe_examiner.proofs.SearchBlocks.{place_within}
use Rattle.stripe_examiner.proofs.TakenLemmas.{behind_part, in_front, in_part}
use Rattle.stripe_examiner.proofs.remainders.fill_in_turn.Goals as goal
use Rattle.stripe_examiner.proofs.remainders.fill_in_turn.Goals.{then-is_whole, else-is_whole}

pub loop-r-init : goal.loop-r-init
loop-r-init c =
    let row = row_at c.args.window.now c.args.i in
    let sums = c.sum_levels.new.sums in
    record {
      added = λ k p below whole inside. absurd (omega (arith, below));
      rest = λ k p far near inside.
          byte_of_sums c.args.size k row sums p inside
          (subst (λ (n : ℕ). HoldsLevel n row k sums) (sym c.requires.size) (c.sum_levels.ensures k near));
    }

pub loop-r-preserved : goal.loop-r-preserved
loop-r-preserved c =
    let levels = c.args.levels.now in
    let size = c.args.size in
    let r = c.loop-r.r in
    let old = c.loop-r.remainders in
    let new = c.if-is_whole.remainders in
    let row = row_at c.args.window.now c.args.i in
    let read = take levels.count levels.levels in
    let so_far = c.loop-r.invariant in
    let within : r < levels.count = omega (arith, c.requires.levels.count_is) in
    let known : r < 6 = omega (arith, within, c.requires.levels.count_is, c.requires.levels.most) in
    let place = place_within size 6 r known in
    let here : get_or read r no_level ≡ get_or levels.levels r no_level = get_or-take levels.count levels.levels r no_level within in
    let test : whole_level read r ≡ c.is_whole.result =
    ap (λ (level : LevelValue). is_whole level.state) here ∙ ap is_whole (sym c.state.ensures) ∙ sym c.is_whole.ensures in
    elim c.if-is_whole.branch [
      | then-is_whole w ↦
          let out = w.add_block.new.out in
          let start = r * size in
          let n = start + size - start in
          let many : n ≡ size = omega arith in
          let room : start + n ≤ length old = omega (arith, many, place, c.loop-r.auto.remainders, c.requires.remainders.long) in
          let long : length out ≡ n = omega (arith, w.add_block.ensures.size, length-take n (drop start old), length-drop start old, room) in
          let is = w.remainders-is in
          record {
            added = λ k p below whole inside. elim (cases_lt k r) [
              | inl earlier ↦
                  ap (λ (xs : List ℕ). byte_in size xs p k) is
                  ∙ in_front start n old out room long (k * size + p) (omega (arith, inside, place_within size r k earlier))
                  ∙ so_far.added k p earlier whole inside
              | inr later ↦
                  let same : r ≡ k = omega (arith, below, later) in
                  let filled : byte_in size new p r ≡ field_sum (get_or (get_or read r no_level).block p 0) (parity_byte r row p) =
                  ap (λ (xs : List ℕ). byte_in size xs p r) is
                  ∙ in_part start n old out room long p (omega (arith, inside, many))
                  ∙ w.add_block.ensures.bytes p (omega (arith, inside, w.block.ensures.size, c.requires.level_size))
                  ∙ ap₂ field_sum
                  (ap (λ (xs : List ℕ). get_or xs p 0) (w.block.ensures.value ∙ ap (λ (level : LevelValue). level.block) (sym here)))
                  (get_or-take n (drop start old) p 0 (omega (arith, inside, many)) ∙ get_or-drop start old p 0
                  ∙ so_far.rest r p (omega arith) (omega (arith, within, c.requires.levels.count_is)) inside) in
                  subst (λ (m : ℕ). byte_in size new p m ≡ field_sum (get_or (get_or read m no_level).block p 0) (parity_byte m row p)) same filled
            ];
            rest = λ k p far near inside.
                ap (λ (xs : List ℕ). byte_in size xs p k) is
                ∙ behind_part start n old out room long (k * size + p) (omega (arith, many, place_within size k r (omega (arith, far))))
                ∙ so_far.rest k p (omega (arith, far)) near inside;
          }
      | else-is_whole w ↦ record {
        added = λ k p below whole inside. elim (cases_lt k r) [
          | inl earlier ↦ ap (λ (xs : List ℕ). byte_in size xs p k) w.remainders-is ∙ so_far.added k p earlier whole inside
          | inr later ↦
              let same : k ≡ r = omega (arith, below, later) in
              absurd (false≢true (sym (test ∙ w.if-is_whole.false) ∙ ap (whole_level read) (sym same) ∙ whole))
        ];
        rest = λ k p far near inside. ap (λ (xs : List ℕ). byte_in size xs p k) w.remainders-is ∙ so_far.rest k p (omega (arith, far)) near inside;
      }
    ]

pub returns : goal.returns
returns c =
    let levels = c.args.levels.now in
    record {
      long = omega (arith, c.loop-r.auto.remainders, c.requires.remainders.long);
      bytes = λ r p below whole inside.
          c.loop-r.invariant.added r p
          (omega (arith, below, length-take levels.count levels.levels, c.loop-r-test.false, c.requires.levels.count_is)) whole inside;
    }
