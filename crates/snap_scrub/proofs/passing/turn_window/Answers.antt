use Rattle.std.proofs.Common.{◌≡◌, ◌+◌, ◌-◌, length, take, drop, ◌++◌, ap, sym, ◌∙◌, arith}
use Rattle.std.proofs.lemmas.List.{with_items_is}
use Rattle.snap_scrub.proofs.OverLemmas.{length_cut, written_length}
use Rattle.snap_scrub.proofs.PassingLemmas.{near_looks, near_slice}
use Rattle.snap_scrub.proofs.passing.turn_window.Goals as goal

pub returns-clause-looks : goal.returns-clause-looks
returns-clause-looks g c =
    let work = c.args.work.now in
    let done = c.args.done in
    let lent = c.deref_mut.result.now in
    let new = c.turn.new.verdicts in
    let n = (done + c.count.result) - done in
    let ready = c.requires.ready in
    let n_is : n ≡ work.room.near.count = omega (arith, c.count.ensures) in
    let same = c.deref_mut.ensures.value in
    let long : length new ≡ n = c.turn.auto.verdicts ∙ length_cut lent done n (omega (arith, ap length same, n_is, ready.within, ready.is_work.verdicts)) in
    let whole = written_length work.verdicts.items new lent done n same long (omega (arith, n_is, ready.within, ready.is_work.verdicts)) in
    near_looks _ _ _ c.args.table.now work _ done c.turn.result n _ _ lent new _ _ ready (near_slice work done c.count.result c.deref.result.now c.count.ensures c.deref.ensures.value) (ap (λ room. room.near) c.turn.ensures.room.rest) n_is same long
    (with_items_is work.verdicts (take done lent ++ (new ++ drop n (drop done lent))) (whole ∙ sym work.verdicts.ok.0)) c.turn.ensures.looks
