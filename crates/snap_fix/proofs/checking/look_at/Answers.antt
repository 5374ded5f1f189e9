use Rattle.std.proofs.Common.{◌<◌, ℕ, List, length, get_or, sym, ap, subst, arith}
use Rattle.stripe_examiner.specs.declared.room.StripeRoom.{StripeRoom}
use Rattle.stripe_examiner.specs.Shown.{CanTell}
use Rattle.snap_fix.specs.Checking.{AreShown}
use Rattle.repair_scope.specs.Plan.{seen}
use Rattle.snap_fix.proofs.CheckLemmas.{as_many_shown, number_shown}
use Rattle.snap_fix.proofs.checking.look_at.Goals as goal

pub tell_window-requires-clause-count : goal.tell_window-requires-clause-count
tell_window-requires-clause-count g c =
    let ex = c.turn.ensures.examined in
    omega (arith, ex.room.as_many, ex.as_large, c.requires.near.enough, ap length c.deref.ensures.value)

pub tell_window-requires-clause-can : goal.tell_window-requires-clause-can
tell_window-requires-clause-can g c k other below =
    let ex = c.turn.ensures.examined in
    let plan = seen c.args.survey.now.plan in
    let after = c.turn.new.room in
    let numbers = c.args.survey.now.stripes.now in
    let rooms = after.stripes.items in
    let shown : AreShown plan ex.stripes numbers after.window rooms = record { numbers_are = ex.numbers_are; each = ex.each } in
    let within : k < length ex.stripes = omega (arith, below, as_many_shown plan ex.stripes numbers after.window rooms shown) in
    subst (λ (its : List StripeRoom). CanTell plan (get_or numbers k 0) (get_or its k other)) (sym c.deref.ensures.value)
    (subst (λ (n : ℕ). CanTell plan n (get_or rooms k other)) (number_shown plan ex.stripes numbers after.window rooms shown k within)
    (ex.each k other within).can)

pub returns-clause-room : goal.returns-clause-room
returns-clause-room g c = record { room = c.turn.ensures.examined.room; as_large = c.turn.ensures.examined.as_large }

pub returns-clause-looks : goal.returns-clause-looks
returns-clause-looks g c =
    let ex = c.turn.ensures.examined in
    let plan = seen c.args.survey.now.plan in
    let after = c.turn.new.room in
    let numbers = c.args.survey.now.stripes.now in
    let shown : AreShown plan ex.stripes numbers after.window c.deref.result.now =
    subst (λ (rooms : List StripeRoom). AreShown plan ex.stripes numbers after.window rooms) (sym c.deref.ensures.value)
    (record { numbers_are = ex.numbers_are; each = ex.each }) in
    record {
      stripes = ex.stripes;
      numbers_are = ex.numbers_are;
      slots = ex.slots;
      looks = record {
        are = ex.are;
        levels = ex.levels;
        spare = ex.asked;
        told = c.tell_window.ensures.told ex.stripes after.window shown;
        counts_are = c.tell_window.ensures.counts ex.stripes after.window shown;
      };
    }
