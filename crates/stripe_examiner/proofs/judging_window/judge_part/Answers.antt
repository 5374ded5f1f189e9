use Rattle.std.proofs.Common.{◌+◌, ◌<◌, length, get_or, sym, subst, arith}
use Rattle.file_table.specs.declared.shape.Shape.{Shape}
use Rattle.stripe_examiner.specs.FirstChoice.{HashesRooms, HaveSixBlocks}
use Rattle.stripe_examiner.specs.MarkedWindow.{number_at}
use Rattle.stripe_examiner.specs.Surveyed.{plan_in}
use Rattle.stripe_examiner.proofs.FirstRooms.{hashed_first, hashed_room, kept_then}
use Rattle.stripe_examiner.proofs.JudgedLemmas.{can_kept}
use Rattle.stripe_examiner.proofs.judging_window.judge_part.Goals as goal

pub hash_together-requires-clause-rooms : goal.hash_together-requires-clause-rooms
hash_together-requires-clause-rooms c =
    subst (λ (s : Shape). HaveSixBlocks s.block_size c.make_first_blocks.new.rooms) (sym c.shape.ensures.shape)
    (λ k other below. (c.make_first_blocks.ensures k other (omega arith)).room.blocks)

pub judge_in_turn-requires-clause-can : goal.judge_in_turn-requires-clause-can
judge_in_turn-requires-clause-can c = λ k other below.
    let table = c.args.survey.now.plan.table.now in
    let plan = plan_in c.args.survey.now in
    let i = c.args.start + k in
    let stripe = number_at c.args.survey.now.stripes.now i in
    let old = get_or c.args.rooms.now k other in
    let made = get_or c.make_first_blocks.new.rooms k other in
    let hashed = get_or c.hash_together.new.rooms k other in
    let hashes = subst (λ (s : Shape). HashesRooms s c.make_first_blocks.new.rooms c.hash_together.new.rooms) c.shape.ensures.shape c.hash_together.ensures in
    let within : k < length c.args.rooms.now = omega (arith, below, hashes.as_many) in
    let first = c.make_first_blocks.ensures k other within in
    let one = hashes.each k other (omega (arith, below, hashes.as_many)) in
    can_kept plan stripe i c.args.window.now old hashed (c.requires.can k other within) (kept_then old made hashed first.kept one.kept) (hashed_room table made hashed one first.room)

pub judge_in_turn-requires-clause-first : goal.judge_in_turn-requires-clause-first
judge_in_turn-requires-clause-first c = λ k other below.
    let plan = plan_in c.args.survey.now in
    let i = c.args.start + k in
    let stripe = number_at c.args.survey.now.stripes.now i in
    let hashes = subst (λ (s : Shape). HashesRooms s c.make_first_blocks.new.rooms c.hash_together.new.rooms) c.shape.ensures.shape c.hash_together.ensures in
    hashed_first plan stripe i c.args.window.now (get_or c.make_first_blocks.new.rooms k other) (get_or c.hash_together.new.rooms k other)
    (hashes.each k other (omega (arith, below, hashes.as_many))) (c.make_first_blocks.ensures k other (omega (arith, below, hashes.as_many))).first

pub returns : goal.returns
returns c k other below =
    let old = get_or c.args.rooms.now k other in
    let made = get_or c.make_first_blocks.new.rooms k other in
    let hashed = get_or c.hash_together.new.rooms k other in
    let new = get_or c.judge_in_turn.new.rooms k other in
    let hashes = subst (λ (s : Shape). HashesRooms s c.make_first_blocks.new.rooms c.hash_together.new.rooms) c.shape.ensures.shape c.hash_together.ensures in
    let first = c.make_first_blocks.ensures k other below in
    let one = hashes.each k other (omega (arith, below)) in
    let judged = c.judge_in_turn.ensures k other (omega (arith, below, hashes.as_many)) in
    record {
      room = judged.room;
      kept = kept_then old made new first.kept (kept_then made hashed new one.kept judged.kept);
      judged = judged.judged;
    }
