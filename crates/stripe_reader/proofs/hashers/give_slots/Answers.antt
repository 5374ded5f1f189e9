use Rattle.std.proofs.Common.{◌≡◌, ◌<◌, ◌∙◌, None, Option, ap, arith, get_or, length, sym}
use Rattle.std.proofs.lemmas.List.{get_or_default}
use Rattle.block_hash.specs.declared.Digest16.{Digest16}
use Rattle.stripe_reader.specs.Hashing.{hashed, slot_in}
use Rattle.stripe_reader.specs.SlotValue.{SlotValue}
use Rattle.stripe_reader.specs.WindowValue.{no_slot}
use Rattle.stripe_reader.proofs.FrontLemmas.{maps_more}
use Rattle.stripe_reader.proofs.hashers.give_slots.Goals as goal

pub loop-i-preserved : goal.loop-i-preserved
loop-i-preserved c shape are =
    let i = c.loop-i.i in
    let slots = c.loop-i.slots in
    let slot : SlotValue = get_or slots i c.index-slots-i.result in
    let so_far = c.loop-i.invariant shape are in
    let there : i < length slots = omega (arith, c.loop-i-test.true, c.loop-i.auto.slots) in
    let same : slot ≡ slot_in c.args.slots.now i = get_or_default slots i c.index-slots-i.result no_slot there ∙ so_far.others i (omega arith) in
    let digest = are i None (omega (arith, c.loop-i-test.true, c.requires)) ∙ ap (λ (it : SlotValue). (hashed shape it).digest) (sym same) in
    maps_more (hashed shape) no_slot c.args.slots.now slots i c.index-slots-i.result c.give_digest.new.self (omega (arith, c.loop-i-test.true)) so_far
    (c.give_digest.ensures ∙ ap (λ (it : Option Digest16). record slot { digest = it }) digest)
