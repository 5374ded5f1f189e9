use Rattle.std.proofs.Common.{◌≡◌, inl, inr, ℕ, ◌<◌, ◌≤◌, List, length, get_or, set, refl, sym, ap, ◌∙◌, subst, arith}
use Rattle.std.specs.Borrow.{Bor}
use Rattle.std.proofs.lemmas.Bool.Decides.{eqb_tells}
use Rattle.std.proofs.lemmas.List.{get_or-set_other, get_or-set_same, length-set}
use Rattle.block_hash.specs.Hash.{hash}
use Rattle.block_hash.specs.declared.Digest16.{Digest16}
use Rattle.block_hash.specs.declared.Kind.TheVariants.{Md5}
use Rattle.stripe_reader.specs.HashedLanes.{numbered}
use Rattle.stripe_reader.specs.Hashing.{found_bytes}
use Rattle.stripe_reader.specs.SlotValue.{SlotValue}
use Rattle.stripe_reader.proofs.LaneLemmas.{came_at, lent_short, zip_at}
use Rattle.stripe_reader.proofs.hashing.digests_of.Goals as goal

pub loop-k-init : goal.loop-k-init
loop-k-init c = record { long = refl; values = λ j none below. absurd (omega (arith, below)) }

pub found_bytes-requires : goal.found_bytes-requires
found_bytes-requires c =
    let number = c.requires.numbers c.loop-k.k 0 (omega arith) in
    subst (λ (it : SlotValue). it.cell.got ≤ length it.block) (sym c.slot_of.ensures)
    (came_at c.args.shape c.args.count c.args.lanes.now c.requires.lanes (get_or c.args.eight.now c.loop-k.k 0) number)

pub loop-k-preserved : goal.loop-k-preserved
loop-k-preserved c =
    let blocks = c.loop-k.bytes in
    let k = c.loop-k.k in
    let block = c.found_bytes.result in
    let so_far = c.loop-k.invariant in
    let inside : k < length blocks = omega (arith, so_far.long) in
    record {
      long = length-set blocks k block ∙ so_far.long;
      values = λ j none below. elim (eqb_tells j k) [
        | inl same ↦
            subst (λ (n : ℕ). (get_or (set blocks k block) n none).now ≡ found_bytes (numbered c.args.lanes.now c.args.count (get_or c.args.eight.now n 0))) (sym same.1)
            (ap (λ (b : Bor (List ℕ)). b.now) (get_or-set_same blocks k block none inside) ∙ c.found_bytes.ensures ∙ ap found_bytes c.slot_of.ensures)
        | inr apart ↦
            ap (λ (b : Bor (List ℕ)). b.now) (get_or-set_other blocks k j block none apart.1) ∙ so_far.values j none (omega (arith, below, apart.1))
      ];
    }

pub digest_eight-requires : goal.digest_eight-requires
digest_eight-requires c =
    let so_far = c.loop-k.invariant in
    let size = lent_short c.args.shape c.args.count c.args.lanes.now c.requires.lanes c.args.eight.now c.loop-k.bytes c.requires.numbers (omega (arith, so_far.long))
    (λ j none lt. so_far.values j none (omega (arith, lt, so_far.long))) in
    record { short = λ j none below. omega (arith, size j none below, c.requires.most) }

pub returns : goal.returns
returns c k digest below =
    let so_far = c.loop-k.invariant in
    zip_at (λ (block : Bor (List ℕ)) (it : Digest16). it.0 ≡ hash Md5 c.args.shape.seed block.now)
    (λ (it : Digest16). it.0 ≡ hash Md5 c.args.shape.seed (found_bytes (numbered c.args.lanes.now c.args.count (get_or c.args.eight.now k 0))))
    c.loop-k.bytes c.digest_eight.result k digest c.digest_eight.ensures (omega (arith, below, so_far.long))
    (λ none is. is ∙ ap (hash Md5 c.args.shape.seed) (so_far.values k none (omega (arith, below))))
