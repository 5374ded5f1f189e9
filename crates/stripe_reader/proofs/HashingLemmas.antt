-- Slots whose blocks are hashed: some of them, and then the rest.
use Rattle.std.proofs.Common.{◌≡◌, ℕ, ◌≤◌, List, ◌++◌, length, map, take, drop, Option, Some, refl, sym, ap, ◌∙◌, subst, arith}
use Rattle.std.proofs.lemmas.List.{length-replicate, length-take-le, take-append-le, length-map, take_all}
use Rattle.std.proofs.lemmas.List.Elements.{All-append, All-drop, All-map, All-take}
use Rattle.block_hash.specs.Hash.{hash}
use Rattle.block_hash.specs.declared.Digest16.{Digest16}
use Rattle.block_hash.specs.declared.Kind.TheVariants.{Md5}
use Rattle.disk_model.specs.declared.meta.Meta.{Meta}
use Rattle.file_table.specs.declared.shape.Shape.{Shape}
use Rattle.stripe_reader.specs.Hashing.{IsUnhashed, found_bytes, hashed}
use Rattle.stripe_reader.specs.Slot.{slot_without}
use Rattle.stripe_reader.specs.SlotValue.{SlotValue}
use Rattle.stripe_reader.specs.WindowValue.{HasBlocks}
use Rattle.stripe_reader.specs.declared.slot.Found.{Found}
use Rattle.stripe_reader.specs.declared.slot.Found.TheVariants as found

-- ---- one slot

-- a cell was read into it, without the whole block
pub without_unhashed : (block_size size : ℕ) (what : Found) (got : ℕ) (seen : Option Meta) (slot : SlotValue) → slot ≡ slot_without size what got seen → got ≤ block_size → size ≡ block_size
    → IsUnhashed block_size slot
without_unhashed block_size size what got seen slot is few same = subst (IsUnhashed block_size) (sym is) (record {
  digest = refl;
  got = few;
  block = length-replicate size 0 ∙ same;
})

-- the digest of a whole block
pub whole_digest : (shape : Shape) (slot : SlotValue) (digest : Digest16) → shape.kind ≡ Md5 → slot.cell.found ≡ found.Bytes → digest.0 ≡ hash Md5 shape.seed (found_bytes slot)
    → Some digest ≡ (hashed shape slot).digest
whole_digest shape slot digest kind whole is = rw (whole, kind) (ap (λ (it : List ℕ). Some (record { 0 = it })) is)

-- ---- the front of the slots of a lane

pub front_read : (shape other : Shape) (n : ℕ) (mid front rest : List SlotValue) → other ≡ shape → n ≤ length mid → front ≡ map (hashed other) (take n mid) → take n (front ++ rest) ≡ map (hashed shape) (take n mid)
front_read shape other n mid front rest same enough is =
    let long : length front ≡ n = ap length is ∙ length-map (take n mid) (hashed other) ∙ length-take-le n mid enough in
    take-append-le n front rest (omega (arith, long)) ∙ take_all n front (omega (arith, long)) ∙ is ∙ ap (λ (it : Shape). map (hashed it) (take n mid)) same

pub front_blocks : (block_size : ℕ) (shape : Shape) (n : ℕ) (mid front : List SlotValue) → HasBlocks block_size mid → front ≡ map (hashed shape) (take n mid) → HasBlocks block_size (front ++ drop n mid)
front_blocks block_size shape n mid front have is =
    let size = λ (slot : SlotValue). length slot.block ≡ block_size in
    All-append size front (drop n mid)
    (subst (HasBlocks block_size) (sym is) (All-map size (hashed shape) (take n mid) (All-take size n mid have)))
    (All-drop size n mid have)
