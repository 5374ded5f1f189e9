use Rattle.std.proofs.Common.{◌≡◌, inl, inr, ℕ, ◌/◌, ◌%◌, ◌<◌, List, [], length, get_or, set, refl, sym, ap, ◌∙◌, subst, arith}
use Rattle.std.specs.Borrow.{Bor}
use Rattle.std.proofs.lemmas.Bool.Decides.{eqb_tells}
use Rattle.std.proofs.lemmas.List.{get_or-set_other, get_or-set_same, length-set}
use Rattle.block_hash.specs.Hash.{hash}
use Rattle.block_hash.specs.declared.Digest16.{Digest16}
use Rattle.block_hash.specs.declared.Kind.TheVariants.{Md5}
use Rattle.stripe_examiner.specs.Search.{block_in}
use Rattle.stripe_examiner.proofs.FirstRooms.{zip_at}
use Rattle.stripe_examiner.proofs.hashing.digests_of.Goals as goal

pub loop-k-init : goal.loop-k-init
loop-k-init c = record {
  long = refl;
  sizes = λ j none below. absurd (omega (arith, below));
  values = λ j none other below. absurd (omega (arith, below));
}

pub loop-k-preserved : goal.loop-k-preserved
loop-k-preserved c =
    let blocks = c.loop-k.bytes in
    let k = c.loop-k.k in
    let block = c.block_at.result in
    let size = c.args.size in
    let so_far = c.loop-k.invariant in
    let inside : k < length blocks = omega (arith, so_far.long) in
    record {
      long = length-set blocks k block ∙ so_far.long;
      sizes = λ j none below. elim (eqb_tells j k) [
        | inl same ↦
            ap (λ (n : ℕ). length (get_or (set blocks k block) n none).now) same.1
            ∙ ap (λ (b : Bor (List ℕ)). length b.now) (get_or-set_same blocks k block none inside) ∙ c.block_at.ensures.size
        | inr apart ↦
            ap (λ (b : Bor (List ℕ)). length b.now) (get_or-set_other blocks k j block none apart.1) ∙ so_far.sizes j none (omega (arith, below, apart.1))
      ];
      values = λ j none other below. elim (eqb_tells j k) [
        | inl same ↦
            subst (λ (n : ℕ). (get_or (set blocks k block) n none).now ≡ block_in size (get_or c.args.rooms.now (get_or c.args.eight.now n 0 / 6) other).blocks.items (get_or c.args.eight.now n 0 % 6)) (sym same.1)
            (ap (λ (b : Bor (List ℕ)). b.now) (get_or-set_same blocks k block none inside) ∙ c.block_at.ensures.value other)
        | inr apart ↦
            ap (λ (b : Bor (List ℕ)). b.now) (get_or-set_other blocks k j block none apart.1) ∙ so_far.values j none other (omega (arith, below, apart.1))
      ];
    }

pub digest_eight-requires : goal.digest_eight-requires
digest_eight-requires c =
    let so_far = c.loop-k.invariant in record {
      short = λ j none below. omega (arith, so_far.sizes j none (omega (arith, below, so_far.long)), c.requires.most);
    }

pub returns : goal.returns
returns c k digest other below =
    let so_far = c.loop-k.invariant in
    zip_at (λ (block : Bor (List ℕ)) (it : Digest16). it.0 ≡ hash Md5 c.args.seed.now block.now) c.loop-k.bytes c.digest_eight.result k digest
    (λ (it : Digest16).
    it.0 ≡ hash Md5 c.args.seed.now (block_in c.args.size (get_or c.args.rooms.now (get_or c.args.eight.now k 0 / 6) other).blocks.items (get_or c.args.eight.now k 0 % 6)))
    c.digest_eight.ensures (omega (arith, below, so_far.long))
    (λ none is. is ∙ ap (hash Md5 c.args.seed.now) (so_far.values k none other (omega (arith, below))))
