-- When a block is right.
use Rattle.std.proofs.Common.{◌≡◌, ℕ, ◌+◌, ◌-◌, ◌≤◌, List, ◌++◌, length, get_or, take, drop, replicate, sym, ap, ◌∙◌, inl, inr, arith}
use Rattle.std.specs.List.{EachIndex}
use Rattle.std.proofs.lemmas.Bool.{cases_lt}
use Rattle.std.proofs.lemmas.List.{append-nil, get_or-drop, get_or_past, length-drop, length-take-le, take-take}
use Rattle.block_hash.specs.Hash.{hash}
use Rattle.block_hash.specs.declared.Digest16.{Digest16}
use Rattle.disk_model.specs.Bytes.{resized}
use Rattle.file_table.specs.declared.shape.Shape.{Shape}
use Rattle.stripe_examiner.specs.declared.search.Wanted.{Wanted}
use Rattle.stripe_examiner.specs.Search.{IsRightBlock}

pub resized_short : (real : ℕ) (block : List ℕ) → real ≤ length block → resized block real ≡ take real block
resized_short real block fits =
    let none : real - length block ≡ 0 = omega arith in
    ap (λ (n : ℕ). take real block ++ replicate n 0) none ∙ append-nil (take real block)

abbrev make_digest : List ℕ → Digest16
make_digest bytes = record { 0 = bytes }

module _ (shape : Shape) (wanted : Wanted) (block digest : List ℕ) (fits : wanted.length ≤ length block) (is : digest ≡ hash shape.kind shape.seed (take wanted.length block)) where
  hash_is : digest ≡ hash shape.kind shape.seed (resized block wanted.length)
  hash_is = is ∙ ap (hash shape.kind shape.seed) (sym (resized_short wanted.length block fits))

  zeros_behind : EachIndex (drop wanted.length block) (λ i. get_or (drop wanted.length block) i 0 ≡ 0) → (i : ℕ) → wanted.length ≤ i → get_or block i 0 ≡ 0
  zeros_behind zeros i behind =
      elim (cases_lt i (length block)) [
        | inl within ↦
            let there : wanted.length + (i - wanted.length) ≡ i = omega arith in
            ap (λ (at : ℕ). get_or block at 0) (sym there) ∙ sym (get_or-drop wanted.length block (i - wanted.length) 0)
            ∙ zeros (i - wanted.length) (omega (arith, length-drop wanted.length block))
        | inr past ↦ get_or_past block i 0 past
      ]

  pub right_block : digest ≡ wanted.hash.0 → EachIndex (drop wanted.length block) (λ i. get_or (drop wanted.length block) i 0 ≡ 0) → IsRightBlock shape wanted block
  right_block same zeros =
      record { hash = ap make_digest (sym same ∙ hash_is); zeros = zeros_behind zeros }

  pub right_zeros : IsRightBlock shape wanted block → EachIndex (drop wanted.length block) (λ i. get_or (drop wanted.length block) i 0 ≡ 0)
  right_zeros right = λ i hi. get_or-drop wanted.length block i 0 ∙ right.zeros (wanted.length + i) (omega arith)

-- a right block is right at its real length, without the zeros behind it
pub right_at_length : (shape : Shape) (wanted : Wanted) (block : List ℕ) → wanted.length ≤ length block → IsRightBlock shape wanted block → IsRightBlock shape wanted (take wanted.length block)
right_at_length shape wanted block fits right =
    let real = wanted.length in
    let cut = take real block in
    let long : length cut ≡ real = length-take-le real block fits in
    let same : resized block real ≡ resized cut real =
    resized_short real block fits ∙ sym (resized_short real cut (omega (arith, long)) ∙ take-take real real block (omega arith)) in
    record {
      hash = right.hash ∙ ap (λ (bytes : List ℕ). make_digest (hash shape.kind shape.seed bytes)) same;
      zeros = λ i behind. get_or_past cut i 0 (omega (arith, long));
    }
