-- Which records hold the same: it is shared by all that are the same, and so is the mark.
use Rattle.std.proofs.Common.{◌≡◌, ◌≢◌, ℕ, ◌+◌, ◌<◌, ◌==◌, ◌&&◌, suc, List, [], ◌∷◌, length, get_or, drop, cond, not, Bool, true, false, refl, ap, ◌∙◌, Option, None, Some}
use Rattle.std.proofs.lemmas.Bool.{eqb-true}
use Rattle.std.proofs.lemmas.Slice.Eq.{bytes_eq-Decides}
use Rattle.std.proofs.lemmas.List.{drop_more}
use Rattle.block_hash.specs.declared.Digest16.{Digest16}
use Rattle.file_table.specs.declared.block.Block.{Block}
use Rattle.file_table.specs.Table.{Record}
use Rattle.hash_index.specs.Duplicates.{hashes_of, same_hash, same_hashes, is_same}
use Rattle.hash_index.specs.Marking.{mixed_with, mark_from, mark_in, mark_of}

pub both_true : (s t : Bool) → (s && t) ≡ true → (s ≡ true) × (t ≡ true)
both_true true t h = (refl, h)
both_true false t h = absurd cc

and_false : (s t : Bool) → t ≡ false → (s && t) ≡ false
and_false true t h = h
and_false false t h = refl

-- hashes that are the same are equal
hash_equal : (one other : Option Digest16) → same_hash one other ≡ true → one ≡ other
hash_equal None None h = absurd cc
hash_equal None (Some other) h = absurd cc
hash_equal (Some one) None h = absurd cc
hash_equal (Some one) (Some other) h =
    ap (λ (bytes : List ℕ). let digest : Digest16 = record { 0 = bytes } in Some digest) ((bytes_eq-Decides one.0 other.0).0 h)

pub hashes_equal : (ones others : List (Option Digest16)) → same_hashes ones others ≡ true → ones ≡ others
hashes_equal [] [] h = refl
hashes_equal [] (other ∷ others) h = absurd cc
hashes_equal (one ∷ ones) [] h = absurd cc
hashes_equal (one ∷ ones) (other ∷ others) h =
    let parts = both_true (same_hash one other) (same_hashes ones others) h in
    λ i. hash_equal one other parts.0 i ∷ hashes_equal ones others parts.1 i

-- as many as others they are, or not the same
pub unlike_lengths : (ones others : List (Option Digest16)) → length ones ≢ length others → same_hashes ones others ≡ false
unlike_lengths [] [] h = absurd (h refl)
unlike_lengths [] (other ∷ others) h = refl
unlike_lengths (one ∷ ones) [] h = refl
unlike_lengths (one ∷ ones) (other ∷ others) h = and_false (same_hash one other) (same_hashes ones others) (unlike_lengths ones others (λ same. h (ap suc same)))

-- one place after another
pub same_step : (first other : List Block) (at : ℕ) (d e : Block) → at < length first → at < length other
    → same_hashes (hashes_of (drop at first)) (hashes_of (drop at other)) ≡ (same_hash (get_or first at d).hash (get_or other at e).hash && same_hashes (hashes_of (drop (at + 1) first)) (hashes_of (drop (at + 1) other)))
same_step first other at d e within other_within =
    λ i. same_hashes (hashes_of (drop_more first at d within i)) (hashes_of (drop_more other at e other_within i))

-- the marks that are left, one hash on
pub mark_step : (blocks : List Block) (at mark : ℕ) (d : Block) → at < length blocks
    → mark_from mark (hashes_of (drop at blocks)) ≡ mark_from mark ((get_or blocks at d).hash ∷ hashes_of (drop (at + 1) blocks))
mark_step blocks at mark d within = λ i. mark_from mark (hashes_of (drop_more blocks at d within i))

-- records that are the same have one size, not 0, and the same hashes
pub record HoldSame (one other : Record) : Type 0 where
  pub some : (one.meta.size == 0) ≡ false
  pub size : one.meta.size ≡ other.meta.size
  pub hashes : same_hashes (hashes_of one.blocks) (hashes_of other.blocks) ≡ true

not_true : (s : Bool) → not s ≡ true → s ≡ false
not_true true h = absurd cc
not_true false h = refl

pub hold_same : (one other : Record) → is_same one other ≡ true → HoldSame one other
hold_same one other h =
    let whole = both_true _ _ h in
    let sizes = both_true _ _ whole.0 in
    record { some = not_true _ sizes.0; size = eqb-true one.meta.size other.meta.size sizes.1; hashes = whole.1 }

pub hashes_are : (one other : Record) → is_same one other ≡ true → hashes_of one.blocks ≡ hashes_of other.blocks
hashes_are one other h = hashes_equal (hashes_of one.blocks) (hashes_of other.blocks) (hold_same one other h).hashes

-- whatever is the same as one of them is the same as the other
pub joined : (one other third : Record) → is_same one other ≡ true → is_same one third ≡ is_same other third
joined one other third h =
    let sizes = (hold_same one other h).size in
    let hashes = hashes_are one other h in
    λ i. (not (sizes i == 0) && sizes i == third.meta.size) && same_hashes (hashes i) (hashes_of third.blocks)

-- they have one mark
pub marks_equal : (one other : Record) → is_same one other ≡ true → mark_of one ≡ mark_of other
marks_equal one other h =
    let sizes = (hold_same one other h).size in
    let hashes = hashes_are one other h in
    λ i. cond (sizes i == 0) None (mark_in (hashes i))

some_mark : (mark : ℕ) (ones others : List (Option Digest16)) → same_hashes ones others ≡ true → (last : ℕ) × (mark_from mark ones ≡ Some last)
some_mark mark [] others h = (mark, refl)
some_mark mark (one ∷ ones) [] h = absurd cc
some_mark mark (None ∷ ones) (None ∷ others) h = absurd cc
some_mark mark (None ∷ ones) (Some other ∷ others) h = absurd cc
some_mark mark (Some one ∷ ones) (other ∷ others) h =
    some_mark (mixed_with mark one) ones others (both_true (same_hash (Some one) other) (same_hashes ones others) h).1

pub has_mark : (one other : Record) → is_same one other ≡ true → (mark : ℕ) × (mark_of one ≡ Some mark)
has_mark one other h =
    let same = hold_same one other h in
    let found = some_mark 0 (hashes_of one.blocks) (hashes_of other.blocks) same.hashes in
    (found.0, ap (λ (t : Bool). cond t None (mark_in (hashes_of one.blocks))) same.some ∙ found.1)
