-- A row into which blocks are put one after another.
use Rattle.std.proofs.Common.{◌≡◌, ◌≢◌, inl, inr, ℕ, ◌+◌, ◌*◌, ◌<◌, List, [], ◌∷◌, ◌++◌, length, take, get_or, set, sym, ◌∙◌, ap, subst, arith}
use Rattle.std.specs.List.{All}
use Rattle.std.proofs.lemmas.List.{get_or-take, length-take, take_more}
use Rattle.disk_model.specs.Bytes.{read_from}
use Rattle.parity_writer.specs.Parity.{Row}
use Rattle.stripe_reader.specs.WindowValue.{WindowValue}
use Rattle.stripe_examiner.specs.declared.search.Wanted.{Wanted}
use Rattle.stripe_examiner.specs.Restorable.{filled, filled_from}
use Rattle.stripe_examiner.specs.Knowing.{KeepsOtherColumns}
use Rattle.stripe_examiner.specs.MarkedCell.{ChangesSlot}
use Rattle.stripe_examiner.specs.Marks.{ChangesStripe}

filled_one : (size : ℕ) (blocks : List ℕ) (j : ℕ) (wanteds : List Wanted) (one : Wanted) (row : Row)
    → filled_from size blocks j (wanteds ++ one ∷ []) row
    ≡ set (filled_from size blocks j wanteds row) one.column (read_from blocks ((j + length wanteds) * size) one.length)
filled_one size blocks j [] one row =
    let at : j ≡ j + 0 = omega arith in
    ap (λ (n : ℕ). set row one.column (read_from blocks (n * size) one.length)) at
filled_one size blocks j (wanted ∷ wanteds) one row =
    let at : j + 1 + length wanteds ≡ j + length (wanted ∷ wanteds) = omega arith in
    let next = set row wanted.column (read_from blocks (j * size) wanted.length) in
    filled_one size blocks (j + 1) wanteds one next
    ∙ ap (λ (n : ℕ). set (filled_from size blocks (j + 1) wanteds next) one.column (read_from blocks (n * size) one.length)) at

-- one block more
pub filled_more : (size : ℕ) (blocks : List ℕ) (wanteds : List Wanted) (row : Row) (j : ℕ) (other : Wanted) → j < length wanteds
    → filled size blocks (take (j + 1) wanteds) row
    ≡ set (filled size blocks (take j wanteds) row) (get_or wanteds j other).column (read_from blocks (j * size) (get_or wanteds j other).length)
filled_more size blocks wanteds row j other within =
    let one = get_or wanteds j other in
    let at : 0 + length (take j wanteds) ≡ j = omega (arith, length-take j wanteds) in
    ap (λ (ws : List Wanted). filled size blocks ws row) (take_more wanteds j other within)
    ∙ filled_one size blocks 0 (take j wanteds) one row
    ∙ ap (λ (n : ℕ). set (filled size blocks (take j wanteds) row) one.column (read_from blocks (n * size) one.length)) at

pub stripe_more : (i d : ℕ) (before mid after : WindowValue) → ChangesStripe i before mid → ChangesSlot i d mid after → ChangesStripe i before after
stripe_more i d before mid after changes slot = record {
  room = slot.room ∙ changes.room;
  block_size = slot.block_size ∙ changes.block_size;
  count = slot.count ∙ changes.count;
  lanes = slot.lanes ∙ changes.lanes;
  cells = slot.cells ∙ changes.cells;
  others = λ k e other. slot.others k e (inl other) ∙ changes.others k e other;
}

pub others_more : (i : ℕ) (wanteds : List Wanted) (j : ℕ) (other : Wanted) (before mid after : WindowValue) → j < length wanteds
    → KeepsOtherColumns i (take j wanteds) before mid → ChangesSlot i (get_or wanteds j other).column mid after
    → KeepsOtherColumns i (take (j + 1) wanteds) before after
others_more i wanteds j other before mid after within keeps slot d apart =
    let long = length-take (j + 1) wanteds in
    let last : get_or (take (j + 1) wanteds) j other ≡ get_or wanteds j other = get_or-take (j + 1) wanteds j other (omega arith) in
    let one : (get_or wanteds j other).column ≢ d = subst (λ (w : Wanted). w.column ≢ d) last (apart j other (omega (arith, long, within))) in
    let earlier : All (λ (w : Wanted). w.column ≢ d) (take j wanteds) = λ k e inside.
    let near : k < j = omega (arith, inside, length-take j wanteds) in
    subst (λ (w : Wanted). w.column ≢ d) (get_or-take (j + 1) wanteds k e (omega (arith, near)) ∙ sym (get_or-take j wanteds k e near))
    (apart k e (omega (arith, long, near, within))) in
    slot.others i d (inr (λ same. one (sym same))) ∙ keeps d earlier
