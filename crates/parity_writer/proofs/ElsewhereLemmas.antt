-- What stays of parity outside of the blocks that are written.
use Rattle.std.proofs.Common.{◌≡◌, ◌≢◌, ◌⊎◌, inl, inr, ℕ, ◌+◌, ◌-◌, ◌*◌, ◌/◌, ◌%◌, ◌<◌, ◌≤◌, List, ◌++◌, length, take, drop, replicate, get_or, Option, None, Some, refl, sym, ◌∙◌, ap, subst, arith, length-append}
use Rattle.std.proofs.lemmas.List.{ext_get_or, get_or_append_left, get_or-append_right, get_or-drop, length-take, length-replicate}
use Rattle.std.proofs.Math.Nat.{mod-lt}
use Rattle.std.proofs.lemmas.Nat.{div-add-mod'}
use Rattle.cauchy.specs.Matrix.{parity_of as level_of}
use Rattle.disk_model.specs.Bytes.{put, resized}
use Rattle.disk_model.specs.Files.{Files, parity_of}
use Rattle.disk_model.proofs.BytesLemmas.{torn_by_put}
use Rattle.stripe_reader.specs.WindowValue.{WindowValue}
use Rattle.parity_writer.specs.Chosen.{Choice, IsChosen, rows_with}
use Rattle.parity_writer.specs.Keeps.{IsOutside}
use Rattle.parity_writer.specs.Parity.{Row, Rows, no_rows, HoldsRows, IsOutsideAll, WritesBlocks, SameElsewhere, HasRow, IsParityOver}
use Rattle.parity_writer.specs.Rows.{HasLengths, HasSums}
use Rattle.parity_writer.proofs.ChosenLemmas.{had_row, chosen_has}
use Rattle.parity_writer.proofs.PaddedLemmas.{resized_byte}
use Rattle.parity_writer.proofs.SumLemmas.{length-level}
use Rattle.parity_writer.proofs.WriteLemmas.{apart}

pub length-resized : (file : List ℕ) (len : ℕ) → length (resized file len) ≡ len
length-resized file len = omega (arith, length-append (take len file) (replicate (len - length file) 0), length-take len file, length-replicate {A = ℕ} (len - length file) 0)

-- a byte outside of what was put is as before, and zero where it was added
put_elsewhere : (file : List ℕ) (at : ℕ) (bytes : List ℕ) (i : ℕ) → (i < at) ⊎ (at + length bytes ≤ i) → get_or (put file at bytes) i 0 ≡ get_or file i 0
put_elsewhere file at bytes i (inl before) =
    let front = resized file at in
    let rest = drop (at + length bytes) file in
    get_or_append_left (front ++ bytes) rest 0 i (omega (arith, before, length-append front bytes, length-resized file at))
    ∙ get_or_append_left front bytes 0 i (omega (arith, before, length-resized file at))
    ∙ resized_byte file at i before
put_elsewhere file at bytes i (inr behind) =
    let front = resized file at ++ bytes in
    let rest = drop (at + length bytes) file in
    let long : length front ≡ at + length bytes = omega (arith, length-append (resized file at) bytes, length-resized file at) in
    let back : at + length bytes + (i - (at + length bytes)) ≡ i = omega (arith, behind) in
    get_or-append_right front rest (at + length bytes) i 0 long behind
    ∙ get_or-drop (at + length bytes) file (i - (at + length bytes)) 0
    ∙ ap (λ (n : ℕ). get_or file n 0) back

-- the place of a write of a stripe's block
sum_outside : (size n stripe i : ℕ) → n ≡ size → IsOutside size stripe i → (i < stripe * size) ⊎ (stripe * size + n ≤ i)
sum_outside size n stripe i is (inl before) = inl before
sum_outside size n stripe i is (inr behind) = inr (omega (arith, is, behind))

module _ (levels size : ℕ) (IsOne : ℕ → Type 0) where
  pub elsewhere_none : (files : Files) → SameElsewhere levels size IsOne files files
  elsewhere_none files = record { no_shorter = λ level below. omega arith; bytes = λ level i below out. refl }

  -- the sums of one more of the stripes
  pub elsewhere_more : (stripe : ℕ) (row : Row) → IsOne stripe → (a b c : Files) → SameElsewhere levels size IsOne a b → HasSums levels size stripe row b c → SameElsewhere levels size IsOne a c
  elsewhere_more stripe row one a b c so_far sums = record {
    no_shorter = λ level below.
        let bytes = level_of level size row in
        let was = so_far.no_shorter level below in
        let grown = (torn_by_put (parity_of b level) (stripe * size) bytes).no_shorter in
        omega (arith, was, grown, ap length (sums level below));
    bytes = λ level i below out.
        let bytes = level_of level size row in
        ap (λ (file : List ℕ). get_or file i 0) (sums level below)
        ∙ put_elsewhere (parity_of b level) (stripe * size) bytes i (sum_outside size (length bytes) stripe i (length-level level size row) (out stripe one))
        ∙ so_far.bytes level i below out;
  }

-- the lengths alone are set
pub over_lengths : (levels size bytes : ℕ) (start files : Files) → HasLengths levels bytes start files → IsParityOver levels size bytes no_rows start files
over_lengths levels size bytes start files set = record {
  long = λ level below. ap length (set level below) ∙ length-resized (parity_of start level) bytes;
  holds = record { level = λ level stripe row below is. cc };
  others = λ level i below within out. ap (λ (file : List ℕ). get_or file i 0) (set level below) ∙ resized_byte (parity_of start level) bytes i within;
}

-- a window is written
pub over_window : (levels size bytes count : ℕ) (window : WindowValue) (choice : Choice) (rows : Rows) (start old new : Files) → IsParityOver levels size bytes rows start old → length choice.stripes ≤ count
    → ((stripe : ℕ) → IsChosen choice stripe → stripe * size + size ≤ bytes)
    → WritesBlocks size (IsChosen choice) old new → SameElsewhere levels size (IsChosen choice) old new → HoldsRows levels size (rows_with window choice count rows) new
    → IsParityOver levels size bytes (rows_with window choice count rows) start new
over_window levels size bytes count window choice rows start old new so_far all ends writes same holds = record {
  long = λ level below.
      let was = so_far.long level below in
      let shorter = same.no_shorter level below in
      let longer = writes.no_longer level bytes (omega (arith, was)) ends in
      omega (arith, was, shorter, longer);
  holds = holds;
  others = λ level i below within out.
      same.bytes level i below (λ stripe one. out stripe (subst (HasRow (rows_with window choice count rows)) one.stripe_is (chosen_has window choice rows count one.i (omega (arith, all, one.within)) one.chosen)))
      ∙ so_far.others level i below within (λ stripe has. out stripe (had_row window choice rows count stripe has));
}

-- the same rows over the same files make the same parity
module _ (levels size bytes : ℕ) (rows : Rows) (start one other : Files) (some : 0 < size) (a : IsParityOver levels size bytes rows start one) (b : IsParityOver levels size bytes rows start other) where
  same_byte : (level i stripe at : ℕ) → level < levels → i < bytes → stripe * size + at ≡ i → at < size → (row : Option Row) → rows stripe ≡ row → get_or (parity_of one level) i 0 ≡ get_or (parity_of other level) i 0
  same_byte level i stripe at below within place near None none =
      let out : IsOutsideAll size (HasRow rows) i = λ s has.
      let differs : stripe ≢ s = λ same. let both : rows s ≡ None = ap rows (sym same) ∙ none in cc in
      subst (IsOutside size s) place (apart size size stripe s at refl differs near) in
      a.others level i below within out ∙ sym (b.others level i below within out)
  same_byte level i stripe at below within place near (Some row) is =
      ap (λ (n : ℕ). get_or (parity_of one level) n 0) (sym place)
      ∙ (a.holds.level level stripe row below is at near).is
      ∙ sym (b.holds.level level stripe row below is at near).is
      ∙ ap (λ (n : ℕ). get_or (parity_of other level) n 0) place

  pub same_parity : (level : ℕ) → level < levels → parity_of one level ≡ parity_of other level
  same_parity level below = ext_get_or 0 (parity_of one level) (parity_of other level) (a.long level below ∙ sym (b.long level below))
      (λ i within. same_byte level i (i / size) (i % size) below (omega (arith, within, a.long level below)) (div-add-mod' i size) (mod-lt i some) (rows (i / size)) refl)
