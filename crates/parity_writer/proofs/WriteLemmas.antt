-- Writes of the levels of chosen stripes.
use Rattle.std.proofs.Common.{◌≡◌, ◌≢◌, ◌⊎◌, inl, inr, ℕ, ◌+◌, ◌-◌, ◌*◌, ◌<◌, ◌≤◌, ◌==◌, List, [], ◌∷◌, ◌++◌, length, take, drop, replicate, get_or, Bool, true, false, if◌then◌else◌, Some, refl, sym, ◌∙◌, ap, subst, arith, length-append}
use Rattle.std.proofs.lemmas.Bool.{cases_eq, cases_lt, eq-eqb, ne_eqb}
use Rattle.std.proofs.lemmas.List.{get_or_append_left, get_or-append_right, length-take, length-replicate}
use Rattle.std.proofs.lemmas.Nat.{row_fits}
use Rattle.cauchy.specs.Matrix.{parity_of as level_of}
use Rattle.disk_model.specs.Bytes.{put}
use Rattle.disk_model.specs.Cause.{Rose}
use Rattle.disk_model.specs.Files.{Files, parity_of}
use Rattle.disk_model.specs.Ran.{RanAll, RanUpTo, log_of}
use Rattle.disk_model.specs.Vault.{VaultView, VaultCall, GoesOn, plain_done, state_of}
use Rattle.disk_model.proofs.BytesLemmas.{length-put, torn_by_put}
use Rattle.parity_writer.specs.Keeps.{WritesBlock}
use Rattle.parity_writer.specs.Parity.{Row, Rows, with_row, HasLevel, HoldsRows, IsOutsideAll, WritesBlocks}
use Rattle.parity_writer.specs.Rows.{HasSums}
use Rattle.parity_writer.proofs.KeepsLemmas.{keeps_nothing_less, keeps_then}
use Rattle.parity_writer.proofs.SumLemmas.{length-level, byte_of_level}

-- a call that went well, and one that failed
pub one_went_well : (call wanted : VaultCall) (old new : VaultView) → call ≡ wanted → GoesOn old new (plain_done call false ∷ [])
    → RanAll (wanted ∷ []) (log_of (state_of old)) (log_of (state_of new))
one_went_well call wanted old new is goes_on =
    subst (λ (it : VaultCall). RanAll (it ∷ []) (log_of (state_of old)) (log_of (state_of new))) is (record { later = goes_on.later; done = plain_done call false ∷ []; are = refl; grown = goes_on.calls })

pub one_failed : (call wanted : VaultCall) (old new : VaultView) → call ≡ wanted → Rose old.faults new.faults → GoesOn old new (plain_done call true ∷ [])
    → RanUpTo (wanted ∷ []) (log_of (state_of old)) (log_of (state_of new))
one_failed call wanted old new is rose goes_on =
    subst (λ (it : VaultCall). RanUpTo (it ∷ []) (log_of (state_of old)) (log_of (state_of new))) is
    (record { rose = rose; earlier = []; call = call; later = []; whole = refl; done = []; are = refl; grown = goes_on.calls })

-- the blocks of two stripes do not meet
pub apart : (size n a b i : ℕ) → n ≡ size → a ≢ b → i < size → (a * size + i < b * size) ⊎ (b * size + n ≤ a * size + i)
apart size n a b i is other below = elim (cases_lt a b) [
  | inl less ↦ let fits : a * size + size ≤ b * size = row_fits a size b size less (omega arith) in inl (omega arith)
  | inr more ↦ let less : b < a = omega (arith, other, more) in let fits : b * size + size ≤ a * size = row_fits b size a size less (omega arith) in inr (omega arith)
]

front_long : (file : List ℕ) (at : ℕ) → length (take at file ++ replicate (at - length file) 0) ≡ at
front_long file at =
    let a = length-append (take at file) (replicate (at - length file) 0) in
    let b = length-take at file in
    let c = length-replicate {A = ℕ} (at - length file) 0 in
    omega arith

-- what was put at a place is there
put_there : (file : List ℕ) (at : ℕ) (bytes : List ℕ) (i : ℕ) → i < length bytes → get_or (put file at bytes) (at + i) 0 ≡ get_or bytes i 0
put_there file at bytes i below =
    let front = take at file ++ replicate (at - length file) 0 in
    let long : length front ≡ at = front_long file at in
    let near : at + i < length (front ++ bytes) = omega (arith, below, long, length-append front bytes) in
    let back : (at + i) - at ≡ i = omega arith in
    get_or_append_left (front ++ bytes) (drop (at + length bytes) file) 0 (at + i) near
    ∙ get_or-append_right front bytes at (at + i) 0 long (omega arith)
    ∙ ap (λ (n : ℕ). get_or bytes n 0) back

module _ (size level stripe : ℕ) (row : Row) (file : List ℕ) where
  written_level : HasLevel size level stripe row (put file (stripe * size) (level_of level size row))
  written_level i below =
      let bytes = level_of level size row in
      let long : length bytes ≡ size = length-level level size row in
      record {
        within = omega (arith, below, long, length-put file (stripe * size) bytes);
        is = put_there file (stripe * size) bytes i (omega (arith, below, long)) ∙ byte_of_level level size row i below;
      }

  kept_level : (other : ℕ) (its : Row) → other ≢ stripe → HasLevel size level other its file → HasLevel size level other its (put file (stripe * size) (level_of level size row))
  kept_level other its differs has i below =
      let bytes = level_of level size row in
      let was = has i below in
      let torn = torn_by_put file (stripe * size) bytes in
      record {
        within = omega (arith, was.within, torn.no_shorter);
        is = torn.same (other * size + i) was.within (apart size (length bytes) other stripe i (length-level level size row) differs below) ∙ was.is;
      }

-- a stripe whose sums were written has its row, and all others have theirs as before
pub sums_hold : (levels size stripe : ℕ) (row : Row) (rows : Rows) (old new : Files) → HasSums levels size stripe row old new → HoldsRows levels size rows old
    → HoldsRows levels size (with_row stripe row rows) new
sums_hold levels size stripe row rows old new sums before = record { level = holds }
  where
    holds : (level other : ℕ) (its : Row) → level < levels → with_row stripe row rows other ≡ Some its → HasLevel size level other its (parity_of new level)
    holds level other its below is = subst (HasLevel size level other its) (sym (sums level below)) (elim (cases_eq other stripe) [
      | inl same ↦
          let yes : (other == stripe) ≡ true = eq-eqb other stripe same in
          let is_row : Some row ≡ Some its = sym (ap (λ (t : Bool). if t then Some row else rows other) yes) ∙ is in
          let row_is : row ≡ its = cc in
          subst (λ (at : ℕ). HasLevel size level at its (put (parity_of old level) (stripe * size) (level_of level size row))) (sym same)
          (subst (λ (it : Row). HasLevel size level stripe it (put (parity_of old level) (stripe * size) (level_of level size row))) row_is
          (written_level size level stripe row (parity_of old level)))
      | inr differs ↦
          let no : (other == stripe) ≡ false = ne_eqb other stripe differs in
          let was : rows other ≡ Some its = sym (ap (λ (t : Bool). if t then Some row else rows other) no) ∙ is in
          kept_level size level stripe row (parity_of old level) other its differs (before.level level other its below was)
    ])

module _ (size : ℕ) (IsOne : ℕ → Type 0) where
  pub blocks_none : (files : Files) → WritesBlocks size IsOne files files
  blocks_none files = record { keeps = keeps_nothing_less (IsOutsideAll size IsOne) files; no_longer = λ level end short ends. short }

  -- the block of one more of the stripes
  pub blocks_more : (stripe : ℕ) → IsOne stripe → (a b c : Files) → WritesBlocks size IsOne a b → WritesBlock size stripe b c → WritesBlocks size IsOne a c
  blocks_more stripe one a b c so_far writes = record {
    keeps = keeps_then (IsOutsideAll size IsOne) a b c so_far.keeps
        (record { contents = writes.keeps.contents; bytes = λ level i x out has. writes.keeps.bytes level i x (out stripe one) has });
    no_longer = λ level end short ends.
        let before = so_far.no_longer level end short ends in
        let at_end = ends stripe one in
        let grown = writes.no_longer level in
        omega (arith, before, at_end, grown);
  }
