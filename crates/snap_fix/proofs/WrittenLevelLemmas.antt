-- One write of a level of a stripe: what it leaves of the level, what it keeps and what it adds.
use Rattle.std.proofs.Common.{◌≡◌, ◌≢◌, ◌⊎◌, inl, inr, ℕ, ◌+◌, ◌-◌, ◌*◌, ◌<◌, ◌≤◌, List, [], ◌∷◌, ◌++◌, length, take, drop, replicate, get_or, set, Bool, refl, sym, ◌∙◌, ap, subst, arith, length-append}
use Rattle.std.proofs.lemmas.Bool.{cases_eq, cases_lt}
use Rattle.std.proofs.lemmas.List.{append-nil, get_or_append_left, get_or-append_right, get_or-set_same, length-take, length-replicate, set_past}
use Rattle.cauchy.specs.Matrix.{parity_of as level_of}
use Rattle.disk_model.specs.Bytes.{put}
use Rattle.disk_model.specs.Files.{Files, parity_of, with_parity, TearsParity}
use Rattle.disk_model.specs.Vault.{plain_done, VaultView, ParityWrite, GoesOn}
use Rattle.disk_model.proofs.BytesLemmas.{length-put, put_gap, torn_by_put}
use Rattle.disk_model.proofs.CountLemmas.{counts_none}
use Rattle.parity_writer.specs.Keeps.{HasByte, KeepsAt, IsOutside}
use Rattle.parity_writer.specs.Parity.{Row, HasLevel}
use Rattle.parity_writer.proofs.KeepsLemmas.{other_level, tear_keeps}
use Rattle.parity_writer.proofs.SumLemmas.{length-level, byte_of_level}
use Rattle.snap_fix.specs.Underway.{AddsZeros, KeepsLevels}

-- ---- what is put

-- what was put at a place is there
put_there : (file : List ℕ) (at : ℕ) (bytes : List ℕ) (i : ℕ) → i < length bytes → get_or (put file at bytes) (at + i) 0 ≡ get_or bytes i 0
put_there file at bytes i below =
    let front = take at file ++ replicate (at - length file) 0 in
    let a = length-append (take at file) (replicate (at - length file) 0) in
    let b = length-take at file in
    let c = length-replicate {A = ℕ} (at - length file) 0 in
    let long : length front ≡ at = omega arith in
    let near : at + i < length (front ++ bytes) = omega (arith, below, long, length-append front bytes) in
    let back : (at + i) - at ≡ i = omega arith in
    get_or_append_left (front ++ bytes) (drop (at + length bytes) file) 0 (at + i) near
    ∙ get_or-append_right front bytes at (at + i) 0 long (omega arith)
    ∙ ap (λ (n : ℕ). get_or bytes n 0) back

pub written_level : (size level stripe : ℕ) (row : Row) (file : List ℕ) → HasLevel size level stripe row (put file (stripe * size) (level_of level size row))
written_level size level stripe row file i below =
    let bytes = level_of level size row in
    let long : length bytes ≡ size = length-level level size row in
    record {
      within = omega (arith, below, long, length-put file (stripe * size) bytes);
      is = put_there file (stripe * size) bytes i (omega (arith, below, long)) ∙ byte_of_level level size row i below;
    }

-- by what a write may leave and by what its level is then, just that level was put
pub files_put : (r at n : ℕ) (bytes : List ℕ) (old new : Files) → TearsParity r at n old new → parity_of new r ≡ put (parity_of old r) at bytes
    → new ≡ with_parity old r (put (parity_of old r) at bytes)
files_put r at n bytes old new tears is = tears.rest ∙ ap (λ (parities : List (List ℕ)). record old { parities = parities }) (by (cases_lt r (length old.parities)))
  where
    by : (r < length old.parities) ⊎ (length old.parities ≤ r) → set old.parities r tears.file ≡ set old.parities r (put (parity_of old r) at bytes)
    by (inl within) =
        let left : parity_of new r ≡ tears.file = ap (λ (files : Files). parity_of files r) tears.rest ∙ get_or-set_same old.parities r tears.file [] within in
        ap (set old.parities r) (sym left ∙ is)
    by (inr past) = set_past old.parities r tears.file past ∙ sym (set_past old.parities r (put (parity_of old r) at bytes) past)

-- no call was made
pub ran_nothing : (v : VaultView) → GoesOn v v []
ran_nothing v = record {
  later = omega arith;
  writes = counts_none v.writes;
  levels = refl;
  copies = refl;
  tells = refl;
  calls = record { told = λ t. t; more = λ t. sym (append-nil v.calls) };
}

-- the one call for a level, by what is written of it
pub ran_write : (r at : ℕ) (bytes : List ℕ) (place : ℕ) (level : List ℕ) (failed : Bool) (old new : VaultView) → at ≡ place → bytes ≡ level
    → GoesOn old new (plain_done (ParityWrite r at bytes) failed ∷ []) → GoesOn old new (plain_done (ParityWrite r place level) failed ∷ [])
ran_write r at bytes place level failed old new at_is bytes_are ran =
    subst (λ (n : ℕ). GoesOn old new (plain_done (ParityWrite r n level) failed ∷ [])) at_is
    (subst (λ (xs : List ℕ). GoesOn old new (plain_done (ParityWrite r at xs) failed ∷ [])) bytes_are ran)

-- ---- a level after a write to it

-- the level that is written holds what was torn, or nothing of it was changed
level_torn : (r : ℕ) (file : List ℕ) (old new : Files) → new ≡ with_parity old r file → (parity_of new r ≡ parity_of old r) ⊎ (parity_of new r ≡ file)
level_torn r file old new rest = by (cases_lt r (length old.parities))
  where
    is : parity_of new r ≡ get_or (set old.parities r file) r []
    is = ap (λ (files : Files). parity_of files r) rest

    by : (r < length old.parities) ⊎ (length old.parities ≤ r) → (parity_of new r ≡ parity_of old r) ⊎ (parity_of new r ≡ file)
    by (inl within) = inr (is ∙ get_or-set_same old.parities r file [] within)
    by (inr past) = inl (is ∙ ap (λ (xs : List (List ℕ)). get_or xs r []) (set_past old.parities r file past))

has_as : (file other : List ℕ) (at x : ℕ) → file ≡ other → HasByte file at x → HasByte other at x
has_as file other at x same has = subst (λ (bytes : List ℕ). HasByte bytes at x) same has

-- ---- what is kept

module _ (size : ℕ) (IsOne : ℕ → ℕ → Type 0) where
  -- a place of a level outside of the blocks that are written
  abbrev IsApartFrom : ℕ → ℕ → Type 0
  IsApartFrom level at = (stripe : ℕ) → IsOne level stripe → IsOutside size stripe at

  -- a byte that was there, or was added before such a block
  abbrev IsGrown : Files → ℕ → ℕ → ℕ → Type 0
  IsGrown files level at x = HasByte (parity_of files level) at x ⊎ ((stripe : ℕ) × IsOne level stripe × (at < stripe * size))

  pub keeps_nothing : (files : Files) → KeepsLevels size IsOne files files
  keeps_nothing files = record { contents = refl; bytes = λ level at x apart has. has; grown = λ level at x apart has. inl has }

  -- one more write, of the block of such a level
  module _ (r stripe : ℕ) (one : IsOne r stripe) (a b c : Files) (tears : TearsParity r (stripe * size) size b c) where
    torn : KeepsAt (IsOutside size stripe) b c
    torn = tear_keeps (IsOutside size stripe) r (stripe * size) size (λ i out. out) b c tears

    same_level : (level : ℕ) → level ≢ r → parity_of c level ≡ parity_of b level
    same_level level other = other_level r tears.file b c tears.rest level other

    stays_torn : (level at x : ℕ) → IsApartFrom level at → HasByte (parity_of b level) at x → HasByte (parity_of c level) at x
    stays_torn level at x apart has = elim (cases_eq level r) [
      | inl same ↦ torn.bytes level at x (apart stripe (subst (λ (l : ℕ). IsOne l stripe) (sym same) one)) has
      | inr other ↦ has_as (parity_of b level) (parity_of c level) at x (sym (same_level level other)) has
    ]

    -- what stands in the torn level was there, or stands before its block
    grown_here : (at x : ℕ) → IsOutside size stripe at → HasByte tears.file at x → (HasByte (parity_of b r) at x) ⊎ (at < stripe * size)
    grown_here at x out has = elim (cases_lt at (length (parity_of b r))) [
      | inl within ↦ inl (record { within = within; is = sym (tears.torn.same at within out) ∙ has.is })
      | inr past ↦ elim out [
        | inl before ↦ inr before
        | inr behind ↦ absurd (omega (arith, past, behind, has.within, tears.torn.no_longer))
      ]
    ]

    grown_torn : (level at x : ℕ) → IsApartFrom level at → HasByte (parity_of c level) at x → IsGrown b level at x
    grown_torn level at x apart has = by (cases_eq level r)
      where
        here : IsApartFrom r at → HasByte (parity_of c r) at x → IsGrown b r at x
        here far it = elim (level_torn r tears.file b c tears.rest) [
          | inl stays ↦ inl (has_as (parity_of c r) (parity_of b r) at x stays it)
          | inr is ↦ elim (grown_here at x (far stripe one) (has_as (parity_of c r) tears.file at x is it)) [
            | inl was ↦ inl was
            | inr before ↦ inr (stripe, one, before)
          ]
        ]

        by : (level ≡ r) ⊎ (level ≡ r → ⊥) → IsGrown b level at x
        by (inl same) =
            subst (λ (l : ℕ). IsGrown b l at x) (sym same)
            (here (subst (λ (l : ℕ). IsApartFrom l at) same apart) (subst (λ (l : ℕ). HasByte (parity_of c l) at x) same has))
        by (inr other) = inl (has_as (parity_of c level) (parity_of b level) at x (same_level level other) has)

    pub keeps_more : KeepsLevels size IsOne a b → KeepsLevels size IsOne a c
    keeps_more so_far = record {
      contents = torn.contents ∙ so_far.contents;
      bytes = λ level at x apart has. stays_torn level at x apart (so_far.bytes level at x apart has);
      grown = λ level at x apart has. elim (grown_torn level at x apart has) [
        | inl was ↦ so_far.grown level at x apart was
        | inr before ↦ inr before
      ];
    }

  pub zeros_none : (files : Files) → AddsZeros size IsOne files files
  zeros_none files level at x apart past has = absurd (omega (arith, past, has.within))

  -- what a write adds before its block are zeros
  pub zeros_more : (r stripe : ℕ) (bytes : List ℕ) → IsOne r stripe → length bytes ≡ size → (a b c : Files) → c ≡ with_parity b r (put (parity_of b r) (stripe * size) bytes)
      → AddsZeros size IsOne a b → AddsZeros size IsOne a c
  zeros_more r stripe bytes one long a b c is so_far level at x apart past has = by (cases_eq level r)
    where
      -- in the level that is written
      in_put : (at < length (parity_of b r)) ⊎ (length (parity_of b r) ≤ at) → IsOutside size stripe at → IsApartFrom r at → length (parity_of a r) ≤ at
          → HasByte (put (parity_of b r) (stripe * size) bytes) at x → x ≡ 0
      in_put (inl within) out far behind it =
          let torn = torn_by_put (parity_of b r) (stripe * size) bytes in
          let away : (at < stripe * size) ⊎ (stripe * size + length bytes ≤ at) = subst (λ (n : ℕ). (at < stripe * size) ⊎ (stripe * size + n ≤ at)) (sym long) out in
          so_far r at x far behind (record { within = within; is = sym (torn.same at within away) ∙ it.is })
      in_put (inr beyond) (inl before) far behind it = sym it.is ∙ put_gap (parity_of b r) (stripe * size) bytes at beyond before
      in_put (inr beyond) (inr after) far behind it = absurd (omega (arith, beyond, after, long, it.within, length-put (parity_of b r) (stripe * size) bytes))

      here : IsApartFrom r at → length (parity_of a r) ≤ at → HasByte (parity_of c r) at x → x ≡ 0
      here far behind it = elim (level_torn r (put (parity_of b r) (stripe * size) bytes) b c is) [
        | inl stays ↦ so_far r at x far behind (has_as (parity_of c r) (parity_of b r) at x stays it)
        | inr put_is ↦ in_put (cases_lt at (length (parity_of b r))) (far stripe one) far behind
            (has_as (parity_of c r) (put (parity_of b r) (stripe * size) bytes) at x put_is it)
      ]

      by : (level ≡ r) ⊎ (level ≡ r → ⊥) → x ≡ 0
      by (inl same) =
          here (subst (λ (l : ℕ). IsApartFrom l at) same apart) (subst (λ (l : ℕ). length (parity_of a l) ≤ at) same past)
          (subst (λ (l : ℕ). HasByte (parity_of c l) at x) same has)
      by (inr other) = so_far level at x apart past
          (has_as (parity_of c level) (parity_of b level) at x (other_level r (put (parity_of b r) (stripe * size) bytes) b c is level other) has)
