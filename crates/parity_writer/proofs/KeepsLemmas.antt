-- What steps on one level keep.
use Rattle.std.proofs.Common.{◌≡◌, ◌≢◌, ◌⊎◌, inl, inr, ⊎_elim, ℕ, ◌+◌, ◌*◌, ◌<◌, ◌≤◌, max, List, [], length, get_or, set, refl, sym, ◌∙◌, ap, subst, arith}
use Rattle.std.proofs.lemmas.List.{get_or-set_same, get_or-set_other, set_past, set-get_or}
use Rattle.std.proofs.lemmas.Bool.{cases_eq, cases_lt}
use Rattle.disk_model.specs.Files.{Files, parity_of, with_parity, TearsParity, StretchesParity}
use Rattle.parity_writer.specs.Keeps.{HasByte, KeepsAt, IsOutside, WritesBlock}
use Rattle.parity_writer.proofs.RowLemmas.{outside_range}

-- a level after a change of one level
parity_cases : (level : ℕ) (file : List ℕ) (old new : Files) → new ≡ with_parity old level file → (r : ℕ)
    → (parity_of new r ≡ parity_of old r) ⊎ ((r ≡ level) × (parity_of new r ≡ file))
parity_cases level file old new rest r =
    let is : parity_of new r ≡ get_or (set old.parities level file) r [] = ap (λ f. parity_of f r) rest in
    elim (cases_eq r level) [
      | inl same ↦ elim (cases_lt level (length old.parities)) [
        | inl within ↦ inr (same, is ∙ ap (λ k. get_or (set old.parities level file) k []) same ∙ get_or-set_same old.parities level file [] within)
        | inr past ↦ inl (is ∙ ap (λ xs. get_or xs r []) (set_past old.parities level file past))
      ]
      | inr other ↦ inl (is ∙ get_or-set_other old.parities level r file [] other)
    ]

pub other_level : (level : ℕ) (file : List ℕ) (old new : Files) → new ≡ with_parity old level file → (r : ℕ) → r ≢ level → parity_of new r ≡ parity_of old r
other_level level file old new rest r other = ap (λ f. parity_of f r) rest ∙ get_or-set_other old.parities level r file [] other

moved : (file other : List ℕ) (i x : ℕ) → other ≡ file → HasByte file i x → HasByte other i x
moved file other i x same has = subst (λ f. HasByte f i x) (sym same) has

-- a write keeps all bytes outside of its range
pub tear_keeps : (P : ℕ → Type 0) (level at n : ℕ) → ((i : ℕ) → P i → (i < at) ⊎ (at + n ≤ i)) → (old new : Files) → TearsParity level at n old new → KeepsAt P old new
tear_keeps P level at n outside old new tears = record {
  contents = ap (λ f. f.contents) tears.rest;
  bytes = λ r i x is has. ⊎_elim
      (λ same. moved _ _ i x same has)
      (λ here. moved tears.file _ i x here.1 (kept i x is (subst (λ k. HasByte (parity_of old k) i x) here.0 has)))
      (parity_cases level tears.file old new tears.rest r);
}
  where
    kept : (i x : ℕ) → P i → HasByte (parity_of old level) i x → HasByte tears.file i x
    kept i x is has = record {
      within = omega (arith, has.within, tears.torn.no_shorter);
      is = tears.torn.same i has.within (outside i is) ∙ has.is;
    }

-- a change of the length keeps all bytes below it
pub stretch_keeps : (level len : ℕ) (old new : Files) → StretchesParity level len old new → KeepsAt (λ i. i < len) old new
stretch_keeps level len old new stretches = record {
  contents = ap (λ f. f.contents) stretches.rest;
  bytes = λ r i x below has. ⊎_elim
      (λ same. moved _ _ i x same has)
      (λ here. moved stretches.file _ i x here.1 (kept i x below (subst (λ k. HasByte (parity_of old k) i x) here.0 has)))
      (parity_cases level stretches.file old new stretches.rest r);
}
  where
    kept : (i x : ℕ) → i < len → HasByte (parity_of old level) i x → HasByte stretches.file i x
    kept i x below has =
        let long : i < length stretches.file = omega (arith, has.within, stretches.stretched.no_shorter) in
        record { within = long; is = stretches.stretched.same i has.within long below ∙ has.is }

-- a length that stays
pub stretch_nothing : (level len : ℕ) (files : Files) → StretchesParity level len files files
stretch_nothing level len files = record {
  file = parity_of files level;
  stretched = record { same = λ i one two three. refl; no_shorter = omega arith; no_longer = omega arith };
  rest = ap (λ ps. record files { parities = ps }) (sym (set-get_or files.parities level []));
}

pub keeps_nothing_less : (P : ℕ → Type 0) (files : Files) → KeepsAt P files files
keeps_nothing_less P files = record { contents = refl; bytes = λ r i x at has. has }

pub keeps_then : (P : ℕ → Type 0) (a b c : Files) → KeepsAt P a b → KeepsAt P b c → KeepsAt P a c
keeps_then P a b c one two = record { contents = two.contents ∙ one.contents; bytes = λ r i x at has. two.bytes r i x at (one.bytes r i x at has) }

-- one more change of a length
pub stretch_then : (level len : ℕ) (a b c : Files) → KeepsAt (λ i. i < len) a b → StretchesParity level len b c → KeepsAt (λ i. i < len) a c
stretch_then level len a b c one two = keeps_then (λ i. i < len) a b c one (stretch_keeps level len b c two)

-- a write makes no level longer than to its own end
pub tear_no_longer : (level at n : ℕ) (old new : Files) → TearsParity level at n old new → (r : ℕ) → length (parity_of new r) ≤ max (length (parity_of old r)) (at + n)
tear_no_longer level at n old new tears r =
    ⊎_elim
    (λ same. let is = ap length same in omega (arith, is))
    (λ here. let is = ap length here.1 in let was = ap (λ k. length (parity_of old k)) here.0 in omega (arith, is, was, tears.torn.no_longer))
    (parity_cases level tears.file old new tears.rest r)

pub writes_nothing : (block_size stripe : ℕ) (files : Files) → WritesBlock block_size stripe files files
writes_nothing block_size stripe files = record { keeps = keeps_nothing_less (IsOutside block_size stripe) files; no_longer = λ level. omega arith }

-- one more write of the block of a stripe
pub writes_then : (block_size stripe level at n : ℕ) → at ≡ stripe * block_size → n ≡ block_size → (a b c : Files) → WritesBlock block_size stripe a b → TearsParity level at n b c → WritesBlock block_size stripe a c
writes_then block_size stripe level at n is as_many a b c one two = record {
  keeps = keeps_then (IsOutside block_size stripe) a b c one.keeps (tear_keeps (IsOutside block_size stripe) level at n (outside_range block_size stripe at n is as_many) b c two);
  no_longer = λ r. let before = one.no_longer r in let after = tear_no_longer level at n b c two r in omega (arith, is, as_many, before, after);
}
