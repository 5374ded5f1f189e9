-- Levels that are changed one after another, as they read.
use Rattle.std.proofs.Common.{◌≡◌, ◌≢◌, inl, inr, ℕ, ◌+◌, ◌-◌, ◌++◌, ◌<◌, ◌≤◌, List, [], length, take, replicate, IsTrue, refl, sym, ◌∙◌, ap, subst, arith}
use Rattle.std.proofs.lemmas.Bool.{cases_eq}
use Rattle.std.proofs.lemmas.List.{append-nil, take_all}
use Rattle.disk_model.specs.Bytes.{resized}
use Rattle.disk_model.specs.Files.{Files, parity_of}
use Rattle.disk_model.specs.Vault.{VaultView, ChangesBy, Reads}

-- the levels below this one are changed by f, and the others are as they were
pub record Mapped (f : ℕ → List ℕ → List ℕ) (level : ℕ) (old now : Files) : Type 0 where
  pub done : (l : ℕ) → l < level → parity_of now l ≡ f l (parity_of old l)
  pub rest : (l : ℕ) → level ≤ l → parity_of now l ≡ parity_of old l

pub mapped_start : (f : ℕ → List ℕ → List ℕ) (files : Files) → Mapped f 0 files files
mapped_start f files = record { done = λ l below. absurd (omega arith); rest = λ l above. refl }

mapped_more : (f : ℕ → List ℕ → List ℕ) (level : ℕ) (old mid new : Files) → Mapped f level old mid → ((l : ℕ) → l ≢ level → parity_of new l ≡ parity_of mid l)
    → parity_of new level ≡ f level (parity_of mid level) → Mapped f (level + 1) old new
mapped_more f level old mid new so_far others this = record {
  done = λ l below. elim (cases_eq l level) [
    | inl same ↦ subst (λ k. parity_of new k ≡ f k (parity_of old k)) (sym same) (this ∙ ap (f level) (so_far.rest level (omega arith)))
    | inr other ↦ others l other ∙ so_far.done l (omega (arith, below, other))
  ];
  rest = λ l above. others l (λ same. omega (arith, above, same)) ∙ so_far.rest l (omega (arith, above));
}

-- one level more, as the vault reads
pub mapped_reads : (f : ℕ → List ℕ → List ℕ) (level : ℕ) (step : Files → Files → Type 0) (old mid new : VaultView) → ((a b : Files) → step a b → (l : ℕ) → l ≢ level → parity_of b l ≡ parity_of a l)
    → new.tells ≡ mid.tells → ChangesBy step mid new → Reads (Mapped f level old.files) mid → Reads (λ files. parity_of files level ≡ f level (parity_of mid.files level)) new → Reads (Mapped f (level + 1) old.files) new
mapped_reads f level step old mid new others tells changes so_far this told =
    let was : IsTrue mid.tells = sym tells ∙ told in
    mapped_more f level old.files mid.files new.files (so_far was) (others mid.files new.files (changes.reads was)) (this told)

-- a file that is as long already
pub resized_same : (file : List ℕ) (len : ℕ) → length file ≡ len → resized file len ≡ file
resized_same file len long =
    let front : take len file ≡ file = take_all len file (omega (arith, long)) in
    let none : len - length file ≡ 0 = omega (arith, long) in
    let empty : replicate {A = ℕ} (len - length file) 0 ≡ [] = ap (λ n. replicate {A = ℕ} n 0) none in
    ap (λ xs. xs ++ replicate (len - length file) 0) front ∙ ap (λ xs. file ++ xs) empty ∙ append-nil file
