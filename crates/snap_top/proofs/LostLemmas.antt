-- Damaged cells of the stripes that a check or a fix looked at, by their facts.
use Rattle.std.proofs.Common.{◌≡◌, ⊎_elim, ℕ, ◌<◌, List, length, get_or, AllPairs, Bool, true, sym, ap, ◌∙◌, arith}
use Rattle.std.specs.List.{Contains, range_with_len}
use Rattle.std.proofs.lemmas.Bool.{cases_lt}
use Rattle.std.proofs.lemmas.List.{get_or-map, get_or_default, length-map}
use Rattle.std.proofs.lemmas.List.FromFn.{get_or-range_with_len, length-range_with_len}
use Rattle.std.proofs.lemmas.List.Kept.{AllPairs-filter}
use Rattle.disk_model.specs.Files.{Files}
use Rattle.disk_model.specs.Folder.{FolderView}
use Rattle.stripe_reader.specs.Starts.{StartsValue}
use Rattle.stripe_examiner.specs.Facts.{StripeFacts}
use Rattle.snap_fix.specs.Genuine.{AreGenuineOf, HasGenuineFacts}
use Rattle.stripe_examiner.specs.Looking.{numbers_of}
use Rattle.repair_scope.specs.Plan.{FixPlan, is_looked_at, is_searched, stripes_of}
use Rattle.parity_writer.specs.Sound.{Closed, last_row}

-- what snap_fix says of stripes that were looked at
abbrev pub FactsAreGenuine : Type 0
FactsAreGenuine = (plan : FixPlan) (starts : StartsValue) (firsts : List FolderView) (read : Files) (snapshot : Closed) (is_changed : ℕ → ℕ → Bool) (stripes : List StripeFacts) (facts : StripeFacts)
    → AreGenuineOf plan starts firsts read snapshot is_changed stripes → Contains stripes facts → is_searched plan facts.stripe ≡ true → HasGenuineFacts plan starts firsts (last_row snapshot facts.stripe) facts

-- ---- no stripe is looked at twice

abbrev pub AreAscending : List ℕ → Type 0
AreAscending numbers = AllPairs (λ (a b : ℕ). a < b) numbers

range_ascending : (n : ℕ) → AreAscending (range_with_len 0 n)
range_ascending n i j d less below =
    let near : j < n = omega (arith, below, length-range_with_len 0 n) in
    let earlier : i < n = omega (arith, less, near) in
    let first = get_or-range_with_len 0 n i d earlier in
    let second = get_or-range_with_len 0 n j d near in
    omega (arith, first, second, less)

pub stripes_ascending : (plan : FixPlan) → AreAscending (stripes_of plan)
stripes_ascending plan = AllPairs-filter (λ (a b : ℕ). a < b) (is_looked_at plan) (range_with_len 0 (length plan.table.infos)) (range_ascending (length plan.table.infos))

number_at : (stripes : List StripeFacts) (facts : StripeFacts) (one : Contains stripes facts) → get_or (numbers_of stripes) one.0 0 ≡ facts.stripe
number_at stripes facts one =
    let number : StripeFacts → ℕ = λ (it : StripeFacts). it.stripe in
    get_or-map number stripes one.0 facts 0 one.1 ∙ ap number one.2

-- so there is one of each number
pub same_facts : (stripes : List StripeFacts) → AreAscending (numbers_of stripes) → (one other : StripeFacts) → Contains stripes one → Contains stripes other → one.stripe ≡ other.stripe → one ≡ other
same_facts stripes ascending one other first second same =
    ⊎_elim
    (λ less. absurd (apart first.0 second.0 one.stripe other.stripe less second.1 (number_at stripes one first) (number_at stripes other second) same))
    (λ not_less. ⊎_elim
    (λ less. absurd (apart second.0 first.0 other.stripe one.stripe less first.1 (number_at stripes other second) (number_at stripes one first) (sym same)))
    (λ not_more.
    let here : first.0 ≡ second.0 = omega (arith, not_less, not_more) in
    sym first.2 ∙ get_or_default stripes first.0 one other first.1 ∙ ap (λ (k : ℕ). get_or stripes k other) here ∙ second.2)
    (cases_lt second.0 first.0))
    (cases_lt first.0 second.0)
  where
    as_many : length (numbers_of stripes) ≡ length stripes
    as_many = length-map stripes (λ (facts : StripeFacts). facts.stripe)

    apart : (i j a b : ℕ) → i < j → j < length stripes → get_or (numbers_of stripes) i 0 ≡ a → get_or (numbers_of stripes) j 0 ≡ b → a ≡ b → ⊥
    apart i j a b less within a_is b_is same_number =
        let before = ascending i j 0 less (omega (arith, within, as_many)) in
        omega (arith, before, a_is, b_is, same_number)
