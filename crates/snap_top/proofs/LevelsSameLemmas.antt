-- Two fixes that write the same blocks of levels over the same files leave the same levels.
use Rattle.std.proofs.Common.{◌≡◌, ◌⊎◌, inl, inr, ℕ, ◌+◌, ◌*◌, ◌/◌, ◌%◌, ◌<◌, ◌≤◌, List, length, get_or, Bool, true, false, Option, None, Some, refl, sym, ◌∙◌, subst, arith}
use Rattle.std.specs.Prelude.{All}
use Rattle.std.proofs.lemmas.Bool.{cases_eq, cases_lt}
use Rattle.std.proofs.lemmas.List.{ext_get_or, get_or_default}
use Rattle.std.proofs.lemmas.List.Elements.{Contains-get_or}
use Rattle.std.proofs.lemmas.Nat.{div-add-mod'}
use Rattle.std.proofs.Math.Nat.{mod-lt}
use Rattle.disk_model.specs.Files.{Files, parity_of}
use Rattle.parity_writer.specs.Keeps.{HasByte, IsOutside}
use Rattle.parity_writer.specs.LevelsValue.{LevelValue, no_level}
use Rattle.parity_writer.specs.Parity.{HasLevel, Row}
use Rattle.snap_fix.specs.Mended.{is_wrong_level}
use Rattle.snap_fix.specs.Underway.{AddsZeros, HoldsWrong, IsMendedLevel, KeepsLevels}
use Rattle.stripe_examiner.specs.Facts.{StripeFacts}
use Rattle.stripe_examiner.specs.Findings.{is_wrong, may_write_level}
use Rattle.stripe_examiner.specs.Looking.{facts_at, no_facts}
use Rattle.repair_scope.specs.Plan.{FixPlan}
use Rattle.snap_top.specs.FixedAlike.{HaveSameFiles}
use Rattle.snap_top.proofs.PlacesLemmas.{found_or_nowhere}
use Rattle.snap_top.proofs.RestoredLastLemmas.{unknown_right}
use Rattle.snap_top.proofs.SyncedLemmas.{outside}

-- ---- over files, by which blocks are written

-- both hold one row in a block
abbrev HoldBoth : ℕ → ℕ → ℕ → Files → Files → Type 0
HoldBoth size r stripe one other = (row : Row) × HasLevel size r stripe row (parity_of one r) × HasLevel size r stripe row (parity_of other r)

module _ (size : ℕ) (IsOne : ℕ → ℕ → Type 0) (decide : (r stripe : ℕ) → IsOne r stripe ⊎ ¬ (IsOne r stripe)) (old one other : Files) (keeps : KeepsLevels size IsOne old one) (keeps_then : KeepsLevels size IsOne old other)
    (zeros : AddsZeros size IsOne old one) (zeros_then : AddsZeros size IsOne old other) (held : (r stripe : ℕ) → IsOne r stripe → HoldBoth size r stripe one other) (r : ℕ) where
  abbrev file : List ℕ
  file = parity_of one r

  abbrev other_file : List ℕ
  other_file = parity_of other r

  abbrev IsAlikeAt : ℕ → Type 0
  IsAlikeAt at = (at < length other_file) × (get_or file at 0 ≡ get_or other_file at 0)

  in_block : (stripe p at : ℕ) → IsOne r stripe → p < size → stripe * size + p ≡ at → IsAlikeAt at
  in_block stripe p at is small place =
      let both = held r stripe is in
      let byte = both.1 p small in
      let byte_then = both.2 p small in
      subst IsAlikeAt place (byte_then.within, byte.is ∙ sym byte_then.is)

  -- a block that begins behind a place is held, and so the file is longer
  longer : (stripe at : ℕ) → IsOne r stripe → at < stripe * size → at < length other_file
  longer stripe at is under = elim (cases_lt 0 size) [
    | inl some ↦ let first = ((held r stripe is).2 0 some).within in omega (arith, under, first)
    | inr none ↦ let no : size ≡ 0 = omega (arith, none) in let clash : at < stripe * 0 = subst (λ (n : ℕ). at < stripe * n) no under in absurd (omega (arith, clash))
  ]

  out_block : (at : ℕ) → at < length file → ((stripe : ℕ) → IsOne r stripe → IsOutside size stripe at) → IsAlikeAt at
  out_block at within apart =
      let has : HasByte file at (get_or file at 0) = record { within = within; is = refl } in
      elim (keeps.grown r at (get_or file at 0) apart has) [
        | inl was ↦ let then_has = keeps_then.bytes r at (get_or file at 0) apart was in (then_has.within, sym then_has.is)
        | inr grown ↦ elim (cases_lt at (length (parity_of old r))) [
          | inl below ↦
              let was : HasByte (parity_of old r) at (get_or (parity_of old r) at 0) = record { within = below; is = refl } in
              let here = keeps.bytes r at (get_or (parity_of old r) at 0) apart was in
              let there = keeps_then.bytes r at (get_or (parity_of old r) at 0) apart was in
              (there.within, here.is ∙ sym there.is)
          | inr past ↦
              let fits : at < length other_file = longer grown.0 at grown.1 grown.2 in
              let has_then : HasByte other_file at (get_or other_file at 0) = record { within = fits; is = refl } in
              (fits, zeros r at (get_or file at 0) apart past has ∙ sym (zeros_then r at (get_or other_file at 0) apart past has_then))
        ]
      ]

  pub alike_at : (at : ℕ) → at < length file → IsAlikeAt at
  alike_at at within = elim (cases_lt 0 size) [
    | inl some ↦
        let place : at / size * size + at % size ≡ at = div-add-mod' at size in
        let small : at % size < size = mod-lt at some in
        elim (decide r (at / size)) [
          | inl is ↦ in_block (at / size) (at % size) at is small place
          | inr not ↦ out_block at within (λ stripe its. outside size stripe (at / size) at (λ same. not (subst (IsOne r) same its)) (omega (arith, place)) (omega (arith, place, small)))
        ]
    | inr none ↦
        let no_size : 0 ≡ size = omega (arith, none) in
        out_block at within (λ stripe its. inr (subst (λ (n : ℕ). stripe * n + n ≤ at) no_size (omega arith)))
  ]

no_longer : (n m : ℕ) → ((at : ℕ) → at < n → at < m) → n ≤ m
no_longer n m within = elim (cases_lt m n) [
  | inl less ↦ let clash = within m less in absurd (omega (arith, clash))
  | inr more ↦ more
]

pub files_same : (size : ℕ) (IsOne : ℕ → ℕ → Type 0) → ((r stripe : ℕ) → IsOne r stripe ⊎ ¬ (IsOne r stripe)) → (old one other : Files) → KeepsLevels size IsOne old one → KeepsLevels size IsOne old other → AddsZeros size IsOne old one
    → AddsZeros size IsOne old other → ((r stripe : ℕ) → IsOne r stripe → HoldBoth size r stripe one other) → HaveSameFiles one other
files_same size IsOne decide old one other keeps keeps_then zeros zeros_then held = record {
  contents = keeps.contents ∙ sym keeps_then.contents;
  parity = λ r.
      let there : (at : ℕ) → at < length (parity_of one r) → at < length (parity_of other r) = λ at within. (alike_at size IsOne decide old one other keeps keeps_then zeros zeros_then held r at within).0 in
      let back : (at : ℕ) → at < length (parity_of other r) → at < length (parity_of one r) = λ at within. (alike_at size IsOne decide old other one keeps_then keeps zeros_then zeros
      (λ level stripe is. let both = held level stripe is in (both.0, both.2, both.1)) r at within).0 in
      let few : length (parity_of one r) ≤ length (parity_of other r) = no_longer _ _ there in
      let few_then : length (parity_of other r) ≤ length (parity_of one r) = no_longer _ _ back in
      ext_get_or 0 (parity_of one r) (parity_of other r) (omega (arith, few, few_then))
      (λ at within. (alike_at size IsOne decide old one other keeps keeps_then zeros zeros_then held r at within).1);
}

-- ---- of stripes of which the same is known

-- this level of a stripe is wrong, and the stripe is this
record WrongAt (plan : FixPlan) (r stripe : ℕ) (facts : StripeFacts) : Type 0 where
  same : facts.stripe ≡ stripe
  wrong : is_wrong_level plan facts r ≡ true

module _ (plan : FixPlan) where
  abbrev size : ℕ
  size = plan.table.shape.block_size

  abbrev IsWrongAt : ℕ → ℕ → StripeFacts → Type 0
  IsWrongAt r stripe facts = WrongAt plan r stripe facts

  wrong_or_not : (r stripe : ℕ) (facts : StripeFacts) → IsWrongAt r stripe facts ⊎ ¬ (IsWrongAt r stripe facts)
  wrong_or_not r stripe facts = elim (cases_eq facts.stripe stripe) [
    | inl same ↦ by same (is_wrong_level plan facts r) refl
    | inr other ↦ inr (λ is. other is.same)
  ]
    where
      by : facts.stripe ≡ stripe → (b : Bool) → is_wrong_level plan facts r ≡ b → IsWrongAt r stripe facts ⊎ ¬ (IsWrongAt r stripe facts)
      by same true wrong = inl (record { same = same; wrong = wrong })
      by same false right = inr (λ is. let clash : false ≡ true = sym right ∙ is.wrong in cc)

  abbrev IsWrongIn : List StripeFacts → ℕ → ℕ → Type 0
  IsWrongIn stripes r stripe = (k : ℕ) × (k < length stripes) × IsWrongAt r stripe (facts_at stripes k)

  mended_in : (stripes : List StripeFacts) (r stripe : ℕ) → IsWrongIn stripes r stripe → IsMendedLevel plan stripes r stripe
  mended_in stripes r stripe (k, within, is) = (facts_at stripes k, Contains-get_or stripes k no_facts within, is.same, is.wrong)

  wrong_in : (stripes : List StripeFacts) (r stripe : ℕ) → IsMendedLevel plan stripes r stripe → IsWrongIn stripes r stripe
  wrong_in stripes r stripe (facts, (k, within, at), same, wrong) =
      (k, within, subst (IsWrongAt r stripe) (sym (get_or_default stripes k no_facts facts within ∙ at)) (record { same = same; wrong = wrong }))

  decided : (stripes : List StripeFacts) (r stripe : ℕ) → IsMendedLevel plan stripes r stripe ⊎ ¬ (IsMendedLevel plan stripes r stripe)
  decided stripes r stripe = elim (found_or_nowhere no_facts (IsWrongAt r stripe) (wrong_or_not r stripe) stripes) [
    | inl found ↦ inl (mended_in stripes r stripe found)
    | inr none ↦ inr (λ is. let its = wrong_in stripes r stripe is in none its.0 its.1 its.2)
  ]

  -- a level is wrong only where the row is known
  row_known : (level : LevelValue) (stripe r : ℕ) (row : Option Row) → is_wrong plan stripe level row r ≡ true → (known : Row) × (row ≡ Some known)
  row_known level stripe r None wrong = absurd (unknown_right size r level.state level.block (may_write_level plan stripe r) wrong)
  row_known level stripe r (Some known) wrong = (known, refl)

  module _ (ones others : List StripeFacts) (as_many : length ones ≡ length others) (stripes : (k : ℕ) → k < length ones → (facts_at ones k).stripe ≡ (facts_at others k).stripe)
      (wrongs : (k r : ℕ) → k < length ones → is_wrong_level plan (facts_at ones k) r ≡ is_wrong_level plan (facts_at others k) r)
      (rows : (k : ℕ) → k < length ones → (facts_at ones k).row ≡ (facts_at others k).row) (old one other : Files) where
    back : (r stripe : ℕ) → IsMendedLevel plan others r stripe → IsMendedLevel plan ones r stripe
    back r stripe is =
        let its = wrong_in others r stripe is in
        let within : its.0 < length ones = (let near = its.1 in omega (arith, near, as_many)) in
        mended_in ones r stripe (its.0, within, record { same = stripes its.0 within ∙ its.2.same; wrong = wrongs its.0 r within ∙ its.2.wrong })

    keeps_as : KeepsLevels size (IsMendedLevel plan others) old other → KeepsLevels size (IsMendedLevel plan ones) old other
    keeps_as keeps = record {
      contents = keeps.contents;
      bytes = λ level at x apart has. keeps.bytes level at x (λ stripe is. apart stripe (back level stripe is)) has;
      grown = λ level at x apart has. elim (keeps.grown level at x (λ stripe is. apart stripe (back level stripe is)) has) [
        | inl was ↦ inl was
        | inr more ↦ inr (more.0, back level more.0 more.1, more.2)
      ];
    }

    both_hold : All (λ (facts : StripeFacts). HoldsWrong plan facts one) ones → All (λ (facts : StripeFacts). HoldsWrong plan facts other) others
        → (r stripe : ℕ) → IsMendedLevel plan ones r stripe → HoldBoth size r stripe one other
    both_hold holds holds_then r stripe is =
        let its = wrong_in ones r stripe is in
        let k : ℕ = its.0 in
        let facts : StripeFacts = facts_at ones k in
        let facts_then : StripeFacts = facts_at others k in
        let known = row_known (get_or facts.levels r no_level) facts.stripe r facts.row its.2.wrong in
        let here : HasLevel size r facts.stripe known.0 (parity_of one r) = holds k no_facts its.1 r known.0 its.2.wrong known.1 in
        let near : k < length others = (let within = its.1 in omega (arith, within, as_many)) in
        let over : HasLevel size r facts_then.stripe known.0 (parity_of other r)
        = holds_then k no_facts near r known.0 (sym (wrongs k r its.1) ∙ its.2.wrong) (sym (rows k its.1) ∙ known.1) in (
          known.0,
          subst (λ (s : ℕ). HasLevel size r s known.0 (parity_of one r)) its.2.same here,
          subst (λ (s : ℕ). HasLevel size r s known.0 (parity_of other r)) (sym (stripes k its.1) ∙ its.2.same) over,
        )

    pub mended_same : KeepsLevels size (IsMendedLevel plan ones) old one → KeepsLevels size (IsMendedLevel plan others) old other → AddsZeros size (IsMendedLevel plan ones) old one
        → AddsZeros size (IsMendedLevel plan others) old other → All (λ (facts : StripeFacts). HoldsWrong plan facts one) ones → All (λ (facts : StripeFacts). HoldsWrong plan facts other) others → HaveSameFiles one other
    mended_same keeps keeps_then zeros zeros_then holds holds_then =
        files_same size (IsMendedLevel plan ones) (decided ones) old one other keeps (keeps_as keeps_then) zeros
        (λ level at x apart past has. zeros_then level at x (λ stripe is. apart stripe (back level stripe is)) past has)
        (both_hold holds holds_then)
