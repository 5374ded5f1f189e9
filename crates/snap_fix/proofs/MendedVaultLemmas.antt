-- What was done to a vault for stripes, and then for later ones: what its levels keep and gain, and what was read of them.
use Rattle.std.proofs.Common.{◌≡◌, ◌⊎◌, inl, inr, ℕ, ◌+◌, ◌*◌, ◌<◌, ◌≤◌, List, [], ◌∷◌, ◌++◌, length, drop, get_or, IsTrue, None, Some, refl, sym, ◌∙◌, subst, arith}
use Rattle.std.specs.List.{Contains}
use Rattle.std.proofs.lemmas.Bool.{cases_lt}
use Rattle.std.proofs.lemmas.List.{append-nil, length-take, length-drop, get_or-take, get_or-drop, ext_get_or}
use Rattle.std.proofs.lemmas.List.Elements.{All-append, Contains-append_left, Contains-append_right, Contains-get_or}
use Rattle.std.proofs.lemmas.Nat.{row_fits}
use Rattle.disk_model.specs.Bytes.{read_from}
use Rattle.disk_model.specs.Files.{Files, parity_of}
use Rattle.disk_model.specs.Vault.{VaultView, GoesOn}
use Rattle.disk_model.proofs.VaultLemmas.{no_calls, calls_then, changes_start, changes_then}
use Rattle.disk_model.proofs.CountLemmas.{counts_none}
use Rattle.parity_writer.specs.Keeps.{HasByte, IsOutside}
use Rattle.parity_writer.specs.LevelReading.{LevelReading, IsReadingOf}
use Rattle.parity_writer.proofs.WriteLemmas.{apart}
use Rattle.stripe_examiner.specs.Facts.{StripeFacts}
use Rattle.snap_fix.specs.FixRun.{HoldAllWrong}
use Rattle.snap_fix.specs.Fixing.{MendsVault}
use Rattle.stripe_examiner.specs.Looking.{AreAllLevelsOf}
use Rattle.repair_scope.specs.Plan.{FixPlan}
use Rattle.snap_fix.specs.Underway.{AddsZeros, HoldsWrong, IsMendedLevel, KeepsLevels}

-- each of these stripes comes before each of those
abbrev pub Precede : List StripeFacts → List StripeFacts → Type 0
Precede xs ys = (one other : StripeFacts) → Contains xs one → Contains ys other → one.stripe < other.stripe

-- ---- what two files give from a place on

module _ (one two : List ℕ) (at n : ℕ) (there : (i x : ℕ) → at ≤ i → i < at + n → HasByte one i x → HasByte two i x) where
  long : length (read_from one at n) ≤ length (read_from two at n)
  long =
      let a = length-take n (drop at one) in
      let b = length-take n (drop at two) in
      let c = length-drop at one in
      let d = length-drop at two in
      elim (cases_lt (length (read_from two at n)) (length (read_from one at n))) [
        | inl less ↦
            let i = at + length (read_from two at n) in
            let near : i < length one = omega arith in
            let within = (there i (get_or one i 0) (omega arith) (omega arith) (record { within = near; is = refl })).within in
            omega arith
        | inr more ↦ more
      ]

pub read_alike : (one two : List ℕ) (at n : ℕ) → ((i x : ℕ) → at ≤ i → i < at + n → HasByte one i x → HasByte two i x)
    → ((i x : ℕ) → at ≤ i → i < at + n → HasByte two i x → HasByte one i x) → read_from one at n ≡ read_from two at n
read_alike one two at n there back =
    ext_get_or 0 (read_from one at n) (read_from two at n) (omega (arith, long one two at n there, long two one at n back))
    (λ k below.
    let a = length-take n (drop at one) in
    let c = length-drop at one in
    let short : k < n = omega (arith, below, a) in
    let near : at + k < length one = omega (arith, below, a, c) in
    let here = there (at + k) (get_or one (at + k) 0) (omega arith) (omega (arith, short)) (record { within = near; is = refl }) in
    get_or-take n (drop at one) k 0 short ∙ get_or-drop at one k 0 ∙ sym here.is ∙ sym (get_or-drop at two k 0) ∙ sym (get_or-take n (drop at two) k 0 short))

-- ---- the calls

-- what was read of the levels of stripes, and of others
pub all_levels_append : (size : ℕ) (v : VaultView) (xs ys : List StripeFacts) (rs ss : List (List LevelReading)) → AreAllLevelsOf size v xs rs → AreAllLevelsOf size v ys ss → AreAllLevelsOf size v (xs ++ ys) (rs ++ ss)
all_levels_append size v [] ys [] ss one two = two
all_levels_append size v [] ys (of ∷ rs) ss one two = absurd one
all_levels_append size v (facts ∷ xs) ys [] ss one two = absurd one
all_levels_append size v (facts ∷ xs) ys (of ∷ rs) ss (first, rest) two = (first, all_levels_append size v xs ys rs ss rest two)

pub goes_on_none : (v : VaultView) → GoesOn v v []
goes_on_none v = record { later = omega arith; writes = counts_none v.writes; levels = refl; copies = refl; tells = refl; calls = record { told = λ t. t; more = λ t. sym (append-nil v.calls) } }

-- ---- what was written

mended_left : (plan : FixPlan) (xs ys : List StripeFacts) (r stripe : ℕ) → IsMendedLevel plan xs r stripe → IsMendedLevel plan (xs ++ ys) r stripe
mended_left plan xs ys r stripe (facts, is_one, number, wrong) = (facts, Contains-append_left xs ys facts is_one, number, wrong)

mended_right : (plan : FixPlan) (xs ys : List StripeFacts) (r stripe : ℕ) → IsMendedLevel plan ys r stripe → IsMendedLevel plan (xs ++ ys) r stripe
mended_right plan xs ys r stripe (facts, is_one, number, wrong) = (facts, Contains-append_right xs ys facts is_one, number, wrong)

module _ (plan : FixPlan) where
  abbrev size : ℕ
  size = plan.table.shape.block_size

  abbrev pub Step : List StripeFacts → Files → Files → Type 0
  Step stripes = KeepsLevels plan.table.shape.block_size (IsMendedLevel plan stripes)

  abbrev Outside : List StripeFacts → ℕ → ℕ → Type 0
  Outside stripes level at = (stripe : ℕ) → IsMendedLevel plan stripes level stripe → IsOutside size stripe at

  abbrev Grown : List StripeFacts → ℕ → ℕ → Type 0
  Grown stripes level at = (stripe : ℕ) × IsMendedLevel plan stripes level stripe × (at < stripe * size)

  -- nothing was written
  pub mends_nothing : (stripes : List StripeFacts) (v : VaultView) → MendsVault plan stripes v v
  mends_nothing stripes v = record {
    calls = no_calls v;
    drafts = record { state = refl; bytes = λ told. refl };
    changes = changes_start (Step stripes) v (λ files. record { contents = refl; bytes = λ level at x outside has. has; grown = λ level at x outside has. inl has });
  }

  module _ (xs ys : List StripeFacts) where
    left_outside : (level at : ℕ) → Outside (xs ++ ys) level at → Outside xs level at
    left_outside level at outside stripe is = outside stripe (mended_left plan xs ys level stripe is)

    right_outside : (level at : ℕ) → Outside (xs ++ ys) level at → Outside ys level at
    right_outside level at outside stripe is = outside stripe (mended_right plan xs ys level stripe is)

    grown_left : {P : Type 0} (level at : ℕ) → P ⊎ Grown xs level at → P ⊎ Grown (xs ++ ys) level at
    grown_left level at (inl was) = inl was
    grown_left level at (inr (stripe, is, less)) = inr (stripe, mended_left plan xs ys level stripe is, less)

    grown_right : {P Q : Type 0} (level at : ℕ) → (P → Q ⊎ Grown xs level at) → P ⊎ Grown ys level at → Q ⊎ Grown (xs ++ ys) level at
    grown_right level at before (inl was) = grown_left level at (before was)
    grown_right level at before (inr (stripe, is, less)) = inr (stripe, mended_right plan xs ys level stripe is, less)

    alone : (a b : Files) → Step xs a b → Step (xs ++ ys) a b
    alone a b keeps = record {
      contents = keeps.contents;
      bytes = λ level at x outside has. keeps.bytes level at x (left_outside level at outside) has;
      grown = λ level at x outside has. grown_left level at (keeps.grown level at x (left_outside level at outside) has);
    }

    both : (a b c : Files) → Step xs a b → Step ys b c → Step (xs ++ ys) a c
    both a b c keeps more = record {
      contents = more.contents ∙ keeps.contents;
      bytes = λ level at x outside has. more.bytes level at x (right_outside level at outside) (keeps.bytes level at x (left_outside level at outside) has);
      grown = λ level at x outside has. grown_right level at (keeps.grown level at x (left_outside level at outside)) (more.grown level at x (right_outside level at outside) has);
    }

    pub mends_append : (old mid new : VaultView) → MendsVault plan xs old mid → MendsVault plan ys mid new → MendsVault plan (xs ++ ys) old new
    mends_append old mid new one two =
        let tells : mid.tells ≡ old.tells = one.calls.goes_on.tells in
        record {
          calls = calls_then old mid new one.calls two.calls;
          drafts = record { state = two.drafts.state ∙ one.drafts.state; bytes = λ told. two.drafts.bytes (tells ∙ told) ∙ one.drafts.bytes told };
          changes = changes_then (Step xs) (Step ys) (Step (xs ++ ys)) old mid new alone both tells one.changes two.changes;
        }

    -- a byte that a level grew by is zero, whether it came first or later: what came first is kept
    pub zeros_append : (old mid new : Files) → Step ys mid new → AddsZeros size (IsMendedLevel plan xs) old mid → AddsZeros size (IsMendedLevel plan ys) mid new
        → AddsZeros size (IsMendedLevel plan (xs ++ ys)) old new
    zeros_append old mid new keeps one two level at x outside short has = by (cases_lt at (length (parity_of mid level)))
      where
        by : (at < length (parity_of mid level)) ⊎ (length (parity_of mid level) ≤ at) → x ≡ 0
        by (inl near) =
            let here : HasByte (parity_of mid level) at (get_or (parity_of mid level) at 0) = record { within = near; is = refl } in
            sym has.is ∙ (keeps.bytes level at _ (right_outside level at outside) here).is ∙ one level at _ (left_outside level at outside) short here
        by (inr far) = two level at x (right_outside level at outside) far has

    -- what the wrong levels of stripes hold stays where later ones are written
    pub holds_still : (mid new : VaultView) → Precede xs ys → MendsVault plan ys mid new → HoldAllWrong plan xs mid → HoldAllWrong plan xs new
    holds_still mid new precede mends one told k d below =
        let before : IsTrue mid.tells = subst IsTrue mends.calls.goes_on.tells told in
        stays (get_or xs k d) (Contains-get_or xs k d below) (mends.changes.reads before) (one before k d below)
      where
        stays : (facts : StripeFacts) → Contains xs facts → Step ys mid.files new.files → HoldsWrong plan facts mid.files → HoldsWrong plan facts new.files
        stays facts first keeps holds r row wrong known i below =
            keeps.bytes r (facts.stripe * size + i) _
            (λ stripe (other, is_one, number, is_wrong).
            let less = precede facts other first is_one in
            apart size size facts.stripe stripe i refl (λ same. omega (arith, less, number, same)) below)
            (holds r row wrong known i below)

    pub holds_append : (mid new : VaultView) → Precede xs ys → MendsVault plan ys mid new → HoldAllWrong plan xs mid → HoldAllWrong plan ys new → HoldAllWrong plan (xs ++ ys) new
    holds_append mid new precede mends one two told =
        All-append (λ (facts : StripeFacts). HoldsWrong plan facts new.files) xs ys (holds_still mid new precede mends one told) (two told)

  -- ---- what was read later

  -- what a level gives of a stripe, it gave before earlier ones were written
  module _ (xs : List StripeFacts) (stripe r : ℕ) (old mid : VaultView) (mends : MendsVault plan xs old mid) (earlier : (one : StripeFacts) → Contains xs one → one.stripe < stripe) where
    behind : (other : ℕ) → IsMendedLevel plan xs r other → other * size + size ≤ stripe * size
    behind other (facts, is_one, number, wrong) =
        let before = earlier facts is_one in
        row_fits other size stripe size (omega (arith, before, number)) (omega arith)

    outside_before : (i : ℕ) → stripe * size ≤ i → Outside xs r i
    outside_before i from other is = let less = behind other is in inr (omega (arith, from, less))

    there : IsTrue old.tells → (i x : ℕ) → stripe * size ≤ i → i < stripe * size + size → HasByte (parity_of old.files r) i x → HasByte (parity_of mid.files r) i x
    there told i x from below has = (mends.changes.reads told).bytes r i x (outside_before i from) has

    was_there : (i x : ℕ) → stripe * size ≤ i → HasByte (parity_of old.files r) i x ⊎ Grown xs r i → HasByte (parity_of old.files r) i x
    was_there i x from (inl was) = was
    was_there i x from (inr (other, is, short)) = let less = behind other is in absurd (omega (arith, from, less, short))

    back : IsTrue old.tells → (i x : ℕ) → stripe * size ≤ i → i < stripe * size + size → HasByte (parity_of mid.files r) i x → HasByte (parity_of old.files r) i x
    back told i x from below has = was_there i x from ((mends.changes.reads told).grown r i x (outside_before i from) has)

    level_before : (reading : LevelReading) → IsReadingOf mid size stripe r reading → IsReadingOf old size stripe r reading
    level_before None read = tt
    level_before (Some bytes) (few, is) = (
      few,
      λ told. is (mends.calls.goes_on.tells ∙ told)
          ∙ sym (read_alike (parity_of old.files r) (parity_of mid.files r) (stripe * size) size (there told) (back told)),
    )

  pub levels_before : (xs ys : List StripeFacts) (old mid : VaultView) → MendsVault plan xs old mid → Precede xs ys → (readings : List (List LevelReading))
      → AreAllLevelsOf plan.table.shape.block_size mid ys readings → AreAllLevelsOf plan.table.shape.block_size old ys readings
  levels_before xs [] old mid mends precede [] are = tt
  levels_before xs [] old mid mends precede (of ∷ readings) are = absurd are
  levels_before xs (facts ∷ ys) old mid mends precede [] are = absurd are
  levels_before xs (facts ∷ ys) old mid mends precede (of ∷ readings) (first, rest) = (
    record {
      as_many = first.as_many;
      are_kept = first.are_kept;
      are_of = λ r below. level_before xs facts.stripe r old mid mends
          (λ one is_one. precede one facts is_one (Contains-append_left (facts ∷ []) ys facts (0, omega arith, refl))) (get_or of r None) (first.are_of r below);
    },
    levels_before xs ys old mid mends (λ one other is_one behind. precede one other is_one (Contains-append_right (facts ∷ []) ys other behind)) readings rest,
  )
