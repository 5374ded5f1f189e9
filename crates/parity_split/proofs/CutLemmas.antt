-- Parts are emptied from the end of a level on.
use Rattle.std.proofs.Common.{◌≡◌, ⊎_elim, ℕ, ◌+◌, ◌*◌, ◌<◌, ◌≤◌, min, List, [], length, set, IsTrue, sym, ◌∙◌, ap, subst, arith}
use Rattle.std.proofs.lemmas.Bool.{cases_eq}
use Rattle.std.proofs.lemmas.List.{get_or-set_same}
use Rattle.disk_model.specs.Bytes.{Stretched, resized}
use Rattle.disk_model.specs.Files.{Files, Stays, parity_of}
use Rattle.disk_model.specs.Vault.{VaultView, Reads, IsWellFormed}
use Rattle.disk_model.proofs.BytesLemmas.{length-resized}
use Rattle.parity_split.specs.Joined.{joined, part_of}
use Rattle.parity_split.specs.Parts.{InStep, IsNear, IsReady}
use Rattle.parity_split.specs.Values.{SameBelow, IsResized}
use Rattle.parity_split.specs.Works.{Works, HoldsOf, LevelBy, IsWithin, HoldsSome, IsCutAt, parts_in}
use Rattle.parity_split.specs.declared.parts.End.{End}
use Rattle.parity_split.specs.declared.parts.Parts.{Parts}
use Rattle.parity_split.proofs.PartsLemmas.{in_step_after, near_emptied, near_down, ready_from}
use Rattle.parity_split.proofs.StepLemmas.{ready_emptied, ready_resized}
use Rattle.parity_split.proofs.ValueLemmas.{resized_values}
use Rattle.parity_split.proofs.WorksLemmas.{OnePart, part_works, part_holds, part_holds_read, in_count, holds_with, part_is, parts_set, reads_still}

module _ (p : Parts) where
  -- a part with bytes in it is ready for fewer
  pub ready_to_cut : (end : End) (len : ℕ) (v : VaultView) → IsWellFormed v → IsWithin p v.levels → 0 < end.len → (end.part + 1 < p.count → len < p.capacity) → Reads (HoldsSome p end) v → HoldsOf p (IsNear p.capacity end.part) v → HoldsOf p (IsReady p.capacity end.part len) v
  ready_to_cut end len v formed within some small held near =
      holds_with p (IsNear p.capacity end.part) (IsReady p.capacity end.part len) (λ r. end.len ≤ length (part_of r end.part)) v formed within (λ t. (held t).some)
      (λ r b count long own n. ready_from p.capacity within.capacity end.part len r b n (λ j e. n.solid j e (omega arith)) (λ more high. let s = small (omega arith) in absurd (omega arith))) near

  pub emptied_works : (part len : ℕ) (old new : VaultView) → IsWellFormed old → IsWithin p old.levels → part < p.count → len ≤ part * p.capacity → HoldsOf p (IsReady p.capacity part 0) old → Works (OnePart p part (Stretched 0)) old new → Works (LevelBy p (Stretched len)) old new
  emptied_works part len old new formed within low room ready works =
      part_works p part (Stretched 0) (IsReady p.capacity part 0) old new low formed within ready
      (Stretched len) (λ r b bytes held stretched. StepLemma r b bytes held stretched) works
    where
      StepLemma : (r b : List (List ℕ)) (bytes : List ℕ) → IsReady p.capacity part 0 r b → Stretched 0 (part_of b part) bytes → Stretched len (joined p.capacity b) (joined p.capacity (set b part bytes))
      StepLemma r b bytes held stretched = ready_emptied p.capacity within.capacity part len r b bytes room held stretched

  pub stretched_keeps : (part len : ℕ) (old new : VaultView) → IsWellFormed old → IsWithin p old.levels → part < p.count → HoldsOf p (IsReady p.capacity part len) old → Works (OnePart p part (Stretched len)) old new → HoldsOf p (InStep p.capacity) new
  stretched_keeps part len old new formed within low ready works =
      part_holds p part (Stretched len) (IsReady p.capacity part len) old new low formed within ready (InStep p.capacity)
      (λ r b read bytes own held one two. in_step_after p.capacity within.capacity part len r b read bytes own held (omega (arith, one.no_longer)) (omega (arith, two.no_longer))) works

  pub emptied_near : (part : ℕ) (x : List ℕ) (old new : VaultView) → IsWellFormed old → IsWithin p old.levels → part < p.count → HoldsOf p (IsReady p.capacity part 0) old → Works (OnePart p part (Stretched 0)) old new
      → Reads (λ files. parity_of files (p.first + part) ≡ resized x 0) new → HoldsOf p (IsNear p.capacity part) new
  emptied_near part x old new formed within low ready works written =
      part_holds_read p part (Stretched 0) (IsReady p.capacity part 0) old new low formed within ready
      (IsNear p.capacity part) (λ y. y ≡ resized x 0) written
      (λ r b read bytes own held one two is. near_emptied p.capacity within.capacity part r b read bytes own held (ap length is ∙ length-resized x 0) two) works

  -- what a change of the length of a part, as it reads, makes of the level
  pub resized_level : (part len : ℕ) (old new : VaultView) → IsWellFormed old → IsWithin p old.levels → part < p.count → (part + 1 < p.count → len ≤ p.capacity) → HoldsOf p (IsReady p.capacity part len) old → Works (OnePart p part (Stretched len)) old new
      → Reads (λ files. parity_of files (p.first + part) ≡ resized (parity_of old.files (p.first + part)) len) new → Reads (λ files. IsResized (part * p.capacity + len) (joined p.capacity (parts_in p old.files)) (joined p.capacity (parts_in p files))) new
  resized_level part len old new formed within low room ready works written t =
      let was : IsTrue old.tells = sym works.calls.goes_on.tells ∙ t in
      let one = works.changes.reads was in
      let r = parts_in p old.files in
      let count = in_count p old.files old.levels within (formed.shape was).files.parities in
      let own = ready.reads was in
      let is : one.part ≡ resized (part_of r part) len =
      sym (get_or-set_same old.files.parities (p.first + part) one.part [] (omega (arith, within.within, (formed.shape was).files.parities)))
      ∙ ap (λ f. parity_of f (p.first + part)) (sym one.rest) ∙ written t ∙ ap (λ y. resized y len) (sym (part_is p old.files part low)) in
      let value = ready_resized p.capacity within.capacity part len r r one.part (λ m. room (omega arith)) own (subst (λ y. IsResized len (part_of r part) y) (sym is) (resized_values len (part_of r part))) in
      let now : parts_in p new.files ≡ set r part one.part = ap (parts_in p) one.rest ∙ parts_set p old.files part one.part low in
      subst (λ y. IsResized (part * p.capacity + len) (joined p.capacity r) (joined p.capacity y)) (sym now) value

  pub none_left : (part : ℕ) (x : List ℕ) (new : VaultView) → part < p.count → Reads (λ files. parity_of files (p.first + part) ≡ resized x 0) new → Reads (λ files. length (part_of (parts_in p files) part) ≡ 0) new
  none_left part x new low written t = ap length (part_is p new.files part low ∙ written t) ∙ length-resized x 0

  -- the part before one that is empty, also in what a stop may leave
  pub near_before_empty : (part : ℕ) (v : VaultView) → IsWellFormed v → IsWithin p v.levels → Reads (λ files. length (part_of (parts_in p files) part) ≡ 0) v
      → HoldsOf p (λ r b. IsNear p.capacity part r b × (part_of b part ≡ part_of r part)) v → HoldsOf p (λ r b. (i : ℕ) → i + 1 ≡ part → IsNear p.capacity i r b) v
  near_before_empty part v formed within none held =
      holds_with p (λ r b. IsNear p.capacity part r b × (part_of b part ≡ part_of r part)) (λ r b. (i : ℕ) → i + 1 ≡ part → IsNear p.capacity i r b) (λ r. length (part_of r part) ≡ 0) v formed within none
      (λ r b count empty own n i e. near_down p.capacity within.capacity i r b
      (subst (λ k. IsNear p.capacity k r b) (sym e) n.0)
      (subst (λ k. length (part_of b k) ≡ 0) (sym e) (ap length n.1 ∙ empty))) held

  pub none_still : (part : ℕ) (old new : VaultView) → Works Stays old new → Reads (λ files. length (part_of (parts_in p files) part) ≡ 0) old → Reads (λ files. length (part_of (parts_in p files) part) ≡ 0) new
  none_still part old new works none = reads_still (λ files. length (part_of (parts_in p files) part) ≡ 0) old new works none

  pub same_below_still : (n : ℕ) (files : Files) (old new : VaultView) → Works Stays old new
      → Reads (λ now. SameBelow n (joined p.capacity (parts_in p files)) (joined p.capacity (parts_in p now))) old
      → Reads (λ now. SameBelow n (joined p.capacity (parts_in p files)) (joined p.capacity (parts_in p now))) new
  same_below_still n files old new works same = reads_still (λ now. SameBelow n (joined p.capacity (parts_in p files)) (joined p.capacity (parts_in p now))) old new works same

  pub same_below_then : (n m : ℕ) (files : Files) (old new : VaultView) → n ≤ m → new.tells ≡ old.tells
      → Reads (λ now. SameBelow n (joined p.capacity (parts_in p files)) (joined p.capacity (parts_in p now))) old
      → Reads (λ now. SameBelow m (joined p.capacity (parts_in p old.files)) (joined p.capacity (parts_in p now))) new
      → Reads (λ now. SameBelow n (joined p.capacity (parts_in p files)) (joined p.capacity (parts_in p now))) new
  same_below_then n m files old new low tells one two t i below = two t i (omega arith) ∙ one (sym tells ∙ t) i below

  -- a length that ends before a part ends before some part
  pub some_part : (len part limit : ℕ) → len < min (part * p.capacity) limit → 0 < part
  some_part len part limit below = ⊎_elim
      (λ none. let m : part * p.capacity ≡ 0 = ap (λ k. k * p.capacity) none ∙ zero_times in absurd (omega arith))
      (λ ne. omega arith)
      (cases_eq part 0)
    where
      zero_times : 0 * p.capacity ≡ 0
      zero_times = omega arith

  -- the place in the part before an emptied one
  pub place_below : (end : End) (len i : ℕ) → i + 1 ≡ end.part → len < end.part * p.capacity → end.part < p.count → IsCutAt p (record { part = i; len = p.capacity }) len
  place_below end len i e below within = record {
    within = omega arith;
    below = (let m : end.part * p.capacity ≡ i * p.capacity + p.capacity = ap (λ k. k * p.capacity) (sym e) ∙ more in omega arith);
    room = λ more. omega arith;
  }
    where
      more : (i + 1) * p.capacity ≡ i * p.capacity + p.capacity
      more = omega arith

  pub holds_full : (part : ℕ) (v : VaultView) → 0 < p.capacity → Reads (λ files. p.capacity ≤ length (part_of (parts_in p files) part)) v → Reads (HoldsSome p (record { part = part; len = p.capacity })) v
  holds_full part v some full t = record { some = full t; none = λ z. absurd (omega arith) }

  -- at the place below, once a part was emptied
  pub near_at_step : (part i : ℕ) (v : VaultView) → i + 1 ≡ part → HoldsOf p (λ r b. (k : ℕ) → k + 1 ≡ part → IsNear p.capacity k r b) v → HoldsOf p (IsNear p.capacity i) v
  near_at_step part i v e holds = record { reads = λ t. holds.reads t i e; leaves = λ told files left. holds.leaves told files left i e }

  pub full_at_step : (part i : ℕ) (v : VaultView) → i + 1 ≡ part → Reads (λ files. (k : ℕ) → k + 1 ≡ part → p.capacity ≤ length (part_of (parts_in p files) k)) v → Reads (λ files. p.capacity ≤ length (part_of (parts_in p files) i)) v
  full_at_step part i v e full t = full t i e
