-- Parts behind the end of a level are emptied, and the part where it ends is made ready.
use Rattle.std.proofs.Common.{◌≡◌, inl, inr, ◌⊎◌, ⊎_elim, ℕ, ◌+◌, ◌*◌, ◌<◌, ◌≤◌, List, [], length, set, IsTrue, sym, ◌∙◌, ap, subst, arith, get_or}
use Rattle.std.proofs.lemmas.Bool.{cases_lt}
use Rattle.std.proofs.lemmas.List.{get_or_past, get_or-set_same}
use Rattle.disk_model.specs.Bytes.{Torn, Stretched, resized}
use Rattle.disk_model.specs.Files.{parity_of}
use Rattle.disk_model.specs.Vault.{VaultView, Reads, Holds, IsWellFormed}
use Rattle.disk_model.proofs.BytesLemmas.{length-resized}
use Rattle.parity_split.specs.Joined.{joined, part_of}
use Rattle.parity_split.specs.Parts.{InStep, IsNear, IsReady}
use Rattle.parity_split.specs.Values.{SameValues, IsResized}
use Rattle.parity_split.specs.Works.{Works, HoldsOf, LevelBy, IsWithin, SameFrom, EmptyFrom, HasBytes, Same, parts_in}
use Rattle.parity_split.specs.declared.parts.End.{End}
use Rattle.parity_split.specs.declared.parts.Parts.{Parts}
use Rattle.parity_split.proofs.PartsLemmas.{near_of_ready, ready_hidden, ready_from, ready_more, in_step_ready, in_step_near, other_part, in_step_after, near_up}
use Rattle.parity_split.proofs.StepLemmas.{hidden_same, ready_filled, ready_resized, ready_room}
use Rattle.parity_split.proofs.PieceLemmas.{growth_wider}
use Rattle.parity_split.proofs.ValueLemmas.{resized_values}
use Rattle.parity_split.proofs.WorksLemmas.{OnePart, part_works, part_holds, part_holds_read, in_count, holds_with, holds_more, part_is, parts_set}

pub same_then : (x y z : List ℕ) → Same x y → Same y z → Same x z
same_then x y z one two = two ∙ one

module _ (p : Parts) where
  pub hidden_works : (end j : ℕ) (old new : VaultView) → IsWellFormed old → IsWithin p old.levels → end < j → j < p.count → HoldsOf p (IsReady p.capacity end 0) old → Works (OnePart p j (Stretched 0)) old new → Works (LevelBy p Same) old new
  hidden_works end j old new formed within behind_ low ready works =
      part_works p j (Stretched 0) (λ r b. IsReady p.capacity end 0 r b × (length r ≡ p.count)) old new low formed within
      (holds_with p (IsReady p.capacity end 0) (λ r b. IsReady p.capacity end 0 r b × (length r ≡ p.count)) (λ r. Unit {0}) old formed within (λ t. tt) (λ r b count a own held. (held, count)) ready)
      Same (λ r b part held cut. hidden_same p.capacity within.capacity end j r b part behind_ (omega (arith, held.1)) (near_of_ready p.capacity within.capacity end 0 r b held.0) cut) works

  pub hidden_ready : (end j : ℕ) (old new : VaultView) → IsWellFormed old → IsWithin p old.levels → end < j → j < p.count → HoldsOf p (IsReady p.capacity end 0) old → Works (OnePart p j (Stretched 0)) old new → HoldsOf p (IsReady p.capacity end 0) new
  hidden_ready end j old new formed within behind_ low ready works =
      part_holds p j (Stretched 0) (IsReady p.capacity end 0) old new low formed within ready
      (IsReady p.capacity end 0) (λ r b read part own held cut_read cut. ready_hidden p.capacity within.capacity end j 0 r b read part held behind_ cut) works

  pub hidden_others : (j : ℕ) (step : List ℕ → List ℕ → Type 0) (old new : VaultView) → j < p.count → Works (OnePart p j step) old new → Reads (λ files. (k : ℕ) → EmptyFrom k j (parts_in p old.files) → EmptyFrom k j (parts_in p files)) new
  hidden_others j step old new low works t k empty m from to =
      let was : IsTrue old.tells = sym works.calls.goes_on.tells ∙ t in
      let one = works.changes.reads was in
      let ne : m ≡ j → ⊥ = (λ e. omega arith) in
      ap (λ x. length (part_of x m)) (ap (parts_in p) one.rest ∙ parts_set p old.files j one.part low) ∙ other_part (parts_in p old.files) j m one.part ne ∙ empty m from to

  pub emptied_one : (j : ℕ) (x : List ℕ) (new : VaultView) → j < p.count → Reads (λ files. parity_of files (p.first + j) ≡ resized x 0) new → Reads (λ files. EmptyFrom j (j + 1) (parts_in p files)) new
  emptied_one j x new low written t m from to =
      let e : m ≡ j = omega arith in
      subst (λ k. length (part_of (parts_in p new.files) k) ≡ 0) (sym e) (ap length (part_is p new.files j low ∙ written t) ∙ length-resized x 0)

  pub empty_one : (j : ℕ) (v : VaultView) → j < p.count → Reads (λ files. length (parity_of files (p.first + j)) ≡ 0) v → Reads (λ files. EmptyFrom j (j + 1) (parts_in p files)) v
  empty_one j v low none t m from to =
      let e : m ≡ j = omega arith in
      subst (λ k. length (part_of (parts_in p v.files) k) ≡ 0) (sym e) (ap length (part_is p v.files j low) ∙ none t)

  pub cleared_all : (from to : ℕ) (old new : VaultView) → IsWellFormed new → new.tells ≡ old.tells → Reads (λ files. EmptyFrom from to (parts_in p files)) old
      → Holds (λ files. SameFrom from to (parts_in p old.files) (parts_in p files)) new → HoldsOf p (λ reads left. EmptyFrom from to left) new
  cleared_all from to old new formed tells empty same = record {
    reads = λ t j low high. ap length (same.reads t j low high) ∙ empty (sym tells ∙ t) j low high;
    leaves = λ told files left j low high. ap length (same.leaves told files left j low high) ∙ empty (sym tells ∙ formed.tells told) j low high;
  }

  pub ready_as_is : (end : End) (v : VaultView) → IsWellFormed v → IsWithin p v.levels → (0 < end.len) ⊎ (end.part ≡ 0) → Reads (HasBytes p end) v → HoldsOf p (IsNear p.capacity end.part) v → HoldsOf p (IsReady p.capacity end.part 0) v
  ready_as_is end v formed within case held near =
      holds_with p (IsNear p.capacity end.part) (IsReady p.capacity end.part 0) (λ r. 0 < end.len → 0 < length (part_of r end.part)) v formed within held
      (λ r b count bytes own n. ready_from p.capacity within.capacity end.part 0 r b n
      (λ j e. ⊎_elim (λ some. n.solid j e (bytes some)) (λ none. absurd (omega arith)) case)
      (λ more high. let k = within.capacity in absurd (omega arith))) near

  pub ready_synced : (part j : ℕ) (v : VaultView) → IsWellFormed v → IsWithin p v.levels → j + 1 ≡ part → HoldsOf p (λ r b. IsNear p.capacity part r b × (part_of b j ≡ part_of r j)) v → HoldsOf p (IsReady p.capacity part 0) v
  ready_synced part j v formed within e held =
      holds_with p (λ r b. IsNear p.capacity part r b × (part_of b j ≡ part_of r j)) (IsReady p.capacity part 0) (λ r. Unit {0}) v formed within (λ t. tt)
      (λ r b count a own n. ready_from p.capacity within.capacity part 0 r b n.0
      (λ k ek. let same : k ≡ j = omega arith in subst (λ m. p.capacity ≤ length (part_of b m)) (sym same) (subst (λ x. p.capacity ≤ length x) (sym n.1) (own.0.read j (omega arith))))
      (λ more high. let z = within.capacity in absurd (omega arith))) held

  pub ready_small : (part len : ℕ) (v : VaultView) → IsWellFormed v → IsWithin p v.levels → (part + 1 < p.count → len < p.capacity) → HoldsOf p (IsReady p.capacity part 0) v → HoldsOf p (IsReady p.capacity part len) v
  ready_small part len v formed within small ready =
      holds_with p (IsReady p.capacity part 0) (IsReady p.capacity part len) (λ r. Unit {0}) v formed within (λ t. tt)
      (λ r b count a own n. ready_more p.capacity within.capacity part len r b n (λ more. inl (small (omega arith)))) ready

  pub ready_cleared : (part len : ℕ) (v : VaultView) → IsWellFormed v → IsWithin p v.levels → HoldsOf p (λ reads left. EmptyFrom (part + 1) p.count left) v → HoldsOf p (IsReady p.capacity part 0) v → HoldsOf p (IsReady p.capacity part len) v
  ready_cleared part len v formed within cleared ready = record {
    reads = λ t. (both cleared ready).reads t;
    leaves = λ told files left. (both cleared ready).leaves told files left;
  }
    where
      both : HoldsOf p (λ reads left. EmptyFrom (part + 1) p.count left) v → HoldsOf p (IsReady p.capacity part 0) v → HoldsOf p (IsReady p.capacity part len) v
      both c r = holds_with p (λ reads left. EmptyFrom (part + 1) p.count left × IsReady p.capacity part 0 reads left) (IsReady p.capacity part len) (λ x. Unit {0}) v formed within (λ t. tt)
          (λ reads left count a own n. ready_more p.capacity within.capacity part len reads left n.1 (λ more. inr (n.0 (part + 1) (omega arith) (omega arith))))
          (record { reads = λ t. (c.reads t, r.reads t); leaves = λ told files l. (c.leaves told files l, r.leaves told files l) })

  pub near_keeps : (part : ℕ) (v : VaultView) → IsWellFormed v → IsWithin p v.levels → HoldsOf p (IsNear p.capacity part) v → HoldsOf p (InStep p.capacity) v
  near_keeps part v formed within near = holds_more p (IsNear p.capacity part) (InStep p.capacity) v formed (λ r b own n. in_step_near p.capacity within.capacity part r b own n) near

  pub ready_keeps : (part len : ℕ) (v : VaultView) → IsWellFormed v → IsWithin p v.levels → HoldsOf p (IsReady p.capacity part len) v → HoldsOf p (InStep p.capacity) v
  ready_keeps part len v formed within ready = holds_more p (IsReady p.capacity part len) (InStep p.capacity) v formed (λ r b own n. in_step_ready p.capacity within.capacity part len r b own n) ready

  -- a part that is ready to be full was filled, or something of that was done
  pub filled_works : (part len : ℕ) (old new : VaultView) → IsWellFormed old → IsWithin p old.levels → part + 1 < p.count → part * p.capacity + p.capacity ≤ len → HoldsOf p (IsReady p.capacity part p.capacity) old → Works (OnePart p part (Stretched p.capacity)) old new → Works (LevelBy p (Torn len 0)) old new
  filled_works part len old new formed within more room ready works =
      part_works p part (Stretched p.capacity) (λ r b. IsReady p.capacity part p.capacity r b × (length r ≡ p.count)) old new (omega arith) formed within
      (holds_with p (IsReady p.capacity part p.capacity) (λ r b. IsReady p.capacity part p.capacity r b × (length r ≡ p.count)) (λ r. Unit {0}) old formed within (λ t. tt) (λ r b count a own held. (held, count)) ready)
      (Torn len 0) (λ r b bytes held stretched. growth_wider (part * p.capacity + p.capacity) len (joined p.capacity b) (joined p.capacity (set b part bytes)) room
      (ready_filled p.capacity within.capacity part r b bytes (omega (arith, held.1)) held.0 stretched)) works

  pub filled_keeps : (part : ℕ) (old new : VaultView) → IsWellFormed old → IsWithin p old.levels → part < p.count → HoldsOf p (IsReady p.capacity part p.capacity) old → Works (OnePart p part (Stretched p.capacity)) old new → HoldsOf p (InStep p.capacity) new
  filled_keeps part old new formed within low ready works =
      part_holds p part (Stretched p.capacity) (IsReady p.capacity part p.capacity) old new low formed within ready (InStep p.capacity)
      (λ r b read bytes own held one two. in_step_after p.capacity within.capacity part p.capacity r b read bytes own held (omega (arith, one.no_longer)) (omega (arith, two.no_longer))) works

  pub filled_near : (part : ℕ) (x : List ℕ) (old new : VaultView) → IsWellFormed old → IsWithin p old.levels → part + 1 < p.count → HoldsOf p (IsReady p.capacity part p.capacity) old → Works (OnePart p part (Stretched p.capacity)) old new
      → Reads (λ files. parity_of files (p.first + part) ≡ resized x p.capacity) new → HoldsOf p (IsNear p.capacity (part + 1)) new
  filled_near part x old new formed within more ready works written =
      part_holds_read p part (Stretched p.capacity) (λ r b. IsReady p.capacity part p.capacity r b × (length r ≡ p.count)) old new (omega arith) formed within
      (holds_with p (IsReady p.capacity part p.capacity) (λ r b. IsReady p.capacity part p.capacity r b × (length r ≡ p.count)) (λ r. Unit {0}) old formed within (λ t. tt) (λ r b count a own held. (held, count)) ready)
      (IsNear p.capacity (part + 1)) (λ y. y ≡ resized x p.capacity) written
      (λ r b read bytes own held one two is. near_up p.capacity within.capacity part r b read bytes own.0 held.0 (omega (arith, held.1)) (let l : length read ≡ p.capacity = ap length is ∙ length-resized x p.capacity in omega arith)) works

  pub filled_same : (part : ℕ) (old new : VaultView) → IsWellFormed old → IsWithin p old.levels → part + 1 < p.count → HoldsOf p (IsReady p.capacity part p.capacity) old → Works (OnePart p part (Stretched p.capacity)) old new
      → Reads (λ files. parity_of files (p.first + part) ≡ resized (parity_of old.files (p.first + part)) p.capacity) new → Reads (λ files. SameValues (joined p.capacity (parts_in p old.files)) (joined p.capacity (parts_in p files))) new
  filled_same part old new formed within more ready works written t =
      let was : IsTrue old.tells = sym works.calls.goes_on.tells ∙ t in
      let one = works.changes.reads was in
      let r = parts_in p old.files in
      let count = in_count p old.files old.levels within (formed.shape was).files.parities in
      let x = parity_of old.files (p.first + part) in
      let low : part < p.count = omega arith in
      let own = ready.reads was in
      let is : one.part ≡ resized (part_of r part) p.capacity =
      sym (get_or-set_same old.files.parities (p.first + part) one.part [] (omega (arith, within.within, (formed.shape was).files.parities)))
      ∙ ap (λ f. parity_of f (p.first + part)) (sym one.rest) ∙ written t ∙ ap (λ y. resized y p.capacity) (sym (part_is p old.files part low)) in
      let value = ready_resized p.capacity within.capacity part p.capacity r r one.part (λ m. omega arith) own (subst (λ y. IsResized p.capacity (part_of r part) y) (sym is) (resized_values p.capacity (part_of r part))) in
      let room = ready_room p.capacity within.capacity part p.capacity r r (omega arith) own in
      let now : parts_in p new.files ≡ set r part one.part = ap (parts_in p) one.rest ∙ parts_set p old.files part one.part low in
      subst (λ y. SameValues (joined p.capacity r) (joined p.capacity y)) (sym now)
      (λ i. ⊎_elim (λ below. value.same i below) (λ past. get_or_past (joined p.capacity (set r part one.part)) i 0 (omega (arith, value.long)) ∙ sym (get_or_past (joined p.capacity r) i 0 (omega arith))) (cases_lt i (part * p.capacity + p.capacity)))

  pub ready_lower : (part len less : ℕ) (v : VaultView) → IsWellFormed v → less ≤ len → HoldsOf p (IsReady p.capacity part len) v → HoldsOf p (IsReady p.capacity part less) v
  ready_lower part len less v formed low ready = record {
    reads = λ t. lower (ready.reads t);
    leaves = λ told files left. lower (ready.leaves told files left);
  }
    where
      lower : {r b : List (List ℕ)} → IsReady p.capacity part len r b → IsReady p.capacity part less r b
      lower is = record { within = is.within; same_count = is.same_count; read = is.read; full = is.full; next = λ more long. is.next more (omega arith) }

  pub same_values_then : (old mid new : VaultView) → mid.tells ≡ old.tells → new.tells ≡ mid.tells
      → Reads (λ files. SameValues (joined p.capacity (parts_in p old.files)) (joined p.capacity (parts_in p files))) mid
      → Reads (λ files. SameValues (joined p.capacity (parts_in p mid.files)) (joined p.capacity (parts_in p files))) new
      → Reads (λ files. SameValues (joined p.capacity (parts_in p old.files)) (joined p.capacity (parts_in p files))) new
  same_values_then old mid new one two first second t i = second t i ∙ first (sym two ∙ t) i

  pub same_values_by : (old new : VaultView) → Works (LevelBy p Same) old new → Reads (λ files. SameValues (joined p.capacity (parts_in p old.files)) (joined p.capacity (parts_in p files))) new
  same_values_by old new works t i = let was : IsTrue old.tells = sym works.calls.goes_on.tells ∙ t in ap (λ x. get_or x i 0) (works.changes.reads was).inside
