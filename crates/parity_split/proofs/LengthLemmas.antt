-- The length of a level is changed by that of one part.
use Rattle.std.proofs.Common.{◌≡◌, ℕ, ◌+◌, ◌*◌, ◌-◌, ◌<◌, ◌≤◌, length, set, IsTrue, min, ◌^◌, refl, sym, ◌∙◌, subst, arith}
use Rattle.disk_model.specs.Bytes.{Stretched}
use Rattle.disk_model.specs.Files.{Stays}
use Rattle.disk_model.specs.Vault.{VaultView, Reads, IsWellFormed}
use Rattle.parity_split.specs.Joined.{joined, level_bytes}
use Rattle.parity_split.specs.Parts.{IsEnd, IsNear, InStep, IsReady}
use Rattle.parity_split.specs.Values.{SameBelow, IsResized}
use Rattle.parity_split.specs.Works.{Works, HoldsOf, LevelBy, IsWithin, IsFound, HasBytes, HoldsSome, parts_in}
use Rattle.parity_split.specs.declared.parts.End.{End}
use Rattle.parity_split.specs.declared.parts.Parts.{Parts}
use Rattle.parity_split.proofs.StepLemmas.{ready_stretched, end_length}
use Rattle.std.proofs.lemmas.List.{length-take}
use Rattle.parity_split.proofs.ValueLemmas.{resized_take}
use Rattle.parity_split.proofs.WorksLemmas.{OnePart, part_works, holds_with}

module _ (p : Parts) where
  pub stretch_works : (part len whole : ℕ) (old new : VaultView) → IsWellFormed old → IsWithin p old.levels → part < p.count → (part + 1 < p.count → len ≤ p.capacity) → part * p.capacity + len ≡ whole
      → HoldsOf p (IsReady p.capacity part len) old → Works (OnePart p part (Stretched len)) old new → Works (LevelBy p (Stretched whole)) old new
  stretch_works part len whole old new formed within low room is ready works =
      part_works p part (Stretched len) (λ r b. IsReady p.capacity part len r b × (length r ≡ p.count)) old new low formed within
      (holds_with p (IsReady p.capacity part len) (λ r b. IsReady p.capacity part len r b × (length r ≡ p.count)) (λ r. Unit {0}) old formed within (λ t. tt) (λ r b count a own held. (held, count)) ready)
      (Stretched whole)
      (λ r b bytes held stretched. subst (λ n. Stretched n (joined p.capacity b) (joined p.capacity (set b part bytes))) is
      (ready_stretched p.capacity within.capacity part len r b bytes (λ more. room (omega (arith, held.1))) held.0 stretched)) works

  -- a length after values that stayed below it
  pub resized_after : (len n : ℕ) (old mid new : VaultView) → n ≡ len → new.tells ≡ mid.tells
      → Reads (λ files. SameBelow len (joined p.capacity (parts_in p old.files)) (joined p.capacity (parts_in p files))) mid
      → Reads (λ files. IsResized n (joined p.capacity (parts_in p mid.files)) (joined p.capacity (parts_in p files))) new
      → Reads (λ files. IsResized len (joined p.capacity (parts_in p old.files)) (joined p.capacity (parts_in p files))) new
  resized_after len n old mid new e tells same resized t = record {
    long = (resized t).long ∙ e;
    same = λ i below. (resized t).same i (omega arith) ∙ same (sym tells ∙ t) i below;
  }

  pub found_has : (end : End) (v : VaultView) → Reads (IsFound p end) v → Reads (HasBytes p end) v
  found_has end v found t some = omega (arith, (found t).len)

  pub found_holds : (end : End) (v : VaultView) → Reads (IsFound p end) v → Reads (HoldsSome p end) v
  found_holds end v found t = record { some = omega (arith, (found t).len); none = λ z. sym (found t).len ∙ z }

  -- the level ends near the place that was found
  pub near_found : (end : End) (v : VaultView) → IsWellFormed v → IsWithin p v.levels → Reads (IsFound p end) v → HoldsOf p (InStep p.capacity) v → HoldsOf p (IsNear p.capacity end.part) v
  near_found end v formed within found in_step =
      holds_with p (InStep p.capacity) (IsNear p.capacity end.part) (IsEnd p.capacity end.part) v formed within (λ t. (found t).is) (λ r b count is own n. n end.part is) in_step

  -- the only part of a level is ready for any length
  pub ready_alone : (len : ℕ) (v : VaultView) → IsWellFormed v → IsWithin p v.levels → p.count ≡ 1 → HoldsOf p (InStep p.capacity) v → HoldsOf p (IsReady p.capacity 0 len) v
  ready_alone len v formed within alone in_step =
      holds_with p (InStep p.capacity) (IsReady p.capacity 0 len) (λ r. Unit {0}) v formed within (λ t. tt)
      (λ r b count a own n.
      let near = n 0 (record { within = omega arith; full = λ j below. absurd (omega arith); ends = λ more. absurd (omega arith) }) in
      record { within = near.within; same_count = near.same_count; read = near.read; full = λ j below. absurd (omega arith); next = λ more long. absurd (omega arith) }) in_step

  pub level_resized : (len : ℕ) (old new : VaultView) → len ≤ 2 ^ 64 - 1 → Reads (λ files. IsResized len (joined p.capacity (parts_in p old.files)) (joined p.capacity (parts_in p files))) new
      → Reads (λ files. IsResized len (level_bytes p.capacity (parts_in p old.files)) (level_bytes p.capacity (parts_in p files))) new
  level_resized len old new room is t = resized_take (2 ^ 64 - 1) len _ _ room (is t)

  -- a level that has this length already
  pub level_as_long : (end : End) (len : ℕ) (old new : VaultView) → IsWithin p old.levels → Works Stays old new → len ≡ min (end.part * p.capacity + end.len) (2 ^ 64 - 1) → Reads (IsFound p end) old
      → Reads (λ files. IsResized len (level_bytes p.capacity (parts_in p old.files)) (level_bytes p.capacity (parts_in p files))) new
  level_as_long end len old new within works is found t =
      let was : IsTrue old.tells = sym works.calls.goes_on.tells ∙ t in
      let x = joined p.capacity (parts_in p old.files) in
      let long = end_length p.capacity within.capacity end.part (parts_in p old.files) (found was).is in
      subst (λ files. IsResized len (level_bytes p.capacity (parts_in p old.files)) (level_bytes p.capacity (parts_in p files))) (sym (works.changes.reads was))
      (record { long = (let a = length-take (2 ^ 64 - 1) x in omega (arith, (found was).len)); same = λ i below. refl })

  pub level_resized_after : (len : ℕ) (old mid new : VaultView) → len ≤ 2 ^ 64 - 1 → Works Stays old mid → new.tells ≡ mid.tells → Reads (λ files. IsResized len (joined p.capacity (parts_in p mid.files)) (joined p.capacity (parts_in p files))) new
      → Reads (λ files. IsResized len (level_bytes p.capacity (parts_in p old.files)) (level_bytes p.capacity (parts_in p files))) new
  level_resized_after len old mid new room works tells is t =
      let was : IsTrue old.tells = sym (tells ∙ works.calls.goes_on.tells) ∙ t in
      subst (λ files. IsResized len (level_bytes p.capacity (parts_in p files)) (level_bytes p.capacity (parts_in p new.files))) (works.changes.reads was) (resized_take (2 ^ 64 - 1) len _ _ room (is t))
