use Rattle.std.proofs.Common.{◌≡◌, ◌*◌, ◌++◌, List, Some, length, take, drop, ◌∙◌, ap, ap₂, ℕ, sym, arith}
use Rattle.std.proofs.lemmas.List.{take-append-le, take_all}
use Rattle.parity_writer.specs.LevelReading.{kept_level}
use Rattle.parity_writer.specs.LevelsValue.{LevelValue}
use Rattle.parity_writer.proofs.LevelReadingLemmas.{level_came}
use Rattle.parity_writer.proofs.levels.read_level.Goals as goal

pub returns : goal.returns
returns g c =
    let size = length c.args.place.now.block in
    let long : length c.deref_mut.result.now ≡ size = ap length c.deref_mut.ensures.value ∙ ap (λ (p : LevelValue). length p.block) c.place.view_is in
    let out = c.parity_read.new.out in
    let rest = drop (length out) c.place.inside.block.items in
    let as_long : c.place.inside.block.len ≡ length out = sym c.deref_mut.ensures.len ∙ sym c.parity_read.auto.out in
    let back : take c.place.inside.block.len (out ++ rest) ≡ out = take-append-le c.place.inside.block.len out rest (omega (arith, as_long)) ∙ take_all c.place.inside.block.len out (omega (arith, as_long)) in
    level_came size c.args.stripe c.args.level _ _ c.in-Ok.got c.parity_read.new.out c.keep.new.self (g.V.Vault.view c.args.vault.now) (g.V.Vault.view c.parity_read.new.self)
    (ap₂ (λ (m : ℕ) (n : ℕ). m * n) c.from.ensures (c.len-size.ensures ∙ sym c.deref_mut.ensures.len ∙ long)) long (c.parity_read.auto.out ∙ long) c.in-Ok.ensures.bound (c.keep.ensures ∙ ap (λ (xs : List ℕ). kept_level (length xs) (Some (take c.in-Ok.got xs))) back) c.in-Ok.ensures.call c.in-Ok.ensures.found
