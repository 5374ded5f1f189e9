use Rattle.std.proofs.Common.{◌≡◌, ℕ, ap, sym, ◌∙◌, not, Option, None, Some, true, false}
use Rattle.std.specs.Borrow.{Bor}
use Rattle.std.specs.Option.{is_some, option_copied}
use Rattle.std.specs.Prelude.{Result, Ok, Err}
use Rattle.std.specs.Result.{OnErr}
use Rattle.std.specs.BTreeMap.{get}
use Rattle.hash_index.specs.Keeping.{key_cmp}
use Rattle.hash_index.proofs.KeepingLemmas.{key_of, kept_new, kept_old, kept_same}
use Rattle.hash_index.proofs.block_index.BlockIndex.add.Goals as goal

on_err : {T E P : Type 0} (r : Result T E) → P → OnErr r P
on_err (Ok x) p = tt
on_err (Err e) p = p

copied_none : (o : Option (Bor (ℕ × ℕ))) (found : Option (ℕ × ℕ)) → option_copied o ≡ found → is_some o ≡ false → found ≡ None
copied_none None found is h = sym is
copied_none (Some x) found is h = absurd cc

copied_some : (o : Option (Bor (ℕ × ℕ))) (found : Option (ℕ × ℕ)) → option_copied o ≡ found → is_some o ≡ true → (spot : ℕ × ℕ) × (found ≡ Some spot)
copied_some None found is h = absurd cc
copied_some (Some x) found is h = (x.now, sym is)

pub returns-in_err-insert-clause-err : goal.returns-in_err-insert-clause-err
returns-in_err-insert-clause-err c added kept =
    on_err c.from_residual.result (kept_same c.args.self.now.firsts c.insert.new.self added c.in_err-insert.ensures.err kept)

pub returns-in_ok-insert-clause-ok : goal.returns-in_ok-insert-clause-ok
returns-in_ok-insert-clause-ok c added kept =
    kept_new c.args.self.now.firsts c.insert.new.self added c.args.entry
    (copied_none c.get.result (get key_cmp c.args.self.now.firsts (key_of c.args.entry)) c.get.ensures.value (c.is_none.ensures ∙ ap not c.if-is_none.true))
    c.in_ok-insert.ensures.updates kept

pub returns-else-is_none-clause-ok : goal.returns-else-is_none-clause-ok
returns-else-is_none-clause-ok c added kept =
    let there = copied_some c.get.result (get key_cmp c.args.self.now.firsts (key_of c.args.entry)) c.get.ensures.value (c.is_none.ensures ∙ ap not c.if-is_none.false) in
    kept_old c.args.self.now.firsts added c.args.entry there.0 there.1 kept
