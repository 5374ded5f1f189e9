use Rattle.std.proofs.Common.{◌<◌, ◌^◌, length, subst, sym, arith}
use Rattle.parity_split.proofs.SplitLemmas.{levels_fit}
use Rattle.parity_split.proofs.vault.SplitVaultVault.levels.Goals as goal

pub overflow_cast-result : goal.overflow_cast-result
overflow_cast-result g c =
    let fits : length c.args.self.now.parts.items < 2 ^ 32 = subst (λ xs. length xs < 2 ^ 32) (sym c.args.self.now.counts_are) (levels_fit g.P.Shape.counts g.P.Shape.capacity _ c.args.self.now.are) in
    let long = c.args.self.now.parts.ok.0 in
    omega arith
