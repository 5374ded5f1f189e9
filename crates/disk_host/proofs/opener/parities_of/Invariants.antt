use Rattle.std.proofs.Common.{◌≡◌, vec_len}
use Rattle.disk_host.proofs.opener.parities_of.Given as goal

abbrev pub invariant-loop-name : goal.invariant-loop-name
invariant-loop-name g l = vec_len l.parities ≡ l.name-index
