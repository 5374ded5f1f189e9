use Rattle.std.proofs.Common.{sym, subst, arith}
use Rattle.disk_model.specs.Bytes.{AreBytes}
use Rattle.disk_calm.proofs.BytesLemmas.{slice_bytes}
use Rattle.disk_calm.proofs.bytes.Bytes.from_slice.Goals as goal

pub returns-clause-bytes : goal.returns-clause-bytes
returns-clause-bytes c = subst AreBytes (sym c.in_ok-from_slice.ensures.items) (slice_bytes c.args.bytes.now (λ i. omega (arith, c.type_inv.bytes i)))
