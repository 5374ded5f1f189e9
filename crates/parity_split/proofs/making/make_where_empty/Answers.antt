use Rattle.std.proofs.Common.{refl}
use Rattle.disk_model.specs.Files.{Stays}
use Rattle.parity_split.proofs.WorksLemmas.{works_start, works_then, stays_then, still_within, rose_after}
use Rattle.parity_split.proofs.making.make_where_empty.Goals as goal

pub make_all-requires : goal.make_all-requires
make_all-requires g c = still_within c.args.parts Stays _ _ c.is_empty.ensures.works c.requires

pub returns-clause-works : goal.returns-clause-works
returns-clause-works g c = works_then Stays _ (g.V.Base.view c.is_empty.new.base) _ stays_then c.is_empty.ensures.works c.make_all.ensures.works

pub returns-clause-cause : goal.returns-clause-cause
returns-clause-cause g c = rose_after c.make_all.result Stays (g.V.Base.view c.args.base.now) (g.V.Base.view c.is_empty.new.base) (g.V.Base.view c.make_all.new.base) c.is_empty.ensures.works c.make_all.ensures.cause
