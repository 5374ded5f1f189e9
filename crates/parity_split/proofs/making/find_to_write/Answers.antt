use Rattle.disk_model.specs.Files.{Stays}
use Rattle.parity_split.proofs.WorksLemmas.{works_then, stays_then, still_within, rose_at}
use Rattle.parity_split.proofs.making.find_to_write.Goals as goal

pub make_where_empty-requires : goal.make_where_empty-requires
make_where_empty-requires g c = still_within c.args.parts Stays _ _ c.find.ensures.works c.requires

pub returns-in_err-make_where_empty-clause-works : goal.returns-in_err-make_where_empty-clause-works
returns-in_err-make_where_empty-clause-works g c = works_then Stays _ (g.V.Base.view c.find.new.base) _ stays_then c.find.ensures.works c.make_where_empty.ensures.works

pub returns-in_err-make_where_empty-clause-cause : goal.returns-in_err-make_where_empty-clause-cause
returns-in_err-make_where_empty-clause-cause g c = rose_at c.from_residual-in_err-make_where_empty.result Stays (g.V.Base.view c.args.base.now) (g.V.Base.view c.find.new.base) (g.V.Base.view c.make_where_empty.new.base) c.find.ensures.works c.in_err-make_where_empty.ensures.cause

pub returns-clause-works : goal.returns-clause-works
returns-clause-works g c = works_then Stays _ (g.V.Base.view c.find.new.base) _ stays_then c.find.ensures.works c.make_where_empty.ensures.works
