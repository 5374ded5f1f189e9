use Rattle.std.proofs.Common.{map}
use Rattle.stripe_reader.proofs.GroupLemmas.{LanesRead}
use Rattle.stripe_reader.proofs.readers.fetch_lanes.Given as goal

abbrev pub invariant-loop-k : goal.invariant-loop-k
invariant-loop-k g l = LanesRead l.table l.starts l.first l.stripes l.room l.k l.lanes (map g.F.Folder.view l.fn.folders) (map g.F.Folder.view l.folders)
