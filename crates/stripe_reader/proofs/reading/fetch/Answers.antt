use Rattle.std.proofs.Common.{◌<◌, ◌++◌, arith}
use Rattle.std.proofs.lemmas.List.{length-take-le}
use Rattle.std.proofs.lemmas.List.Elements.{All-from_get_or}
use Rattle.stripe_reader.proofs.CellLemmas.{cell_given, cell_unread}
use Rattle.stripe_reader.proofs.reading.fetch.Goals as goal

pub returns-in-Ok-read_at-clause-read : goal.returns-in-Ok-read_at-clause-read
returns-in-Ok-read_at-clause-read g c =
    cell_given c.args.path.now c.args.lost c.args.at c.args.size (g.F.Folder.view c.args.folder.now) (g.F.Folder.view c.look.new.self) (g.F.Folder.view c.read_at.new.self)
    c.in-Ok.meta _ c.in-Ok-read_at.count c.read_at.new.out _ (length-take-le _ _ (omega arith)) c.read_at.auto.out c.in-Ok-read_at.ensures.bound
    (All-from_get_or (λ byte. byte < 256) (c.read_at.new.out ++ _) 0 (λ i within. omega (arith, c.type_inv.block i)))
    c.in-Ok.ensures.call c.in-Ok-read_at.ensures.call c.in-Ok.ensures.found c.in-Ok-read_at.ensures.found

pub returns-in-Err-Failed-read_at-clause-read : goal.returns-in-Err-Failed-read_at-clause-read
returns-in-Err-Failed-read_at-clause-read g c =
    cell_unread c.args.path.now c.args.lost c.args.at c.args.size (g.F.Folder.view c.args.folder.now) (g.F.Folder.view c.look.new.self) (g.F.Folder.view c.read_at.new.self)
    c.in-Ok.meta _ (length-take-le _ _ (omega arith)) c.in-Ok.ensures.call (rw c.in-Err-Failed-read_at.field-0-is at c.in-Err-Failed-read_at.ensures.call) c.in-Ok.ensures.found
