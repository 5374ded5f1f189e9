use Rattle.std.proofs.Common.{length, refl, arith, rules}
use Rattle.disk_model.specs.Cause.{exactly}
use Rattle.disk_model.specs.Folder.{ReadAt}
use Rattle.disk_model.proofs.CountLemmas.{counts_none}
use Rattle.disk_memory.specs.Calls.{folder_call}
use Rattle.disk_memory.proofs.FolderLemmas.{done}
use Rattle.disk_memory.proofs.PastLemmas.{grows_done}
use Rattle.disk_memory.proofs.folder.MemFolderFolder.read_at.Goals as goal

pub returns-in-Some-clause-call : goal.returns-in-Some-clause-call
returns-in-Some-clause-call c =
    let call = ReadAt c.args.path.now c.args.lost c.args.at (length c.args.out.now) in
    let grows = grows_done folder_call done c.read_entry-entry.result call c.args.self.now.past c.begin.new.past c.end.new.self c.begin.ensures.noted c.begin.ensures.refused c.end.ensures c.read_entry-entry.ensures in
    record {
      called = record { goes_on = record { later = omega arith; writes = counts_none (exactly c.args.self.now.writes); keeps = refl; closed = refl; tells = refl; calls = grows }; cause = search rules };
      tree = λ told. refl;
    }
