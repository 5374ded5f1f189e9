use Rattle.std.proofs.Common.{◌∙◌, sym}
use Rattle.file_table.proofs.DiskLemmas.{column_blocks-records_from}
use Rattle.file_table.proofs.disk.Disk.all_blocks.Goals as goal

pub returns-clause-value : goal.returns-clause-value
returns-clause-value c =
    rw (← c.self.view_is) (c.deref.ensures.value ∙ sym (column_blocks-records_from c.self.inside.name c.self.inside.files.items c.self.inside.blocks.items c.self.invariant.cut))
