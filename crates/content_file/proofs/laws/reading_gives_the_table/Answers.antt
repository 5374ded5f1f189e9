use Rattle.content_file.proofs.TakenContent.{bytes_fit, content_taken}
use Rattle.content_file.proofs.ReadContent.{content_reads}
use Rattle.content_file.proofs.laws.reading_gives_the_table.Goals as goal

pub returns-clause-read : goal.returns-clause-read
returns-clause-read c = λ bytes table small read. content_taken bytes table (bytes_fit bytes small) read

pub returns-clause-spelled : goal.returns-clause-spelled
returns-clause-spelled c = content_reads
