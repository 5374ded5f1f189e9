use Rattle.std.proofs.Common.{length}
use Rattle.content_file.proofs.FieldLemmas.{marked_test}
use Rattle.content_file.proofs.checked.may_be_marked.Goals as goal

pub returns-in-Synced : goal.returns-in-Synced
returns-in-Synced c = marked_test c.next_has_hashes.result c.args.builder.now.columns (length c.args.builder.now.infos) c.args.mark c.in-Synced.is c.next_has_hashes.ensures
