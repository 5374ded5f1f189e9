use Rattle.std.proofs.Common.{refl, inl}
use Rattle.disk_model.specs.Answer.{size_answer}
use Rattle.content_file.proofs.LoadLemmas.{failed_after, none_failed_then}
use Rattle.content_file.proofs.LoadFeeds.{size_answered, reads_none, reads_one, reads_then, quiet_one, fails_last}
use Rattle.content_file.proofs.LoadCounts.{size_alone, size_then_pieces}
use Rattle.content_file.proofs.OrderCopies.{copy_came, copy_broken}
use Rattle.content_file.proofs.loading.read_copy.Goals as goal

pub returns-in_default-clause-cause : goal.returns-in_default-clause-cause
returns-in_default-clause-cause g c = fails_last c.args.copy _ size_answer c.in_default.field-0 _ _ _ c.requires.copy (inl refl) (reads_none c.args.copy _) c.in_default.ensures.call

pub returns-in-Ok-feed_copy-clause-reads : goal.returns-in-Ok-feed_copy-clause-reads
returns-in-Ok-feed_copy-clause-reads g c = reads_then c.args.copy _ _ _ (reads_one c.args.copy _ size_answer _ _ _ (inl refl) c.in-Ok.ensures.call) c.feed_copy.ensures.reads

pub returns-in-Ok-feed_copy-clause-none_failed : goal.returns-in-Ok-feed_copy-clause-none_failed
returns-in-Ok-feed_copy-clause-none_failed g c = none_failed_then _ _ _ (quiet_one _ size_answer _ _ _ (size_answered c.in-Ok.size) c.in-Ok.ensures.call) c.in-Ok-feed_copy.ensures.none_failed

pub returns-in-Err-clause-reads : goal.returns-in-Err-clause-reads
returns-in-Err-clause-reads g c = reads_then c.args.copy _ _ _ (reads_one c.args.copy _ size_answer _ _ _ (inl refl) c.in-Ok.ensures.call) c.feed_copy.ensures.reads

pub returns-in-Err-clause-cause : goal.returns-in-Err-clause-cause
returns-in-Err-clause-cause g c =
    let before = reads_one c.args.copy _ size_answer _ _ _ (inl refl) c.in-Ok.ensures.call in
    failed_after _ _ _ c.args.copy before.calls c.in-Err.ensures.failed c.feed_copy.ensures.reads.calls.goes_on.calls.told

pub returns-in_default-clause-pieces : goal.returns-in_default-clause-pieces
returns-in_default-clause-pieces g c = size_alone c.args.copy size_answer _ _ _ c.in_default.ensures.call

pub returns-in-Ok-feed_copy-clause-pieces : goal.returns-in-Ok-feed_copy-clause-pieces
returns-in-Ok-feed_copy-clause-pieces g c = size_then_pieces c.args.copy _ size_answer _ _ _ _ _ c.in-Ok.ensures.call c.in-Ok.ensures.found c.in-Some.is c.feed_copy.ensures.pieces

pub returns-in-Err-clause-pieces : goal.returns-in-Err-clause-pieces
returns-in-Err-clause-pieces g c = size_then_pieces c.args.copy _ size_answer _ _ _ _ _ c.in-Ok.ensures.call c.in-Ok.ensures.found c.in-Some.is c.feed_copy.ensures.pieces

pub returns-in-Ok-feed_copy-clause-order : goal.returns-in-Ok-feed_copy-clause-order
returns-in-Ok-feed_copy-clause-order g c = copy_came c.args.copy c.in-Ok.size c.in-Some.size _ _ _ c.in-Some.is c.in-Ok.ensures.call.called.goes_on c.feed_copy.new.decoder c.in-Ok-feed_copy.ensures.order

pub returns-in-Err-clause-order : goal.returns-in-Err-clause-order
returns-in-Err-clause-order g c = copy_broken c.args.copy c.in-Ok.size c.in-Some.size _ _ _ c.in-Some.is c.in-Ok.ensures.call.called.goes_on c.in-Err.ensures.stopped
