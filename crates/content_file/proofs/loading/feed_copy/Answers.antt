use Rattle.std.proofs.Common.{◌≡◌, ◌∙◌, ℕ, ◌+◌, ◌-◌, ◌<◌, ◌≤◌, min, length, take, drop, arith}
use Rattle.std.proofs.lemmas.List.{length-take}
use Rattle.disk_model.specs.declared.answer.Answer.TheVariants.{Bytes}
use Rattle.disk_model.proofs.VaultLemmas.{on_any}
use Rattle.content_file.proofs.LoadFeeds.{FeedsPiece, fails_last, reads_none, reads_then, reads_one, read_piece, asked_few, piece_reads, piece_quiet, feeds_more, never_short}
use Rattle.content_file.specs.Load.{most_read}
use Rattle.content_file.proofs.LoadLemmas.{none_failed_yet}
use Rattle.content_file.specs.InOrder.{FeedsToEnd}
use Rattle.content_file.proofs.OrderFeeds.{FeedsWhole, whole_none, whole_more, ends_short, ends_whole, stops_here}
use Rattle.content_file.proofs.LoadCounts.{counts_none, counts_more, piece_more}
use Rattle.content_file.proofs.loading.feed_copy.Given as given
use Rattle.content_file.proofs.loading.feed_copy.Goals as goal
use Rattle.content_file.proofs.loading.feed_copy.Goals.{After-feed}

-- a piece was read, and fed
piece : (g : given.Over) (c : After-feed g)
    → FeedsPiece c.args.copy c.args.size (g.V.Vault.view c.args.vault.now) (g.V.Vault.view c.loop-at.vault) (g.V.Vault.view c.content_read.new.self) c.loop-at.decoder c.feed.new.self c.loop-at.at c.min-want.result
    c.in_ok-count.count c.loop-at.buffer c.content_read.new.out
piece g c = record {
  one = c.loop-at.invariant.0;
  more = c.loop-at-test.true;
  room = c.loop-at.auto.buffer ∙ c.requires.buffer;
  want_is = c.min-want.ensures;
  call = c.in_ok-count.ensures.call;
  found = c.in_ok-count.ensures.found;
  bound = c.in_ok-count.ensures.bound;
  feeds = c.feed.ensures.fed;
}

-- as many bytes were asked for as the front of the buffer has
module _ (g : given.Over) (c : After-feed g) where
  abbrev asked : ℕ
  asked = length (take c.min-want.result c.loop-at.buffer)

  asked_is : asked ≡ min most_read (c.args.size - c.loop-at.at)
  asked_is = omega (arith, length-take c.min-want.result c.loop-at.buffer, c.min-want.ensures, c.loop-at.auto.buffer, c.requires.buffer)

  want_is_asked : c.min-want.result ≡ asked
  want_is_asked = omega (arith, length-take c.min-want.result c.loop-at.buffer, c.min-want.ensures)

  came_few : length c.content_read.new.out ≡ asked
  came_few = c.content_read.auto.out

  piece_whole : c.min-want.result ≤ c.in_ok-count.count → FeedsWhole c.args.copy c.args.size (g.V.Vault.view c.args.vault.now) (g.V.Vault.view c.content_read.new.self) c.feed.new.self (c.loop-at.at + c.in_ok-count.count)
  piece_whole whole =
      whole_more c.args.copy c.args.size (g.V.Vault.view c.args.vault.now) (g.V.Vault.view c.loop-at.vault) (g.V.Vault.view c.content_read.new.self) c.loop-at.decoder c.feed.new.self c.loop-at.at asked c.in_ok-count.count
      c.content_read.new.out (drop c.min-want.result c.loop-at.buffer) c.loop-at.invariant.2 c.loop-at-test.true asked_is c.in_ok-count.ensures.bound c.in_ok-count.ensures.call.called.goes_on c.feed.ensures.fed
      (omega (arith, whole, want_is_asked, c.in_ok-count.ensures.bound, came_few))

  piece_short : c.in_ok-count.count < c.min-want.result → FeedsToEnd c.args.copy c.args.size c.feed.new.self (g.V.Vault.view c.args.vault.now) (g.V.Vault.view c.content_read.new.self)
  piece_short short =
      ends_short c.args.copy c.args.size (g.V.Vault.view c.args.vault.now) (g.V.Vault.view c.loop-at.vault) (g.V.Vault.view c.content_read.new.self) c.loop-at.decoder c.feed.new.self c.loop-at.at asked c.in_ok-count.count
      c.content_read.new.out (drop c.min-want.result c.loop-at.buffer) c.loop-at.invariant.2 c.loop-at-test.true asked_is c.in_ok-count.ensures.bound c.in_ok-count.ensures.call.called.goes_on c.feed.ensures.fed (omega (arith, short, want_is_asked))

pub loop-at-init : goal.loop-at-init
loop-at-init g c =
    let v = g.V.Vault.view c.args.vault.now in (
      record { reads = reads_none c.args.copy v; none_failed = none_failed_yet v; fed = λ told bytes held same. c.requires.fresh },
      counts_none c.args.copy c.args.size v,
      whole_none c.args.copy c.args.size v c.args.decoder.now c.requires.fresh,
    )

pub loop-at-preserved : goal.loop-at-preserved
loop-at-preserved g c =
    let fed = piece g (goal.at.loop-at-preserved g c).After-feed in
    let want_is : c.min-want.result ≡ min most_read (c.args.size - c.loop-at.at) = omega (arith, fed.want_is, fed.room) in (
      feeds_more _ _ _ _ _ _ _ _ _ _ _ _ fed c.if-count-want.false,
      counts_more c.args.copy c.args.size _ _ _ c.loop-at.at _ _ c.loop-at.invariant.1 c.loop-at-test.true c.in_ok-count.ensures.call.called.goes_on c.min-want.result c.in_ok-count.count want_is c.if-count-want.false,
      piece_whole g (goal.at.loop-at-preserved g c).After-feed (omega (arith, c.if-count-want.false)),
    )

pub returns-clause-pieces : goal.returns-clause-pieces
returns-clause-pieces g c = c.loop-at.invariant.1.reads

pub returns-then-count-want-clause-pieces : goal.returns-then-count-want-clause-pieces
returns-then-count-want-clause-pieces g c = piece_more c.args.copy c.args.size _ _ _ c.loop-at.at _ _ c.loop-at.invariant.1 c.loop-at-test.true c.in_ok-count.ensures.call.called.goes_on

pub returns-in_err-count-clause-pieces : goal.returns-in_err-count-clause-pieces
returns-in_err-count-clause-pieces g c = piece_more c.args.copy c.args.size _ _ _ c.loop-at.at _ _ c.loop-at.invariant.1 c.loop-at-test.true c.in_err-count.ensures.call.called.goes_on

pub returns-then-count-want-clause-reads : goal.returns-then-count-want-clause-reads
returns-then-count-want-clause-reads g c = piece_reads _ _ _ _ _ _ _ _ _ _ _ _ (piece g (goal.at.returns-then-count-want-clause-reads g c).After-feed)

pub returns-then-count-want-clause-none_failed : goal.returns-then-count-want-clause-none_failed
returns-then-count-want-clause-none_failed g c = piece_quiet _ _ _ _ _ _ _ _ _ _ _ _ (piece g (goal.at.returns-then-count-want-clause-none_failed g c).After-feed)

pub returns-then-count-want-clause-fed : goal.returns-then-count-want-clause-fed
returns-then-count-want-clause-fed g c = never_short _ _ _ _ _ _ _ _ _ _ _ _ (piece g (goal.at.returns-then-count-want-clause-fed g c).After-feed) c.if-count-want.true

pub returns-in_err-count-clause-reads : goal.returns-in_err-count-clause-reads
returns-in_err-count-clause-reads g c =
    let few = asked_few c.loop-at.buffer c.min-want.result (c.loop-at.auto.buffer ∙ c.requires.buffer) in
    reads_then c.args.copy _ (g.V.Vault.view c.loop-at.vault) _ c.loop-at.invariant.0.reads (reads_one c.args.copy _ Bytes _ _ _ (read_piece c.args.copy c.loop-at.at _ few) c.in_err-count.ensures.call)

pub returns-in_err-count-clause-failed : goal.returns-in_err-count-clause-failed
returns-in_err-count-clause-failed g c =
    let few = asked_few c.loop-at.buffer c.min-want.result (c.loop-at.auto.buffer ∙ c.requires.buffer) in
    on_any c.from_residual.result (fails_last c.args.copy _ Bytes c.in_err-count.field-0.0 _ (g.V.Vault.view c.loop-at.vault) _ c.requires.copy (read_piece c.args.copy c.loop-at.at _ few) c.loop-at.invariant.0.reads c.in_err-count.ensures.call)

pub returns-clause-order : goal.returns-clause-order
returns-clause-order g c = ends_whole c.args.copy c.args.size _ (g.V.Vault.view c.loop-at.vault) c.loop-at.decoder c.loop-at.at c.loop-at.invariant.2 (omega (arith, c.loop-at-test.false))

pub returns-then-count-want-clause-order : goal.returns-then-count-want-clause-order
returns-then-count-want-clause-order g c = piece_short g (goal.at.returns-then-count-want-clause-order g c).After-feed c.if-count-want.true

pub returns-in_err-count-clause-stopped : goal.returns-in_err-count-clause-stopped
returns-in_err-count-clause-stopped g c =
    let asked_is : length (take c.min-want.result c.loop-at.buffer) ≡ min most_read (c.args.size - c.loop-at.at) =
    omega (arith, length-take c.min-want.result c.loop-at.buffer, c.min-want.ensures, c.loop-at.auto.buffer, c.requires.buffer) in
    on_any c.from_residual.result
    (stops_here c.args.copy c.args.size _ (g.V.Vault.view c.loop-at.vault) _ c.loop-at.decoder c.loop-at.at _ c.loop-at.invariant.2 c.loop-at-test.true asked_is c.in_err-count.ensures.call.called.goes_on)
