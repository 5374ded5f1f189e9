use Rattle.std.proofs.Common.{◌-◌}
use Rattle.content_file.proofs.LoadFeeds.{FeedsCopy}
use Rattle.content_file.proofs.LoadCounts.{CountsPieces}
use Rattle.content_file.proofs.OrderFeeds.{FeedsWhole}
use Rattle.content_file.proofs.loading.feed_copy.Given as goal

abbrev pub invariant-loop-at : goal.invariant-loop-at
invariant-loop-at g l =
    FeedsCopy l.copy l.size (g.V.Vault.view l.fn.vault) (g.V.Vault.view l.vault) l.decoder l.at
    × CountsPieces l.copy l.size (g.V.Vault.view l.fn.vault) (g.V.Vault.view l.vault) l.at
    × FeedsWhole l.copy l.size (g.V.Vault.view l.fn.vault) (g.V.Vault.view l.vault) l.decoder l.at

abbrev pub decreases-loop-at : goal.decreases-loop-at
decreases-loop-at g l = l.size - l.at
