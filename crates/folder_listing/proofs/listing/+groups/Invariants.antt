use Rattle.std.proofs.Common.{◌+◌, ◌*◌}
use Rattle.folder_listing.proofs.listing.+groups.Given as goal

abbrev pub decreases-list_group : goal.decreases-list_group
decreases-list_group g l = 4 * l.threads

abbrev pub decreases-list_both : goal.decreases-list_both
decreases-list_both g l = 4 * l.threads + 2

abbrev pub decreases-list_both-other : goal.decreases-list_both-other
decreases-list_both-other g l = 4 * l.threads + 1
