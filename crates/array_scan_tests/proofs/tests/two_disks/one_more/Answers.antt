use Rattle.std.proofs.Common.{All, ap, sym, subst, ◌∙◌}
use Rattle.std.proofs.lemmas.List.{map-append}
use Rattle.std.proofs.lemmas.List.Elements.{All-push}
use Rattle.disk_model.specs.Tree.{IsListing, listed}
use Rattle.folder_listing.specs.Kept.{files_of, lists_of}
use Rattle.array_scan_tests.proofs.tests.two_disks.one_more.Goals as goal

pub returns-clause-order : goal.returns-clause-order
returns-clause-order c =
    subst (All IsListing) (sym (ap lists_of c.in_ok-push.ensures.items ∙ map-append files_of c.args.lists.items _))
    (All-push IsListing (lists_of c.args.lists.items) (listed c.args.files.items) c.requires.order c.requires.listing)
