use Rattle.folder_listing.proofs.ListingLemmas.{both_groups}
use Rattle.folder_listing.proofs.listing.+groups.Goals as goal

pub list_group-returns : goal.list_group-returns
list_group-returns g t c =
    both_groups g.F.Folder.view _ _ c.list_both.new.near_folders _ c.list_both.new.far_folders _ _ _ _
    c.split_at_mut-near_folders.ensures.value c.list_both.ensures.near c.list_both.ensures.far
