-- The faults of a sync, by those of its parts.
use Rattle.folder_listing.specs.declared.listing.ListingFault.{ListingFault}
use Rattle.folder_listing.specs.declared.listing.ListingFault.TheVariants as listing
use Rattle.snap_report.specs.declared.answer.RunFault.TheVariants as run
use Rattle.snap_sync.specs.declared.fault.SyncFault.{SyncFault}
use Rattle.snap_sync.specs.declared.fault.SyncFault.TheVariants.{Run}

-- the folders were not listed
abbrev pub of_listing : ListingFault → SyncFault
of_listing (listing.Folder disk) = Run (run.Folder disk)
of_listing listing.Memory = Run run.Memory
