-- The files of a listing, among those of all listings.
use Rattle.std.proofs.Common.{◌≡◌, ℕ, ◌<◌, List, [], length, get_or}
use Rattle.std.proofs.lemmas.List.{get_or-map}
use Rattle.folder_listing.specs.declared.listing.Listing.{Listing}
use Rattle.folder_listing.specs.Kept.{files_of, lists_of}

pub list_at : (lists : List Listing) (d : ℕ) (e : Listing) → d < length lists → get_or (lists_of lists) d [] ≡ files_of (get_or lists d e)
list_at lists d e within = get_or-map files_of lists d e [] within
