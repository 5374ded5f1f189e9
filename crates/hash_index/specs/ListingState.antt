-- How pairs that are still to come are kept.
use Rattle.std.specs.Prelude.{◌≡◌, ◌≤◌, List, length}
use Rattle.file_table.specs.Valid.{most_records}
use Rattle.hash_index.specs.declared.pair.Pair.{Pair}
use Rattle.hash_index.specs.declared.pairs.Pairs.TheInside.{Inside}
use Rattle.hash_index.specs.Duplicates.{Spot, spots_of, spot_in, same_spot}
use Rattle.hash_index.specs.Linking.{AreLinks}
use Rattle.hash_index.specs.Listing.{pairs_left}

abbrev pub spots_inside : Inside → List Spot
spots_inside pairs = spots_of pairs.records

abbrev pub left_of : Inside → List Pair
left_of pairs = pairs_left (spots_inside pairs) pairs.first pairs.other

-- each record has its link, and the two of the last pair are the same as the same ones
pub record IsListing (pairs : Inside) : Type 0 where
  pub links : AreLinks (spots_inside pairs) pairs.links.items
  pub few : length (spots_inside pairs) ≤ most_records
  pub first : pairs.first ≤ length (spots_inside pairs)
  pub alike : (spot : Spot) → same_spot (spot_in (spots_inside pairs) pairs.first) spot ≡ same_spot (spot_in (spots_inside pairs) pairs.other) spot
