use Rattle.std.proofs.Common.{◌≡◌, ◌≢◌, List, subst}
use Rattle.std.specs.List.{All}
use Rattle.std.specs.List.Sorted.{IsNonDecreasingBy, IsPartitionPoint}
use Rattle.std.specs.Ordering.{nat_cmp, ordering_index}
use Rattle.std.specs.declared.cmp.Ordering.TheVariants.{Less, Greater}
use Rattle.std.proofs.lemmas.Cmp.{nat_cmp_total}
use Rattle.std.proofs.lemmas.List.Sorted.{searchable_from_sorted}
use Rattle.file_table.specs.declared.index.Spot.{Spot}
use Rattle.file_table.proofs.IndexLemmas.{none_found}
use Rattle.file_table.proofs.index.Index.place.Goals as goal

pub returns-in-Err : goal.returns-in-Err
returns-in-Err c =
    let spots = c.self.inside.spots.items in
    let splits = subst (λ (xs : List Spot). IsNonDecreasingBy (λ (spot : Spot). ordering_index (nat_cmp spot.position c.args.position)) xs → IsPartitionPoint (λ (spot : Spot). nat_cmp spot.position c.args.position ≡ Less) (λ (spot : Spot). nat_cmp spot.position c.args.position ≡ Greater) xs c.in-Err.field-0)
    c.deref.ensures.value c.in-Err.ensures.number in
    let rise = searchable_from_sorted nat_cmp_total (λ (spot : Spot). spot.position) spots c.args.position c.self.invariant in
    subst (λ (xs : List Spot). All (λ (spot : Spot). spot.position ≢ c.args.position) xs) c.self.view_is (none_found spots c.args.position c.in-Err.field-0 (splits rise))
