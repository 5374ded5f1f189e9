use Rattle.std.proofs.Common.{◌≡◌, length, Some, ap, ◌∙◌}
use Rattle.std.proofs.lemmas.List.{with_items_is}
use Rattle.disk_model.specs.declared.fault.ListFault.{ListFault}
use Rattle.folder_listing.proofs.ListingLemmas.{lists_all, fails_at, runs_out, first_is}
use Rattle.folder_listing.proofs.listing.listings.Goals as goal

pub returns-in-Some-default-Failed-clause-failed : goal.returns-in-Some-default-Failed-clause-failed
returns-in-Some-default-Failed-clause-failed g c =
    let faults = c.list_group.new.faults in
    let long : length faults ≡ c.in_ok-faults.faults.len = c.list_group.auto.faults ∙ c.as_mut_slice-2.ensures.len in
    let disk = c.in-Some-default-Failed.disk in
    fails_at _ _ c.list_group.new.listings faults c.list_group.ensures disk
    (first_is _ faults _ _ (c.deref.ensures.value ∙ with_items_is c.in_ok-faults.faults faults long)
    (c.in-Some-default-Failed.is ∙ ap (λ (fault : ListFault). Some (disk, fault)) c.in-Some-default-Failed.field-0-1-is) c.first_fault.ensures)

pub returns-in-Some-default-Memory-clause-failed : goal.returns-in-Some-default-Memory-clause-failed
returns-in-Some-default-Memory-clause-failed g c =
    let faults = c.list_group.new.faults in
    let long : length faults ≡ c.in_ok-faults.faults.len = c.list_group.auto.faults ∙ c.as_mut_slice-2.ensures.len in
    let disk = c.in-Some-default-Memory.field-0-0 in
    runs_out _ _ c.list_group.new.listings faults c.list_group.ensures disk
    (first_is _ faults _ _ (c.deref.ensures.value ∙ with_items_is c.in_ok-faults.faults faults long)
    (c.in-Some-default-Memory.is ∙ ap (λ (fault : ListFault). Some (disk, fault)) c.in-Some-default-Memory.field-0-1-is) c.first_fault.ensures)

pub returns-clause-listed : goal.returns-clause-listed
returns-clause-listed g c =
    let faults = c.list_group.new.faults in
    let listings = c.list_group.new.listings in
    let long : length faults ≡ c.in_ok-faults.faults.len = c.list_group.auto.faults ∙ c.as_mut_slice-2.ensures.len in
    let as_long : length listings ≡ c.in_ok-listings.listings.len = c.list_group.auto.listings ∙ c.as_mut_slice.ensures.len in
    rw (with_items_is c.in_ok-listings.listings listings as_long)
    (lists_all _ _ listings faults c.list_group.ensures
    (first_is _ faults _ _ (c.deref.ensures.value ∙ with_items_is c.in_ok-faults.faults faults long) c.in-None.is c.first_fault.ensures))
