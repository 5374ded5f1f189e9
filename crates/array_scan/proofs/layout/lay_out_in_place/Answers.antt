use Rattle.std.proofs.Common.{◌≡◌, sym, subst}
use Rattle.file_table.specs.Valid.{IsValid}
use Rattle.array_setup.specs.Setup.{setup_value}
use Rattle.folder_listing.specs.Kept.{kept_lists, lists_of}
use Rattle.array_scan.proofs.LawLemmas.{own_layout, own_unrefused}
use Rattle.array_scan.proofs.layout.lay_out_in_place.Goals as goal

pub returns-in-Ok-pending_stripes-clause-laid : goal.returns-in-Ok-pending_stripes-clause-laid
returns-in-Ok-pending_stripes-clause-laid c =
    let kept = kept_lists (setup_value c.args.setup.now) (lists_of c.args.lists.now) in
    let valid : IsValid c.args.old = subst IsValid c.old.view_is c.old.invariant.valid in
    sym (own_layout c.args.old kept valid (c.is_unchanged.ensures c.if-not-is_unchanged.false))

pub returns-in-Ok-pending_stripes-clause-unrefused : goal.returns-in-Ok-pending_stripes-clause-unrefused
returns-in-Ok-pending_stripes-clause-unrefused c =
    let kept = kept_lists (setup_value c.args.setup.now) (lists_of c.args.lists.now) in
    let valid : IsValid c.args.old = subst IsValid c.old.view_is c.old.invariant.valid in
    own_unrefused c.args.way.now.force_zero c.args.way.now.force_empty c.args.old kept valid (c.is_unchanged.ensures c.if-not-is_unchanged.false)
