use Rattle.std.proofs.Common.{◌≡◌, ℕ, [], length, get_or, ◌∙◌, arith}
use Rattle.std.proofs.lemmas.List.{length-map}
use Rattle.std.proofs.lemmas.List.FromFn.{length-map-range_with_len}
use Rattle.array_setup.specs.Setup.{setup_value}
use Rattle.folder_listing.specs.Kept.{files_of, kept_files, lists_of}
use Rattle.array_scan.proofs.KeptLemmas.{kept_each}
use Rattle.array_scan.proofs.unchanged.is_unchanged.Goals as goal

pub returns : goal.returns
returns c = λ _.
    let setup = setup_value c.args.setup.now in
    let lists = lists_of c.args.lists.now in
    let many : length lists ≡ length c.args.table.now.columns = length-map c.args.lists.now files_of ∙ c.requires.lists in
    record {
      count = length-map-range_with_len (λ (d : ℕ). kept_files setup d (get_or lists d [])) 0 (length lists) ∙ many;
      each = λ d below. kept_each setup lists d (omega (arith, below, many)) ∙ c.loop-d.invariant d (omega (arith, below, c.loop-d-test.false, c.disks-d-end.ensures.count));
    }
