use Rattle.std.proofs.Common.{length, ◌∙◌, ap, arith}
use Rattle.disk_model.specs.Files.{Files}
use Rattle.disk_calm.specs.Store.{opened_held}
use Rattle.disk_calm.proofs.BytesLemmas.{slice_bytes}
use Rattle.disk_memory.proofs.ImageLemmas.{picked_files, picked_shape, are_files}
use Rattle.disk_memory.proofs.recorded.Recorded.image.Goals as goal

pub of-requires : goal.of-requires
of-requires c =
    let r = c.args.self.now in
    let choice = c.args.choice.now in
    let parities = c.in_ok-parities.parities in
    let contents = c.in_ok-contents.contents in
    let same = picked_files r choice c.skip-bytes.result.now c.number_of.result c.in_ok-replayed.replayed parities.items contents.items c.number_of.ensures c.skip-bytes.ensures c.in_ok-replayed.ensures c.in_ok-parities.ensures c.in_ok-contents.ensures in
    let shape = picked_shape r choice (slice_bytes choice (λ i. omega (arith, c.type_inv.choice i))) in
    record {
      levels = parities.ok.0 ∙ ap (λ (f : Files). length f.parities) same ∙ shape.parities;
      copies = contents.ok.0 ∙ ap (λ (f : Files). length f.contents) same ∙ shape.contents;
      bytes = are_files r.store.levels r.store.copies _ parities.items contents.items shape same;
    }

pub returns-clause-held : goal.returns-clause-held
returns-clause-held c =
    let same = picked_files c.args.self.now c.args.choice.now c.skip-bytes.result.now c.number_of.result c.in_ok-replayed.replayed c.in_ok-parities.parities.items c.in_ok-contents.contents.items c.number_of.ensures c.skip-bytes.ensures c.in_ok-replayed.ensures c.in_ok-parities.ensures c.in_ok-contents.ensures in
    c.in_ok-store.ensures.held ∙ ap (opened_held c.args.self.now.store.copies) same
