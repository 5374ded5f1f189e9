use Rattle.std.proofs.Common.{◌≡◌, ◌+◌, ◌++◌, ◌∙◌, List, ℕ, length, take, drop, refl, ap}
use Rattle.disk_calm.proofs.BytesLemmas.{put_over_zeros, whole_back}
use Rattle.disk_calm.proofs.bytes.Bytes.put.Goals as goal

pub returns-clause-ok : goal.returns-clause-ok
returns-clause-ok c =
    let file = c.args.self.now in
    let at = c.args.at in
    let bytes = c.args.bytes.now in
    let end = at + length bytes in
    let slice = c.as_mut_slice.ensures.value ∙ c.self.view_is ∙ c.in_ok-reach.ensures.ok in
    let out = c.write_over.new.out in
    let same : length out ≡ length c.self.inside.bytes.items = c.write_over.auto.out ∙ ap length c.as_mut_slice.ensures.value in
    whole_back out c.self.inside.bytes.items c.self.inside.bytes.len c.self.inside.bytes.ok.0 same
    ∙ c.write_over.ensures ∙ ap (λ (xs : List ℕ). take at xs ++ (bytes ++ drop end xs)) slice ∙ put_over_zeros file bytes at end refl
