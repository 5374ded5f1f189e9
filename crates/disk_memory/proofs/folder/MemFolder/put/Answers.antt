use Rattle.std.proofs.Common.{◌∙◌, refl, sym, subst, arith, rules}
use Rattle.disk_model.specs.Bytes.{AreBytes}
use Rattle.disk_model.specs.Tree.{IsApart}
use Rattle.disk_calm.specs.Kept.{tree_in}
use Rattle.disk_calm.proofs.BytesLemmas.{slice_bytes}
use Rattle.disk_memory.proofs.folder.MemFolder.put.Goals as goal

pub put-requires : goal.put-requires
put-requires c =
    let tree = tree_in c.args.self.now.files in
    let same = c.as_bytes.ensures.value ∙ c.as_str.ensures.value in
    record {
      valid = c.as_str.ensures.valid;
      stamp = c.requires;
      bytes = subst AreBytes (sym c.in_ok-held.ensures.same) (slice_bytes c.args.bytes.now (λ i. omega (arith, c.type_inv.bytes i)));
      size = search rules;
      apart = subst (IsApart tree) same (c.in_ok-is_apart.ensures.0 c.if-not-branch.false);
    }

pub returns-clause-allowed : goal.returns-clause-allowed
returns-clause-allowed c =
    let tree = tree_in c.args.self.now.files in
    let apart = c.in_ok-is_apart.ensures.0 c.if-not-branch.false in
    let same = c.as_bytes.ensures.value ∙ c.as_str.ensures.value in
    (λ _. record { is_open = refl; valid = c.as_str.ensures.valid; apart = subst (IsApart tree) same apart }, λ _. refl)
