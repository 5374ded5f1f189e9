use Rattle.std.proofs.Common.{◌≡◌, true, false, refl, arith}
use Rattle.disk_calm.specs.Files.{tree_of}
use Rattle.disk_calm.proofs.TreeLemmas.{ends_directory, nothing_ends}
use Rattle.disk_calm.proofs.files.Files.has_no_directory.Goals as goal

pub returns-then-ends_directory : goal.returns-then-ends_directory
returns-then-ends_directory c =
    let tree = tree_of c.args.self.now.list.items in
    let ends = c.ends_directory.ensures.0 c.if-ends_directory.true in (
      λ (no : false ≡ true). absurd (cc),
      λ none. absurd (ends_directory tree c.args.path.now c.loop-end.end c.loop-end-test.true ends none),
    )

pub returns : goal.returns
returns c = (
  λ _. nothing_ends (tree_of c.args.self.now.list.items) c.args.path.now (λ k below. c.loop-end.invariant k (omega arith)),
  λ _. refl,
)
