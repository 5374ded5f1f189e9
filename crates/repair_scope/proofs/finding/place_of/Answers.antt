use Rattle.std.proofs.Common.{rules}
use Rattle.std.proofs.lemmas.Fn.{always_returns_same}
use Rattle.std.specs.Ordering.{nat_cmp}
use Rattle.std.specs.Cmp.Lexicographic.{slice_cmp}
use Rattle.disk_model.specs.declared.meta.FileInfo.{FileInfo}
use Rattle.repair_scope.proofs.finding.place_of.Goals as goal

pub returns-clause-place : goal.returns-clause-place
returns-clause-place c =
    c.binary_search_by.ensures.position (λ (file : FileInfo). slice_cmp nat_cmp file.path c.args.path.now) (always_returns_same _ _ _ (λ a r f k. search rules))
