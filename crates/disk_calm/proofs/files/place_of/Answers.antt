use Rattle.std.proofs.Common.{rules}
use Rattle.std.specs.Ordering.{nat_cmp}
use Rattle.std.specs.Cmp.Lexicographic.{slice_cmp}
use Rattle.std.proofs.lemmas.Fn.{always_returns_same}
use Rattle.disk_calm.specs.declared.files.MemFile.{MemFile}
use Rattle.disk_calm.proofs.PlaceLemmas.{ok_place, ok_has, err_place, err_lacks}
use Rattle.disk_calm.proofs.files.place_of.Goals as goal

pub returns-clause-there : goal.returns-clause-there
returns-clause-there c =
    let found = c.binary_search_by.ensures.position (λ (f : MemFile). slice_cmp nat_cmp f.path c.args.path.now) (always_returns_same _ _ _ (λ a r f k. search rules)) in
    ok_place c.args.files.now c.args.path.now c.requires c.binary_search_by.result c.binary_search_by.ensures.bound found

pub returns-clause-is : goal.returns-clause-is
returns-clause-is c =
    let found = c.binary_search_by.ensures.position (λ (f : MemFile). slice_cmp nat_cmp f.path c.args.path.now) (always_returns_same _ _ _ (λ a r f k. search rules)) in
    ok_has c.args.files.now c.args.path.now c.requires c.binary_search_by.result c.binary_search_by.ensures.bound found

pub returns-clause-gap : goal.returns-clause-gap
returns-clause-gap c =
    let found = c.binary_search_by.ensures.position (λ (f : MemFile). slice_cmp nat_cmp f.path c.args.path.now) (always_returns_same _ _ _ (λ a r f k. search rules)) in
    err_place c.args.files.now c.args.path.now c.requires c.binary_search_by.result c.binary_search_by.ensures.bound found

pub returns-clause-lacks : goal.returns-clause-lacks
returns-clause-lacks c =
    let found = c.binary_search_by.ensures.position (λ (f : MemFile). slice_cmp nat_cmp f.path c.args.path.now) (always_returns_same _ _ _ (λ a r f k. search rules)) in
    err_lacks c.args.files.now c.args.path.now c.requires c.binary_search_by.result c.binary_search_by.ensures.bound found
