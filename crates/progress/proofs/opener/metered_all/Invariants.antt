use Rattle.std.proofs.Common.{◌≡◌, ◌+◌, ◌≤◌, ◌++◌, map, vec_len, vec_capacity, length}
use Rattle.std.specs.Vec.Iter.{into_iter_items}
use Rattle.progress.proofs.opener.metered_all.Given as goal

abbrev pub invariant-loop-folder : goal.invariant-loop-folder
invariant-loop-folder g l = record {
  done : map (λ one. one.folder) l.metered.items ≡ l.yielded;
  rest : l.fn.folders.items ≡ l.yielded ++ into_iter_items l.folder-iterator;
  room : vec_len l.metered + length (into_iter_items l.folder-iterator) ≤ vec_capacity l.metered;
}
