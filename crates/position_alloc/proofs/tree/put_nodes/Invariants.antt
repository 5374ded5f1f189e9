use Rattle.std.proofs.Common.{◌≡◌, ◌+◌, ◌<◌, ◌≤◌, ◌*◌, ℕ, length, get_or, min}
use Rattle.position_alloc.proofs.tree.put_nodes.Given as goal

-- the nodes from this one on have the lesser of their children
abbrev pub invariant-loop-node : goal.invariant-loop-node
invariant-loop-node l =
    record {
      size : length l.tree ≡ 2 * l.count;
      inner : l.node ≤ l.count;
      nodes : (i : ℕ) → l.node ≤ i → 1 ≤ i → i < l.count → get_or l.tree i 0 ≡ min (get_or l.tree (2 * i) 0) (get_or l.tree (2 * i + 1) 0);
      leaves : (i : ℕ) → l.count ≤ i → get_or l.tree i 0 ≡ get_or l.initial.tree i 0;
    }

abbrev pub decreases-loop-node : goal.decreases-loop-node
decreases-loop-node l = l.node
