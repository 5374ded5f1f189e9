use Rattle.std.proofs.Common.{◌≡◌, ◌<◌, ◌≤◌, ◌*◌, ℕ, length, get_or}
use Rattle.position_alloc.specs.Words.{NodesHoldBut}
use Rattle.position_alloc.proofs.tree.repair.Given as goal

abbrev pub invariant-loop-node : goal.invariant-loop-node
invariant-loop-node l =
    record {
      size : length l.tree ≡ 2 * l.count;
      inner : l.node < l.count;
      nodes : NodesHoldBut l.node l.count l.tree;
      leaves : (i : ℕ) → l.count ≤ i → get_or l.tree i 0 ≡ get_or l.initial.tree i 0;
    }

abbrev pub decreases-loop-node : goal.decreases-loop-node
decreases-loop-node l = l.node
