use Rattle.std.proofs.Common.{ap}
use Rattle.disk_memory.specs.Vault.{VaultValue, view_of}
use Rattle.snap_top_instances.proofs.told.picked.Goals as goal

pub returns-clause-left : goal.returns-clause-left
returns-clause-left c =
    let made = c.in_ok-made.ensures in
    record {
      is_new = record {
        settled = made.settled;
        drafts = made.drafts;
        moment = ap (λ (v : VaultValue). (view_of v).images.moment) made.picked;
        faults = ap (λ (v : VaultValue). v.faults) made.picked;
      };
      copies = made.copies;
      told = made.left.0;
      left = made.left.1;
    }

pub returns-clause-fresh : goal.returns-clause-fresh
returns-clause-fresh c =
    let made = c.in_ok-made.ensures in
    record {
      settled = made.settled;
      drafts = made.drafts;
      moment = ap (λ (v : VaultValue). (view_of v).images.moment) made.picked;
      faults = ap (λ (v : VaultValue). v.faults) made.picked;
    }
