use Rattle.std.proofs.Common.{ap}
use Rattle.disk_memory.specs.Folder.{folder_view}
use Rattle.disk_memory.specs.Sink.{sink_view}
use Rattle.disk_memory.specs.Vault.{VaultValue, vault_view, view_of}
use Rattle.snap_top_histories.proofs.LivedLemmas.{history_begins}
use Rattle.snap_top_histories.proofs.lived.begin.Goals as goal

pub returns-clause-fresh : goal.returns-clause-fresh
returns-clause-fresh c =
    let made = c.in_ok-vault.ensures in
    record {
      settled = made.settled;
      drafts = made.drafts;
      moment = ap (λ (v : VaultValue). (view_of v).images.moment) made.view;
      faults = ap (λ (v : VaultValue). v.faults) made.view;
    }

pub returns-clause-lived : goal.returns-clause-lived
returns-clause-lived c =
    history_begins _ folder_view vault_view sink_view _ _ c.args.array.levels c.args.array.copies _ _ c.in_ok-vault.ensures.view c.new-2.ensures.items
