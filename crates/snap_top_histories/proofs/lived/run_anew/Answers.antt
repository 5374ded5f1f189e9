use Rattle.std.proofs.Common.{List, [], ◌∷◌, ℕ, map, string_bytes, refl, ◌∙◌}
use Rattle.disk_memory.specs.Sink.{sink_view}
use Rattle.disk_memory.specs.Vault.{vault_view}
use Rattle.snap_top.specs.Standing.{nothing_synced}
use Rattle.snap_top_histories.proofs.BeginLemmas.{begins_over, faults_at, fresh_with, moment_at}
use Rattle.snap_top_histories.proofs.lived.run_anew.Goals as goal

pub returns-in-Some : goal.returns-in-Some
returns-in-Some g c =
    let made = c.run-status in
    let seed : List ℕ = 97 ∷ 98 ∷ 99 ∷ 100 ∷ 101 ∷ 102 ∷ 103 ∷ 104 ∷ 105 ∷ 106 ∷ 107 ∷ 108 ∷ 109 ∷ 110 ∷ 111 ∷ 112 ∷ [] in
    let config_is = c.in_ok-config.ensures.items ∙ c.as_bytes.ensures.value in
    let fresh = fresh_with _ c.args.config.now c.args.folders.items (vault_view c.args.vault) _ config_is c.new-opener.ensures.view in
    let begins = begins_over c.args.config.now c.args.folders.items (vault_view c.args.vault) _ (map string_bytes c.args.words.now) (sink_view c.new-out.result) 100 seed fresh refl c.requires.settled in
    record {
      run = record {
        texts = map string_bytes c.args.words.now;
        opener = c.new-opener.result;
        opener_new = made.new.opener;
        out = c.new-out.result;
        out_new = made.new.out;
        moment = 100;
        seed = seed;
        folders = made.result.folders.items;
        vault = made.result.vault;
        status = made.result.status;
      };
      texts_are = refl;
      seed_is = refl;
      status_is = refl;
      folders_are = refl;
      vault_is = c.in-Some.is;
      begins = begins;
      moment = moment_at _ _ _ _ fresh c.requires;
      faults = faults_at _ _ _ _ fresh c.requires;
      step = made.ensures.step (record { tells = (begins nothing_synced).tells.tells; tells_vault = (begins nothing_synced).tells.tells_vault; settled = (begins nothing_synced).settled });
    }
