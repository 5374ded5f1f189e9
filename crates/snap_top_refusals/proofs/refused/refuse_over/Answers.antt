use Rattle.std.proofs.Common.{List, [], ◌∷◌, ℕ, map, string_bytes, refl, sym, ◌∙◌}
use Rattle.disk_memory.specs.Folder.{folder_view}
use Rattle.disk_memory.specs.Sink.{sink_view}
use Rattle.disk_memory.specs.Vault.{vault_value, vault_view}
use Rattle.snap_top.specs.Standing.{nothing_synced}
use Rattle.snap_top_histories.proofs.BeginLemmas.{begins_over, fresh_with}
use Rattle.snap_top_refusals.proofs.RefusedLemmas.{opener_holds, refused_unopened}
use Rattle.snap_top_refusals.proofs.refused.refuse_over.Goals as goal

pub returns : goal.returns
returns g c =
    let made = c.run-outcome in
    let seed : List ℕ = 97 ∷ 98 ∷ 99 ∷ 100 ∷ 101 ∷ 102 ∷ 103 ∷ 104 ∷ 105 ∷ 106 ∷ 107 ∷ 108 ∷ 109 ∷ 110 ∷ 111 ∷ 112 ∷ [] in
    let config_is = c.in_ok-config.ensures.items ∙ c.as_bytes.ensures.value in
    let fresh = fresh_with _ c.args.config.now c.args.folders.items (vault_view c.args.vault) _ config_is c.new-opener.ensures.view in
    let begins = begins_over c.args.config.now c.args.folders.items (vault_view c.args.vault) _ (map string_bytes c.args.words.now) (sink_view c.new-out.result) 100 seed fresh refl c.requires.fresh.settled in
    refused_unopened _ folder_view vault_view sink_view c.args.config.now (map folder_view c.args.folders.items) c.args.levels c.args.copies (vault_value c.args.vault)
    (record {
      texts = map string_bytes c.args.words.now;
      opener = c.new-opener.result;
      opener_new = made.new.opener;
      out = c.new-out.result;
      out_new = made.new.out;
      moment = 100;
      seed = seed;
      folders = made.result.folders.items;
      vault = made.result.vault;
      status = made.result.status;
    })
    c.requires.made (begins nothing_synced)
    (made.ensures.step (record { tells = (begins nothing_synced).tells.tells; tells_vault = (begins nothing_synced).tells.tells_vault; settled = (begins nothing_synced).settled }))
    c.headline.ensures c.a_broken_run_prints_a_front.ensures.early made.ensures.account made.ensures.refused (c.is_refused.ensures c.if-not-is_refused.false)
    (opener_holds _ _ _ _ c.new-opener.ensures.view c.requires.file)
    (sym c.is_some.ensures ∙ c.if-is_some.false)
