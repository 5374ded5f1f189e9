-- A vault in memory is well formed.
use Rattle.std.proofs.Common.{◌≡◌, ℕ, length, IfSome, not, sym, ◌∙◌, IsTrue, refl, subst, ap}
use Rattle.std.proofs.lemmas.List.{length-map}
use Rattle.disk_model.specs.Bytes.{AreBytes}
use Rattle.disk_model.specs.Files.{parity_of}
use Rattle.disk_model.specs.Machine.{Machine, IsSteady, replay, images_of, settled}
use Rattle.disk_model.specs.Moments.{MayLeave}
use Rattle.disk_model.specs.Unsynced.{IsUnsynced, synced}
use Rattle.disk_model.specs.Vault.{IsWellFormed, HasFiles}
use Rattle.disk_model.proofs.ByCallsLemmas.{well_formed_by_calls}
use Rattle.disk_model.proofs.SteadyLemmas.{opened_level, opened_copy, levels_stay}
use Rattle.disk_model.proofs.UnsyncedLemmas.{synced_steady}
use Rattle.disk_calm.specs.Held.{Held}
use Rattle.disk_memory.specs.Recorded.{opened_by, calls_since}
use Rattle.disk_calm.specs.Store.{held}
use Rattle.disk_calm.specs.StoreLaws.{parities_long, contents_long, drafts_long, staged_long, store_files}
use Rattle.disk_memory.specs.Vault.{vault_view, value_of, view_of}
use Rattle.disk_calm.specs.declared.store.Store.{Store}
use Rattle.disk_memory.specs.declared.recorded.Recorded.{Recorded}
use Rattle.disk_memory.specs.declared.vault.MemVault.{MemVault}
use Rattle.disk_memory.specs.RecordedLaws.{follows, untold}

module _ (s : Store) where
  -- opened with what is held, a vault is in order
  pub steady_store : IsSteady (opened_by (held s))
  steady_store = record {
    levels = λ level. subst IsUnsynced (sym (opened_level (held s).files level)) (synced_steady (parity_of (held s).files level) (s.bytes.parities level));
    copies = λ copy. subst (λ c. IfSome c.read AreBytes) (sym (opened_copy (held s).files copy)) (s.bytes.contents copy);
    staged = s.bytes.staged;
    one_draft_each = drafts_long s ∙ sym (contents_long s) ∙ sym (length-map s.contents.items settled);
    one_staged_each = staged_long s ∙ sym (contents_long s) ∙ sym (length-map s.contents.items settled);
  }

abbrev pub machine_of : Recorded → Machine
machine_of r = replay (opened_by (held r.opened)) (calls_since r.base r.past.made.items)

pub recorded_well_formed : (faults : ℕ) (r : Recorded) → IsWellFormed (view_of (value_of faults r))
recorded_well_formed faults r =
    let opened = opened_by (held r.opened) in
    let since = calls_since r.base r.past.made.items in
    let steady = steady_store r.opened in
    let by = well_formed_by_calls opened since (not r.past.lost) faults steady r.recorded.gives in
    let levels : length (machine_of r).levels ≡ r.store.levels = levels_stay opened since ∙ length-map r.opened.parities.items synced ∙ parities_long r.opened ∙ sym r.same_levels in
    let same = λ (told : IsTrue (not r.past.lost)). follows r.past.lost r.base r.past.made.items (held r.opened) (held r.store) r.recorded (untold r.past.lost told) in
    record {
      tells = λ told. refl;
      shape = λ told. record {
        files = store_files r.store;
        staged = staged_long r.store ∙ sym (drafts_long r.store);
        staged_bytes = r.store.bytes.staged;
      };
      leaves_shape = λ told t files left.
          subst (λ n. HasFiles n (length r.store.drafts.items) files) levels
          (subst (λ n. HasFiles (length (machine_of r).levels) n files) (ap (λ (h : Held). length h.drafts) (same told)) (by.leaves_shape told t files left));
      leaves_files = λ told. subst (λ (h : Held). MayLeave (images_of (not r.past.lost) opened since) h.files) (same told) (by.leaves_files told);
      earlier = λ told t u files le left. by.earlier told t u files le left;
    }

pub vault_well_formed : (v : MemVault) → IsWellFormed (vault_view v)
vault_well_formed v = recorded_well_formed v.schedule.faults v.recorded
