-- What a vault holds in memory has its counts.
use Rattle.std.proofs.Common.{◌≡◌, length, sym, ◌∙◌}
use Rattle.disk_model.specs.Vault.{HasFiles}
use Rattle.disk_calm.specs.Store.{held}
use Rattle.disk_calm.specs.declared.store.Store.{Store}

module _ (s : Store) where
  pub parities_long : length s.parities.items ≡ s.levels
  parities_long = sym s.parities.ok.0 ∙ s.file_of_each_level

  pub contents_long : length s.contents.items ≡ s.copies
  contents_long = sym s.contents.ok.0 ∙ s.content_of_each_copy

  pub drafts_long : length s.drafts.items ≡ s.copies
  drafts_long = sym s.drafts.ok.0 ∙ s.draft_of_each_copy

  pub staged_long : length s.staged.items ≡ s.copies
  staged_long = sym s.staged.ok.0 ∙ s.staged_of_each_copy

  pub store_files : HasFiles s.levels (length s.drafts.items) (held s).files
  store_files = record {
    parities = parities_long;
    contents = contents_long ∙ sym drafts_long;
    parity_bytes = s.bytes.parities;
    content_bytes = s.bytes.contents;
  }
