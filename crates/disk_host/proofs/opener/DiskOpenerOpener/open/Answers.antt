use Rattle.std.proofs.Common.{◌≡◌, ◌∙◌, ℕ, length, replicate, vec_len, rules, refl, ap}
use Rattle.disk_host.proofs.OpenedLemmas.{new_in_each_column, same_of_each}
use Rattle.disk_host.specs.Drafts.{state_of}
use Rattle.disk_model.specs.Cause.{exactly}
use Rattle.disk_model.specs.declared.draft.Draft.TheVariants.{Absent}
use Rattle.disk_host.proofs.opener.DiskOpenerOpener.open.Goals as goal

pub returns-in-Ok-Ok-clause-folders : goal.returns-in-Ok-Ok-clause-folders
returns-in-Ok-Ok-clause-folders g c = λ column within.
    new_in_each_column _ c.in-Ok-Ok.folders.items (λ k d below. record { faults = c.in-Ok-Ok.ensures.new k d below; writes = ap (λ (n : ℕ). exactly n) (c.in-Ok-Ok.ensures.unwritten k d below); is_open = refl; whole = λ told. cc }) column _ (search rules)

pub returns-in-Ok-Ok-clause-vault : goal.returns-in-Ok-Ok-clause-vault
returns-in-Ok-Ok-clause-vault g c = record {
  same = search rules;
  levels = search rules;
  drafts =
      let long : length c.in-Ok-Ok.vault.contents.items ≡ vec_len c.args.places.now.contents = search rules in
      same_of_each (λ content. state_of content.draft.stage) c.in-Ok-Ok.vault.contents.items Absent c.in-Ok-Ok.ensures'.new ∙ ap (λ (n : ℕ). replicate n Absent) long;
  settled = search rules;
}
