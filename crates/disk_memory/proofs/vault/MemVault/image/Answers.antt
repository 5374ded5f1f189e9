use Rattle.std.proofs.Common.{List, length, sym, ◌∙◌, ap, subst, arith}
use Rattle.std.proofs.lemmas.List.{length-replicate}
use Rattle.disk_model.specs.Files.{Files}
use Rattle.disk_model.specs.declared.draft.Draft.{Draft}
use Rattle.disk_model.specs.declared.draft.Draft.TheVariants.{Absent}
use Rattle.disk_calm.specs.Held.{Held}
use Rattle.disk_memory.specs.Vault.{value_of, view_of, image_at}
use Rattle.disk_calm.proofs.BytesLemmas.{slice_bytes}
use Rattle.disk_memory.proofs.ImageLemmas.{image_left, image_value}
use Rattle.disk_memory.proofs.SettledLemmas.{settled_fresh, no_draft_anew}
use Rattle.disk_calm.specs.StoreLaws.{drafts_long}
use Rattle.disk_memory.proofs.vault.MemVault.image.Goals as goal

pub returns : goal.returns
returns c =
    let old = c.args.self.now.recorded in
    let faults = c.args.self.now.schedule.faults in
    let choice = c.args.choice.now in
    let made = c.in_ok-opened.field-0 in
    let view = c.in_ok-opened.ensures.view in
    let store = c.in_ok-store.store in
    let holds = c.in_ok-store.ensures.held in
    let drafts = ap (λ (h : Held). h.drafts) (view.now ∙ holds) in
    record {
      picked = image_value faults c.new.result.faults old made store (image_at (value_of faults old) choice) holds c.in_ok-store.ensures.same view c.new.ensures.faults;
      plan = c.new.ensures.plan;
      left = (
        grind arith,
        subst (λ (files : Files). (view_of (value_of faults old)).images.since 0 files) (sym (ap (λ (h : Held). h.files) (view.now ∙ holds)))
            (image_left faults old choice (slice_bytes choice (λ i. omega (arith, c.type_inv.choice i)))),
      );
      levels = view.same.levels ∙ c.in_ok-store.ensures.same.levels;
      copies = ap (λ (ds : List Draft). length ds) drafts ∙ length-replicate old.store.copies Absent ∙ sym (drafts_long old.store);
      settled = settled_fresh c.new.result.faults made view.calls (view.now ∙ sym view.opened);
      drafts = no_draft_anew old.store.copies made.store.drafts.items drafts;
    }
