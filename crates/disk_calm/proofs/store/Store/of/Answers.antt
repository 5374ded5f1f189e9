use Rattle.std.proofs.Common.{ℕ, List, [], get_or, length, sym, ◌∙◌, ap, subst}
use Rattle.std.proofs.lemmas.List.{length-replicate}
use Rattle.disk_model.specs.Bytes.{AreBytes}
use Rattle.disk_model.specs.declared.draft.Draft.{Draft}
use Rattle.disk_model.specs.declared.draft.Draft.TheVariants.{Absent}
use Rattle.disk_calm.proofs.BytesLemmas.{no_bytes}
use Rattle.disk_calm.proofs.StoreLemmas.{each-replicate}
use Rattle.disk_calm.proofs.store.Store.of.Goals as goal

pub invariant_of-result : goal.invariant_of-result
invariant_of-result c = record {
  file_of_each_level = c.requires.levels;
  content_of_each_copy = c.requires.copies;
  draft_of_each_copy = c.in_ok-absent_drafts.field-0.ok.0 ∙ ap (λ (ds : List Draft). length ds) c.in_ok-absent_drafts.ensures ∙ length-replicate c.args.copies Absent;
  staged_of_each_copy = c.in_ok-empty_files.field-0.ok.0 ∙ ap (λ (bs : List (List ℕ)). length bs) c.in_ok-empty_files.ensures ∙ length-replicate c.args.copies [];
  bytes = record {
    parities = c.requires.bytes.parities_are;
    contents = c.requires.bytes.contents_are;
    staged = λ copy. subst (λ (bs : List (List ℕ)). AreBytes (get_or bs copy [])) (sym c.in_ok-empty_files.ensures) (each-replicate AreBytes c.args.copies [] [] no_bytes no_bytes copy);
  };
}
