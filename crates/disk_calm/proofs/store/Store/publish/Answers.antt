use Rattle.std.proofs.Common.{[], ◌∙◌, Some, sym, subst, arith}
use Rattle.std.proofs.lemmas.List.{get_or_read}
use Rattle.disk_model.specs.Bytes.{AreBytes}
use Rattle.disk_calm.specs.Store.{held, with_copy}
use Rattle.disk_calm.proofs.BytesLemmas.{no_bytes}
use Rattle.disk_model.specs.declared.draft.Draft.TheVariants.{Absent}
use Rattle.disk_calm.proofs.StoreLemmas.{bytes_copy, bytes_draft}
use Rattle.disk_calm.proofs.store.Store.publish.Goals as goal

pub invariant_of-self : goal.invariant_of-self
invariant_of-self c =
    let s = c.args.self.now in
    let f = c.index_mut.result.now in
    let was : AreBytes f = subst AreBytes (sym (get_or_read s.staged.items _ _ (omega (arith, s.staged.ok.0, s.staged_of_each_copy, c.requires)) c.index_mut.ensures.value [])) (s.bytes.staged c.args.copy) in
    let are : AreBytes c.replace-bytes.result = subst AreBytes (sym c.replace-bytes.ensures.value) was in
    let none : AreBytes c.replace-bytes.new.dest = subst AreBytes (sym (c.replace-bytes.ensures.after ∙ c.new-none.ensures)) no_bytes in
    record {
      file_of_each_level = s.file_of_each_level;
      content_of_each_copy = s.content_of_each_copy;
      draft_of_each_copy = s.draft_of_each_copy;
      staged_of_each_copy = s.staged_of_each_copy;
      bytes = bytes_draft (with_copy (held s) c.args.copy (Some c.replace-bytes.result)) c.args.copy Absent c.replace-bytes.new.dest (bytes_copy (held s) c.args.copy (Some c.replace-bytes.result) s.bytes are) none;
    }
