use Rattle.std.proofs.Common.{[], sym, subst, arith}
use Rattle.std.proofs.lemmas.List.{get_or_read}
use Rattle.disk_model.specs.Bytes.{AreBytes}
use Rattle.disk_calm.specs.Store.{held}
use Rattle.disk_calm.proofs.BytesLemmas.{slice_bytes}
use Rattle.disk_calm.proofs.SetLemmas.{put_bytes}
use Rattle.disk_calm.proofs.StoreLemmas.{bytes_level}
use Rattle.disk_calm.proofs.store.Store.parity_write.Goals as goal

pub invariant_of-self : goal.invariant_of-self
invariant_of-self c =
    let s = c.args.self.now in
    let f = c.index_mut.result.now in
    let was : AreBytes f = subst AreBytes (sym (get_or_read s.parities.items _ _ (omega (arith, s.parities.ok.0, s.file_of_each_level, c.requires.level)) c.index_mut.ensures.value [])) (s.bytes.parities c.args.level) in
    let are = put_bytes c.put.result f c.put.new.self c.args.at c.args.bytes.now c.put.ensures.ok c.put.ensures.err was (slice_bytes c.args.bytes.now (λ i. omega (arith, c.type_inv.bytes i))) in
    record {
      file_of_each_level = s.file_of_each_level;
      content_of_each_copy = s.content_of_each_copy;
      draft_of_each_copy = s.draft_of_each_copy;
      staged_of_each_copy = s.staged_of_each_copy;
      bytes = bytes_level (held s) c.args.level c.put.new.self s.bytes are;
    }
