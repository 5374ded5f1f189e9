use Rattle.std.proofs.Common.{◌≡◌, ◌∙◌, ◌<◌, length, true, false, refl, sym, arith, IsTrue}
use Rattle.disk_calm.proofs.SameLemmas.{same_file_at, same_files}
use Rattle.disk_calm.proofs.files.have_same.Goals as goal

untrue : IsTrue false → ⊥
untrue told = cc

pub returns-then-not-is_same_file : goal.returns-then-not-is_same_file
returns-then-not-is_same_file c = (
  λ yes. absurd (untrue yes),
  λ same.
      let files = c.args.files.now in
      let others = c.args.others.now in
      let within : c.loop-place.place < length files = omega arith in
      let there : c.loop-place.place < length others = omega arith in
      let alike = same_file_at files others c.loop-place.place c.index-files-place.result c.index-others-place.result within there c.index-files-place.is c.index-others-place.is same in
      let clash : true ≡ false = sym (c.is_same_file.ensures.1 alike) ∙ c.if-not-is_same_file.true in
      cc,
)

pub returns : goal.returns
returns c = (λ _. same_files c.args.files.now c.args.others.now (omega arith) (λ i d below. c.loop-place.invariant i d (omega arith)), λ _. refl)
