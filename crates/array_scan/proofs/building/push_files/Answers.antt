use Rattle.std.proofs.Common.{◌≡◌, ℕ, ◌+◌, List, [], ◌∷◌, ◌++◌, length, take, drop, ap, sym, ◌∙◌, subst, append_assoc, arith, rules}
use Rattle.std.proofs.lemmas.List.{length_push, length-drop}
use Rattle.std.proofs.lemmas.Iterator.Consumers.{YieldsList-turn}
use Rattle.std.proofs.lemmas.Iterator.Adapters.{YieldsList-from_vec}
use Rattle.file_table.specs.declared.shape.Shape.{Shape}
use Rattle.file_table.specs.Table.{Record, column_at}
use Rattle.array_scan.specs.Laying.{needed, laid_record, laid_records}
use Rattle.file_table.proofs.PushingLemmas.{record_pushed}
use Rattle.array_scan.proofs.PushingLemmas.{laid-step, needed-step}
use Rattle.file_table.specs.Pushing.{TakesThese}
use Rattle.file_table.proofs.FittingLemmas.{takes_next}
use Rattle.array_scan.proofs.MemoryLemmas.{memory_exits}
use Rattle.array_scan.proofs.building.push_files.Goals as goal

pub loop-file-preserved : goal.loop-file-preserved
loop-file-preserved c =
    let turn = YieldsList-turn (YieldsList-from_vec {s = c.into_iter-file-iterator.result} c.args.files.items (search rules) (search rules))
    c.loop-file.yielded c.loop-file.file-iterator c.loop-file.yielded_by c.next.result c.next.new.self c.in-Some.file c.in-Some.is c.next.ensures.steps in
    let old = c.args.old.now in
    let size = old.shape.block_size in
    let records = (column_at old.columns c.args.d).records in
    let files = c.args.files.items in
    let i = length c.loop-file.yielded in
    let file = c.in-Some.file in
    let free = c.loop-file.free.now in
    let now = c.split_at.result.0.now in
    let rest = c.split_at.result.1.now in
    let laid = c.loop-file.invariant.0 in
    let more = length_push c.loop-file.yielded file in
    let count : c.needed-count.result ≡ needed size file = c.needed-count.ensures ∙ ap (λ (s : Shape). needed s.block_size file) c.shape-block_size.ensures.shape in
    let now_is : now ≡ take (needed size file) free = c.split_at.ensures.front ∙ ap (λ (n : ℕ). take n free) count in
    let rest_is : rest ≡ drop (needed size file) free = c.split_at.ensures.back ∙ ap (λ (n : ℕ). drop n free) count in
    let step = laid-step size records free now rest files i file turn.0 turn.1 now_is rest_is in
    let r : Record = laid_record size records now file in
    rw more (
      laid ++ r ∷ [],
      record_pushed c.args.builder.now c.loop-file.builder c.push_file.new.builder laid r c.loop-file.invariant.1 c.in_ok-push_file.ensures.pushed,
      append_assoc laid (r ∷ []) (laid_records size records rest (drop (i + 1) files)) ∙ ap (λ (rs : List Record). laid ++ rs) (sym step) ∙ c.loop-file.invariant.2,
      omega (arith, ap length rest_is, length-drop (needed size file) free, c.loop-file.invariant.3, needed-step size files i file turn.0 turn.1),
    )

pub push_file-requires-clause-takes : goal.push_file-requires-clause-takes
push_file-requires-clause-takes c =
    let turn = YieldsList-turn (YieldsList-from_vec {s = c.into_iter-file-iterator.result} c.args.files.items (search rules) (search rules))
    c.loop-file.yielded c.loop-file.file-iterator c.loop-file.yielded_by c.next.result c.next.new.self c.in-Some.file c.in-Some.is c.next.ensures.steps in
    let old = c.args.old.now in
    let size = old.shape.block_size in
    let records = (column_at old.columns c.args.d).records in
    let files = c.args.files.items in
    let i = length c.loop-file.yielded in
    let file = c.in-Some.file in
    let free = c.loop-file.free.now in
    let now = c.split_at.result.0.now in
    let rest = c.split_at.result.1.now in
    let laid = c.loop-file.invariant.0 in
    let count : c.needed-count.result ≡ needed size file = c.needed-count.ensures ∙ ap (λ (s : Shape). needed s.block_size file) c.shape-block_size.ensures.shape in
    let now_is : now ≡ take (needed size file) free = c.split_at.ensures.front ∙ ap (λ (n : ℕ). take n free) count in
    let rest_is : rest ≡ drop (needed size file) free = c.split_at.ensures.back ∙ ap (λ (n : ℕ). drop n free) count in
    let step = laid-step size records free now rest files i file turn.0 turn.1 now_is rest_is in
    let all = sym c.loop-file.invariant.2 ∙ ap (λ (rs : List Record). laid ++ rs) step in
    takes_next c.args.builder.now c.loop-file.builder laid (laid_records size records rest (drop (i + 1) files)) (laid_record size records now file)
    (subst (TakesThese c.args.builder.now) all c.requires.takes) c.loop-file.invariant.1

pub returns-in_err-push_file-clause-memory : goal.returns-in_err-push_file-clause-memory
returns-in_err-push_file-clause-memory c = memory_exits _ c.from_residual.result c.in_err-push_file.field-0.0 c.from_residual.ensures.1 (λ why is. is) c.in_err-push_file.ensures.memory
