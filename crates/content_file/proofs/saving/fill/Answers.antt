use Rattle.std.proofs.Common.{◌≡◌, ◌<◌, List, ℕ, length, take, refl, sym, subst, arith}
use Rattle.std.proofs.lemmas.Grind.{common_steps}
use Rattle.disk_model.proofs.VaultLemmas.{more_calls, on_any}
use Rattle.disk_model.specs.Calls.{MakesThese}
use Rattle.disk_model.specs.Vault.{DraftAppend}
use Rattle.disk_model.specs.declared.answer.Answer.TheVariants.{Failed}
use Rattle.disk_model.proofs.InOrder.{each_of, each_fails}
use Rattle.content_file.specs.Save.{piece_count, append_call}
use Rattle.content_file.specs.Spelling.{spelling}
use Rattle.content_file.proofs.Drafts.{Filling, filling_start, filling_more, draft_gone, more_pieces, all_pieces, next_call, next_piece}
use Rattle.content_file.proofs.saving.fill.Goals as goal

pub loop-encoder-init : goal.loop-encoder-init
loop-encoder-init g c =
    let old = g.V.Vault.view c.args.vault.now in
    let bytes = spelling c.args.table.now in
    record {
      filling = subst (λ (rest : List ℕ). Filling (length c.args.buffer.now) c.args.copy bytes rest old old) (sym c.new-encoder.ensures) (filling_start (length c.args.buffer.now) c.args.copy bytes old c.requires.buffer c.requires.draft);
      long = refl;
    }

pub returns-in_err-draft_append-clause-calls : goal.returns-in_err-draft_append-clause-calls
returns-in_err-draft_append-clause-calls g c = more_calls _ _ _ _ c.loop-encoder.invariant.filling.calls c.draft_append.ensures.call.goes_on

pub returns-in_err-draft_append-clause-cause : goal.returns-in_err-draft_append-clause-cause
returns-in_err-draft_append-clause-cause g c =
    let size = length c.args.buffer.now in
    let bytes = spelling c.args.table.now in
    let rest = c.loop-encoder.encoder in
    let more : 0 < length rest = grind (arith, common_steps) in
    let n = c.next-count.result in
    let piece = take n c.next-count.new.out in
    let next = next_piece size n rest piece c.next-count.new.self c.loop-encoder.buffer c.loop-encoder.invariant.long c.next-count.ensures.count c.next-count.ensures.piece c.next-count.ensures.rest in
    let old = g.V.Vault.view c.args.vault.now in
    let mid = g.V.Vault.view c.loop-encoder.vault in
    let so_far = c.loop-encoder.invariant.filling in
    on_any c.from_residual.result
    (each_fails (append_call size c.args.copy bytes) (DraftAppend c.args.copy piece) so_far.pieces (piece_count size bytes) Failed old mid (g.V.Vault.view c.draft_append.new.self)
    (more_pieces size c.args.copy bytes rest old mid c.requires.buffer so_far more) (next_call size c.args.copy bytes rest piece old mid so_far next.front) refl so_far.calls.goes_on.later c.in_err-draft_append.ensures.call.cause so_far.made c.in_err-draft_append.ensures.call.goes_on)

pub returns-in_err-draft_append-clause-gone : goal.returns-in_err-draft_append-clause-gone
returns-in_err-draft_append-clause-gone g c = on_any c.from_residual.result (draft_gone _ _ _ _ _ c.loop-encoder.invariant.filling.calls c.loop-encoder.invariant.filling.draft c.in_err-draft_append.ensures.gone)

pub returns-clause-made : goal.returns-clause-made
returns-clause-made g c =
    let size = length c.args.buffer.now in
    let bytes = spelling c.args.table.now in
    let old = g.V.Vault.view c.args.vault.now in
    let mid = g.V.Vault.view c.loop-encoder.vault in
    let none : length c.loop-encoder.encoder ≡ 0 = grind (arith, common_steps) in
    subst (λ n. MakesThese (each_of (append_call size c.args.copy bytes) n) old mid) (all_pieces size c.args.copy bytes c.loop-encoder.encoder old mid c.requires.buffer c.loop-encoder.invariant.filling none) c.loop-encoder.invariant.filling.made

pub loop-encoder-preserved : goal.loop-encoder-preserved
loop-encoder-preserved g c =
    let size = length c.args.buffer.now in
    let bytes = spelling c.args.table.now in
    let rest = c.loop-encoder.encoder in
    let more : 0 < length rest = grind (arith, common_steps) in
    let n = c.next-count.result in
    let piece = take n c.next-count.new.out in
    let next = next_piece size n rest piece c.next-count.new.self c.loop-encoder.buffer c.loop-encoder.invariant.long c.next-count.ensures.count c.next-count.ensures.piece c.next-count.ensures.rest in
    record {
      filling = filling_more size c.args.copy bytes rest piece c.next-count.new.self (g.V.Vault.view c.args.vault.now) (g.V.Vault.view c.loop-encoder.vault) (g.V.Vault.view c.draft_append.new.self) (g.V.Vault.well_formed _) c.requires.copy next.split next.front next.back more
          c.loop-encoder.invariant.filling c.in_ok-draft_append.ensures.call.goes_on c.draft_append.ensures.changes c.in_ok-draft_append.ensures.appended;
      long = grind (arith, common_steps);
    }
