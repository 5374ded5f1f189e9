use Rattle.std.proofs.Common.{◌+◌, List, [], ◌∷◌, ◌++◌, map, ap, sym, ◌∙◌, arith}
use Rattle.std.specs.List.{range_with_len}
use Rattle.std.proofs.lemmas.List.FromFn.{map-range_with_len_more}
use Rattle.file_table.specs.declared.info.Info.{Info}
use Rattle.file_table.specs.Building.{BuildingValue}
use Rattle.array_scan.specs.Layout.{laid_info}
use Rattle.std.proofs.Common.{◌≡◌, ◌-◌, length, subst, append_assoc, Err}
use Rattle.std.proofs.lemmas.List.FromFn.{length-map-range_with_len}
use Rattle.file_table.specs.Table.{records_of}
use Rattle.file_table.specs.Valid.{AreInfos}
use Rattle.file_table.specs.Pushing.{AreWhole}
use Rattle.file_table.proofs.FittingLemmas.{infos_front}
use Rattle.file_table.proofs.RefusedLemmas.{info_refused}
use Rattle.array_scan.proofs.ColumnLemmas.{each_split}
use Rattle.array_scan.proofs.MemoryLemmas.{memory_exits}
use Rattle.array_scan.proofs.building.push_infos.Goals as goal

pub loop-stripe-preserved : goal.loop-stripe-preserved
loop-stripe-preserved c =
    λ positions are.
    let old = c.args.builder.now in
    let s = c.loop-stripe.stripe in
    let made = laid_info c.args.old.now positions in
    c.in_ok-push_info.ensures.ok.pushed
    ∙ ap (λ (b : BuildingValue). record b { infos = b.infos ++ c.info_of.result ∷ [] }) (c.loop-stripe.invariant positions are)
    ∙ ap (λ (info : Info). record old { infos = map made (range_with_len 0 s) ++ info ∷ [] }) (c.info_of.ensures positions are)
    ∙ ap (λ (infos : List Info). record old { infos = infos }) (sym (map-range_with_len_more made 0 s s (omega arith)))

pub returns-in_err-push_info-clause-memory : goal.returns-in_err-push_info-clause-memory
returns-in_err-push_info-clause-memory c =
    λ positions are infos.
    let old = c.args.builder.now in
    let mid = c.loop-stripe.builder in
    let s = c.loop-stripe.stripe in
    let made = laid_info c.args.old.now positions in
    let info = c.info_of.result in
    let so_far = c.loop-stripe.invariant positions are in
    let later = map made (range_with_len (s + 1) (c.args.stripes - (s + 1))) in
    let split : map made (range_with_len 0 c.args.stripes) ≡ (map made (range_with_len 0 s) ++ info ∷ []) ++ later =
    each_split made c.args.stripes s c.loop-stripe-test.true ∙ sym (append_assoc (map made (range_with_len 0 s)) (made s ∷ []) later)
    ∙ ap (λ (i : Info). (map made (range_with_len 0 s) ++ i ∷ []) ++ later) (sym (c.info_of.ensures positions are)) in
    let cut : AreInfos old.columns (map made (range_with_len 0 s) ++ info ∷ []) = infos_front old.columns (map made (range_with_len 0 s) ++ info ∷ []) later (subst (AreInfos old.columns) split infos) in
    let may : AreInfos mid.columns (mid.infos ++ info ∷ []) = subst (λ (b : BuildingValue). AreInfos b.columns (b.infos ++ info ∷ [])) (sym so_far) cut in
    let whole : AreWhole mid (records_of mid.columns) = subst (λ (b : BuildingValue). AreWhole b (records_of b.columns)) (sym so_far) c.requires.whole in
    let count : length mid.infos ≡ s = ap (λ (b : BuildingValue). length b.infos) so_far ∙ length-map-range_with_len made 0 s in
    let long : mid.length ≡ old.length = ap (λ (b : BuildingValue). b.length) so_far in
    let fault = c.in_err-push_info.field-0.0 in
    let refused = c.in_err-push_info.ensures in
    memory_exits _ c.from_residual.result fault c.from_residual.ensures.1 (λ why is. is)
    (info_refused fault mid info (λ e. refused.blocks (ap (λ f. Err f) e)) (λ e. refused.state (ap (λ f. Err f) e)) (λ e. refused.length (ap (λ f. Err f) e)) (λ e. refused.hash (ap (λ f. Err f) e)) refused.only
    whole (omega (arith, count, long, c.loop-stripe-test.true, c.requires.room)) may)
