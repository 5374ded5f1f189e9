use Rattle.std.proofs.Common.{◌≡◌, ℕ, ◌+◌, ◌-◌, ◌<◌, [], length, filter, ap, sym, ◌∙◌, subst, arith}
use Rattle.std.specs.List.{range_with_len}
use Rattle.file_table.specs.Table.{column_at}
use Rattle.array_scan.specs.Fates.{is_vanished, vanished}
use Rattle.array_scan.specs.Lost.{with_first}
use Rattle.array_scan.proofs.FatesLemmas.{left_like, vanished_from, one_vanished, none_vanished}
use Rattle.array_scan.proofs.sorting.lost_of.Goals as goal

none_left : (n rec : ℕ) → rec ≡ n → n - rec ≡ 0
none_left n rec is = omega arith

pub loop-rec-init : goal.loop-rec-init
loop-rec-init c =
    let records = (column_at c.args.old.now.columns c.args.d).records in
    let lost = c.new-lost.result in
    let rec = c.records-rec.result in (
      omega (arith, c.records-rec.ensures),
      λ files listed.
          left_like lost.nodes.items lost.heads (λ meta. []) (vanished_from records files rec)
          (λ meta moves. ap (λ (n : ℕ). filter (is_vanished records files meta) (range_with_len rec n)) (sym (none_left (length records) rec c.records-rec.ensures)))
          c.new-lost.ensures,
    )

pub loop-rec-preserved-in-Continue-1 : goal.loop-rec-preserved-in-Continue-1
loop-rec-preserved-in-Continue-1 c =
    let records = (column_at c.args.old.now.columns c.args.d).records in
    let rec = c.loop-rec.rec - 1 in
    let some : 0 < c.loop-rec.rec = c.loop-rec-test.true in
    let below : rec < length records = omega (arith, c.loop-rec.invariant.0) in
    let next : c.loop-rec.rec ≡ rec + 1 = omega arith in
    let lost = c.push.new.self in (
      omega (arith, c.loop-rec.invariant.0),
      λ files listed.
          left_like lost.nodes.items lost.heads (with_first (vanished_from records files (rec + 1)) rec c.meta.result) (vanished_from records files rec)
          (λ other moves. one_vanished records files rec c.meta.result other below (sym (listed rec) ∙ c.if-not-marks-rec.true) (sym c.meta.ensures))
          (subst (λ (n : ℕ). Rattle.array_scan.specs.Lost.Offers lost (with_first (vanished_from records files n) rec c.meta.result)) next
          (c.in_ok-push.ensures (vanished_from records files c.loop-rec.rec) (c.loop-rec.invariant.1 files listed))),
    )

pub loop-rec-preserved : goal.loop-rec-preserved
loop-rec-preserved c =
    let records = (column_at c.args.old.now.columns c.args.d).records in
    let rec = c.loop-rec.rec - 1 in
    let some : 0 < c.loop-rec.rec = c.loop-rec-test.true in
    let below : rec < length records = omega (arith, c.loop-rec.invariant.0) in
    let next : c.loop-rec.rec ≡ rec + 1 = omega arith in
    let lost = c.loop-rec.lost in (
      omega (arith, c.loop-rec.invariant.0),
      λ files listed.
          left_like lost.nodes.items lost.heads (vanished_from records files (rec + 1)) (vanished_from records files rec)
          (λ other moves. none_vanished records files rec other below (sym (listed rec) ∙ c.if-not-marks-rec.false))
          (subst (λ (n : ℕ). Rattle.array_scan.specs.Lost.Offers lost (vanished_from records files n)) next (c.loop-rec.invariant.1 files listed)),
    )

pub returns : goal.returns
returns c =
    λ files listed.
    let records = (column_at c.args.old.now.columns c.args.d).records in
    let lost = c.loop-rec.lost in
    let done : c.loop-rec.rec ≡ 0 = omega (arith, c.loop-rec-test.false) in
    left_like lost.nodes.items lost.heads (vanished_from records files 0) (vanished records files)
    (λ meta moves. ap (λ (n : ℕ). filter (is_vanished records files meta) (range_with_len 0 n)) (minus_none (length records)))
    (subst (λ (n : ℕ). Rattle.array_scan.specs.Lost.Offers lost (vanished_from records files n)) done (c.loop-rec.invariant.1 files listed))
  where
    minus_none : (n : ℕ) → n - 0 ≡ n
    minus_none n = omega arith
