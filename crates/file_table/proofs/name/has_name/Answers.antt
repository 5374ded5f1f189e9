use Rattle.std.proofs.Common.{◌≡◌, ◌≢◌, sym, ◌∙◌, arith, get_or, subst, false, true}
use Rattle.std.specs.Cmp.Lexicographic.{other_text}
use Rattle.std.proofs.lemmas.List.{take_all}
use Rattle.std.proofs.lemmas.List.Elements.{All-more, All-same}
use Rattle.file_table.specs.Table.{Column}
use Rattle.file_table.proofs.name.has_name.Goals as goal

pub loop-disk-preserved : goal.loop-disk-preserved
loop-disk-preserved c =
    let other : c.disk-item.result.name ≢ c.args.name.now = λ same. other_text c.name.result.now c.args.name.now c.if-eq.ensures (c.name.ensures ∙ same) in
    let here : (get_or c.args.disks.now c.loop-disk.disk-index c.disk-item.result).name ≢ c.args.name.now = subst (λ (column : Column). column.name ≢ c.args.name.now) c.disk-item.is other in
    All-more (λ (column : Column). column.name ≢ c.args.name.now) c.args.disks.now c.loop-disk.disk-index c.disk-item.result (omega arith) c.loop-disk.invariant here

pub returns : goal.returns
returns c =
    let none = All-same (λ (column : Column). column.name ≢ c.args.name.now) c.args.disks.now _ (sym (take_all c.loop-disk.disk-index c.args.disks.now (omega arith))) c.loop-disk.invariant in
    (λ (is : false ≡ true). absurd (cc), λ any. absurd (none any.0 any.1 any.2 (subst (λ (column : Column). column.name ≡ c.args.name.now) (sym any.3) any.4)))
