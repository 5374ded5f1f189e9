use Rattle.std.proofs.Common.{◌≡◌, ℕ, ◌<◌, List, length, get_or, arith, sym, ap, ◌∙◌, subst}
use Rattle.std.proofs.lemmas.List.{get_or_read}
use Rattle.hash_index.specs.Numbering.{starts_from}
use Rattle.hash_index.proofs.NumberingLemmas.{length-starts_from}
use Rattle.hash_index.proofs.StartLemmas.{starts_some, starts_begin, starts_ordered, place_found}
use Rattle.hash_index.proofs.records.Records.place.Goals as goal

pub disk_with-disk-requires-clause-some : goal.disk_with-disk-requires-clause-some
disk_with-disk-requires-clause-some c =
    let is : c.deref.result.now ≡ starts_from 0 c.args.self.now = (let read = c.deref.ensures.value in let kept = c.self.invariant.starts in let view = c.self.view_is in cc) in
    starts_some c.args.self.now c.deref.result.now c.args.number is c.requires

pub disk_with-disk-requires-clause-start : goal.disk_with-disk-requires-clause-start
disk_with-disk-requires-clause-start c =
    let is : c.deref.result.now ≡ starts_from 0 c.args.self.now = (let read = c.deref.ensures.value in let kept = c.self.invariant.starts in let view = c.self.view_is in cc) in
    starts_begin c.args.self.now c.deref.result.now c.args.number is c.requires

pub disk_with-disk-requires-clause-rise : goal.disk_with-disk-requires-clause-rise
disk_with-disk-requires-clause-rise c =
    let is : c.deref.result.now ≡ starts_from 0 c.args.self.now = (let read = c.deref.ensures.value in let kept = c.self.invariant.starts in let view = c.self.view_is in cc) in
    starts_ordered c.args.self.now c.deref.result.now is

pub overflow_cast-result : goal.overflow_cast-result
overflow_cast-result c =
    let is : c.deref.result.now ≡ starts_from 0 c.args.self.now = (let read = c.deref.ensures.value in let kept = c.self.invariant.starts in let view = c.self.view_is in cc) in
    let long : length c.deref.result.now ≡ length (starts_from 0 c.args.self.now) = ap length is in
    let view : length c.self.inside.table.now.columns ≡ length c.args.self.now = ap length c.self.view_is in
    omega (arith, long, view, length-starts_from 0 c.args.self.now, c.self.invariant.few_columns, c.disk_with-disk.ensures.within)

pub returns : goal.returns
returns c =
    let disk : ℕ = c.disk_with-disk.result in
    let is : c.deref.result.now ≡ starts_from 0 c.args.self.now = (let read = c.deref.ensures.value in let kept = c.self.invariant.starts in let view = c.self.view_is in cc) in
    let read : c.deref.result.now ≡ c.self.inside.starts.items = c.deref.ensures.value in
    let within = subst (λ (starts : List ℕ). disk < length starts) read c.disk_with-disk.ensures.within in
    let begin : c.index.result.now ≡ get_or c.deref.result.now disk 0 =
    get_or_read c.self.inside.starts.items disk c.index.result.now within c.index.ensures 0 ∙ ap (λ (starts : List ℕ). get_or starts disk 0) (sym read) in
    place_found c.args.self.now c.deref.result.now c.args.number disk c.index.result.now is c.requires c.disk_with-disk.ensures.within begin c.disk_with-disk.ensures.begins c.disk_with-disk.ensures.last
