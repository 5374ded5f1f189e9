use Rattle.std.proofs.Common.{◌≡◌, ◌<◌, ◌∙◌, ℕ, List, length, get_or, set, subst, sym, ap, refl, rules}
use Rattle.std.proofs.lemmas.List.{get_or_default}
use Rattle.std.proofs.lemmas.List.Elements.{All-from_get_or}
use Rattle.file_table.specs.Table.{Column, TableValue, record_in, record_at, column_at, column_with_hash, with_hash, no_column}
use Rattle.file_table.specs.Valid.{IsSixteenBytes}
use Rattle.file_table.specs.Kept.{table_of}
use Rattle.file_table.proofs.HashLemmas.{valid-set_hash, length-blocks_of-hash}
use Rattle.file_table.proofs.IndexedLemmas.{AreIndexes-hash}
use Rattle.file_table.proofs.table.Table.set_hash.Goals as goal

pub set_hash-requires-clause-rec : goal.set_hash-requires-clause-rec
set_hash-requires-clause-rec c =
    let within : c.args.d < length c.self.inside.disks.items = subst (λ (v : TableValue). c.args.d < length v.columns) (sym c.self.view_is) c.requires.column in
    let read : c.index_mut.result.now ≡ column_at c.self.inside.disks.items c.args.d = c.index_mut.ensures.value ∙ get_or_default c.self.inside.disks.items c.args.d c.index_mut.result.now no_column within in
    let held = subst (λ (v : TableValue). c.args.i < length (column_at v.columns c.args.d).records) (sym c.self.view_is) c.requires.rec in
    subst (λ (column : Column). c.args.i < length column.records) (sym read) held

pub set_hash-requires-clause-block : goal.set_hash-requires-clause-block
set_hash-requires-clause-block c =
    let within : c.args.d < length c.self.inside.disks.items = subst (λ (v : TableValue). c.args.d < length v.columns) (sym c.self.view_is) c.requires.column in
    let read : c.index_mut.result.now ≡ column_at c.self.inside.disks.items c.args.d = c.index_mut.ensures.value ∙ get_or_default c.self.inside.disks.items c.args.d c.index_mut.result.now no_column within in
    let held = subst (λ (v : TableValue). c.args.index < length (record_at v.columns c.args.d c.args.i).blocks) (sym c.self.view_is) c.requires.block in
    subst (λ (column : Column). c.args.index < length (record_in column c.args.i).blocks) (sym read) held

pub invariant_of-self : goal.invariant_of-self
invariant_of-self c =
    let t = c.self.inside in
    let within : c.args.d < length t.disks.items = subst (λ (v : TableValue). c.args.d < length v.columns) (sym c.self.view_is) c.requires.column in
    let rec_in = subst (λ (v : TableValue). c.args.i < length (column_at v.columns c.args.d).records) (sym c.self.view_is) c.requires.rec in
    let index_in = subst (λ (v : TableValue). c.args.index < length (record_at v.columns c.args.d c.args.i).blocks) (sym c.self.view_is) c.requires.block in
    let read : c.index_mut.result.now ≡ column_at t.disks.items c.args.d = c.index_mut.ensures.value ∙ get_or_default t.disks.items c.args.d c.index_mut.result.now no_column within in
    let written : set t.disks.items c.args.d c.set_hash.new.self ≡ with_hash t.disks.items c.args.d c.args.i c.args.index c.args.hash =
    ap (λ (column : Column). set t.disks.items c.args.d column) (c.set_hash.ensures ∙ ap (λ (column : Column). column_with_hash column c.args.i c.args.index c.args.hash) read) in
    let bytes : (k : ℕ) → k < length c.args.hash.0 → get_or c.args.hash.0 k 0 < 256 = search rules in
    let digest : IsSixteenBytes c.args.hash.0 = record { sixteen = search rules; in_range = All-from_get_or (λ (byte : ℕ). byte < 256) c.args.hash.0 0 bytes } in
    record {
      valid = rw written (valid-set_hash t.disks.items c.args.d c.args.i c.args.index c.args.hash within rec_in index_in (table_of t) refl digest c.self.invariant.valid);
      indexed = rw written (AreIndexes-hash t.disks.items t.indexes.items c.args.d c.args.i c.args.index c.args.hash within rec_in index_in c.self.invariant.indexed);
      total = rw written (c.self.invariant.total ∙ sym (length-blocks_of-hash t.disks.items c.args.d c.args.i c.args.index c.args.hash within rec_in index_in));
    }

pub returns : goal.returns
returns c =
    let t = c.self.inside in
    let within : c.args.d < length t.disks.items = subst (λ (v : TableValue). c.args.d < length v.columns) (sym c.self.view_is) c.requires.column in
    let read : c.index_mut.result.now ≡ column_at t.disks.items c.args.d = c.index_mut.ensures.value ∙ get_or_default t.disks.items c.args.d c.index_mut.result.now no_column within in
    let written : set t.disks.items c.args.d c.set_hash.new.self ≡ with_hash t.disks.items c.args.d c.args.i c.args.index c.args.hash =
    ap (λ (column : Column). set t.disks.items c.args.d column) (c.set_hash.ensures ∙ ap (λ (column : Column). column_with_hash column c.args.i c.args.index c.args.hash) read) in
    rw (← c.self.view_is) (ap (λ (columns : List Column). let v : TableValue = record { shape = t.shape; columns = columns; infos = t.infos.items } in v) written)
