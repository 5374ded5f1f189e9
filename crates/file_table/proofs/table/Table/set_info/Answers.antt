use Rattle.std.proofs.Common.{◌<◌, ◌≡◌, length, subst, sym, rules}
use Rattle.file_table.specs.declared.info.Mark.TheVariants.{Synced}
use Rattle.file_table.specs.Table.{TableValue}
use Rattle.file_table.specs.Valid.{IsInfo, IsHashedAt}
use Rattle.file_table.specs.Kept.{table_of}
use Rattle.file_table.proofs.SetLemmas.{valid-set_info}
use Rattle.file_table.proofs.table.Table.set_info.Goals as goal

pub invariant_of-self : goal.invariant_of-self
invariant_of-self c =
    let within : c.args.s < length c.self.inside.infos.items = subst (λ (v : TableValue). c.args.s < length v.infos) (sym c.self.view_is) c.requires.stripe in
    let hashed : c.args.info.mark ≡ Synced → IsHashedAt c.self.inside.disks.items c.args.s = subst (λ (v : TableValue). c.args.info.mark ≡ Synced → IsHashedAt v.columns c.args.s) (sym c.self.view_is) c.requires.hashes in
    let info : IsInfo c.args.info = record { state = c.requires.state; last = search rules } in
    record {
      valid = valid-set_info (table_of c.self.inside) c.args.s c.args.info c.self.invariant.valid within info hashed;
      indexed = c.self.invariant.indexed;
      total = c.self.invariant.total;
    }
