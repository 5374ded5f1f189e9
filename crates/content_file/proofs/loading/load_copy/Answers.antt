use Rattle.std.proofs.Common.{Some}
use Rattle.content_file.proofs.LoadFeeds.{gives_table, gives_damage}
use Rattle.content_file.proofs.OrderCopies.{into_is, table_came, damage_came, no_memory_then}
use Rattle.content_file.proofs.loading.load_copy.Goals as goal

pub returns-in-Ok-clause-found : goal.returns-in-Ok-clause-found
returns-in-Ok-clause-found g c =
    gives_table (g.V.Vault.view c.args.vault.now) c.args.copy _ c.in-Ok-Some.decoder c.in-Ok.table c.in-Ok-Some.field-0-is c.in-Ok-Some.ensures.found c.in-Ok.ensures.valid c.in-Ok.ensures.answer

pub returns-in-Err-Damaged-clause-cause : goal.returns-in-Err-Damaged-clause-cause
returns-in-Err-Damaged-clause-cause g c = record {
  damaged = gives_damage (g.V.Vault.view c.args.vault.now) c.args.copy _ c.in-Ok-Some.decoder _ c.in-Err-Damaged.damage c.in-Ok-Some.field-0-is c.in-Ok-Some.ensures.found c.in-Err-Damaged.field-0-is c.in-Err-Damaged.ensures.answer;
  none_failed = c.in-Ok-Some.ensures.none_failed;
}

pub returns-in-Ok-clause-order : goal.returns-in-Ok-clause-order
returns-in-Ok-clause-order g c =
    table_came c.args.copy c.in-Ok-Some.decoder c.in-Ok.table _ _ c.in-Ok.ensures.answer (into_is c.args.copy _ (Some c.in-Ok-Some.decoder) _ _ c.in-Ok-Some.field-0-is c.in-Ok-Some.ensures.order)

pub returns-in-Err-Damaged-clause-order : goal.returns-in-Err-Damaged-clause-order
returns-in-Err-Damaged-clause-order g c =
    damage_came c.args.copy c.in-Ok-Some.decoder _ c.in-Err-Damaged.damage _ _ c.in-Err-Damaged.field-0-is c.in-Err-Damaged.ensures.answer
    (into_is c.args.copy _ (Some c.in-Ok-Some.decoder) _ _ c.in-Ok-Some.field-0-is c.in-Ok-Some.ensures.order)

pub returns-in-Err-Memory-clause-order : goal.returns-in-Err-Memory-clause-order
returns-in-Err-Memory-clause-order g c = no_memory_then c.args.copy c.in-Ok-Some.decoder _ _ (into_is c.args.copy _ (Some c.in-Ok-Some.decoder) _ _ c.in-Ok-Some.field-0-is c.in-Ok-Some.ensures.order)
