use Rattle.std.proofs.Common.{◌≡◌, ◌<◌, length, subst, sym, refl, arith, rules}
use Rattle.std.proofs.lemmas.Grind.{common_steps}
use Rattle.file_table.specs.declared.info.Mark.TheVariants.{Synced}
use Rattle.file_table.specs.Valid.{IsInfo, IsHashedAt}
use Rattle.file_table.specs.Builder.{building_of}
use Rattle.file_table.specs.Stripes.{users_of, lacking_of}
use Rattle.file_table.specs.Building.{BuildingValue}
use Rattle.file_table.proofs.CountedLemmas.{counted-info}
use Rattle.file_table.proofs.builder.Builder.push_info.Goals.{else-eq-via-then-eq+else-not-next_has_hashes, else-eq-via-else-eq}
use Rattle.file_table.proofs.builder.Builder.push_info.Goals as goal

pub invariant_of-self-2 : goal.invariant_of-self-2
invariant_of-self-2 c =
    let b = c.self.inside in
    let info : IsInfo c.args.info = record { state = c.if-not-is_state.ensures.0 refl; last = search rules } in
    let room : length b.infos.items < b.length = omega arith in
    let hashed : c.args.info.mark ≡ Synced → IsHashedAt b.disks.items (length b.infos.items) = elim c.else-eq.branch [
      | else-eq-via-then-eq+else-not-next_has_hashes w ↦ λ synced. subst (λ (v : BuildingValue). IsHashedAt v.columns (length v.infos)) (sym c.self.view_is) (w.if-not-next_has_hashes.ensures.0 refl)
      | else-eq-via-else-eq w ↦ λ synced. grind (arith, common_steps)
    ] in
    rw c.in_ok-push.ensures.items (counted-info (building_of b) (users_of b.stripes) (lacking_of b.stripes) b.records b.due b.lacking b.end c.args.info room info hashed c.self.invariant)

pub returns-clause-building : goal.returns-clause-building
returns-clause-building c = (invariant_of-self-2 c).building
