use Rattle.std.proofs.Common.{◌≡◌, ◌≢◌, ◌<◌, ◌∙◌, length, subst, sym, ap, arith}
use Rattle.file_table.specs.Builder.{building_of}
use Rattle.file_table.specs.declared.stripes.Stripe.{Stripe}
use Rattle.file_table.specs.Stripes.{users_of, lacking_of}
use Rattle.file_table.specs.Building.{BuildingValue}
use Rattle.file_table.proofs.CallLemmas.{marked, unmarked}
use Rattle.file_table.proofs.builder.Builder.position_fault.Goals as goal

pub returns-then-from-len : goal.returns-then-from-len
returns-then-from-len c =
    let b = c.self.inside in
    let some : 0 < length b.disks.items = subst (λ (v : BuildingValue). 0 < length v.columns) (sym c.self.view_is) c.requires in
    let mark : c.at.result.column ≡ length b.disks.items = omega arith in
    rw (← c.self.view_is) (
      c.if-position-self.false,
      marked (building_of b) (users_of b.stripes) (lacking_of b.stripes) b.records b.due b.lacking b.end c.self.invariant c.args.position c.at.result.column c.if-position-self.false (ap (λ (stripe : Stripe). stripe.column) c.at.ensures) some mark,
    )

pub returns : goal.returns
returns c =
    let b = c.self.inside in
    let some : 0 < length b.disks.items = subst (λ (v : BuildingValue). 0 < length v.columns) (sym c.self.view_is) c.requires in
    let number : c.len.result ≡ length b.disks.items = omega arith in
    let other : c.at.result.column ≢ length b.disks.items = λ same. c.if-from-len.false (c.from.ensures ∙ same ∙ sym number) in
    rw (← c.self.view_is) (
      c.if-position-self.false,
      unmarked (building_of b) (users_of b.stripes) (lacking_of b.stripes) b.records b.due b.lacking b.end c.self.invariant c.args.position c.at.result.column c.if-position-self.false (ap (λ (stripe : Stripe). stripe.column) c.at.ensures) some other,
    )
