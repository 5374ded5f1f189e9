use Rattle.std.proofs.Common.{◌≡◌, ◌≢◌, ◌∙◌, ℕ, subst, sym, refl, arith}
use Rattle.std.proofs.lemmas.Bool.{eqb-false}
use Rattle.std.specs.Vec.{vec_len}
use Rattle.file_table.specs.Builder.{building_of}
use Rattle.file_table.specs.Stripes.{users_of, lacking_of}
use Rattle.file_table.specs.Building.{IsLength}
use Rattle.file_table.specs.Counted.{IsCounted}
use Rattle.file_table.proofs.CountedLemmas.{finished}
use Rattle.file_table.proofs.builder.Builder.finish.Goals as goal

pub new-requires-clause-valid : goal.new-requires-clause-valid
new-requires-clause-valid c =
    let b = c.self.inside in
    let none : b.lacking ≡ 0 = omega arith in
    let is : IsCounted (building_of b) (users_of b.stripes) (lacking_of b.stripes) b.records b.due 0 b.end = subst (λ (n : ℕ). IsCounted (building_of b) (users_of b.stripes) (lacking_of b.stripes) b.records b.due n b.end) none c.self.invariant in
    let other : vec_len b.disks ≢ 0 = eqb-false (vec_len b.disks) 0 (sym c.if-is_empty.ensures) in
    let fits : IsLength (building_of b) = subst IsLength (sym c.self.view_is) (c.if-not-length_fits.ensures.0 refl) in
    (finished (building_of b) (users_of b.stripes) (lacking_of b.stripes) b.records b.due b.end is (omega arith) (omega arith) (fits ∙ sym is.end_is)).0

pub new-requires-clause-total : goal.new-requires-clause-total
new-requires-clause-total c =
    let b = c.self.inside in
    let none : b.lacking ≡ 0 = omega arith in
    let is : IsCounted (building_of b) (users_of b.stripes) (lacking_of b.stripes) b.records b.due 0 b.end = subst (λ (n : ℕ). IsCounted (building_of b) (users_of b.stripes) (lacking_of b.stripes) b.records b.due n b.end) none c.self.invariant in
    let other : vec_len b.disks ≢ 0 = eqb-false (vec_len b.disks) 0 (sym c.if-is_empty.ensures) in
    let fits : IsLength (building_of b) = subst IsLength (sym c.self.view_is) (c.if-not-length_fits.ensures.0 refl) in
    (finished (building_of b) (users_of b.stripes) (lacking_of b.stripes) b.records b.due b.end is (omega arith) (omega arith) (fits ∙ sym is.end_is)).1
