use Rattle.std.proofs.Common.{◌≡◌, ◌⊎◌, inl, inr, ◌<◌, ◌-◌, ◌∙◌, List, [], length, subst, sym, ap, arith, set, Bool, true, false, not, is_some, None}
use Rattle.file_table.specs.declared.block.Block.{Block}
use Rattle.file_table.specs.Table.{Column}
use Rattle.file_table.specs.Valid.{HasDigest}
use Rattle.file_table.specs.Builder.{building_of}
use Rattle.file_table.specs.declared.stripes.Stripe.{Stripe}
use Rattle.file_table.specs.Stripes.{users_of, lacking_of}
use Rattle.file_table.specs.Building.{BuildingValue, IsPositionFault, LacksBlock, last_column, with_block}
use Rattle.file_table.proofs.CountLemmas.{lacks_some}
use Rattle.file_table.proofs.CountedLemmas.{counted-block, counted-same}
use Rattle.file_table.proofs.CallLemmas.{read_last, put_block, put_back, column_there, record_there, block_room}
use Rattle.file_table.proofs.builder.Builder.push_block.Goals as goal
use Rattle.file_table.proofs.builder.Builder.push_block.Goals.{then-at, else-at}

pub position_fault-requires : goal.position_fault-requires
position_fault-requires c = column_there c.args.self.now.columns c.requires.rec

pub push_block-requires-clause-room : goal.push_block-requires-clause-room
push_block-requires-clause-room c =
    let b = c.self.inside in
    let columns = b.disks.items in
    let has : 0 < length (last_column columns).records = subst (λ (v : BuildingValue). 0 < length (last_column v.columns).records) (sym c.self.view_is) c.requires.rec in
    let some : 0 < length columns = column_there columns has in
    let last : c.len-column.result - 1 ≡ length columns - 1 = omega arith in
    let is_last : c.index_mut.result.now ≡ last_column columns = read_last columns (c.len-column.result - 1) c.index_mut.result.now last some c.index_mut.ensures.value in
    let more : 0 < b.lacking = omega arith in
    block_room (building_of b) (users_of b.stripes) (lacking_of b.stripes) b.records b.due b.lacking b.end c.index_mut.result.now c.self.invariant more has is_last

pub invariant_of-self-2 : goal.invariant_of-self-2
invariant_of-self-2 c =
    let b = c.self.inside in
    let columns = b.disks.items in
    let block : Block = record { position = c.args.position; hash = c.args.hash } in
    let has : 0 < length (last_column columns).records = subst (λ (v : BuildingValue). 0 < length (last_column v.columns).records) (sym c.self.view_is) c.requires.rec in
    let some : 0 < length columns = column_there columns has in
    let infos : b.infos.items ≡ [] = ap (λ (v : BuildingValue). v.infos) c.self.view_is ∙ c.requires.before_infos in
    let last : c.len-column.result - 1 ≡ length columns - 1 = omega arith in
    let number : c.len-column.result ≡ length columns = omega arith in
    let more : 0 < b.lacking = omega arith in
    let passes : IsPositionFault (building_of b) c.args.position None = subst (λ (v : BuildingValue). IsPositionFault v c.args.position None) (sym c.self.view_is) c.in_default.ensures in
    let room = counted-same (building_of b) (users_of b.stripes) (users_of c.make_room.new.self) (lacking_of b.stripes) (lacking_of c.make_room.new.self) b.records b.due b.lacking b.end
    (λ position. ap (λ (stripe : Stripe). stripe.column) (c.make_room.ensures.same position)) (λ position. ap (λ (stripe : Stripe). stripe.unhashed) (c.make_room.ensures.same position)) c.self.invariant in
    let read : lacking_of c.make_room.new.self c.args.position ≡ c.at.result.unhashed = sym (ap (λ (stripe : Stripe). stripe.unhashed) c.at.ensures) in
    let when : c.if-at.unhashed ≡ true → (lacking_of c.make_room.new.self c.args.position ≡ true) ⊎ (is_some c.args.hash ≡ false) = λ is. elim c.if-at.branch [
      | then-at w ↦ inl (read ∙ w.if-at.true)
      | else-at w ↦ inr (w.is_none-unhashed.ensures ∙ ap not (sym w.unhashed-is ∙ is))
    ] in
    let unless : c.if-at.unhashed ≡ false → (lacking_of c.make_room.new.self c.args.position ≡ false) × (is_some c.args.hash ≡ true) = λ is. elim c.if-at.branch [
      | then-at w ↦ absurd (apart c.if-at.unhashed is (w.unhashed-is ∙ w.if-at.true))
      | else-at w ↦ (read ∙ w.if-at.false, w.is_none-unhashed.ensures ∙ ap not (sym w.unhashed-is ∙ is))
    ] in
    let digest : HasDigest block = subst HasDigest c.new-block.ensures.value c.new-block.ensures.digest in
    let put : set columns (c.len-column.result - 1) c.push_block.new.self ≡ with_block columns block =
    put_block columns (c.len-column.result - 1) c.index_mut.result.now c.push_block.new.self block last some c.index_mut.ensures.value (rw c.new-block.ensures.value at c.in_ok-push_block.ensures.ok) in
    let user_here : users_of c.set.new.self c.args.position ≡ length columns = ap (λ (stripe : Stripe). stripe.column) c.set.ensures.here ∙ number in
    let lacks_here : lacking_of c.set.new.self c.args.position ≡ c.if-at.unhashed = ap (λ (stripe : Stripe). stripe.unhashed) c.set.ensures.here in
    let counted = counted-block (building_of b) (users_of c.make_room.new.self) (users_of c.set.new.self) (lacking_of c.make_room.new.self) (lacking_of c.set.new.self) b.records b.due b.lacking b.end block c.if-at.unhashed infos has digest more passes.0 passes.1 when unless
    user_here (λ position other. ap (λ (stripe : Stripe). stripe.column) (c.set.ensures.others position other))
    lacks_here (λ position other. ap (λ (stripe : Stripe). stripe.unhashed) (c.set.ensures.others position other)) room in
    rw (put, c.max-self-inside.ensures) counted
  where
    apart : (b : Bool) → b ≡ false → b ≡ true → ⊥
    apart b off on = cc

pub returns-clause-ok : goal.returns-clause-ok
returns-clause-ok c =
    let b = c.self.inside in
    let columns = b.disks.items in
    let block : Block = record { position = c.args.position; hash = c.args.hash } in
    let has : 0 < length (last_column columns).records = subst (λ (v : BuildingValue). 0 < length (last_column v.columns).records) (sym c.self.view_is) c.requires.rec in
    let some : 0 < length columns = column_there columns has in
    let last : c.len-column.result - 1 ≡ length columns - 1 = omega arith in
    let number : c.len-column.result ≡ length columns = omega arith in
    let more : 0 < b.lacking = omega arith in
    let passes : IsPositionFault (building_of b) c.args.position None = subst (λ (v : BuildingValue). IsPositionFault v c.args.position None) (sym c.self.view_is) c.in_default.ensures in
    let lacks : LacksBlock (building_of b) = lacks_some (building_of b) b.lacking (record_there columns has) c.self.invariant.last_lacks more in
    let put : set columns (c.len-column.result - 1) c.push_block.new.self ≡ with_block columns block =
    put_block columns (c.len-column.result - 1) c.index_mut.result.now c.push_block.new.self block last some c.index_mut.ensures.value (rw c.new-block.ensures.value at c.in_ok-push_block.ensures.ok) in
    rw (← c.self.view_is) (record {
      lacking = lacks;
      below = passes.0;
      unused = passes.1;
      pushed = ap (λ (cs : List Column). let v : BuildingValue = record { shape = b.shape; length = b.length; columns = cs; infos = b.infos.items } in v) put;
    })

pub returns-clause-building : goal.returns-clause-building
returns-clause-building c = (invariant_of-self-2 c).building

pub invariant_of-self-in_err-push_block : goal.invariant_of-self-in_err-push_block
invariant_of-self-in_err-push_block c =
    let b = c.self.inside in
    let columns = b.disks.items in
    let has : 0 < length (last_column columns).records = subst (λ (v : BuildingValue). 0 < length (last_column v.columns).records) (sym c.self.view_is) c.requires.rec in
    let some : 0 < length columns = column_there columns has in
    let last : c.len-column.result - 1 ≡ length columns - 1 = omega arith in
    let back : set columns (c.len-column.result - 1) c.push_block.new.self ≡ columns =
    put_back columns (c.len-column.result - 1) c.index_mut.result.now last some c.index_mut.ensures.value c.push_block.new.self c.in_err-push_block.ensures.err in
    rw back (counted-same (building_of b) (users_of b.stripes) (users_of c.make_room.new.self) (lacking_of b.stripes) (lacking_of c.make_room.new.self) b.records b.due b.lacking b.end
    (λ position. ap (λ (stripe : Stripe). stripe.column) (c.make_room.ensures.same position)) (λ position. ap (λ (stripe : Stripe). stripe.unhashed) (c.make_room.ensures.same position)) c.self.invariant)
