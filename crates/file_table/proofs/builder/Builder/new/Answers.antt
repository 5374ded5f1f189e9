use Rattle.std.proofs.Common.{◌<◌, ℕ, length, rules, get_or, ap}
use Rattle.std.proofs.lemmas.List.Elements.{All-from_get_or}
use Rattle.file_table.specs.Valid.{IsSixteenBytes, IsShape}
use Rattle.file_table.specs.declared.stripes.Stripe.{Stripe}
use Rattle.file_table.specs.Stripes.{users_of, lacking_of}
use Rattle.file_table.proofs.CountedLemmas.{counted-start}
use Rattle.file_table.proofs.builder.Builder.new.Goals as goal

pub invariant_of-result : goal.invariant_of-result
invariant_of-result c =
    let bytes : (k : ℕ) → k < length c.args.shape.seed → get_or c.args.shape.seed k 0 < 256 = search rules in
    let seed : IsSixteenBytes c.args.shape.seed = record { sixteen = search rules; in_range = All-from_get_or (λ (byte : ℕ). byte < 256) c.args.shape.seed 0 bytes } in
    let shape : IsShape c.args.shape = record { block_size = c.requires.block_size; levels = c.requires.levels; seed = seed } in
    let none = c.new-3.ensures in
    rw (c.new.ensures.items, c.new-2.ensures.items) (counted-start c.args.shape c.args.length (users_of c.new-3.result) (lacking_of c.new-3.result) shape c.requires.length (λ position. ap (λ (stripe : Stripe). stripe.column) (none position)) (λ position. ap (λ (stripe : Stripe). stripe.unhashed) (none position)))

pub returns-clause-building : goal.returns-clause-building
returns-clause-building c = (invariant_of-result c).building
