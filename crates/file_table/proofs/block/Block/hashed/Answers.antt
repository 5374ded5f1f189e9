use Rattle.std.proofs.Common.{◌<◌, ℕ, length, get_or, rules}
use Rattle.std.proofs.lemmas.List.Elements.{All-from_get_or}
use Rattle.file_table.proofs.block.Block.hashed.Goals as goal

pub returns-clause-digest : goal.returns-clause-digest
returns-clause-digest c =
    let bytes : (k : ℕ) → k < length c.args.digest.0 → get_or c.args.digest.0 k 0 < 256 = search rules in
    record { sixteen = search rules; in_range = All-from_get_or (λ (byte : ℕ). byte < 256) c.args.digest.0 0 bytes }
