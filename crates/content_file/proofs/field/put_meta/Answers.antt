use Rattle.std.proofs.Common.{◌≡◌, ◌++◌, refl, ap, arith}
use Rattle.std.specs.Int.{w32, w64, to_le_bytes, cast_unsigned}
use Rattle.std.proofs.lemmas.Int.{ints}
use Rattle.content_file.proofs.Appended.{then_appended}
use Rattle.content_file.proofs.field.put_meta.Goals as goal

pub returns : goal.returns
returns c =
    let field = c.args.field.now.items in
    let size = to_le_bytes w64 c.args.meta.size in
    let seconds = to_le_bytes w64 (cast_unsigned w64 c.args.meta.stamp.seconds) in
    let nanos = to_le_bytes w32 c.args.meta.stamp.nanos in
    let is : c.cast_unsigned.result ≡ cast_unsigned w64 c.args.meta.stamp.seconds = omega (arith, ints) in
    let two = then_appended field c.put_u64.new.field.items c.put_u64-2.new.field.items size (to_le_bytes w64 c.cast_unsigned.result) seconds c.put_u64.ensures.bytes c.put_u64-2.ensures.bytes (ap (λ n. to_le_bytes w64 n) is) in
    then_appended field c.put_u64-2.new.field.items c.put_u32.new.field.items (size ++ seconds) nanos nanos two c.put_u32.ensures.bytes refl
