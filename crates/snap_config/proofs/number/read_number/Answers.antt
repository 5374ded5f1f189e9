use Rattle.std.proofs.Common.{◌≡◌, true, ◌∙◌, arith}
use Rattle.std.specs.Char.{is_ascii_digit}
use Rattle.std.specs.List.{list_all}
use Rattle.snap_config.proofs.NumberLemmas.{parsed_digits}
use Rattle.snap_config.proofs.number.read_number.Goals as goal

pub returns : goal.returns
returns c =
    let all : list_all is_ascii_digit c.args.text.now ≡ true =
    rw (← c.as_bytes.ensures.value, ← c.has_digits_alone.ensures) c.if-not-has_digits_alone.false in
    c.ok.ensures.value ∙ parsed_digits c.args.text.now c.parse.result c.parse.ensures.value.0 all (omega arith)
