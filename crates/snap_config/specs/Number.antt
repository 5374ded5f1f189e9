-- Numbers as a configuration and the command line write them.
use Rattle.std.specs.Prelude.{ℕ, List, length, ◌&&◌, nat_le, Option, None, Some, if◌then◌else◌}
use Rattle.std.specs.Char.{is_ascii_digit}
use Rattle.std.specs.List.{list_all}
use Rattle.std.specs.Str.Parse.{digits_value}

-- the number of 1 to 9 decimal digits
abbrev pub number_of : List ℕ → Option ℕ
number_of text = if nat_le 1 (length text) && nat_le (length text) 9 && list_all is_ascii_digit text then Some (digits_value 10 text) else None
