-- The words for what is wrong with a line of a configuration.
use Rattle.std.specs.Prelude.{ℕ, List, codes}
use Rattle.snap_config.specs.declared.why.Why.{Why}
use Rattle.snap_config.specs.declared.why.Why.TheVariants.{TooLong, Utf8, Unknown, Unsupported, Value, Repeated, TooMany, Pattern, NoParity, NoContent, NoData}

abbrev pub printed_why : Why → List ℕ
printed_why TooLong = codes "too long"
printed_why Utf8 = codes "not UTF-8"
printed_why Unknown = codes "unknown keyword"
printed_why Unsupported = codes "not supported"
printed_why Value = codes "bad value"
printed_why Repeated = codes "repeated"
printed_why TooMany = codes "too many"
printed_why Pattern = codes "bad pattern"
printed_why NoParity = codes "missing parity"
printed_why NoContent = codes "missing content"
printed_why NoData = codes "missing data"
