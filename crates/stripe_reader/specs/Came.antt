-- What came of a block that a folder was asked for, beside the buffer that it came into.
use Rattle.std.specs.Prelude.{ℕ, ◌≤◌, List, take}
use Rattle.stripe_reader.specs.declared.reading.Came.{Came}
use Rattle.stripe_reader.specs.declared.reading.Came.TheVariants as here
use Rattle.stripe_reader.specs.Reading.{CellReading, Unread, Gone, came}

-- the reading, where n bytes were asked for
abbrev pub reading_of : Came → ℕ → List ℕ → CellReading
reading_of (here.Unread seen) n block = Unread seen
reading_of (here.Gone seen) n block = Gone seen
reading_of (here.Gave seen got) n block = came seen n (take got block)

-- no more bytes came than were asked for
abbrev pub HasCome : Came → ℕ → Type 0
HasCome (here.Unread seen) n = Unit {0}
HasCome (here.Gone seen) n = Unit {0}
HasCome (here.Gave seen got) n = got ≤ n
