-- How a content file is kept while it is read behind its head.
use Rattle.content_file.specs.ReadingOn.{BodyValue}
use Rattle.content_file.specs.Body.{IsReading}
use Rattle.content_file.specs.declared.body.Body.TheInside.{Inside}

abbrev pub body_of : Inside → BodyValue
body_of b = record { head = b.head; builder = b.builder; columns = b.columns; named = b.named; records = b.records; blocks = b.blocks; stripes = b.stripes; read = b.read }

-- what is still to come fits what was read
abbrev pub IsBody : Inside → Type 0
IsBody b = IsReading (body_of b)
