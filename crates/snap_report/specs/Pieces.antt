-- The texts of pieces.
use Rattle.std.specs.Prelude.{ℕ, List, decimal}
use Rattle.std.specs.List.{flat_map}
use Rattle.hex.specs.Hex.{encode_lower}
use Rattle.snap_report.specs.Text.{printed, file_text, meta_text, found_text}
use Rattle.snap_report.specs.EventLines.{level_text}
use Rattle.snap_report.specs.declared.piece.Piece.{Piece}
use Rattle.snap_report.specs.declared.piece.Piece.TheVariants.{Text, Printed, File, Number, Meta, Found, Hash, Level}

-- the text of a piece
abbrev pub piece_text : Piece → List ℕ
piece_text (Text text) = text.now
piece_text (Printed bytes) = printed bytes.now
piece_text (File name path) = file_text name.now path.now
piece_text (Number n) = decimal n
piece_text (Meta meta) = meta_text meta
piece_text (Found found) = found_text found
piece_text (Hash hash) = encode_lower hash.0
piece_text (Level level) = level_text level

-- one after another
abbrev pub pieces_text : List Piece → List ℕ
pieces_text pieces = flat_map piece_text pieces
