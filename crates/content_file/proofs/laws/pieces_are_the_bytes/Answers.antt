use Rattle.content_file.proofs.Pieces.{pieces_joined, each_piece}
use Rattle.content_file.proofs.laws.pieces_are_the_bytes.Goals as goal

pub returns-clause-joined : goal.returns-clause-joined
returns-clause-joined c = pieces_joined

pub returns-clause-each : goal.returns-clause-each
returns-clause-each c = each_piece
