use Rattle.stripe_examiner.proofs.FirstRooms.{rooms_same}
use Rattle.stripe_examiner.proofs.hashing.hash_together.Goals as goal

pub returns-in-Sha256 : goal.returns-in-Sha256
returns-in-Sha256 c = rooms_same c.args.shape c.args.rooms.now
