use Rattle.std.proofs.Common.{ap, ◌∙◌}
use Rattle.file_table.specs.declared.shape.Shape.{Shape}
use Rattle.stripe_reader.specs.Fetched.{hashed_window}
use Rattle.stripe_reader.proofs.HashedLemmas.{holds_hashed}
use Rattle.snap_scrub.proofs.windows.hash_near.Goals as goal

pub returns-clause-hashed : goal.returns-clause-hashed
returns-clause-hashed g c = c.hash_window.ensures ∙ ap (λ (shape : Shape). hashed_window shape c.args.window.now) c.shape.ensures.shape

pub returns-clause-holds : goal.returns-clause-holds
returns-clause-holds g c =
    holds_hashed c.args.round.now.table.now c.args.round.now.stripes.now c.args.window.now c.hash_window.new.window
    (c.hash_window.ensures ∙ ap (λ (shape : Shape). hashed_window shape c.args.window.now) c.shape.ensures.shape) c.requires.holds
