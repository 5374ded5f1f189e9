use Rattle.snap_fix.proofs.RestorableLemmas.{accepted_from_blocks, accepted_from_count, blocks_from_accepted, blocks_from_intact, can_accept, count_from_accepted, found_choice, intact_from_accepted, intact_from_blocks, none_accepted}
use Rattle.snap_fix.proofs.laws.a_stripe_is_restorable_by_counting.Goals as goal

pub returns-clause-levels : goal.returns-clause-levels
returns-clause-levels c lost snapshot choice blocks is has one solved = (
  intact_from_blocks lost is choice one snapshot has blocks solved,
  blocks_from_intact lost is choice one snapshot has c.one_solution.ensures.only blocks solved,
)

pub returns-clause-blocks : goal.returns-clause-blocks
returns-clause-blocks c lost snapshot choice blocks is has genuine one solved =
    (blocks_from_accepted lost is choice one snapshot has genuine blocks, accepted_from_blocks lost is choice one snapshot has blocks solved)

pub returns-clause-intact : goal.returns-clause-intact
returns-clause-intact c lost snapshot choice is has genuine one =
    (intact_from_accepted lost is choice one snapshot has genuine, can_accept lost is choice one snapshot has)

pub returns-clause-counted : goal.returns-clause-counted
returns-clause-counted c lost snapshot is_intact is has genuine tells =
    (count_from_accepted lost is snapshot has is_intact tells genuine, accepted_from_count lost is snapshot has is_intact tells)

pub returns-clause-found : goal.returns-clause-found
returns-clause-found c lost snapshot is_intact blocks is has genuine tells finds =
    let found = found_choice lost blocks finds in (
      count_from_accepted lost is snapshot has is_intact tells genuine (found.0, found.1, (blocks, found.2)),
      blocks_from_accepted lost is found.0 found.1 snapshot has genuine blocks found.2,
    )

pub returns-clause-none : goal.returns-clause-none
returns-clause-none c lost snapshot is_intact is has tells none enough =
    none_accepted lost none (accepted_from_count lost is snapshot has is_intact tells enough)
