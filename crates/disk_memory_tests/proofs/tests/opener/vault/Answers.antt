use Rattle.disk_memory_tests.proofs.tests.opener.vault.Goals as goal

pub returns-clause-settled : goal.returns-clause-settled
returns-clause-settled c = c.stop_after.ensures.settled (c.fail_at.ensures.settled c.in_ok-set_content.ensures.settled_now)
