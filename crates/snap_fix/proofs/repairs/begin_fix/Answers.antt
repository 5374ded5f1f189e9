use Rattle.std.proofs.Common.{◌∙◌}
use Rattle.snap_fix.proofs.BeginningLemmas.{all_listed}
use Rattle.snap_fix.proofs.repairs.begin_fix.Goals as goal

pub returns-in_default-clause-failed : goal.returns-in_default-clause-failed
returns-in_default-clause-failed g c =
    let begins = c.in_ok-work.ensures.begun in
    all_listed _ _ _ begins.as_many begins.listed

pub returns-clause-begun : goal.returns-clause-begun
returns-clause-begun g c =
    let begins = c.in_ok-work.ensures.begun in
    record {
      begins = record {
        lists = begins.lists;
        as_many = begins.as_many;
        listed = begins.listed;
        scope = begins.scope;
        entries = begins.entries;
        starts = c.in-Ok.ensures.starts ∙ begins.starts;
        stripes = begins.stripes;
        room = begins.room;
      };
      first = c.in-Ok.ensures.first;
    }
