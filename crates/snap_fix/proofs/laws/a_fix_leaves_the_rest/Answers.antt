use Rattle.snap_fix.proofs.RestoredRest.{byte_stays, names_stay, others_stay}
use Rattle.snap_fix.proofs.laws.a_fix_leaves_the_rest.Goals as goal

pub returns-clause-bytes : goal.returns-clause-bytes
returns-clause-bytes c plan starts stripes finishes firsts news d i index p b has less not_written was =
    byte_stays plan starts stripes finishes firsts news has.fixed d i has.column has.tells has.inside index p b less not_written was

pub returns-clause-unfinished : goal.returns-clause-unfinished
returns-clause-unfinished c plan starts stripes finishes firsts news d i lost has not_finished =
    names_stay plan starts stripes finishes firsts news has.fixed d i has.column has.tells has.inside not_finished lost

pub returns-clause-others : goal.returns-clause-others
returns-clause-others c plan starts stripes finishes firsts news d name has tells column apart =
    others_stay plan starts stripes finishes firsts news has d column tells name apart
