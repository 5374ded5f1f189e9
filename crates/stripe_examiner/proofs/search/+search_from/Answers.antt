use Rattle.std.proofs.Common.{◌∷◌, ◌∙◌, [], ap, length, length-append, arith}
use Rattle.cauchy.specs.System.{IsChoice}
use Rattle.stripe_examiner.specs.Search.{columns_of}
use Rattle.stripe_examiner.proofs.SearchLemmas.{last_fits, last_found, last_none, nothing_left, with_fits, without_fits, with_found, without_found, neither_found}
use Rattle.stripe_examiner.proofs.search.+search_from.Goals as goal

pub try_choice-requires-clause-choice : goal.try_choice-requires-clause-choice
try_choice-requires-clause-choice t c =
    last_fits c.args.shape c.args.wanted.now c.args.remainders.now (length c.args.wanted.now) c.args.chosen.now c.args.levels.now c.if-chosen-wanted.true
    (IsChoice (columns_of c.args.wanted.now)) c.requires.choices

pub returns-then-chosen-wanted-clause-found : goal.returns-then-chosen-wanted-clause-found
returns-then-chosen-wanted-clause-found t c m count found =
    last_found c.args.shape c.args.wanted.now c.args.remainders.now (length c.args.wanted.now) c.args.chosen.now c.args.levels.now c.if-chosen-wanted.true
    _ (c.try_choice.ensures.found found) m count

pub returns-then-chosen-wanted-clause-none : goal.returns-then-chosen-wanted-clause-none
returns-then-chosen-wanted-clause-none t c m count none =
    last_none c.args.shape c.args.wanted.now c.args.remainders.now (length c.args.wanted.now) c.args.chosen.now c.args.levels.now c.if-chosen-wanted.true
    (c.try_choice.ensures.none none) m count

pub returns-in_default-clause-none : goal.returns-in_default-clause-none
returns-in_default-clause-none t c m count none =
    nothing_left c.args.shape c.args.wanted.now c.args.remainders.now (length c.args.wanted.now) c.args.chosen.now c.args.levels.now
    c.in_default.ensures.cases c.if-chosen-wanted.false m count

pub search_from-requires : goal.search_from-requires
search_from-requires t c =
    let n = length c.args.wanted.now in
    let longer = c.deref.result.now in
    let is_longer = c.deref.ensures.0 ∙ c.with_level-longer.ensures in
    let long = ap length is_longer ∙ length-append c.args.chosen.now (c.in-Some.first.now ∷ []) in (
      omega (arith, c.in-Some.ensures.cases.1),
      (
        c.requires.room,
        (
          c.requires.most,
          (
            omega (arith, long, c.if-chosen-wanted.false),
            with_fits c.args.shape c.args.wanted.now c.args.remainders.now n c.args.chosen.now longer c.args.levels.now c.in-Some.rest.now c.in-Some.first.now
                is_longer c.in-Some.ensures.cases.0 (IsChoice (columns_of c.args.wanted.now)) c.requires.choices,
          ),
        ),
      ),
    )

pub search_from-requires-else-search_from : goal.search_from-requires-else-search_from
search_from-requires-else-search_from t c =
    let n = length c.args.wanted.now in
    let longer = c.deref.result.now in
    let is_longer = c.deref.ensures.0 ∙ c.with_level-longer.ensures in
    let room = c.requires.room in (
      omega (arith, c.in-Some.ensures.cases.1),
      (
        record {
          some = room.some;
          block = room.block;
          at_most = room.at_most;
          lengths = room.lengths;
          remainder_bytes = room.remainder_bytes;
          work_bytes = c.search_from.ensures.work ∙ room.work_bytes;
        },
        (
          c.requires.most,
          (
            c.requires.few,
            without_fits c.args.shape c.args.wanted.now c.args.remainders.now n c.args.chosen.now longer c.args.levels.now c.in-Some.rest.now c.in-Some.first.now
                is_longer c.in-Some.ensures.cases.0 (IsChoice (columns_of c.args.wanted.now)) c.if-chosen-wanted.false c.requires.choices,
          ),
        ),
      ),
    )

pub returns-then-search_from-clause-found : goal.returns-then-search_from-clause-found
returns-then-search_from-clause-found t c m count found =
    let n = length c.args.wanted.now in
    let longer = c.deref.result.now in
    let is_longer = c.deref.ensures.0 ∙ c.with_level-longer.ensures in
    with_found c.args.shape c.args.wanted.now c.args.remainders.now n c.args.chosen.now longer c.args.levels.now c.in-Some.rest.now c.in-Some.first.now
    is_longer c.in-Some.ensures.cases.0 _ c.if-chosen-wanted.false (λ k there. c.search_from.ensures.found k there found) m count

pub returns-else-search_from-clause-found : goal.returns-else-search_from-clause-found
returns-else-search_from-clause-found t c m count found =
    let n = length c.args.wanted.now in
    let longer = c.deref.result.now in
    let is_longer = c.deref.ensures.0 ∙ c.with_level-longer.ensures in
    without_found c.args.shape c.args.wanted.now c.args.remainders.now n c.args.chosen.now longer c.args.levels.now c.in-Some.rest.now c.in-Some.first.now
    is_longer c.in-Some.ensures.cases.0 _ c.if-chosen-wanted.false (λ k there. c.search_from.ensures.none k there c.if-search_from.false)
    (λ k there. c.search_from-else-search_from.ensures.found k there found) m count

pub returns-else-search_from-clause-none : goal.returns-else-search_from-clause-none
returns-else-search_from-clause-none t c m count none =
    let n = length c.args.wanted.now in
    let longer = c.deref.result.now in
    let is_longer = c.deref.ensures.0 ∙ c.with_level-longer.ensures in
    neither_found c.args.shape c.args.wanted.now c.args.remainders.now n c.args.chosen.now longer c.args.levels.now c.in-Some.rest.now c.in-Some.first.now
    is_longer c.in-Some.ensures.cases.0 c.if-chosen-wanted.false (λ k there. c.search_from.ensures.none k there c.if-search_from.false)
    (λ k there. c.search_from-else-search_from.ensures.none k there none) m count
