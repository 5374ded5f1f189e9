use Rattle.std.proofs.Common.{ℕ, ◌<◌, List, length, arith, subst, sym}
use Rattle.std.specs.List.{All}
use Rattle.std.proofs.lemmas.List.Elements.{All-nil}
use Rattle.cauchy.specs.System.{IsChoice}
use Rattle.stripe_examiner.specs.Search.{choices, columns_of, found_in, FindsAmong, IsAcceptable, NoneAcceptable}
use Rattle.stripe_examiner.proofs.SearchAccepted.{length-columns_of}
use Rattle.stripe_examiner.proofs.SearchChoices.{choices_fit, choices_none, distinct_few}
use Rattle.stripe_examiner.proofs.SearchLemmas.{from_choices, to_choices}
use Rattle.stripe_examiner.proofs.search.search.Goals as goal

pub returns-then-wanted-levels-clause-none : goal.returns-then-wanted-levels-clause-none
returns-then-wanted-levels-clause-none c none =
    let Refused : List ℕ → Type 0 = λ (choice : List ℕ). IsAcceptable c.args.shape c.args.wanted.now c.args.remainders.now choice → ⊥ in
    subst (All Refused) (sym (choices_none (length c.args.wanted.now) c.args.levels.now (omega arith))) (All-nil Refused)

pub search_from-requires-clause-most : goal.search_from-requires-clause-most
search_from-requires-clause-most c =
    let few = distinct_few 6 c.args.levels.now c.requires.levels in
    omega (arith, few, c.if-wanted-levels.false)

pub search_from-requires-clause-choices : goal.search_from-requires-clause-choices
search_from-requires-clause-choices c =
    let wanteds = c.args.wanted.now in
    let columns = columns_of wanteds in
    let count = length-columns_of wanteds in
    let some : 0 < length columns = omega (arith, count, c.requires.room.some) in
    let each = subst (λ (n : ℕ). All (IsChoice columns) (choices n c.args.levels.now)) count
    (choices_fit columns c.args.levels.now some c.requires.columns c.requires.levels) in
    from_choices (length wanteds) c.args.levels.now (All (IsChoice columns)) each

pub returns-clause-found : goal.returns-clause-found
returns-clause-found c found =
    to_choices (length c.args.wanted.now) c.args.levels.now
    (λ (tried : List (List ℕ)). FindsAmong c.args.shape c.args.wanted.now c.args.remainders.now tried (found_in c.args.shape c.args.wanted.now c.search_from.new.work))
    (λ m count. c.search_from.ensures.found m count found)

pub returns-clause-none : goal.returns-clause-none
returns-clause-none c none =
    to_choices (length c.args.wanted.now) c.args.levels.now (NoneAcceptable c.args.shape c.args.wanted.now c.args.remainders.now)
    (λ m count. c.search_from.ensures.none m count none)
