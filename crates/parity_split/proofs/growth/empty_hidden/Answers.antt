use Rattle.std.proofs.Common.{ℕ, refl, ◌∙◌, sym, subst, IsTrue}
use Rattle.disk_model.specs.Bytes.{Stretched}
use Rattle.disk_model.specs.Files.{Stays}
use Rattle.disk_model.proofs.VaultLemmas.{on_ok}
use Rattle.parity_split.specs.Parts.{IsReady}
use Rattle.parity_split.specs.Works.{Works, Same, EmptyFrom, parts_in}
use Rattle.parity_split.proofs.WorksLemmas.{read_works, works_level, level_works_then, still_holds, still_within, set_len_works, rose_after, reads_still}
use Rattle.parity_split.proofs.GrowthLemmas.{same_then, hidden_works, hidden_ready, hidden_others, emptied_one}
use Rattle.parity_split.proofs.growth.empty_hidden.Goals as goal

pub returns-in_err-part_len-clause-works : goal.returns-in_err-part_len-clause-works
returns-in_err-part_len-clause-works g c = works_level c.args.parts Same _ _ (λ x. refl) (read_works _ _ _ _ _ c.in_err-part_len.ensures.call)

pub returns-in_err-part_len-clause-ready : goal.returns-in_err-part_len-clause-ready
returns-in_err-part_len-clause-ready g c = still_holds c.args.parts (IsReady c.args.parts.capacity c.args.end 0) _ _ (g.V.Base.well_formed _) (read_works _ _ _ _ _ c.in_err-part_len.ensures.call) c.requires.ready

pub returns-in_err-part_len-clause-others : goal.returns-in_err-part_len-clause-others
returns-in_err-part_len-clause-others g c =
    let old = g.V.Base.view c.args.base.now in
    reads_still (λ files. (j : ℕ) → EmptyFrom j c.args.part (parts_in c.args.parts old.files) → EmptyFrom j c.args.part (parts_in c.args.parts files)) old (g.V.Base.view c.part_len.new.self) (read_works _ _ _ _ _ c.in_err-part_len.ensures.call) (λ t j empty. empty)

pub returns-clause-works : goal.returns-clause-works
returns-clause-works g c =
    let p = c.args.parts in
    let old = g.V.Base.view c.args.base.now in
    let mid = g.V.Base.view c.part_len.new.self in
    let new = g.V.Base.view c.part_set_len.new.self in
    let one : Works Stays old mid = read_works _ _ _ _ _ c.part_len.ensures.call in
    let ready = still_holds p (IsReady p.capacity c.args.end 0) old mid (g.V.Base.well_formed _) one c.requires.ready in
    level_works_then p Same old mid new same_then (works_level p Same old mid (λ x. refl) one)
    (hidden_works p c.args.end c.args.part mid new (g.V.Base.well_formed _) (still_within p Stays old mid one c.requires.parts) c.requires.behind c.requires.within ready
    (set_len_works p c.args.part 0 _ _ mid new c.requires.within c.part_set_len.ensures.call c.part_set_len.ensures.changes c.part_set_len.ensures.drafts))

pub returns-clause-ready : goal.returns-clause-ready
returns-clause-ready g c =
    let p = c.args.parts in
    let old = g.V.Base.view c.args.base.now in
    let mid = g.V.Base.view c.part_len.new.self in
    let new = g.V.Base.view c.part_set_len.new.self in
    let one : Works Stays old mid = read_works _ _ _ _ _ c.part_len.ensures.call in
    let ready = still_holds p (IsReady p.capacity c.args.end 0) old mid (g.V.Base.well_formed _) one c.requires.ready in
    hidden_ready p c.args.end c.args.part mid new (g.V.Base.well_formed _) (still_within p Stays old mid one c.requires.parts) c.requires.behind c.requires.within ready
    (set_len_works p c.args.part 0 _ _ mid new c.requires.within c.part_set_len.ensures.call c.part_set_len.ensures.changes c.part_set_len.ensures.drafts)

pub returns-clause-emptied : goal.returns-clause-emptied
returns-clause-emptied g c = on_ok c.part_set_len.result (emptied_one c.args.parts c.args.part _ (g.V.Base.view c.part_set_len.new.self) c.requires.within) c.part_set_len.ensures.written

pub returns-clause-others : goal.returns-clause-others
returns-clause-others g c =
    let p = c.args.parts in
    let old = g.V.Base.view c.args.base.now in
    let mid = g.V.Base.view c.part_len.new.self in
    let new = g.V.Base.view c.part_set_len.new.self in
    let one : Works Stays old mid = read_works _ _ _ _ _ c.part_len.ensures.call in
    let two = hidden_others p c.args.part (Stretched 0) mid new c.requires.within (set_len_works p c.args.part 0 _ _ mid new c.requires.within c.part_set_len.ensures.call c.part_set_len.ensures.changes c.part_set_len.ensures.drafts) in
    λ t j empty.
    let was : IsTrue old.tells = sym (c.part_set_len.ensures.call.goes_on.tells ∙ one.calls.goes_on.tells) ∙ t in
    two t j (subst (λ f. EmptyFrom j c.args.part (parts_in p f)) (sym (one.changes.reads was)) empty)

pub returns-clause-cause : goal.returns-clause-cause
returns-clause-cause g c =
    let old = g.V.Base.view c.args.base.now in
    let mid = g.V.Base.view c.part_len.new.self in
    rose_after c.part_set_len.result Stays old mid (g.V.Base.view c.part_set_len.new.self) (read_works _ _ _ _ _ c.part_len.ensures.call) c.part_set_len.ensures.call.cause
