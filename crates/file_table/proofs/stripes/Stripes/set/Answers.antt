use Rattle.std.proofs.Common.{◌%◌, refl}
use Rattle.std.specs.Vec.{with_item}
use Rattle.file_table.proofs.StripesLemmas.{set_here, set_other}
use Rattle.file_table.proofs.stripes.Stripes.set.Goals as goal

pub returns-clause-here : goal.returns-clause-here
returns-clause-here c =
    let page = c.index_mut-page.result.now in
    set_here c.args.self.now.pages.items c.args.position c.args.stripe page (with_item page (c.args.position % 1024) c.args.stripe) c.requires c.index_mut-page.ensures.value refl

pub returns-clause-others : goal.returns-clause-others
returns-clause-others c =
    let page = c.index_mut-page.result.now in
    set_other c.args.self.now.pages.items c.args.position c.args.stripe page (with_item page (c.args.position % 1024) c.args.stripe) c.requires c.index_mut-page.ensures.value refl
