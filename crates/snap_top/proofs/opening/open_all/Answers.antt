use Rattle.std.proofs.Common.{refl, ap, ◌∙◌, arith}
use Rattle.array_setup.specs.Setup.{setup_value}
use Rattle.snap_top.specs.Known.{unknown_in}
use Rattle.snap_top.proofs.OpeningLemmas.{given_for, unopened, images_given, as_many_levels}
use Rattle.snap_top.proofs.opening.open_all.Goals as goal

pub returns-in-Ok-open-clause-given : goal.returns-in-Ok-open-clause-given
returns-in-Ok-open-clause-given g c =
    let places = c.in_ok-setup.setup.places in
    let opened = c.in-Ok-open.opened.folders.ok.0 in
    let named = places.dirs.ok.0 in
    let count = c.in-Ok-open.ensures.columns in
    given_for g.O.Folder.Folder.view c.in-Ok-open.opened.folders.items (g.O.Vault.Vault.view c.in-Ok-open.opened.vault) _ c.args.asked _ _ (setup_value c.in_ok-setup.setup) _ _ _
    c.requires.works c.in-Ok.ensures.known refl c.in_ok-setup.ensures.says
    (ap (unknown_in (setup_value c.in_ok-setup.setup)) c.in-Ok.ensures.known ∙ c.in-Ok.ensures.none) c.in_ok-setup.ensures.called c.in_ok-setup.ensures.kept c.in-Ok-open.ensures.call
    (omega (arith, opened, named, count))
    (λ told. let just = c.in-Ok-open.ensures.just told in omega (arith, opened, just))
    (λ column below. c.in-Ok-open.ensures.folders column (omega (arith, below, opened)))
    (as_many_levels _ _ _ _ _ _ _ places.parities.ok.0 places.contents.ok.0 c.in-Ok-open.ensures.vault)
    c.in_ok-setup.ensures.valid

pub returns-in-Ok-open-clause-images : goal.returns-in-Ok-open-clause-images
returns-in-Ok-open-clause-images g c = images_given _ _ _ _ _ c.in_ok-setup.ensures.kept c.in_ok-setup.ensures.called.tells c.in-Ok-open.ensures.vault

pub returns-in-Err-open-clause-refused : goal.returns-in-Err-open-clause-refused
returns-in-Err-open-clause-refused g c texts read =
    unopened _ _ _ (setup_value c.in_ok-setup.setup) _ _ _ _
    (record { asked = c.args.asked; read = read; array = c.requires.works; command_is = c.in-Ok.ensures.known; readers_are = refl; says = c.in_ok-setup.ensures.says })
    (ap (unknown_in (setup_value c.in_ok-setup.setup)) c.in-Ok.ensures.known ∙ c.in-Ok.ensures.none) c.in_ok-setup.ensures.called c.in-Err-open.ensures.call

pub returns-in-Err-clause-refused : goal.returns-in-Err-clause-refused
returns-in-Err-clause-refused g c texts read = record {
  command = c.args.asked.command;
  readers = c.args.asked.readers;
  setup = setup_value c.in_ok-setup.setup;
  configured = record { asked = c.args.asked; read = read; array = c.requires.works; command_is = refl; readers_are = refl; says = c.in_ok-setup.ensures.says };
  unknown = c.in-Err.ensures.unknown;
  calls = c.in_ok-setup.ensures.called;
}
