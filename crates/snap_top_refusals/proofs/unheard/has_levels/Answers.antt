use Rattle.std.proofs.Common.{◌≡◌, ◌<◌, List, ℕ, None, Ok, length, arith, sym, ap, ◌∙◌, subst}
use Rattle.std.proofs.lemmas.List.{take_all}
use Rattle.snap_config.specs.Config.{read_setup}
use Rattle.array_setup.specs.Setup.{SetupValue, setup_value}
use Rattle.snap_top.specs.Levels.{is_split}
use Rattle.snap_top_instances.proofs.SaidLemmas.{said_whole}
use Rattle.snap_top_refusals.proofs.unheard.has_levels.Goals as goal

pub returns-in-Ok : goal.returns-in-Ok
returns-in-Ok c is =
    let setup : SetupValue = setup_value c.in-Ok.setup in
    let all = take_all 1048577 c.args.config.now (omega (arith, c.if-config-gt-LONGEST.false)) in
    record {
      setup = setup;
      says = said_whole c.args.config.now setup (subst (λ (bytes : List ℕ). read_setup bytes None ≡ Ok setup) (c.as_bytes.ensures.value ∙ sym all) c.in-Ok.ensures.ok);
      whole = ap is_split (sym c.as_slice.ensures.value) ∙ c.has_whole_level.ensures.whole is;
      some = subst (λ (parts : List ℕ). 0 < length parts) c.as_slice.ensures.value (c.has_whole_level.ensures.some is);
    }
