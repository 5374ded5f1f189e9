use Rattle.std.proofs.Common.{◌≡◌, List, ℕ, None, Ok, arith, sym, ap, ◌∙◌, subst}
use Rattle.std.proofs.lemmas.List.{take_all}
use Rattle.snap_config.specs.Config.{read_setup}
use Rattle.array_setup.specs.Setup.{SetupValue, setup_value}
use Rattle.snap_top.specs.Levels.{is_split}
use Rattle.snap_top_instances.proofs.SaidLemmas.{not_set, said_whole}
use Rattle.snap_top_instances.proofs.asked.has_whole_levels.Goals as goal

pub returns-in-Ok : goal.returns-in-Ok
returns-in-Ok c whole =
    let setup : SetupValue = setup_value c.in-Ok.setup in
    let all = take_all 1048577 c.args.config.now (omega (arith, c.if-config-gt-LONGEST.false)) in
    record {
      setup = setup;
      says = said_whole c.args.config.now setup (subst (λ (bytes : List ℕ). read_setup bytes None ≡ Ok setup) (c.as_bytes.ensures.value ∙ sym all) c.in-Ok.ensures.ok);
      whole = ap is_split (sym c.as_slice.ensures.value) ∙ sym c.has_split.ensures ∙ not_set c.has_split.result whole;
    }
