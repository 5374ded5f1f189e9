use Rattle.std.proofs.Common.{◌≡◌, List, ℕ, Ok, arith, sym, ◌∙◌, subst}
use Rattle.std.proofs.lemmas.List.{take_all}
use Rattle.snap_config.specs.Config.{read_setup}
use Rattle.array_setup.specs.Setup.{SetupValue, setup_value}
use Rattle.snap_top_histories.proofs.resumed.says_setup.Goals as goal

pub returns-in-Ok : goal.returns-in-Ok
returns-in-Ok c _ =
    let setup : SetupValue = setup_value c.in-Ok._setup in
    let whole = take_all 1048577 c.args.config.now (omega (arith, c.if-config-gt-LONGEST.false)) in
    record { setup = setup; says = subst (λ (bytes : List ℕ). read_setup bytes c.args.log ≡ Ok setup) (c.as_bytes.ensures.value ∙ sym whole) c.in-Ok.ensures.ok }
