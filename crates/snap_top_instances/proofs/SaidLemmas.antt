-- What a configuration says that is read without a log.
use Rattle.std.proofs.Common.{◌≡◌, ℕ, List, take, Bool, true, false, not, IsTrue, None, Some, Ok, refl, ap}
use Rattle.snap_config.specs.Config.{read_setup}
use Rattle.array_setup.specs.Setup.{SetupValue}
use Rattle.snap_top.specs.Levels.{said_by, setup_in}

pub said_whole : (config : List ℕ) (setup : SetupValue) → read_setup (take 1048577 config) None ≡ Ok setup → said_by config ≡ Some setup
unfolding said_by
said_whole config setup is = ap setup_in is

pub not_set : (b : Bool) → IsTrue (not b) → b ≡ false
not_set true unset = absurd (let clash : false ≡ true = unset in cc)
not_set false unset = refl
