use Rattle.std.proofs.Common.{◌++◌, ◌∙◌, ap, List, ℕ}
use Rattle.disk_model.specs.Path.{lost_suffix}
use Rattle.disk_model.specs.Tree.{listed}
use Rattle.repair_scope.specs.Blocked.{found_in}
use Rattle.repair_scope.proofs.finding.find_lost.Goals as goal

pub returns : goal.returns
returns c =
    c.find_listed.ensures
    ∙ ap (found_in (listed c.args.files.now))
    (c.as_slice.ensures.value ∙ c.in_ok-put.ensures ∙ ap (λ (p : List ℕ). p ++ lost_suffix) (c.as_bytes.ensures.value ∙ c.as_str.ensures.value))
