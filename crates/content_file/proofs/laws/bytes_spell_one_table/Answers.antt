use Rattle.std.proofs.Common.{◌≡◌, List, ℕ, None, Some, refl, sym, ◌∙◌, ap}
use Rattle.content_file.specs.Spelling.{spelling}
use Rattle.content_file.proofs.OneSpelling.{one_spelled}
use Rattle.content_file.proofs.laws.bytes_spell_one_table.Goals as goal

pub returns-clause-one : goal.returns-clause-one
returns-clause-one c = λ a b bytes valid_a valid_b is_a is_b. one_spelled a b valid_a valid_b (sym is_a ∙ is_b)

pub returns-clause-spelled : goal.returns-clause-spelled
returns-clause-spelled c = λ table. refl

pub returns-clause-held : goal.returns-clause-held
returns-clause-held c = λ table bytes. (
  λ is. let held : Some bytes ≡ Some (spelling table) = is in let same : bytes ≡ spelling table = cc in same,
  λ is. ap (λ (b : List ℕ). Some b) is,
)

pub returns-clause-absent : goal.returns-clause-absent
returns-clause-absent c = λ table is. let clash : None ≡ Some (spelling table) = is in cc
