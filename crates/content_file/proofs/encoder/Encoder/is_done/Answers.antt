use Rattle.std.proofs.Common.{◌≡◌, ◌≢◌, ◌+◌, length, drop, sym, ◌∙◌, ap, arith, length-drop}
use Rattle.std.proofs.lemmas.Grind.{common_steps}
use Rattle.std.proofs.lemmas.Bool.Decides.{nat_tests}
use Rattle.std.proofs.lemmas.List.{length-append}
use Rattle.content_file.proofs.encoder.Encoder.is_done.Goals as goal

pub returns-else-self-len : goal.returns-else-self-len
returns-else-self-len c =
    let field = drop c.self.inside.given c.self.inside.field.items in
    let differs : c.self.inside.given ≢ c.len.result = c.if-self-len.false in (
      (λ is. absurd (differs (grind (arith, nat_tests)))),
      λ none. absurd (
          let long : length field + length c.self.inside.fields ≡ 0 = sym (length-append field c.self.inside.fields) ∙ ap length (c.self.view_is ∙ none) in
          let left = length-drop c.self.inside.given c.self.inside.field.items in
          grind (arith, common_steps)),
    )
