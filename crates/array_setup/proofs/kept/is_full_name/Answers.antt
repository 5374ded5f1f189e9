use Rattle.std.proofs.Common.{◌∷◌, bytes_eq, sym, ap, ◌∙◌}
use Rattle.array_setup.proofs.KeepsLemmas.{full-begins, full-other}
use Rattle.array_setup.proofs.kept.is_full_name.Goals as goal

pub returns-in-Some : goal.returns-in-Some
returns-in-Some c =
    let begins = rw (c.as_bytes.ensures.value, c.as_bytes-2.ensures.value) at c.in-Some.ensures.cases in
    c.is_below_slash.ensures ∙ ap (λ rest. bytes_eq rest (47 ∷ c.args.path.now)) begins.1 ∙ sym (full-begins c.args.name.now c.args.dir.now (47 ∷ c.args.path.now) begins.0)

pub returns-in-None : goal.returns-in-None
returns-in-None c =
    let other = rw (c.as_bytes.ensures.value, c.as_bytes-2.ensures.value) at c.in-None.ensures.cases in
    sym (full-other c.args.name.now c.args.dir.now (47 ∷ c.args.path.now) other)
