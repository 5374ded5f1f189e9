use Rattle.std.proofs.Common.{◌≡◌, ◌-◌, ◌++◌, length, take, drop, sym, ◌∙◌, ap, append_assoc, arith, take-append-drop, length-drop}
use Rattle.std.proofs.lemmas.List.{drop-drop, take_all}
use Rattle.content_file.proofs.encoder.Encoder.give.Goals as goal

pub returns-clause-rest : goal.returns-clause-rest
returns-clause-rest c =
    let n = c.copy_front-count.result in
    let given = c.refill-self-inside.result in
    let items = c.refill-self-inside.new.field.items in
    let fields = c.refill-self-inside.new.fields in
    let left = drop given items in
    let slice = c.as_slice.result.now in
    let whole : take (length slice - given) (drop given slice) ≡ drop given slice = take_all (length slice - given) (drop given slice) (omega (arith, length-drop given slice)) in
    let front : take n left ≡ take n (drop c.args.at c.copy_front-count.new.out) = sym (c.copy_front-count.ensures.copied ∙ ap (take n) whole ∙ ap (λ xs. take n (drop given xs)) c.as_slice.ensures.value) in
    sym c.self.view_is
    ∙ sym c.refill-self-inside.ensures.same
    ∙ ap (λ xs. xs ++ fields) (sym (take-append-drop n left))
    ∙ append_assoc (take n left) (drop n left) fields
    ∙ ap (λ xs. xs ++ (drop n left ++ fields)) front
    ∙ ap (λ xs. take n (drop c.args.at c.copy_front-count.new.out) ++ (xs ++ fields)) (drop-drop n given items)
