use Rattle.std.proofs.Common.{◌≡◌, ℕ, ◌-◌, ◌*◌, ◌/◌, ◌<◌, ◌≤◌, List, ◌++◌, length, sym, subst, ap, ◌∙◌, arith}
use Rattle.std.specs.Fork.{AcceptsAt, ChangesAt, slice_chunk}
use Rattle.stripe_reader.proofs.PartLemmas.{by_both, front_chunk, is_first, last_chunk, last_start, only_chunk, starts_before}
use Rattle.stripe_reader.proofs.parts.+chunks.Goals as goal

pub each_chunk-at_chunk-requires : goal.each_chunk-at_chunk-requires
each_chunk-at_chunk-requires g t c =
    let size = c.args.size in
    let none : 0 * size ≡ 0 = omega arith in
    subst (λ i. AcceptsAt g.F.Fn c.args.f.now i c.args.s.now) none
    (subst (AcceptsAt g.F.Fn c.args.f.now (0 * size)) (only_chunk size c.args.s.now c.if-s-size.true) (c.requires.accepts 0 (omega (arith, none, c.requires.some))))

pub each_chunk-returns-then-s-size : goal.each_chunk-returns-then-s-size
each_chunk-returns-then-s-size g t c n lt =
    let size = c.args.size in
    let xs = c.args.s.now in
    let ys = c.at_chunk.new.chunk in
    let short : length xs ≤ size = c.if-s-size.true in
    let R : ℕ → List g.row.T.Denot → List g.row.T.Denot → Type 0 = ChangesAt g.F.Fn c.args.f.now in
    let none : 0 ≡ 0 * size = omega arith in
    let long : length ys ≤ size = omega (arith, c.at_chunk.auto.chunk, short) in
    subst (λ m. R (m * size) (slice_chunk xs size m) (slice_chunk ys size m)) (sym (is_first n size (length xs) lt short))
    (subst (λ i. R i (slice_chunk xs size 0) (slice_chunk ys size 0)) none
    (subst (λ zs. R 0 zs (slice_chunk ys size 0)) (sym (only_chunk size xs short)) (subst (R 0 xs) (sym (only_chunk size ys long)) c.at_chunk.ensures)))

pub each_chunk-last_beside-requires-clause-front : goal.each_chunk-last_beside-requires-clause-front
each_chunk-last_beside-requires-clause-front g t c κs within n lt =
    let size = c.args.size in
    let cut = c.split_at_mut-front in
    let q = (length c.args.s.now - 1) / size in
    let at = last_start size (length c.args.s.now) c.requires.size c.if-s-size.false in
    let xs = cut.result.0.now in
    let ys = cut.result.1.now in
    let long : length xs ≡ q * size = cut.ensures.front_len in
    let before : n < q = starts_before n q size (omega arith) in
    subst (AcceptsAt g.F.Fn c.args.f.now (n * size))
    (ap (λ zs. slice_chunk zs size n) cut.ensures.value ∙ front_chunk size q xs ys long (omega (arith, cut.ensures.back_len, at.short)) n before)
    (c.requires.accepts n (omega (arith, at.within)))

pub each_chunk-last_beside-requires-clause-last : goal.each_chunk-last_beside-requires-clause-last
each_chunk-last_beside-requires-clause-last g t c κs within =
    let size = c.args.size in
    let cut = c.split_at_mut-front in
    let q = (length c.args.s.now - 1) / size in
    let at = last_start size (length c.args.s.now) c.requires.size c.if-s-size.false in
    let xs = cut.result.0.now in
    let ys = cut.result.1.now in
    let long : length xs ≡ q * size = cut.ensures.front_len in
    subst (AcceptsAt g.F.Fn c.args.f.now (q * size))
    (ap (λ zs. slice_chunk zs size q) cut.ensures.value ∙ last_chunk size q xs ys long (omega (arith, cut.ensures.back_len, at.short)))
    (c.requires.accepts q at.within)

pub each_chunk-returns : goal.each_chunk-returns
each_chunk-returns g t c n lt =
    let size = c.args.size in
    let cut = c.split_at_mut-front in
    let q = (length c.args.s.now - 1) / size in
    let at = last_start size (length c.args.s.now) c.requires.size c.if-s-size.false in
    let xs = cut.result.0.now in
    let ys = cut.result.1.now in
    let xs' = c.last_beside.new.front in
    let ys' = c.last_beside.new.last in
    let long : length xs ≡ q * size = cut.ensures.front_len in
    let R : ℕ → List g.row.T.Denot → List g.row.T.Denot → Type 0 = ChangesAt g.F.Fn c.args.f.now in
    subst (λ zs. R (n * size) (slice_chunk zs size n) (slice_chunk (c.last_beside.new.front ++ c.last_beside.new.last) size n)) (sym cut.ensures.value)
    (by_both R size q xs ys xs' ys' c.requires.size long (omega (arith, cut.ensures.back_len, at.short)) c.last_beside.auto.front c.last_beside.auto.last
    c.last_beside.ensures.front c.last_beside.ensures.last n (subst (λ zs. n * size < length zs) cut.ensures.value lt))
