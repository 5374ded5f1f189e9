use Rattle.std.proofs.Common.{◌≡◌, ◌∙◌, ◌/◌, ◌-◌, ◌++◌, ◌≤◌, ℕ, List, vec_len, length, get_or, replicate, ap, refl, arith}
use Rattle.std.proofs.lemmas.List.{take_all}
use Rattle.file_table.specs.declared.stripes.Stripe.{Stripe}
use Rattle.file_table.specs.Stripes.{lists_of, no_stripe}
use Rattle.file_table.proofs.StripesLemmas.{filled_up, vec_read, vec_same, vec_paged, stripe_in-pages}
use Rattle.file_table.proofs.stripes.Stripes.make_room.Goals as goal

pub returns-in_err-resize-clause-same : goal.returns-in_err-resize-clause-same
returns-in_err-resize-clause-same c = λ other.
    let pages = c.make_pages.new.pages.items in
    let number : ℕ = c.args.position / 1024 in
    let read = vec_read pages number c.in_ok-make_pages.ensures.there c.index_mut-page.result.now c.index_mut-page.ensures.value in
    vec_same pages number c.in_ok-make_pages.ensures.there c.resize.new.self (λ k. ap (λ (p : List Stripe). get_or p k no_stripe) (c.in_err-resize.ensures.items ∙ read)) other
    ∙ stripe_in-pages (lists_of c.args.self.now.pages.items) (lists_of pages) c.make_pages.ensures.same other

pub returns-in_ok-resize-clause-same : goal.returns-in_ok-resize-clause-same
returns-in_ok-resize-clause-same c = λ other.
    let pages = c.make_pages.new.pages.items in
    let page : List Stripe = c.index_mut-page.result.now.items in
    let number : ℕ = c.args.position / 1024 in
    let read = vec_read pages number c.in_ok-make_pages.ensures.there c.index_mut-page.result.now c.index_mut-page.ensures.value in
    let lacking : ℕ = 1024 - vec_len c.index_mut-page.result.now in
    let short : length page ≤ 1024 = omega arith in
    let filled : c.resize.new.self.items ≡ page ++ replicate lacking no_stripe = c.in_ok-resize.ensures.items ∙ ap (λ (p : List Stripe). p ++ replicate lacking no_stripe) (take_all 1024 page short) in
    vec_same pages number c.in_ok-make_pages.ensures.there c.resize.new.self
    (λ k. ap (λ (p : List Stripe). get_or p k no_stripe) filled ∙ filled_up page lacking k ∙ ap (λ (p : List Stripe). get_or p k no_stripe) read) other
    ∙ stripe_in-pages (lists_of c.args.self.now.pages.items) (lists_of pages) c.make_pages.ensures.same other

pub returns-in_ok-resize-clause-room : goal.returns-in_ok-resize-clause-room
returns-in_ok-resize-clause-room c = vec_paged c.make_pages.new.pages.items (c.args.position / 1024) c.in_ok-make_pages.ensures.there c.resize.new.self c.args.position refl (omega (arith, c.in_ok-resize.ensures.len))
