-- What is counted of a stripe as pages are added, filled up and written to.
use Rattle.std.proofs.Common.{◌≡◌, ◌≢◌, ℕ, ◌+◌, ◌-◌, ◌*◌, ◌/◌, ◌%◌, ◌<◌, ◌≤◌, List, [], ◌∷◌, ◌++◌, length, get_or, set, replicate, refl, sym, ap, Vec, ◌∙◌, inl, inr, arith}
use Rattle.std.proofs.lemmas.List.{get_or_append_left, get_or-append_right, get_or_past, get_or-replicate, get_or-set_same, get_or-set_other, length-replicate, get_or-map, map-set, length-map, length-set}
use Rattle.std.proofs.lemmas.Bool.{cases_lt}
use Rattle.std.proofs.lemmas.Bool.Decides.{eqb_tells}
use Rattle.std.proofs.Math.Nat.{div-add-mod}
use Rattle.file_table.specs.declared.stripes.TheConstants.{PAGE}
use Rattle.file_table.specs.declared.stripes.Stripe.{Stripe}
use Rattle.file_table.specs.Stripes.{lists_of, page_at, stripe_in, no_stripe, IsPaged}

-- what stands for a missing element may stand behind the end
padded : {X : Type 0} (xs : List X) (n i : ℕ) (d : X) → get_or (xs ++ replicate n d) i d ≡ get_or xs i d
padded xs n i d = elim (cases_lt i (length xs)) [
  | inl within ↦ get_or_append_left xs (replicate n d) d i within
  | inr past ↦ get_or-append_right xs (replicate n d) (length xs) i d refl past ∙ of_same (i - length xs) ∙ sym (get_or_past xs i d past)
]
  where
    of_same : (k : ℕ) → get_or (replicate n d) k d ≡ d
    of_same k = elim (cases_lt k n) [
      | inl within ↦ get_or-replicate n k d d within
      | inr past ↦ get_or_past (replicate n d) k d (omega (arith, length-replicate n d))
    ]

-- an empty page more is as none
pub page_at-push : (pages : List (List Stripe)) (number : ℕ) → page_at (pages ++ [] ∷ []) number ≡ page_at pages number
page_at-push pages number = padded pages 1 number []

-- a page that is told otherwise, with the same stripes
pub stripe_in-same : (pages : List (List Stripe)) (number : ℕ) (page : List Stripe) → number < length pages
    → ((k : ℕ) → get_or page k no_stripe ≡ get_or (page_at pages number) k no_stripe)
    → (position : ℕ) → stripe_in (set pages number page) position ≡ stripe_in pages position
stripe_in-same pages number page within same position = elim (eqb_tells (position / PAGE) number) [
  | inl is ↦
      ap (λ (n : ℕ). get_or (get_or (set pages number page) n []) (position % PAGE) no_stripe) is.1
      ∙ ap (λ (p : List Stripe). get_or p (position % PAGE) no_stripe) (get_or-set_same pages number page [] within)
      ∙ same (position % PAGE)
      ∙ ap (λ (n : ℕ). get_or (get_or pages n []) (position % PAGE) no_stripe) (sym is.1)
  | inr other ↦ ap (λ (p : List Stripe). get_or p (position % PAGE) no_stripe) (get_or-set_other pages number (position / PAGE) page [] other.1)
]

-- a page that is filled up
pub filled_up : (page : List Stripe) (n k : ℕ) → get_or (page ++ replicate n no_stripe) k no_stripe ≡ get_or page k no_stripe
filled_up page n k = padded page n k no_stripe

-- a stripe that is written to its page
module _ (pages : List (List Stripe)) (position : ℕ) (stripe : Stripe) (there : position / PAGE < length pages) (within : position % PAGE < length (page_at pages (position / PAGE))) where
  abbrev written : List (List Stripe)
  written = set pages (position / PAGE) (set (page_at pages (position / PAGE)) (position % PAGE) stripe)

  pub stripe_in-here : stripe_in written position ≡ stripe
  stripe_in-here =
      ap (λ (p : List Stripe). get_or p (position % PAGE) no_stripe) (get_or-set_same pages (position / PAGE) (set (page_at pages (position / PAGE)) (position % PAGE) stripe) [] there)
      ∙ get_or-set_same (page_at pages (position / PAGE)) (position % PAGE) stripe no_stripe within

  pub stripe_in-other : (other : ℕ) → other ≢ position → stripe_in written other ≡ stripe_in pages other
  stripe_in-other other apart = elim (eqb_tells (other / PAGE) (position / PAGE)) [
    | inl same ↦
        let rest : other % PAGE ≢ position % PAGE = λ rests. apart (sym (div-add-mod other PAGE) ∙ ap (λ (n : ℕ). PAGE * n + other % PAGE) same.1 ∙ ap (λ (n : ℕ). PAGE * (position / PAGE) + n) rests ∙ div-add-mod position PAGE) in
        ap (λ (n : ℕ). get_or (get_or written n []) (other % PAGE) no_stripe) same.1
        ∙ ap (λ (p : List Stripe). get_or p (other % PAGE) no_stripe) (get_or-set_same pages (position / PAGE) (set (page_at pages (position / PAGE)) (position % PAGE) stripe) [] there)
        ∙ get_or-set_other (page_at pages (position / PAGE)) (position % PAGE) (other % PAGE) stripe no_stripe rest
        ∙ ap (λ (n : ℕ). get_or (get_or pages n []) (other % PAGE) no_stripe) (sym same.1)
    | inr not ↦ ap (λ (p : List Stripe). get_or p (other % PAGE) no_stripe) (get_or-set_other pages (position / PAGE) (other / PAGE) (set (page_at pages (position / PAGE)) (position % PAGE) stripe) [] not.1)
  ]

-- the same of pages as they are kept
module _ {Z : Type 0} (pages : List (Vec Stripe Z)) (number : ℕ) (there : number < length pages) where
  pub vec_read : (page : Vec Stripe Z) → page ≡ get_or pages number page → page.items ≡ page_at (lists_of pages) number
  vec_read page read = ap (λ (p : Vec Stripe Z). p.items) read ∙ sym (get_or-map (λ (p : Vec Stripe Z). p.items) pages number page [] there)

  pub vec_set : (page : Vec Stripe Z) → lists_of (set pages number page) ≡ set (lists_of pages) number page.items
  vec_set page = map-set (λ (p : Vec Stripe Z). p.items) pages number page

  pub vec_there : number < length (lists_of pages)
  vec_there = omega (arith, there, length-map pages (λ (p : Vec Stripe Z). p.items))

  pub vec_same : (page : Vec Stripe Z) → ((k : ℕ) → get_or page.items k no_stripe ≡ get_or (page_at (lists_of pages) number) k no_stripe)
      → (position : ℕ) → stripe_in (lists_of (set pages number page)) position ≡ stripe_in (lists_of pages) position
  vec_same page same position = ap (λ (ls : List (List Stripe)). stripe_in ls position) (vec_set page) ∙ stripe_in-same (lists_of pages) number page.items vec_there same position

  pub vec_paged : (page : Vec Stripe Z) (position : ℕ) → position / PAGE ≡ number → PAGE ≤ length page.items → IsPaged (lists_of (set pages number page)) position
  vec_paged page position is whole =
      let here : page_at (set (lists_of pages) number page.items) number ≡ page.items = get_or-set_same (lists_of pages) number page.items [] vec_there in
      let set_there : number < length (set (lists_of pages) number page.items) = omega (arith, vec_there, length-set (lists_of pages) number page.items) in
      rw (vec_set page) (record { there = omega (arith, is, set_there); whole = rw is (omega (arith, whole, ap length here)) })

-- what is counted of a stripe is read from its page alone
pub stripe_in-pages : (pages more : List (List Stripe)) → ((number : ℕ) → page_at more number ≡ page_at pages number) → (position : ℕ) → stripe_in more position ≡ stripe_in pages position
stripe_in-pages pages more same position = ap (λ (p : List Stripe). get_or p (position % PAGE) no_stripe) (same (position / PAGE))

-- a stripe that is written to its page, of pages as they are kept
module _ {Z : Type 0} (pages : List (Vec Stripe Z)) (position : ℕ) (stripe : Stripe) (page new : Vec Stripe Z) (room : IsPaged (lists_of pages) position)
    (read : page ≡ get_or pages (position / PAGE) page) (put : new.items ≡ set page.items (position % PAGE) stripe) where
  is_there : position / PAGE < length pages
  is_there = omega (arith, room.there, length-map pages (λ (p : Vec Stripe Z). p.items))

  vec_written : lists_of (set pages (position / PAGE) new) ≡ set (lists_of pages) (position / PAGE) (set (page_at (lists_of pages) (position / PAGE)) (position % PAGE) stripe)
  vec_written =
      vec_set pages (position / PAGE) is_there new
      ∙ ap (λ (p : List Stripe). set (lists_of pages) (position / PAGE) p) (put ∙ ap (λ (p : List Stripe). set p (position % PAGE) stripe) (vec_read pages (position / PAGE) is_there page read))

  within_page : position % PAGE < length (page_at (lists_of pages) (position / PAGE))
  within_page = omega (arith, room.whole)

  pub set_here : stripe_in (lists_of (set pages (position / PAGE) new)) position ≡ stripe
  set_here = ap (λ (ls : List (List Stripe)). stripe_in ls position) vec_written ∙ stripe_in-here (lists_of pages) position stripe room.there within_page

  pub set_other : (other : ℕ) → other ≢ position → stripe_in (lists_of (set pages (position / PAGE) new)) other ≡ stripe_in (lists_of pages) other
  set_other other apart = ap (λ (ls : List (List Stripe)). stripe_in ls other) vec_written ∙ stripe_in-other (lists_of pages) position stripe room.there within_page other apart
