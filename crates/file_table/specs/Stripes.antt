-- What is counted of each stripe while a table is built, page by page.
use Rattle.std.specs.Prelude.{ℕ, ◌/◌, ◌%◌, ◌<◌, ◌≤◌, List, [], length, map, slice_index_or, Bool, false, Vec}
use Rattle.file_table.specs.declared.stripes.TheConstants.{PAGE}
use Rattle.file_table.specs.declared.stripes.Stripe.{Stripe}
use Rattle.file_table.specs.declared.stripes.Stripes.{Stripes}

-- nothing is counted
abbrev pub no_stripe : Stripe
no_stripe = record { column = 0; unhashed = false }

-- the pages as lists
abbrev pub lists_of : {X Z : Type 0} → List (Vec X Z) → List (List X)
lists_of {X} {Z} pages = map (λ (page : Vec X Z). page.items) pages

-- the page of a number, empty where there is none
abbrev pub page_at : List (List Stripe) → ℕ → List Stripe
page_at pages number = slice_index_or pages number []

-- what is counted of the stripe at a position
abbrev pub stripe_in : List (List Stripe) → ℕ → Stripe
stripe_in pages position = slice_index_or (page_at pages (position / PAGE)) (position % PAGE) no_stripe

abbrev pub stripe_at : Stripes → ℕ → Stripe
stripe_at stripes position = stripe_in (lists_of stripes.pages.items) position

-- the last column that has a block at a position, counted from 1, and whether a block there lacks its hash
abbrev pub users_of : Stripes → ℕ → ℕ
users_of stripes position = (stripe_at stripes position).column

abbrev pub lacking_of : Stripes → ℕ → Bool
lacking_of stripes position = (stripe_at stripes position).unhashed

-- the page of a position is there and whole
pub record IsPaged (pages : List (List Stripe)) (position : ℕ) : Type 0 where
  pub there : position / PAGE < length pages
  pub whole : PAGE ≤ length (page_at pages (position / PAGE))

abbrev pub HasRoom : Stripes → ℕ → Type 0
HasRoom stripes position = IsPaged (lists_of stripes.pages.items) position
