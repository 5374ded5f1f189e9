-- The chosen stripes of a window, written one after another.
use Rattle.std.proofs.Common.{◌≡◌, ℕ, ◌+◌, ◌<◌, false, true, length, IsTrue, refl, sym, ◌∙◌, subst, List}
use Rattle.disk_model.specs.Ran.{RanAll, RanUpTo, log_of}
use Rattle.disk_model.specs.Vault.{VaultView, VaultCall, SomeCalls, ChangesBy, DraftsStay, Reads, state_of}
use Rattle.disk_model.proofs.RanLemmas.{ran_none, ran_all_more, ran_all_fails}
use Rattle.parity_writer.specs.Calls.{sum_calls}
use Rattle.parity_writer.specs.Chosen.{Choice, IsChosen, is_chosen, stripe_in, choice_calls, rows_with, window_calls}
use Rattle.parity_writer.specs.Keeps.{WritesBlock}
use Rattle.parity_writer.specs.Parity.{Rows, HoldsRows, SameElsewhere, WritesBlocks}
use Rattle.parity_writer.specs.Rows.{HasSums}
use Rattle.parity_writer.specs.WindowRow.{row_at}
use Rattle.parity_writer.proofs.ChosenLemmas.{calls_chosen, calls_none, rows_chosen, rows_none}
use Rattle.parity_writer.proofs.ElsewhereLemmas.{elsewhere_more}
use Rattle.parity_writer.proofs.Keeping.{Keeping, keeping_more}
use Rattle.parity_writer.proofs.WriteLemmas.{sums_hold, blocks_more}
use Rattle.stripe_reader.specs.WindowValue.{WindowValue}

-- the chosen ones among the first so many stripes were written
pub record WroteChosen (window : WindowValue) (choice : Choice) (count : ℕ) (old new : VaultView) : Type 0 where
  pub keeping : Keeping (WritesBlocks window.block_size (IsChosen choice)) old new
  pub ran : RanAll (window_calls old.levels window choice count) (log_of (state_of old)) (log_of (state_of new))
  pub written : (rows : Rows) → Reads (HoldsRows old.levels window.block_size rows) old
      → Reads (HoldsRows old.levels window.block_size (rows_with window choice count rows)) new
  pub elsewhere : Reads (SameElsewhere old.levels window.block_size (IsChosen choice) old.files) new

-- of one stripe such calls were made, and it changed no more
pub record WroteOne (block_size stripe : ℕ) (old new : VaultView) : Type 0 where
  pub calls : SomeCalls old new
  pub changes : ChangesBy (WritesBlock block_size stripe) old new
  pub drafts : DraftsStay old new

module _ (window : WindowValue) (choice : Choice) (i : ℕ) (old mid : VaultView) (so_far : WroteChosen window choice i old mid) where
  -- a stripe that is not chosen
  pub wrote_none : is_chosen choice i ≡ false → WroteChosen window choice (i + 1) old mid
  wrote_none off = record {
    keeping = so_far.keeping;
    ran = ran_all_more (choice_calls old.levels window choice) i (log_of (state_of old)) (log_of (state_of mid)) (log_of (state_of mid)) so_far.ran
        (subst (λ (calls : List VaultCall). RanAll calls (log_of (state_of mid)) (log_of (state_of mid))) (sym (calls_none window choice i old.levels off)) (ran_none (log_of (state_of mid))));
    written = λ rows before. subst (λ (its : Rows). Reads (HoldsRows old.levels window.block_size its) mid) (sym (rows_none window choice i rows off)) (so_far.written rows before);
    elsewhere = so_far.elsewhere;
  }

  module _ (within : i < length choice.stripes) (on : is_chosen choice i ≡ true) where
    is_one : IsChosen choice (stripe_in choice i)
    is_one = record { i = i; within = within; stripe_is = refl; chosen = on }

    pub kept_more : (new : VaultView) → WroteOne window.block_size (stripe_in choice i) mid new → Keeping (WritesBlocks window.block_size (IsChosen choice)) old new
    kept_more new one =
        keeping_more (WritesBlocks window.block_size (IsChosen choice)) (WritesBlock window.block_size (stripe_in choice i)) old mid new
        (blocks_more window.block_size (IsChosen choice) (stripe_in choice i) is_one) so_far.keeping one.calls one.changes one.drafts

    -- a chosen one, whose writes went well
    pub wrote_one : (new : VaultView) → WroteOne window.block_size (stripe_in choice i) mid new
        → RanAll (sum_calls mid.levels window.block_size (stripe_in choice i) (row_at window i)) (log_of (state_of mid)) (log_of (state_of new))
        → Reads (HasSums mid.levels window.block_size (stripe_in choice i) (row_at window i) mid.files) new
        → WroteChosen window choice (i + 1) old new
    wrote_one new one ran sums =
        let size = window.block_size in
        let stripe = stripe_in choice i in
        let row = row_at window i in
        let levels : mid.levels ≡ old.levels = so_far.keeping.calls.goes_on.levels in
        record {
          keeping = kept_more new one;
          ran = ran_all_more (choice_calls old.levels window choice) i (log_of (state_of old)) (log_of (state_of mid)) (log_of (state_of new)) so_far.ran
              (subst (λ (calls : List VaultCall). RanAll calls (log_of (state_of mid)) (log_of (state_of new))) (sym (calls_chosen window choice i old.levels on))
              (subst (λ (n : ℕ). RanAll (sum_calls n size stripe row) (log_of (state_of mid)) (log_of (state_of new))) levels ran));
          written = λ rows before told.
              let was : IsTrue mid.tells = sym one.calls.goes_on.tells ∙ told in
              subst (λ (its : Rows). HoldsRows old.levels size its new.files) (sym (rows_chosen window choice i rows on))
              (sums_hold old.levels size stripe row (rows_with window choice i rows) mid.files new.files
              (subst (λ (n : ℕ). HasSums n size stripe row mid.files new.files) levels (sums told)) (so_far.written rows before was));
          elsewhere = λ told.
              let was : IsTrue mid.tells = sym one.calls.goes_on.tells ∙ told in
              elsewhere_more old.levels size (IsChosen choice) stripe row is_one old.files mid.files new.files (so_far.elsewhere was)
              (subst (λ (n : ℕ). HasSums n size stripe row mid.files new.files) levels (sums told));
        }

    -- a chosen one, at one of whose writes the vault failed
    pub failed_at : (new : VaultView) → i < window.count
        → RanUpTo (sum_calls mid.levels window.block_size (stripe_in choice i) (row_at window i)) (log_of (state_of mid)) (log_of (state_of new))
        → RanUpTo (window_calls old.levels window choice window.count) (log_of (state_of old)) (log_of (state_of new))
    failed_at new below ran =
        ran_all_fails (choice_calls old.levels window choice) i window.count (log_of (state_of old)) (log_of (state_of mid)) (log_of (state_of new)) below so_far.ran
        (subst (λ (calls : List VaultCall). RanUpTo calls (log_of (state_of mid)) (log_of (state_of new))) (sym (calls_chosen window choice i old.levels on))
        (subst (λ (n : ℕ). RanUpTo (sum_calls n window.block_size (stripe_in choice i) (row_at window i)) (log_of (state_of mid)) (log_of (state_of new))) so_far.keeping.calls.goes_on.levels ran))
