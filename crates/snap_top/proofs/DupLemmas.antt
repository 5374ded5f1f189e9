-- The pairs of a table, told one after another.
use Rattle.std.proofs.Common.{◌≡◌, ℕ, ◌+◌, List, [], ◌∷◌, ◌++◌, length, All, Bool, true, false, refl, sym, ap, ◌∙◌, subst, arith}
use Rattle.std.proofs.lemmas.List.{append-nil}
use Rattle.std.proofs.lemmas.List.Elements.{All-head, All-tail}
use Rattle.disk_model.specs.Sink.{AppendsPart, SinkView}
use Rattle.file_table.specs.Table.{Column, TableValue}
use Rattle.hash_index.specs.Duplicates.{IsPairOf, pairs_of}
use Rattle.hash_index.specs.declared.pair.Pair.{Pair}
use Rattle.snap_report.specs.State.{Puts, state_of}
use Rattle.snap_report.specs.Telling.{Tells, Written}
use Rattle.snap_report.specs.declared.pages.Lines.{Lines}
use Rattle.snap_report.proofs.PutsLemmas.{puts_nothing, puts_same, puts_then}
use Rattle.snap_report.proofs.TellingLemmas.{nothing_appended}
use Rattle.snap_top.specs.Dup.{count_line, dup_text, pair_line, pair_lines}

-- behind a write that failed any text is told, since no more of it is written
told_unwritten : (said text : List ℕ) (old new : Written) → old.failed ≡ true → Tells said old new → Tells text old new
told_unwritten said text old new failed told =
    let same : new ≡ old = told.stays failed in
    let still : new.failed ≡ true = ap (λ (w : Written). w.failed) same ∙ failed in
    record {
      goes_on = told.goes_on;
      stays = told.stays;
      unfailed = told.unfailed;
      cause = told.cause;
      whole = λ no. absurd (let clash : true ≡ false = sym still ∙ no in cc);
      part = λ tells. subst (λ (w : Written). AppendsPart (old.held ++ text) old.sink.written w.sink.written) (sym same) (nothing_appended (old.held ++ text) old.sink.written);
    }

module _ {W : Type 0} (view : W → SinkView) where
  pub puts_unwritten : (said text : List ℕ) (old new : Lines W) → (state_of view old).failed ≡ true → Puts view said old new → Puts view text old new
  puts_unwritten said text old new failed puts = record {
    same_reference = puts.same_reference;
    tells = told_unwritten said text (state_of view old) (state_of view new) failed puts.tells;
  }

  -- While pairs are told: those that were counted and those still to come are all of them, and with the lines of the latter all is told.
  pub record AreTold (columns : List Column) (all left : List Pair) (count : ℕ) (old now : Lines W) : Type 0 where
    pub within : All (IsPairOf columns) left
    pub counted : count + length left ≡ length all
    pub puts : (new : Lines W) → Puts view (pair_lines columns left) now new → Puts view (pair_lines columns all) old new

  module _ (columns : List Column) (all : List Pair) (old now : Lines W) where
    pub none_told : All (IsPairOf columns) all → AreTold columns all all 0 now now
    none_told within = record { within = within; counted = omega arith; puts = λ new puts. puts }

    pub first_left : (left rest : List Pair) (pair : Pair) (count : ℕ) → left ≡ pair ∷ rest → AreTold columns all left count old now → IsPairOf columns pair
    first_left left rest pair count is told = All-head (IsPairOf columns) pair rest (subst (All (IsPairOf columns)) is told.within)

    -- one pair more
    pub one_told : (left rest : List Pair) (pair : Pair) (count : ℕ) (new : Lines W) → left ≡ pair ∷ rest → AreTold columns all left count old now
        → Puts view (pair_line columns pair) now new → AreTold columns all rest (count + 1) old new
    one_told left rest pair count new is told puts =
        let long : length left ≡ length (pair ∷ rest) = ap length is in
        record {
          within = All-tail (IsPairOf columns) pair rest (subst (All (IsPairOf columns)) is told.within);
          counted = omega (arith, told.counted, long);
          puts = λ last more. told.puts last
              (puts_same view (pair_lines columns (pair ∷ rest)) (pair_lines columns left) now last
              (puts_then view (pair_line columns pair) (pair_lines columns rest) now new last puts more) (ap (pair_lines columns) (sym is)));
        }

    -- where none is left, or a write failed, all is told
    pub all_told : (left : List Pair) (count : ℕ) → left ≡ [] → AreTold columns all left count old now → Puts view (pair_lines columns all) old now
    all_told left count none told = told.puts now (puts_same view [] (pair_lines columns left) now now (puts_nothing view now) (ap (pair_lines columns) (sym none)))

    pub failed_told : (left : List Pair) (count : ℕ) → (state_of view now).failed ≡ true → AreTold columns all left count old now → Puts view (pair_lines columns all) old now
    failed_told left count failed told = told.puts now (puts_unwritten [] (pair_lines columns left) now now failed (puts_nothing view now))

    pub all_counted : (left : List Pair) (count : ℕ) → left ≡ [] → AreTold columns all left count old now → count ≡ length all
    all_counted left count none told = let zero : length left ≡ 0 = ap length none in omega (arith, told.counted, zero)

  -- the lines of all pairs, and the last line with their number
  pub text_told : (table : TableValue) (pairs : List Pair) (count : ℕ) (old lines last new : Lines W) → pairs ≡ pairs_of table
      → Puts view (pair_lines table.columns pairs) old lines → ((state_of view lines).failed ≡ false → count ≡ length pairs)
      → Puts view (count_line count) lines last → Puts view [] last new → Puts view (dup_text table) old new
  text_told table pairs count old lines last new are puts counts counted handed =
      subst (λ (ps : List Pair). Puts view (pair_lines table.columns ps ++ count_line (length ps)) old new) are
      (puts_same view ((pair_lines table.columns pairs ++ count_line (length pairs)) ++ []) (pair_lines table.columns pairs ++ count_line (length pairs)) old new
      (puts_then view (pair_lines table.columns pairs ++ count_line (length pairs)) [] old last new
      (puts_then view (pair_lines table.columns pairs) (count_line (length pairs)) old lines last puts (number ((state_of view lines).failed) refl)) handed)
      (append-nil (pair_lines table.columns pairs ++ count_line (length pairs))))
    where
      number : (failed : Bool) → (state_of view lines).failed ≡ failed → Puts view (count_line (length pairs)) lines last
      number true failed = puts_unwritten (count_line count) (count_line (length pairs)) lines last failed counted
      number false failed = puts_same view (count_line count) (count_line (length pairs)) lines last counted (ap count_line (counts failed))
