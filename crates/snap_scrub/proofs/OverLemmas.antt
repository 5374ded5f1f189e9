-- The stripes of a scrub, window after window.
use Rattle.std.proofs.Common.{◌≡◌, ℕ, ◌+◌, ◌-◌, ◌≤◌, List, [], ◌++◌, length, map, take, drop, refl, sym, ap, ap₂, ◌∙◌, subst, arith, append_assoc}
use Rattle.std.specs.List.{range_with_len}
use Rattle.std.proofs.lemmas.Grind.{flat_map-append}
use Rattle.std.proofs.lemmas.List.{map-append, length-append, length-drop, length-take-le, take_all, take-append-le}
use Rattle.disk_model.specs.Folder.{FolderView}
use Rattle.disk_model.specs.Sink.{SinkView}
use Rattle.disk_model.specs.Vault.{VaultView, IsUntouched}
use Rattle.file_table.specs.Table.{TableValue}
use Rattle.snap_report.specs.Report.{ReportView}
use Rattle.snap_report.specs.declared.events.Event.{Event}
use Rattle.snap_report.specs.declared.pages.Lines.{Lines}
use Rattle.stripe_findings.specs.Reading.{StripeReading, AreRead, reading_at, readings_in, stripes_of}
use Rattle.stripe_findings.proofs.ReadLemmas.{are_read_start, are_read_then, stripes_of_window, take_then, window_are_read}
use Rattle.stripe_reader.specs.Columns.{ReadsWindow}
use Rattle.stripe_reader.specs.Starts.{recorded_starts}
use Rattle.stripe_reader.specs.WindowValue.{WindowValue}
use Rattle.snap_scrub.specs.declared.verdict.Verdict.{Verdict}
use Rattle.snap_scrub.specs.Findings.{scrub_events, events_of}
use Rattle.snap_scrub.specs.Looking.{Scene, LooksInto, LooksOver, scene}
use Rattle.snap_scrub.specs.Marks.{verdict_of, at_most}
use Rattle.snap_scrub.specs.Reading.{ScrubReading, cells_of}
use Rattle.snap_scrub.proofs.LookingLemmas.{looks_left, looks_then}

-- what was written through a whole slice of a list
pub whole_back : {X : Type 0} (len : ℕ) (items new : List X) → length new ≡ len → take len (new ++ drop (length new) items) ≡ new
whole_back len items new long = take-append-le len new (drop (length new) items) (omega (arith, long)) ∙ take_all len new (omega (arith, long))

-- a slice of a list, as it is cut out
pub slice_is : (xs ys : List ℕ) (first count : ℕ) → xs ≡ ys → take ((first + count) - first) (drop first xs) ≡ take count (drop first ys)
slice_is xs ys first count same = ap₂ (λ (k : ℕ) (zs : List ℕ). take k (drop first zs)) (let n : (first + count) - first ≡ count = omega arith in n) same

-- how long a slice of a list is
pub length_cut : {X : Type 0} (xs : List X) (first n : ℕ) → first + n ≤ length xs → length (take n (drop first xs)) ≡ n
length_cut xs first n within = length-take-le n (drop first xs) (omega (arith, length-drop first xs, within))

-- a list of which a slice was written anew, as the code puts it: its length, and its elements up to the end of that slice
module _ {X : Type 0} (items new lent : List X) (first n : ℕ) (same : lent ≡ items) (long : length new ≡ n) (within : first + n ≤ length items) where
  front : length (take first items) ≡ first
  front = length-take-le first items (omega (arith, within))

  both : length (take first items ++ new) ≡ first + n
  both = length-append (take first items) new ∙ ap₂ (λ (a b : ℕ). a + b) front long

  pub written_length : length (take first lent ++ (new ++ drop n (drop first lent))) ≡ length items
  written_length =
      ap (λ (xs : List X). length (take first xs ++ (new ++ drop n (drop first xs)))) same
      ∙ omega (arith, length-append (take first items) (new ++ drop n (drop first items)), length-append new (drop n (drop first items)), length-drop n (drop first items), length-drop first items, front, long, within)

  pub written_slice : take (first + n) (take first lent ++ (new ++ drop n (drop first lent))) ≡ take first items ++ new
  written_slice =
      ap (λ (xs : List X). take (first + n) (take first xs ++ (new ++ drop n (drop first xs)))) same
      ∙ ap (take (first + n)) (sym (append_assoc (take first items) new (drop n (drop first items))))
      ∙ take-append-le (first + n) (take first items ++ new) (drop n (drop first items)) (omega (arith, both))
      ∙ take_all (first + n) (take first items ++ new) (omega (arith, both))

module _ {W R : Type 0} (view : W → SinkView) (standing : R → ReportView) (stands : R → List Event → Type 0) (table : TableValue) where
  -- before the first window, of a vault that stayed untouched
  pub over_none : (stripes : List ℕ) (verdicts : List Verdict) (folders : List FolderView) (old new : VaultView) (lines : Lines W) (reports : List R) → IsUntouched old new → stripes ≡ [] → verdicts ≡ []
      → LooksOver view standing stands table stripes verdicts 0 folders folders (scene old lines reports) (scene new lines reports)
  over_none stripes verdicts folders old new lines reports same no_stripes no_verdicts = record {
    readings = [];
    numbers = sym no_stripes;
    read = are_read_start table folders;
    looks = looks_left view standing stands table old new lines reports same;
    verdicts_are = no_verdicts;
    findings_are = refl;
  }

  -- one window more
  pub over_more : (all : List ℕ) (done count : ℕ) (one_verdicts all_verdicts : List Verdict) (one more both : ℕ) (window_before window : WindowValue) (verdicts : List Verdict) (olds mids news : List FolderView) (old mid new : Scene W R)
      → both ≡ at_most (one + more) → length window.lanes ≡ length table.columns → length mids ≡ length table.columns → count ≡ length (take count (drop done all))
      → all_verdicts ≡ one_verdicts ++ verdicts
      → LooksOver view standing stands table (take done all) one_verdicts one olds mids old mid
      → ReadsWindow table (recorded_starts table) (take count (drop done all)) window_before window mids news
      → LooksInto view standing stands table (take count (drop done all)) window count verdicts more mid new
      → LooksOver view standing stands table (take (done + count) all) all_verdicts both olds news old new
  over_more all done count one_verdicts all_verdicts one more both window_before window verdicts olds mids news old mid new both_is lanes folders many follow over read looks =
      let stripes = take count (drop done all) in
      let xs = over.readings in
      let ys = looks.readings in
      let whole : cells_of ys ≡ readings_in stripes window = looks.cells_are ∙ ap (λ (n : ℕ). map (reading_at stripes window) (range_with_len 0 n)) many in
      let cells : cells_of (xs ++ ys) ≡ cells_of xs ++ cells_of ys = map-append (λ (it : ScrubReading). it.cells) xs ys in
      let here : AreRead table (cells_of ys) mids news = subst (λ (its : List StripeReading). AreRead table its mids news) (sym whole)
      (window_are_read table (recorded_starts table) stripes window_before window mids news refl (sym read.lanes ∙ lanes) folders read) in
      let numbers : stripes_of (cells_of ys) ≡ stripes = ap stripes_of whole ∙ stripes_of_window stripes window in
      let count_is : length (events_of table (xs ++ ys)) ≡ length (events_of table xs) + length (events_of table ys) =
      ap length (flat_map-append (scrub_events table) xs ys) ∙ length-append (events_of table xs) (events_of table ys) in
      record {
        readings = xs ++ ys;
        numbers =
            ap stripes_of cells
            ∙ map-append (λ (it : StripeReading). it.stripe) (cells_of xs) (cells_of ys)
            ∙ ap₂ (λ (front back : List ℕ). front ++ back) over.numbers numbers
            ∙ take_then all done count;
        read = subst (λ (its : List StripeReading). AreRead table its olds news) (sym cells) (are_read_then table (cells_of xs) (cells_of ys) olds mids news over.read here);
        looks = looks_then view standing stands table xs ys old mid new over.looks looks.looks;
        verdicts_are =
            follow
            ∙ ap₂ (λ (vs ws : List Verdict). vs ++ ws) over.verdicts_are looks.verdicts_are
            ∙ sym (map-append (verdict_of table) xs ys);
        findings_are = omega (arith, both_is, over.findings_are, looks.findings_are, count_is);
      }
