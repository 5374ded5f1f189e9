-- Some events told after others.
use Rattle.std.proofs.Common.{ℕ, ◌+◌, ◌<◌, List, [], ◌∷◌, ◌++◌, length, take, get_or, sym, ◌∙◌, ap, subst, append_assoc}
use Rattle.std.proofs.lemmas.Grind.{flat_map-append}
use Rattle.std.proofs.lemmas.List.{append-nil, take_more}
use Rattle.disk_model.specs.Sink.{SinkView}
use Rattle.file_table.specs.Table.{Column}
use Rattle.snap_report.specs.declared.events.Event.{Event}
use Rattle.snap_report.specs.declared.pages.Lines.{Lines}
use Rattle.snap_report.specs.Report.{ReportView, AllGiven}
use Rattle.snap_report.specs.EventLines.{event_line, lines_of}
use Rattle.snap_report.specs.Told.{Told, ToldPart}
use Rattle.snap_report.proofs.PutsLemmas.{puts_then, puts_nothing, puts_same}
use Rattle.snap_report.proofs.ReportLemmas.{all_given_then, all_given_nothing}

module _ {W R : Type 0} (view : W → SinkView) (standing : R → ReportView) (stands : R → List Event → Type 0) (columns : List Column) where
  pub told_then : (front back : List Event) (old mid new : Lines W) (olds mids news : List R) → Told view standing stands columns front old mid olds mids → Told view standing stands columns back mid new mids news → Told view standing stands columns (front ++ back) old new olds news
  told_then front back old mid new olds mids news one two = record {
    puts = puts_same view _ _ old new (puts_then view _ _ old mid new one.puts two.puts) (sym (flat_map-append (event_line columns) front back));
    settled = λ before. two.settled (one.settled before);
    given = subst (λ text. AllGiven standing stands text (front ++ back) olds news) (sym (flat_map-append (event_line columns) front back))
        (all_given_then standing stands (lines_of columns front) (lines_of columns back) front back olds mids news one.given two.given);
  }

  -- no events
  pub told_nothing : (lines : Lines W) (reports : List R) → Told view standing stands columns [] lines lines reports reports
  told_nothing lines reports = record { puts = puts_nothing view lines; settled = λ before. before; given = all_given_nothing standing stands reports }

  -- one event more of a list
  pub told_one_more : (events : List Event) (i : ℕ) (d : Event) (old mid new : Lines W) (olds mids news : List R) → i < length events → Told view standing stands columns (take i events) old mid olds mids → Told view standing stands columns (get_or events i d ∷ []) mid new mids news → Told view standing stands columns (take (i + 1) events) old new olds news
  told_one_more events i d old mid new olds mids news within one two =
      subst (λ es. Told view standing stands columns es old new olds news) (sym (take_more events i d within)) (told_then (take i events) (get_or events i d ∷ []) old mid new olds mids news one two)

  -- all events are some of them
  pub part_of_told : (events : List Event) (old new : Lines W) (olds news : List R) → Told view standing stands columns events old new olds news → ToldPart view standing stands columns events old new olds news
  part_of_told events old new olds news told = record { first = events; rest = []; whole = append-nil events; told = told }

  -- all of the first events, and some of the later ones
  pub told_then_part : (front back : List Event) (old mid new : Lines W) (olds mids news : List R) → Told view standing stands columns front old mid olds mids → ToldPart view standing stands columns back mid new mids news → ToldPart view standing stands columns (front ++ back) old new olds news
  told_then_part front back old mid new olds mids news one two = record {
    first = front ++ two.first;
    rest = two.rest;
    whole = append_assoc front two.first two.rest ∙ ap (λ events. front ++ events) two.whole;
    told = told_then front two.first old mid new olds mids news one two.told;
  }

  -- some of the first events, and none of the later ones
  pub part_of_more : (front back : List Event) (old new : Lines W) (olds news : List R) → ToldPart view standing stands columns front old new olds news → ToldPart view standing stands columns (front ++ back) old new olds news
  part_of_more front back old new olds news one = record {
    first = one.first;
    rest = one.rest ++ back;
    whole = sym (append_assoc one.first one.rest back) ∙ ap (λ events. events ++ back) one.whole;
    told = one.told;
  }
