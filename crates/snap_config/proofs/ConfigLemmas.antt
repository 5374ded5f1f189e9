-- The fold over the lines of a configuration.
use Rattle.std.proofs.Common.{◌≡◌, ℕ, suc, ◌+◌, ◌<◌, ◌≤◌, List, [], ◌∷◌, ◌++◌, length, get_or, take, drop, Bool, true, false, nat_lt, ◌==◌, zero, Option, None, Some, Result, Ok, Err, filter_map, option_to_list, refl, sym, ap, ◌∙◌, arith, add-one, drop-cons, length-take, length-drop, get_or-take, All}
use Rattle.memchr.specs.Find.{IsFirstByte, is_byte}
use Rattle.std.proofs.lemmas.Bool.Decides.{nat_tests}
use Rattle.std.proofs.lemmas.List.{take-append-drop, drop-drop, get_or_default}
use Rattle.std.proofs.lemmas.List.Elements.{filter_map-append}
use Rattle.std.proofs.lemmas.List.Splits.{slice_split_none, slice_split_at}
use Rattle.array_setup.proofs.BoolLemmas.{not_true}
use Rattle.snap_config.specs.Config.{Refusal, then_read, at_line, read_lines, read_setup, finish, setup_of, lacks_level, files_of, by_level, IsRefusal}
use Rattle.snap_config.specs.Builder.{BuilderValue, no_lines, take_line}
use Rattle.snap_config.specs.Fault.{fault_at}
use Rattle.snap_config.specs.Line.{lines_of, IsLine}
use Rattle.snap_config.specs.Reading.{Explains}
use Rattle.snap_config.specs.declared.builder.ParityLine.{ParityLine}
use Rattle.snap_config.specs.declared.fault.LineFault.{LineFault}
use Rattle.snap_config.specs.declared.fault.LineFault.TheVariants.{Refused, Memory}
use Rattle.array_setup.specs.Setup.{SetupValue}
use Rattle.snap_config.specs.declared.why.ConfigFault.{ConfigFault}
use Rattle.snap_config.specs.declared.why.ConfigFault.TheVariants.{BadLine, Memory as ConfigMemory}
use Rattle.snap_config.specs.declared.why.Why.{Why}
use Rattle.snap_config.specs.declared.why.Why.TheVariants.{TooLong}

-- ---- lines

reads_all : (test : ℕ → Bool) (text : List ℕ) → ((k : ℕ) → k < length text → test (get_or text k 0) ≡ false) → All (λ b. test b ≡ false) text
reads_all test text fails k d below = rw (get_or_default text k d 0 below) (fails k below)

first_line : (rest : List ℕ) (end : ℕ) → IsFirstByte (is_byte 10) rest (Some end) → IsLine rest (take end rest) (drop (end + 1) rest)
first_line rest end found =
    let within : end < length rest = found.0.high in
    let is : get_or rest end 0 == 10 ≡ true = found.1 in
    let here : get_or rest end 0 ≡ 10 = grind (arith, nat_tests) in
    let spelled : rest ≡ take end rest ++ 10 ∷ drop (end + 1) rest =
    sym (take-append-drop end rest) ∙ ap (λ text. take end rest ++ text) (drop-cons rest end 0 within ∙ rw (here, add-one) refl) in
    let before : (k : ℕ) → k < length (take end rest) → get_or (take end rest) k 0 == 10 ≡ false = λ k below.
    let low : k < end = omega (arith, below, length-take end rest) in
    rw (get_or-take end rest k 0 low) (not_true (get_or rest k 0 == 10) (λ passes. found.0.before k (omega arith) low passes)) in
    record {
      lines = ap lines_of spelled ∙ slice_split_at (λ b. b == 10) (take end rest) 10 (drop (end + 1) rest) (reads_all (λ b. b == 10) (take end rest) before) refl;
      shorter = omega (arith, within, length-drop (end + 1) rest);
    }

pub cut_some : (text line feed after : List ℕ) (end : ℕ) → IsFirstByte (is_byte 10) text (Some end) → line ≡ take end text → feed ≡ drop end text → after ≡ drop 1 feed → IsLine text line after
cut_some text line feed after end found is_line is_feed is_after =
    let rest : after ≡ drop (end + 1) text = is_after ∙ ap (drop 1) is_feed ∙ drop-drop 1 end text in
    rw (is_line, rest) (first_line text end found)

pub one_line : (rest : List ℕ) → IsFirstByte (is_byte 10) rest None → lines_of rest ≡ rest ∷ []
one_line rest nowhere =
    slice_split_none (λ b. b == 10) rest (reads_all (λ b. b == 10) rest (λ k below. not_true (get_or rest k 0 == 10) (λ passes. nowhere k (omega arith) below passes)))

-- ---- the fold

-- what is read so far: the whole is what is left makes of the builder
pub record IsRead (bytes : List ℕ) (number : ℕ) (builder : BuilderValue) (rest : List ℕ) : Type 0 where
  pub counted : number + length rest ≤ length bytes + 1
  pub same : read_lines 1 no_lines (lines_of bytes) ≡ read_lines number builder (lines_of rest)

read_step : (number : ℕ) (builder : BuilderValue) (rest line after : List ℕ) → IsLine rest line after
    → read_lines number builder (lines_of rest) ≡ then_read (at_line number (take_line line builder)) (λ next. read_lines (number + 1) next (lines_of after))
read_step number builder rest line after is = ap (read_lines number builder) is.lines

pub read-next : (bytes : List ℕ) (number : ℕ) (builder next : BuilderValue) (rest line after : List ℕ) → IsRead bytes number builder rest → IsLine rest line after
    → take_line line builder ≡ Ok next → IsRead bytes (number + 1) next after
read-next bytes number builder next rest line after is cut said =
    record {
      counted = omega (arith, is.counted, cut.shorter);
      same = is.same ∙ read_step number builder rest line after cut ∙ ap (λ r. then_read (at_line number r) (λ n. read_lines (number + 1) n (lines_of after))) said;
    }

pub read-refused : (bytes : List ℕ) (number : ℕ) (builder : BuilderValue) (why : Why) (rest line after : List ℕ) → IsRead bytes number builder rest → IsLine rest line after
    → take_line line builder ≡ Err why → read_lines 1 no_lines (lines_of bytes) ≡ Err (record { line = number; why = why })
read-refused bytes number builder why rest line after is cut said =
    is.same ∙ read_step number builder rest line after cut ∙ ap (λ r. then_read (at_line number r) (λ n. read_lines (number + 1) n (lines_of after))) said

pub read-last : (bytes : List ℕ) (number : ℕ) (builder next : BuilderValue) (rest : List ℕ) → IsRead bytes number builder rest → lines_of rest ≡ rest ∷ []
    → take_line rest builder ≡ Ok next → read_lines 1 no_lines (lines_of bytes) ≡ Ok next
read-last bytes number builder next rest is last said =
    is.same ∙ ap (read_lines number builder) last ∙ ap (λ r. then_read (at_line number r) (λ n. read_lines (number + 1) n [])) said

pub read-last_refused : (bytes : List ℕ) (number : ℕ) (builder : BuilderValue) (why : Why) (rest : List ℕ) → IsRead bytes number builder rest → lines_of rest ≡ rest ∷ []
    → take_line rest builder ≡ Err why → read_lines 1 no_lines (lines_of bytes) ≡ Err (record { line = number; why = why })
read-last_refused bytes number builder why rest is last said =
    is.same ∙ ap (read_lines number builder) last ∙ ap (λ r. then_read (at_line number r) (λ n. read_lines (number + 1) n [])) said

-- a fault at a line is a refusal of the whole
pub refused_at : (fault : LineFault) (number : ℕ) (said : Result BuilderValue Why) (whole : Result BuilderValue Refusal) → Explains fault said
    → ((why : Why) → said ≡ Err why → whole ≡ Err (record { line = number; why = why })) → IsRefusal (fault_at number fault) whole
refused_at (Refused why) number said whole explains refused = refused why explains
refused_at Memory number said whole explains refused = tt

-- ---- the files of the levels

pub files_below : List ParityLine → ℕ → List (List (List ℕ))
files_below parities level = filter_map (files_of parities) (take level (0 ∷ 1 ∷ 2 ∷ 3 ∷ 4 ∷ 5 ∷ []))

levels-next : (level : ℕ) → level < 6 → take (level + 1) (0 ∷ 1 ∷ 2 ∷ 3 ∷ 4 ∷ 5 ∷ []) ≡ take level (0 ∷ 1 ∷ 2 ∷ 3 ∷ 4 ∷ 5 ∷ []) ++ level ∷ []
levels-next zero below = refl
levels-next (suc zero) below = refl
levels-next (suc (suc zero)) below = refl
levels-next (suc (suc (suc zero))) below = refl
levels-next (suc (suc (suc (suc zero)))) below = refl
levels-next (suc (suc (suc (suc (suc zero))))) below = refl
levels-next (suc (suc (suc (suc (suc (suc level)))))) below = absurd (omega arith)

one-file : (f : ℕ → Option (List (List ℕ))) (level : ℕ) → filter_map f (level ∷ []) ≡ option_to_list (f level)
one-file f level = cases (f level) refl
  where
    cases : (o : Option (List (List ℕ))) → f level ≡ o → filter_map f (level ∷ []) ≡ option_to_list o
    cases None is = rw is refl
    cases (Some file) is = rw is refl

pub files_below-next : (parities : List ParityLine) (level : ℕ) → level < 6 → files_below parities (level + 1) ≡ files_below parities level ++ option_to_list (files_of parities level)
unfolding files_below
files_below-next parities level below =
    ap (filter_map (files_of parities)) (levels-next level below)
    ∙ filter_map-append (files_of parities) (take level (0 ∷ 1 ∷ 2 ∷ 3 ∷ 4 ∷ 5 ∷ [])) (level ∷ [])
    ∙ ap (λ files. filter_map (files_of parities) (take level (0 ∷ 1 ∷ 2 ∷ 3 ∷ 4 ∷ 5 ∷ [])) ++ files) (one-file (files_of parities) level)

pub files_below-all : (parities : List ParityLine) → files_below parities 6 ≡ by_level parities
unfolding files_below
files_below-all parities = refl

pub files_below-none : (parities : List ParityLine) → files_below parities 0 ≡ []
unfolding files_below
files_below-none parities = refl

-- ---- the whole

whole_short : (bytes : List ℕ) (log : Option (List ℕ)) → length bytes ≤ 1048576
    → read_setup bytes log ≡ then_read (read_lines 1 no_lines (lines_of bytes)) (λ builder. at_line 0 (finish log builder))
whole_short bytes log short =
    let is : nat_lt 1048576 (length bytes) ≡ false = grind (arith, nat_tests) in
    rw is refl

pub whole-long : (bytes : List ℕ) (log : Option (List ℕ)) → 1048576 < length bytes → read_setup bytes log ≡ Err (record { line = 0; why = TooLong })
whole-long bytes log long =
    let is : nat_lt 1048576 (length bytes) ≡ true = grind (arith, nat_tests) in
    rw is refl

pub whole-done : (bytes : List ℕ) (log : Option (List ℕ)) (builder : BuilderValue) (setup : SetupValue) → length bytes ≤ 1048576 → read_lines 1 no_lines (lines_of bytes) ≡ Ok builder
    → finish log builder ≡ Ok setup → read_setup bytes log ≡ Ok setup
whole-done bytes log builder setup short lines end =
    whole_short bytes log short ∙ ap (λ r. then_read r (λ d. at_line 0 (finish log d))) lines ∙ ap (at_line 0) end

pub whole-line : (fault : ConfigFault) (bytes : List ℕ) (log : Option (List ℕ)) → length bytes ≤ 1048576 → IsRefusal fault (read_lines 1 no_lines (lines_of bytes))
    → IsRefusal fault (read_setup bytes log)
whole-line (BadLine line why) bytes log short refused = whole_short bytes log short ∙ ap (λ r. then_read r (λ d. at_line 0 (finish log d))) refused
whole-line ConfigMemory bytes log short refused = tt

pub whole-end : (fault : LineFault) (bytes : List ℕ) (log : Option (List ℕ)) (builder : BuilderValue) → length bytes ≤ 1048576 → read_lines 1 no_lines (lines_of bytes) ≡ Ok builder
    → Explains fault (finish log builder) → IsRefusal (fault_at 0 fault) (read_setup bytes log)
whole-end (Refused why) bytes log builder short lines explains =
    whole_short bytes log short ∙ ap (λ r. then_read r (λ d. at_line 0 (finish log d))) lines ∙ ap (at_line 0) explains
whole-end Memory bytes log builder short lines explains = tt

pub finish-done : (log : Option (List ℕ)) (builder : BuilderValue) → lacks_level builder.parities ≡ false → length builder.contents == 0 ≡ false → length builder.disks == 0 ≡ false
    → finish log builder ≡ Ok (setup_of log builder)
finish-done log builder levels contents disks = rw (levels, contents, disks) refl
