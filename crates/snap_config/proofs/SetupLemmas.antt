-- What holds of each setup that is read, line by line.
use Rattle.std.proofs.Common.{◌≡◌, ◌≢◌, ◌⊎◌, inl, inr, ℕ, zero, suc, ◌+◌, ◌*◌, ◌<◌, ◌≤◌, List, [], ◌∷◌, ◌++◌, length, length-append, get_or, map, filter_map, find, option_map, Bool, true, false, IfSome, IfOk, All, AllPairs, if◌then◌else◌, not, nat_le, nat_lt, ◌==◌, ◌&&◌, ◌||◌, Option, None, Some, is_some, unwrap_or, Result, Ok, Err, bytes_eq, codes, refl, sym, ap, ◌∙◌, subst, arith, Decides}
use Rattle.std.specs.List.{list_any}
use Rattle.std.specs.Str.{is_utf8}
use Rattle.std.proofs.lemmas.Bool.Decides.{nat_tests}
use Rattle.std.proofs.lemmas.List.{length-map}
use Rattle.std.proofs.lemmas.List.Elements.{All-push, All-nil, All-cons, All-map, All-weaker}
use Rattle.std.proofs.lemmas.List.Quantifiers.{all_pairs_push}
use Rattle.std.proofs.lemmas.Slice.Eq.{bytes_eq-Decides}
use Rattle.disk_model.specs.Name.{IsName}
use Rattle.array_setup.proofs.BoolLemmas.{first_false, rest_false}
use Rattle.snap_config.proofs.NamesLemmas.{name_Decides}
use Rattle.snap_config.proofs.PartsLemmas.{some_file, sum_lengths, some_capacity}
use Rattle.snap_config.specs.Builder.{BuilderValue, no_lines, has_level, has_disk, has_file, names_again, take_line, take_content, take_known, take_keyword, add_parity, add_content, add_disk, add_rule, set_nohidden, set_block_size, set_hash_size, set_autosave, set_split, pass_over}
use Rattle.snap_config.specs.Config.{Refusal, then_read, at_line, read_lines, lacks_level, has_gap, block_size_of, by_level, files_of, setup_of, finish, read_setup}
use Rattle.array_setup.specs.Glob.{is_empty}
use Rattle.snap_config.specs.Keyword.{keyword_of}
use Rattle.snap_config.specs.Line.{lines_of, content_of, is_skipped, first_word, after_word}
use Rattle.snap_config.specs.Names.{is_disk_name, file_name, folder_name}
use Rattle.snap_config.specs.Number.{number_of}
use Rattle.snap_config.specs.Parts.{MayBeParts, line_parts, line_files, capacity_of}
use Rattle.array_setup.specs.Pattern.{is_pattern}
use Rattle.array_setup.specs.Setup.{SetupValue, IsSize, IsSetup}
use Rattle.snap_config.specs.declared.builder.ParityLine.{ParityLine}
use Rattle.snap_config.specs.declared.keyword.Keyword.{Keyword}
use Rattle.snap_config.specs.declared.keyword.Keyword.TheVariants.{Parity, Content, Data, Include, Exclude, NoHidden, BlockSize, HashSize, AutoSave, SplitSize, Unused, ZParity}
use Rattle.array_setup.specs.declared.setup.Disk.{Disk}
use Rattle.array_setup.specs.declared.setup.Rule.{Rule}
use Rattle.snap_config.specs.declared.why.Why.{Why}
use Rattle.snap_config.specs.declared.why.Why.TheVariants.{Unknown, Unsupported, Value}

-- ---- what is accepted

-- what is accepted behind a test is accepted, and the test did not hold
otherwise : {A E : Type 0} (test : Bool) (e : E) (rest : Result A E) (x : A) → (if test then Err e else rest) ≡ Ok x → rest ≡ Ok x
otherwise true e rest x is = absurd (let clash : Err e ≡ Ok x = is in cc)
otherwise false e rest x is = is

not_so : {A E : Type 0} (test : Bool) (e : E) (rest : Result A E) (x : A) → (if test then Err e else rest) ≡ Ok x → test ≡ false
not_so true e rest x is = absurd (let clash : Err e ≡ Ok x = is in cc)
not_so false e rest x is = refl

either : {A E : Type 0} (test : Bool) (one rest : Result A E) (x : A) → (if test then one else rest) ≡ Ok x → (one ≡ Ok x) ⊎ (rest ≡ Ok x)
either true one rest x is = inl is
either false one rest x is = inr is

abbrev ok_of : {A : Type 0} (E : Type 0) → A → Result A E
ok_of E x = Ok x

accepted : {A E : Type 0} (x y : A) → ok_of E x ≡ Ok y → x ≡ y
accepted x y is = cc

-- what is accepted at a line is accepted
at_line_ok : {A : Type 0} (line : ℕ) (said : Result A Why) (x : A) → at_line line said ≡ Ok x → said ≡ Ok x
at_line_ok line (Ok y) x is = let same : y ≡ x = accepted y x is in ap Ok same
at_line_ok line (Err why) x is = absurd (let clash : Err (record { line = line; why = why }) ≡ Ok x = is in cc)

-- what follows was accepted, and so was what comes first
then_ok : {A B E : Type 0} (first : Result A E) (next : A → Result B E) (x : B) → then_read first next ≡ Ok x → (y : A) × (first ≡ Ok y) × (next y ≡ Ok x)
then_ok (Ok y) next x is = (y, refl, is)
then_ok (Err e) next x is = absurd (let clash : Err e ≡ Ok x = is in cc)

-- ---- the keywords of levels

abbrev IsLow : Option Keyword → Type 0
IsLow (Some (Parity level)) = level < 6
IsLow _ = Unit {0}

record Low (keyword : Option Keyword) : Type 0 where
  low : IsLow keyword

low_if : (test : Bool) (one rest : Option Keyword) → Low one → Low rest → Low (if test then one else rest)
low_if true one rest low others = low
low_if false one rest low others = others

low_keyword : (word : List ℕ) → Low (keyword_of word)
low_keyword word =
    low_if (bytes_eq word (codes "parity")) _ _ (record { low = omega arith }) (
    low_if (bytes_eq word (codes "2-parity")) _ _ (record { low = omega arith }) (
    low_if (bytes_eq word (codes "3-parity")) _ _ (record { low = omega arith }) (
    low_if (bytes_eq word (codes "4-parity")) _ _ (record { low = omega arith }) (
    low_if (bytes_eq word (codes "5-parity")) _ _ (record { low = omega arith }) (
    low_if (bytes_eq word (codes "6-parity")) _ _ (record { low = omega arith }) (
    low_if (bytes_eq word (codes "content")) _ _ (record { low = tt }) (
    low_if (bytes_eq word (codes "data")) _ _ (record { low = tt }) (
    low_if (bytes_eq word (codes "disk")) _ _ (record { low = tt }) (
    low_if (bytes_eq word (codes "include")) _ _ (record { low = tt }) (
    low_if (bytes_eq word (codes "exclude")) _ _ (record { low = tt }) (
    low_if (bytes_eq word (codes "nohidden")) _ _ (record { low = tt }) (
    low_if (bytes_eq word (codes "blocksize")) _ _ (record { low = tt }) (
    low_if (bytes_eq word (codes "hashsize")) _ _ (record { low = tt }) (
    low_if (bytes_eq word (codes "autosave")) _ _ (record { low = tt }) (
    low_if (bytes_eq word (codes "splitsize")) _ _ (record { low = tt }) (
    low_if (bytes_eq word (codes "pool")) _ _ (record { low = tt }) (
    low_if (bytes_eq word (codes "share")) _ _ (record { low = tt }) (
    low_if (bytes_eq word (codes "smartctl")) _ _ (record { low = tt }) (
    low_if (bytes_eq word (codes "z-parity")) _ _ (record { low = tt }) (record { low = tt }))))))))))))))))))))

-- ---- what each line keeps

record IsKept (b : BuilderValue) : Type 0 where
  size : IfSome b.block_size IsSize
  levels : All (λ (line : ParityLine). line.level < 6) b.parities
  parts : All (λ (line : ParityLine). MayBeParts line.files) b.parities
  room : IfSome b.split (λ room. 1000000000 ≤ room)
  few : length b.disks ≤ 251
  names : All (λ (disk : Disk). IsName disk.name) b.disks
  distinct : AllPairs (λ (earlier later : Disk). earlier.name ≢ later.name) b.disks

kept_none : IsKept no_lines
kept_none = record {
  size = tt;
  levels = All-nil (λ (line : ParityLine). line.level < 6);
  parts = All-nil (λ (line : ParityLine). MayBeParts line.files);
  room = tt;
  few = omega arith;
  names = All-nil (λ (disk : Disk). IsName disk.name);
  distinct = λ i j d before below. absurd (omega (arith, below));
}

-- a disk that is there has another name than one that is new
none_named : (name dir : List ℕ) (disks : List Disk) → has_disk name dir disks ≡ false → (k : ℕ) (d : Disk) → k < length disks → (get_or disks k d).name ≢ name
none_named name dir [] free k d below = absurd (omega (arith, below))
none_named name dir (disk ∷ disks) free zero d below = λ same.
    let other : bytes_eq disk.name name ≡ false = first_false _ _ (first_false _ _ free) in
    let is : bytes_eq disk.name name ≡ true = (bytes_eq-Decides disk.name name).1 same in
    let clash : false ≡ true = sym other ∙ is in cc
none_named name dir (disk ∷ disks) free (suc k) d below = none_named name dir disks (rest_false _ _ free) k d (omega (arith, below))

kept_parity : (level : ℕ) (argument : List ℕ) (b next : BuilderValue) → level < 6 → add_parity level argument b ≡ Ok next → IsKept b → IsKept next
kept_parity level argument b next low is kept =
    let first = otherwise (list_any is_empty (line_parts argument)) _ _ next is in
    let second = otherwise (has_level level b.parities || names_again (line_files argument) b) _ _ next first in
    let few = not_so (nat_lt 8 (length (line_files argument))) _ _ next second in
    let third = otherwise (nat_lt 8 (length (line_files argument))) _ _ next second in
    let line : ParityLine = record { level = level; files = line_files argument } in
    let made : BuilderValue = record b { parities = b.parities ++ line ∷ [] } in
    subst IsKept (accepted made next third) (record {
      size = kept.size;
      levels = All-push (λ (of : ParityLine). of.level < 6) b.parities line kept.levels low;
      parts = All-push (λ (of : ParityLine). MayBeParts of.files) b.parities line kept.parts (record { some = some_file argument; few = at_most (length (line_files argument)) few });
      room = kept.room;
      few = kept.few;
      names = kept.names;
      distinct = kept.distinct;
    })
  where
    at_most : (n : ℕ) → nat_lt 8 n ≡ false → n ≤ 8
    at_most n is' = grind (arith, nat_tests)

kept_disk : (name dir : List ℕ) (b next : BuilderValue) → add_disk name dir b ≡ Ok next → IsKept b → IsKept next
kept_disk name dir b next is kept =
    let wrong : Bool = not (is_disk_name name) || is_empty dir in
    let taken : Bool = has_disk name (folder_name dir) b.disks in
    let full : Bool = nat_le 251 (length b.disks) in
    let named = not_so wrong _ _ next is in
    let first = otherwise wrong _ _ next is in
    let free : taken ≡ false = not_so taken _ _ next first in
    let second = otherwise taken _ _ next first in
    let room : nat_le 251 (length b.disks) ≡ false = not_so full _ _ next second in
    let third = otherwise full _ _ next second in
    let is_name : is_disk_name name ≡ true = not_not (is_disk_name name) (first_false (not (is_disk_name name)) (is_empty dir) named) in
    let disk : Disk = record { name = name; dir = folder_name dir } in
    let made : BuilderValue = record b { disks = b.disks ++ disk ∷ [] } in
    let under : length b.disks < 251 = below_most (length b.disks) room in
    subst IsKept (accepted made next third) (record {
      size = kept.size;
      levels = kept.levels;
      parts = kept.parts;
      room = kept.room;
      few = omega (arith, under, length-append b.disks (disk ∷ []));
      names = All-push (λ (of : Disk). IsName of.name) b.disks disk kept.names ((name_Decides name).0 is_name);
      distinct = all_pairs_push (λ (earlier later : Disk). earlier.name ≢ later.name) b.disks disk kept.distinct (none_named name (folder_name dir) b.disks free);
    })
  where
    not_not : (t : Bool) → not t ≡ false → t ≡ true
    not_not true is' = refl
    not_not false is' = absurd (let clash : true ≡ false = is' in cc)

    below_most : (n : ℕ) → nat_le 251 n ≡ false → n < 251
    below_most n is' = grind (arith, nat_tests)

kept_block_size : (kib : Option ℕ) (b next : BuilderValue) → set_block_size kib b ≡ Ok next → IsKept b → IsKept next
kept_block_size None b next is kept = absurd (let clash : Err Value ≡ Ok next = is in cc)
kept_block_size (Some kib) b next is kept =
    let wrong : Bool = not (nat_le 1 kib && nat_le kib 4096) in
    let first = otherwise wrong _ _ next is in
    let second = otherwise (is_some b.block_size) _ _ next first in
    let within = both (nat_le 1 kib) (nat_le kib 4096) (not_so wrong _ _ next is) in
    let made : BuilderValue = record b { block_size = Some (1024 * kib) } in
    subst IsKept (accepted made next second) (record {
      size = record { kibibytes = kib; bytes_are = refl; least = is_least kib within.0; most = is_most kib within.1 };
      levels = kept.levels;
      parts = kept.parts;
      room = kept.room;
      few = kept.few;
      names = kept.names;
      distinct = kept.distinct;
    })
  where
    both : (one other : Bool) → not (one && other) ≡ false → (one ≡ true) × (other ≡ true)
    both true true is' = (refl, refl)
    both true false is' = absurd (let clash : true ≡ false = is' in cc)
    both false other is' = absurd (let clash : true ≡ false = is' in cc)

    is_least : (n : ℕ) → nat_le 1 n ≡ true → 1 ≤ n
    is_least n is' = grind (arith, nat_tests)

    is_most : (n : ℕ) → nat_le n 4096 ≡ true → n ≤ 4096
    is_most n is' = grind (arith, nat_tests)

-- the other lines leave what IsKept speaks of
kept_same : (b c : BuilderValue) → c.block_size ≡ b.block_size → c.parities ≡ b.parities → c.disks ≡ b.disks → c.split ≡ b.split → IsKept b → IsKept c
kept_same b c size parities disks split kept = record {
  size = subst (λ o. IfSome o IsSize) (sym size) kept.size;
  levels = subst (λ ps. All (λ (line : ParityLine). line.level < 6) ps) (sym parities) kept.levels;
  parts = subst (λ ps. All (λ (line : ParityLine). MayBeParts line.files) ps) (sym parities) kept.parts;
  room = subst (λ o. IfSome o (λ room. 1000000000 ≤ room)) (sym split) kept.room;
  few = subst (λ (ds : List Disk). length ds ≤ 251) (sym disks) kept.few;
  names = subst (λ ds. All (λ (disk : Disk). IsName disk.name) ds) (sym disks) kept.names;
  distinct = subst (λ ds. AllPairs (λ (earlier later : Disk). earlier.name ≢ later.name) ds) (sym disks) kept.distinct;
}

kept_by : (b c next : BuilderValue) → ok_of Why c ≡ Ok next → c.block_size ≡ b.block_size → c.parities ≡ b.parities → c.disks ≡ b.disks → c.split ≡ b.split → IsKept b → IsKept next
kept_by b c next is size parities disks split kept = subst IsKept (accepted c next is) (kept_same b c size parities disks split kept)

kept_hash_size : (size : Option ℕ) (b next : BuilderValue) → set_hash_size size b ≡ Ok next → IsKept b → IsKept next
kept_hash_size None b next is kept = absurd (let clash : Err Value ≡ Ok next = is in cc)
kept_hash_size (Some size) b next is kept =
    kept_by b (record b { hash_size = true }) next (otherwise b.hash_size _ _ next (otherwise (not (size == 16)) _ _ next is)) refl refl refl refl kept

kept_autosave : (gb : Option ℕ) (b next : BuilderValue) → set_autosave gb b ≡ Ok next → IsKept b → IsKept next
kept_autosave None b next is kept = absurd (let clash : Err Value ≡ Ok next = is in cc)
kept_autosave (Some gb) b next is kept =
    kept_by b (record b { autosave = Some (1000000000 * gb) }) next (otherwise (is_some b.autosave) _ _ next (otherwise (not (nat_le gb 1000000)) _ _ next is)) refl refl refl refl kept

kept_split : (gb : Option ℕ) (b next : BuilderValue) → set_split gb b ≡ Ok next → IsKept b → IsKept next
kept_split None b next is kept = absurd (let clash : Err Value ≡ Ok next = is in cc)
kept_split (Some gb) b next is kept =
    let wrong : Bool = not (nat_le 1 gb && nat_le gb 1000000) in
    let first = otherwise wrong _ _ next is in
    let second = otherwise (is_some b.split) _ _ next first in
    let least = one (nat_le 1 gb) (nat_le gb 1000000) (not_so wrong _ _ next is) in
    let made : BuilderValue = record b { split = Some (1000000000 * gb) } in
    subst IsKept (accepted made next second) (record {
      size = kept.size;
      levels = kept.levels;
      parts = kept.parts;
      room = is_least gb least;
      few = kept.few;
      names = kept.names;
      distinct = kept.distinct;
    })
  where
    one : (one other : Bool) → not (one && other) ≡ false → one ≡ true
    one true other is' = refl
    one false other is' = absurd (let clash : true ≡ false = is' in cc)

    is_least : (n : ℕ) → nat_le 1 n ≡ true → 1000000000 ≤ 1000000000 * n
    is_least n is' = let some : 1 ≤ n = grind (arith, nat_tests) in omega (arith, some)

kept_nohidden : (test : Bool) (b next : BuilderValue) → (if test then Ok (record b { nohidden = true }) else Err Value) ≡ Ok next → IsKept b → IsKept next
kept_nohidden true b next is kept = kept_by b (record b { nohidden = true }) next is refl refl refl refl kept
kept_nohidden false b next is kept = absurd (let clash : Err Value ≡ Ok next = is in cc)

kept_content : (argument : List ℕ) (b next : BuilderValue) → add_content argument b ≡ Ok next → IsKept b → IsKept next
kept_content argument b next is kept =
    let first = otherwise (is_empty argument) _ _ next is in
    let second = otherwise (has_file (file_name argument) b) _ _ next first in
    kept_by b (record b { contents = b.contents ++ file_name argument ∷ [] }) next (otherwise (nat_le 64 (length b.contents)) _ _ next second) refl refl refl refl kept

kept_rule : (include : Bool) (argument : List ℕ) (b next : BuilderValue) → add_rule include argument b ≡ Ok next → IsKept b → IsKept next
kept_rule include argument b next is kept =
    let rule : Rule = record { include = include; pattern = argument } in
    kept_by b (record b { rules = b.rules ++ rule ∷ [] }) next (otherwise (not (is_pattern argument)) _ _ next (otherwise (is_empty argument) _ _ next is)) refl refl refl refl kept

kept_keyword : (keyword : Keyword) (argument : List ℕ) (b next : BuilderValue) → IsLow (Some keyword) → take_keyword keyword argument b ≡ Ok next → IsKept b → IsKept next
kept_keyword (Parity level) argument b next low is kept = kept_parity level argument b next low is kept
kept_keyword Content argument b next low is kept = kept_content argument b next is kept
kept_keyword Data argument b next low is kept = kept_disk (first_word argument) (after_word argument) b next is kept
kept_keyword Include argument b next low is kept = kept_rule true argument b next is kept
kept_keyword Exclude argument b next low is kept = kept_rule false argument b next is kept
kept_keyword NoHidden argument b next low is kept = kept_nohidden (is_empty argument) b next is kept
kept_keyword BlockSize argument b next low is kept = kept_block_size (number_of argument) b next is kept
kept_keyword HashSize argument b next low is kept = kept_hash_size (number_of argument) b next is kept
kept_keyword AutoSave argument b next low is kept = kept_autosave (number_of argument) b next is kept
kept_keyword SplitSize argument b next low is kept = kept_split (number_of argument) b next is kept
kept_keyword Unused argument b next low is kept = kept_by b b next (otherwise (is_empty argument) _ _ next is) refl refl refl refl kept
kept_keyword ZParity argument b next low is kept = absurd (let clash : Err Unsupported ≡ Ok next = is in cc)

kept_known : (keyword : Option Keyword) (argument : List ℕ) (b next : BuilderValue) → IsLow keyword → take_known keyword argument b ≡ Ok next → IsKept b → IsKept next
kept_known None argument b next low is kept = absurd (let clash : Err Unknown ≡ Ok next = is in cc)
kept_known (Some keyword) argument b next low is kept = kept_keyword keyword argument b next low is kept

kept_line : (line : List ℕ) (b next : BuilderValue) → take_line line b ≡ Ok next → IsKept b → IsKept next
kept_line line b next is kept = elim (either (is_skipped (content_of line)) (Ok b) _ next (otherwise (not (is_utf8 line)) _ _ next is)) [
  | inl skipped ↦ subst IsKept (accepted b next skipped) kept
  | inr taken ↦ kept_known (keyword_of (first_word (content_of line))) (after_word (content_of line)) b next ((low_keyword (first_word (content_of line))).low) taken kept
]

kept_lines : (lines : List (List ℕ)) (number : ℕ) (b last : BuilderValue) → read_lines number b lines ≡ Ok last → IsKept b → IsKept last
kept_lines [] number b last is kept = subst IsKept (accepted b last is) kept
kept_lines (line ∷ lines) number b last is kept =
    let first = then_ok (at_line number (take_line line b)) (λ next. read_lines (number + 1) next lines) last is in
    kept_lines lines (number + 1) first.0 last first.2 (kept_line line b first.0 (at_line_ok number (take_line line b) first.0 first.1) kept)

-- ---- the files of the levels

-- what is found is there
or_later : (a b : Bool) → a ≡ false → (a || b) ≡ true → b ≡ true
or_later true b fails is = absurd (let clash : true ≡ false = fails in cc)
or_later false b fails is = is

found_there : (parities : List ParityLine) (level : ℕ) → has_level level parities ≡ true → (file : List (List ℕ)) × (files_of parities level ≡ Some file)
found_there [] level is = absurd (let clash : false ≡ true = is in cc)
found_there (line ∷ parities) level is = cases (line.level == level) refl (λ later. found_there parities level later)
  where
    cases : (b : Bool) → (line.level == level) ≡ b → (has_level level parities ≡ true → (file : List (List ℕ)) × (files_of parities level ≡ Some file))
        → (file : List (List ℕ)) × (files_of (line ∷ parities) level ≡ Some file)
    cases true here more = (line.files, rw here refl)
    cases false other more =
        let found = more (or_later (line.level == level) (has_level level parities) other is) in
        let later : files_of (line ∷ parities) level ≡ files_of parities level = rw other refl in
        (found.0, later ∙ found.1)

-- of as many numbers at most
few_kept : {X Y : Type 0} (f : X → Option Y) (xs : List X) → length (filter_map f xs) ≤ length xs
few_kept f [] = omega arith
few_kept f (x ∷ xs) = cases (f x) refl (few_kept f xs)
  where
    cases : (o : Option _) → f x ≡ o → length (filter_map f xs) ≤ length xs → length (filter_map f (x ∷ xs)) ≤ length (x ∷ xs)
    cases None is fewer = rw is (omega (arith, fewer))
    cases (Some y) is fewer = rw is (omega (arith, fewer))

-- what is there is kept
some_kept : {X Y : Type 0} (f : X → Option Y) (xs : List X) (k : ℕ) (d : X) (y : Y) → k < length xs → f (get_or xs k d) ≡ Some y → 1 ≤ length (filter_map f xs)
some_kept f [] k d y below is = absurd (omega (arith, below))
some_kept f (x ∷ xs) zero d y below is = rw is (omega arith)
some_kept f (x ∷ xs) (suc k) d y below is = cases (f x) refl (some_kept f xs k d y (omega (arith, below)) is)
  where
    cases : (o : Option _) → f x ≡ o → 1 ≤ length (filter_map f xs) → 1 ≤ length (filter_map f (x ∷ xs))
    cases None here more = rw here more
    cases (Some z) here more = rw here (omega arith)

nth_level : (level : ℕ) → level < 6 → get_or (0 ∷ 1 ∷ 2 ∷ 3 ∷ 4 ∷ 5 ∷ []) level 0 ≡ level
nth_level zero below = refl
nth_level (suc zero) below = refl
nth_level (suc (suc zero)) below = refl
nth_level (suc (suc (suc zero))) below = refl
nth_level (suc (suc (suc (suc zero)))) below = refl
nth_level (suc (suc (suc (suc (suc zero))))) below = refl
nth_level (suc (suc (suc (suc (suc (suc level)))))) below = absurd (omega (arith, below))

-- the level of the first line has a file
some_level : (parities : List ParityLine) → All (λ (line : ParityLine). line.level < 6) parities → (length parities == 0) ≡ false → 1 ≤ length (by_level parities)
some_level [] low some = absurd (let clash : true ≡ false = some in cc)
some_level (line ∷ parities) low some =
    let below : line.level < 6 = low 0 line (omega arith) in
    let found = found_there (line ∷ parities) line.level (rw (same_number line.level) refl) in
    some_kept (files_of (line ∷ parities)) (0 ∷ 1 ∷ 2 ∷ 3 ∷ 4 ∷ 5 ∷ []) line.level 0 found.0 below (ap (files_of (line ∷ parities)) (nth_level line.level below) ∙ found.1)
  where
    same_number : (n : ℕ) → (n == n) ≡ true
    same_number n = grind (arith, nat_tests)

-- each level has as many files as a line may have
found_parts : (parities : List ParityLine) (level : ℕ) (files : List (List ℕ)) → All (λ (line : ParityLine). MayBeParts line.files) parities
    → files_of parities level ≡ Some files → MayBeParts files
found_parts [] level files all is = absurd (let clash : None ≡ Some files = is in cc)
found_parts (line ∷ parities) level files all is =
    cases (line.level == level) refl (λ later. found_parts parities level files (λ i d below. all (suc i) d (omega (arith, below))) later)
  where
    cases : (b : Bool) → (line.level == level) ≡ b → (files_of parities level ≡ Some files → MayBeParts files) → MayBeParts files
    cases true here there =
        let same : Some line.files ≡ Some files = sym (let found : files_of (line ∷ parities) level ≡ Some line.files = rw here refl in found) ∙ is in
        let e : line.files ≡ files = cc in
        subst MayBeParts e (all 0 line (omega arith))
    cases false other there = there (sym (let later : files_of (line ∷ parities) level ≡ files_of parities level = rw other refl in later) ∙ is)

kept_parts : (parities : List ParityLine) (levels : List ℕ) → All (λ (line : ParityLine). MayBeParts line.files) parities → All MayBeParts (filter_map (files_of parities) levels)
kept_parts parities [] all = All-nil MayBeParts
kept_parts parities (level ∷ levels) all = cases (files_of parities level) refl (kept_parts parities levels all)
  where
    cases : (o : Option (List (List ℕ))) → files_of parities level ≡ o → All MayBeParts (filter_map (files_of parities) levels) → All MayBeParts (filter_map (files_of parities) (level ∷ levels))
    cases None is more = rw is more
    cases (Some files) is more = rw is (All-cons MayBeParts files (filter_map (files_of parities) levels) (found_parts parities level files all is) more)

-- ---- the whole

setup_kept : (log : Option (List ℕ)) (b : BuilderValue) (setup : SetupValue) → IsKept b → finish log b ≡ Ok setup → IsSetup setup
setup_kept log b setup kept is =
    let level = not_so (lacks_level b.parities) _ _ setup is in
    let rest = otherwise (lacks_level b.parities) _ _ setup is in
    let more = otherwise (length b.contents == 0) _ _ setup rest in
    let disk : (length b.disks == 0) ≡ false = not_so (length b.disks == 0) _ _ setup more in
    let last = otherwise (length b.disks == 0) _ _ setup more in
    let parts : All MayBeParts (by_level b.parities) = kept_parts b.parities (0 ∷ 1 ∷ 2 ∷ 3 ∷ 4 ∷ 5 ∷ []) kept.parts in
    subst IsSetup (accepted (setup_of log b) setup last) (record {
      block_size = size_of b.block_size kept.size;
      some_level = subst (λ n. 1 ≤ n) (sym (length-map (by_level b.parities) length)) (some_level b.parities kept.levels (first_false (length b.parities == 0) (has_gap b.parities) level));
      few_levels = subst (λ n. n ≤ 6) (sym (length-map (by_level b.parities) length)) (few_kept (files_of b.parities) (0 ∷ 1 ∷ 2 ∷ 3 ∷ 4 ∷ 5 ∷ []));
      some_part = All-map (λ count. 1 ≤ count) length (by_level b.parities) (All-weaker MayBeParts (λ files. 1 ≤ length files) (λ files may. may.some) (by_level b.parities) parts);
      few_parts = All-map (λ count. count ≤ 8) length (by_level b.parities) (All-weaker MayBeParts (λ files. length files ≤ 8) (λ files may. may.few) (by_level b.parities) parts);
      all_parts = sum_lengths (by_level b.parities);
      split = split_of b kept.size kept.room;
      some_disk = not_none (length b.disks) disk;
      few_disks = kept.few;
      names = kept.names;
      distinct = kept.distinct;
      dirs = refl;
    })
  where
    size_of : (o : Option ℕ) → IfSome o IsSize → IsSize (unwrap_or o 262144)
    size_of None kept_size = record { kibibytes = 256; bytes_are = refl; least = omega arith; most = omega arith }
    size_of (Some bytes) kept_size = kept_size

    room_of : (o : Option ℕ) → IfSome o (λ room. 1000000000 ≤ room) → 1000000000 ≤ unwrap_or o 16000000000000
    room_of None kept_room = omega arith
    room_of (Some room) kept_room = kept_room

    split_of : (b' : BuilderValue) → IfSome b'.block_size IsSize → IfSome b'.split (λ room. 1000000000 ≤ room)
        → 1 ≤ capacity_of (block_size_of b') (unwrap_or b'.split 16000000000000)
    split_of b' kept_size kept_room =
        let size = size_of b'.block_size kept_size in
        let room = room_of b'.split kept_room in
        some_capacity (block_size_of b') (unwrap_or b'.split 16000000000000) (omega (arith, size.bytes_are, size.least)) (omega (arith, size.bytes_are, size.most, room))

    not_none : (n : ℕ) → (n == 0) ≡ false → 1 ≤ n
    not_none n is' = grind (arith, nat_tests)

-- the block size that lines say
pub size_read : (lines : List (List ℕ)) (b : BuilderValue) → read_lines 1 no_lines lines ≡ Ok b → IfSome b.block_size IsSize
size_read lines b is = (kept_lines lines 1 no_lines b is kept_none).size

pub some_size : (o : Option ℕ) → IfSome o IsSize → 0 < unwrap_or o 262144
some_size None kept_size = omega arith
some_size (Some bytes) kept_size = omega (arith, kept_size.bytes_are, kept_size.least)

pub setup_read : (bytes : List ℕ) (log : Option (List ℕ)) (setup : SetupValue) → read_setup bytes log ≡ Ok setup → IsSetup setup
setup_read bytes log setup is =
    let first = then_ok (read_lines 1 no_lines (lines_of bytes)) (λ builder. at_line 0 (finish log builder)) setup (otherwise (nat_lt 1048576 (length bytes)) _ _ setup is) in
    setup_kept log first.0 setup (kept_lines (lines_of bytes) 1 no_lines first.0 first.1 kept_none) (at_line_ok 0 (finish log first.0) setup first.2)

pub setup_ok : {S E : Type 0} (value : S → SetupValue) (bytes : List ℕ) (log : Option (List ℕ)) (result : Result S E)
    → IfOk result (λ setup. read_setup bytes log ≡ Ok (value setup)) → IfOk result (λ setup. IsSetup (value setup))
setup_ok value bytes log (Ok setup) is = setup_read bytes log (value setup) is
setup_ok value bytes log (Err e) is = tt
