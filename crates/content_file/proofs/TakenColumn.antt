-- A column, and the information on stripes, as they are read without a flaw.
use Rattle.std.proofs.Common.{◌≡◌, ◌≢◌, inl, inr, ℕ, ◌+◌, ◌^◌, ◌<◌, ◌≤◌, Bool, true, false, not, ◌||◌, eqb, List, [], ◌∷◌, ◌++◌, length, get_or, Some, refl, sym, ap, subst, ◌∙◌, append-nil, arith, All}
use Rattle.std.specs.Prelude.{Any}
use Rattle.std.specs.List.{flat_map}
use Rattle.std.specs.Int.{w32, w64, to_le_bytes}
use Rattle.std.proofs.lemmas.Bool.{cases_lt}
use Rattle.std.proofs.lemmas.Bool.Decides.{Decides-and, Decides-not, Decides-eqb}
use Rattle.std.proofs.lemmas.List.{get_or_default, length_push, length-append, get_or_append_left, get_or_push}
use Rattle.std.proofs.lemmas.List.Elements.{All-push, All-nil, All-append}
use Rattle.std.proofs.lemmas.List.Quantifiers.{all_pairs_push}
use Rattle.file_table.specs.declared.info.Info.{Info}
use Rattle.file_table.specs.declared.info.Mark.{Mark}
use Rattle.file_table.specs.declared.info.Mark.TheVariants.{Pending, Synced}
use Rattle.file_table.specs.Table.{Record, Column, records_of, blocks_due, info_at, no_info}
use Rattle.file_table.specs.Valid.{AreColumns, IsColumn, IsWhole, AreInfos, IsInfo, IsHashedAt, most_columns, most_records, most_blocks}
use Rattle.disk_model.specs.Name.{IsName}
use Rattle.content_file.specs.declared.head.Head.{Head}
use Rattle.content_file.specs.Spelling.{short_text, record_bytes, column_bytes, info_bytes}
use Rattle.content_file.specs.Reading.{info_of}
use Rattle.content_file.specs.Tests.{is_pending, is_hashed}
use Rattle.content_file.specs.Flaw.{Good}
use Rattle.content_file.specs.FirstFlaw.{read_many, read_name, read_count, read_record, read_column, read_info}
use Rattle.content_file.proofs.Fields.{IsBytes, some_is, Takes, takes_then, wide32, wide64, number_takes, byte_takes, short_text_takes}
use Rattle.content_file.proofs.Heads.{info_is, chosen}
use Rattle.content_file.proofs.Columns.{column_of, records_of-push}
use Rattle.content_file.proofs.FlawLemmas.{good_is, good_then, found_is, passed_is}
use Rattle.content_file.proofs.TestsLemmas.{leb_Decides, is_name-Decides, is_named-Decides, is_hashed-Decides}
use Rattle.content_file.proofs.TakenMany.{ManyTaken, TakesNext, many_taken}
use Rattle.content_file.proofs.TakenRecord.{AreRecords, records_step}

-- ---- a column

record NameTaken (columns : List Column) (bytes name rest : List ℕ) : Type 0 where
  takes : Takes bytes (short_text name) rest
  allowed : IsName name
  new : ¬ (Any (λ (column : Column). column.name ≡ name) columns)

name_taken : (columns : List Column) (bytes name rest : List ℕ) → IsBytes bytes → read_name columns bytes ≡ Good (name, rest) → NameTaken columns bytes name rest
unfolding read_name
name_taken columns bytes name rest fits e =
    good_then _ _ _ e (λ text e0 r0.
    let p = passed_is _ _ _ _ _ r0 in
    let may = (Decides-and _ _ (is_name-Decides text.0) (Decides-not _ (is_named-Decides columns text.0))).0 p.0 in
    let here : NameTaken columns bytes text.0 text.1 = record { takes = (short_text_takes bytes text.0 text.1 fits (found_is _ _ _ _ e0)).0; allowed = may.0; new = may.1 } in
    subst (λ (x : List ℕ × List ℕ). NameTaken columns bytes x.0 x.1) p.1 here)

record CountTaken (columns : List Column) (bytes : List ℕ) (count : ℕ) (rest : List ℕ) : Type 0 where
  takes : Takes bytes (to_le_bytes w32 count) rest
  room : length (records_of columns) + count ≤ most_records

count_taken : (columns : List Column) (bytes : List ℕ) (count : ℕ) (rest : List ℕ) → IsBytes bytes → read_count columns bytes ≡ Good (count, rest) → CountTaken columns bytes count rest
unfolding read_count
count_taken columns bytes count rest fits e =
    good_then _ _ _ e (λ field e0 r0.
    let p = passed_is _ _ _ _ _ r0 in
    let here : CountTaken columns bytes field.0 field.1 = record {
      takes = (number_takes w32 (2 ^ 32) wide32 bytes field.0 field.1 fits (found_is _ _ _ _ e0)).0;
      room = (leb_Decides (length (records_of columns) + field.0) most_records).0 p.0;
    } in
    subst (λ (x : ℕ × List ℕ). CountTaken columns bytes x.0 x.1) p.1 here)

-- a column was read, after these
record ColumnTaken (head : Head) (columns : List Column) (bytes : List ℕ) (column : Column) (rest : List ℕ) : Type 0 where
  takes : Takes bytes (column_bytes column) rest
  new : ¬ (Any (λ (c : Column). c.name ≡ column.name) columns)
  few : length (records_of columns) + length column.records ≤ most_records
  are : AreRecords head columns column.name column.records

without_records : (the_length : ℕ) (name : List ℕ) → IsName name → IsColumn the_length (column_of name [])
without_records the_length name is = record {
  name = is;
  records = All-nil _;
  order = λ i j d less within. absurd (omega arith);
  below = All-nil (λ position. position < the_length);
  once = λ i j d less within. absurd (omega arith);
}

column_taken : (head : Head) (columns : List Column) (bytes : List ℕ) (column : Column) (rest : List ℕ) → blocks_due head.shape.block_size (records_of columns) ≤ most_blocks → IsBytes bytes
    → read_column head columns bytes ≡ Good (column, rest) → ColumnTaken head columns bytes column rest
unfolding read_column
column_taken head columns bytes column rest few fits e =
    good_then _ _ _ e (λ name e0 r0. good_then _ _ _ r0 (λ count e1 r1. good_then _ _ _ r1 (λ records e2 r2.
    let t0 = name_taken columns bytes name.0 name.1 fits e0 in
    let t1 = count_taken columns name.1 count.0 count.1 t0.takes.rest_fits e1 in
    let start : AreRecords head columns name.0 [] = record {
      column = without_records head.length name.0 t0.allowed;
      whole = All-nil _;
      room = subst (λ (rs : List Record). blocks_due head.shape.block_size rs ≤ most_blocks) (sym (append-nil (records_of columns))) few;
    } in
    let m = many_taken (read_record head columns) record_bytes (AreRecords head columns name.0) count.0 (records_step head columns name.0 count.0) count.0 [] count.1 records.0 records.1 (omega arith) start t1.takes.rest_fits e2 in
    let as_many : length records.0 ≡ count.0 = ap length m.all_is ∙ m.as_many in
    let rows : Takes count.1 (flat_map record_bytes records.0) records.1 = subst (λ (rs : List Record). Takes count.1 (flat_map record_bytes rs) records.1) (sym m.all_is) m.takes in
    let number : Takes name.1 (to_le_bytes w32 (length records.0)) count.1 = subst (λ (n : ℕ). Takes name.1 (to_le_bytes w32 n) count.1) (sym as_many) t1.takes in
    let all = takes_then bytes (short_text name.0 ++ to_le_bytes w32 (length records.0)) count.1 (flat_map record_bytes records.0) records.1
    (takes_then bytes (short_text name.0) name.1 (to_le_bytes w32 (length records.0)) count.1 t0.takes number) rows in
    let made : Column × List ℕ = (column_of name.0 records.0, records.1) in
    let here : ColumnTaken head columns bytes made.0 made.1 = record { takes = all; new = t0.new; few = omega (arith, t1.room, as_many); are = m.holds } in
    subst (λ (x : Column × List ℕ). ColumnTaken head columns bytes x.0 x.1) (good_is made (column, rest) r2) here)))

-- columns of a table of this head, each record with all its blocks
pub record AreColumnsOf (head : Head) (all : List Column) : Type 0 where
  pub columns : AreColumns head.length head.shape.block_size all
  pub whole : All (IsWhole head.shape.block_size) (records_of all)

no_columns : (head : Head) → AreColumnsOf head []
no_columns head = record {
  columns = record {
    few = omega arith;
    each = All-nil _;
    names = λ i j d less within. absurd (omega arith);
    few_records = omega arith;
    few_blocks = omega arith;
  };
  whole = All-nil _;
}

pub columns_step : (head : Head) (total : ℕ) → total ≤ most_columns → TakesNext (read_column head) column_bytes (AreColumnsOf head) total
columns_step head total most before bytes column rest lt are fits e =
    let size = head.shape.block_size in
    let t = column_taken head before bytes column rest are.columns.few_blocks fits e in
    let other : (k : ℕ) (d : Column) → k < length before → (get_or before k d).name ≢ column.name =
    λ k d within same. t.new (k, get_or before k d, within, get_or_default before k (get_or before k d) d within, same) in
    let all = records_of-push before column in (
      t.takes,
      record {
        columns = record {
          few = omega (arith, length_push before column);
          each = All-push (IsColumn head.length) before column are.columns.each t.are.column;
          names = all_pairs_push (λ (a b : Column). a.name ≢ b.name) before column are.columns.names other;
          few_records = omega (arith, t.few, ap length all, length-append (records_of before) column.records);
          few_blocks = subst (λ (rs : List Record). blocks_due size rs ≤ most_blocks) (sym all) t.are.room;
        };
        whole = subst (All (IsWhole size)) (sym all) (All-append (IsWhole size) (records_of before) column.records are.whole t.are.whole);
      },
    )

pub columns_taken : (head : Head) (bytes : List ℕ) (columns : List Column) (rest : List ℕ) → head.columns ≤ most_columns → IsBytes bytes → read_many (read_column head) head.columns [] bytes ≡ Good (columns, rest)
    → ManyTaken column_bytes (AreColumnsOf head) head.columns [] bytes columns rest
columns_taken head bytes columns rest most fits e =
    many_taken (read_column head) column_bytes (AreColumnsOf head) head.columns (columns_step head head.columns most) head.columns [] bytes columns rest (omega arith) (no_columns head) fits e

-- ---- the information on stripes

-- neither bad nor fresh, where it is pending
abbrev IsPlain : Info → Type 0
IsPlain info = info.mark ≡ Pending → (info.bad ≡ false) × (info.fresh ≡ false)

-- what flags say of a pending stripe
pending_plain : (code last : ℕ) (info : Info) → info_of code last ≡ Some info → IsPlain info
pending_plain code last info e =
    elim (chosen (eqb code 0) _ _ _ e) [
      | inl p ↦ subst IsPlain (some_is _ info p.1) (λ _. (refl, refl))
      | inr p ↦ elim (chosen (eqb code 1) _ _ _ p.1) [
        | inl q ↦ subst IsPlain (some_is _ info q.1) (λ other. not_synced other)
        | inr q ↦ elim (chosen (eqb code 3) _ _ _ q.1) [
          | inl r ↦ subst IsPlain (some_is _ info r.1) (λ other. not_synced other)
          | inr r ↦ elim (chosen (eqb code 5) _ _ _ r.1) [
            | inl s ↦ subst IsPlain (some_is _ info s.1) (λ other. not_synced other)
            | inr s ↦ elim (chosen (eqb code 7) _ _ _ s.1) [
              | inl t ↦ subst IsPlain (some_is _ info t.1) (λ other. not_synced other)
              | inr t ↦ absurd cc
            ]
          ]
        ]
      ]
    ]
  where
    not_synced : {P : Type 0} → ◌≡◌ {A = Mark} Synced Pending → P
    not_synced other = absurd cc

-- one of two tests passes, and the first does not
other_passes : (a b : Bool) → (a || b) ≡ true → a ≡ false → b ≡ true
other_passes true b e f = absurd cc
other_passes false b e f = e

pub record InfoTaken (columns : List Column) (infos : List Info) (bytes : List ℕ) (info : Info) (rest : List ℕ) : Type 0 where
  pub takes : Takes bytes (info_bytes info) rest
  pub is : IsInfo info
  pub hashed : info.mark ≡ Synced → IsHashedAt columns (length infos)

pub info_taken : (columns : List Column) (infos : List Info) (bytes : List ℕ) (info : Info) (rest : List ℕ) → IsBytes bytes → read_info columns infos bytes ≡ Good (info, rest) → InfoTaken columns infos bytes info rest
unfolding read_info
info_taken columns infos bytes info rest fits e =
    good_then _ _ _ e (λ code e0 r0. good_then _ _ _ r0 (λ unchecked e1 r1. good_then _ _ _ r1 (λ check e2 r2. good_then _ _ _ r2 (λ last e3 r3.
    let h = passed_is _ _ _ _ _ e2 in
    let p = passed_is _ _ _ _ _ r3 in
    let of_code = found_is _ _ _ _ e1 in
    let t0 = byte_takes bytes code.0 code.1 fits (found_is _ _ _ _ e0) in
    let here : IsBytes check = subst IsBytes h.1 t0.0.rest_fits in
    let t1 = number_takes w64 (2 ^ 64) wide64 check last.0 last.1 here (found_is _ _ _ _ e3) in
    let made : Info = record unchecked { last = last.0 } in
    let first : Takes bytes (code.0 ∷ []) check = subst (λ (r : List ℕ). Takes bytes (code.0 ∷ []) r) h.1 t0.0 in
    let all : Takes bytes (code.0 ∷ to_le_bytes w64 last.0) last.1 = takes_then bytes (code.0 ∷ []) check (to_le_bytes w64 last.0) last.1 first t1.0 in
    let zero_last : unchecked.mark ≡ Pending → last.0 ≡ 0 = λ pending.
    (Decides-eqb last.0 0).0 (other_passes (not (is_pending unchecked.mark)) (eqb last.0 0) p.0 (ap (λ (m : Mark). not (is_pending m)) pending)) in
    let plain = pending_plain code.0 0 unchecked of_code in
    let taken : InfoTaken columns infos bytes made last.1 = record {
      takes = subst (λ (n : ℕ). Takes bytes (n ∷ to_le_bytes w64 last.0) last.1) (sym (info_is code.0 0 unchecked of_code).0) all;
      is = record { state = λ pending. record { last = zero_last pending; bad = (plain pending).0; fresh = (plain pending).1 }; last = t1.1 };
      hashed = λ synced. (is_hashed-Decides columns (length infos)).0 (other_passes (is_pending unchecked.mark) (is_hashed columns (length infos)) h.0 (ap is_pending synced));
    } in
    subst (λ (x : Info × List ℕ). InfoTaken columns infos bytes x.0 x.1) p.1 taken))))

infos_step : (columns : List Column) (total : ℕ) → TakesNext (read_info columns) info_bytes (AreInfos columns) total
infos_step columns total before bytes info rest lt are fits e =
    let t = info_taken columns before bytes info rest fits e in
    let longer = length_push before info in
    let each : (stripe : ℕ) → stripe < length (before ++ info ∷ []) → (info_at (before ++ info ∷ []) stripe).mark ≡ Synced → IsHashedAt columns stripe =
    λ stripe below synced. elim (cases_lt stripe (length before)) [
      | inl earlier ↦ are.hashed stripe earlier (ap (λ (i : Info). i.mark) (sym (get_or_append_left before (info ∷ []) no_info stripe earlier)) ∙ synced)
      | inr last ↦
          let here : length before ≡ stripe = omega (arith, longer) in
          subst (IsHashedAt columns) here (t.hashed (ap (λ (i : Info). i.mark) (sym (get_or_push before info no_info stripe here)) ∙ synced))
    ] in
    (t.takes, record { each = All-push IsInfo before info are.each t.is; hashed = each })

pub infos_taken : (columns : List Column) (count : ℕ) (bytes : List ℕ) (infos : List Info) (rest : List ℕ) → IsBytes bytes → read_many (read_info columns) count [] bytes ≡ Good (infos, rest)
    → ManyTaken info_bytes (AreInfos columns) count [] bytes infos rest
infos_taken columns count bytes infos rest fits e =
    let start : AreInfos columns [] = record { each = All-nil IsInfo; hashed = λ stripe below is. absurd (omega arith) } in
    many_taken (read_info columns) info_bytes (AreInfos columns) count (infos_step columns count) count [] bytes infos rest (omega arith) start fits e
