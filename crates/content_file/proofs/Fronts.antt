-- What holds of columns holds of columns that are cut short: fewer columns, fewer records in the last, fewer blocks in the last of those.
use Rattle.std.proofs.Common.{◌≡◌, ◌≢◌, ℕ, ◌+◌, ◌<◌, List, [], ◌∷◌, ◌++◌, length, get_or, refl, sym, ap, subst, ◌∙◌, append_assoc, arith, All}
use Rattle.std.specs.Prelude.{AllPairs}
use Rattle.std.specs.List.{flat_map}
use Rattle.std.proofs.lemmas.List.{append-nil, length-append, get_or_append_left, get_or-append-add, get_or_at, map-append}
use Rattle.std.proofs.lemmas.List.Elements.{All-push}
use Rattle.std.proofs.lemmas.List.Quantifiers.{all_pairs_push}
use Rattle.std.proofs.lemmas.List.Sums.{sum_by-append}
use Rattle.std.proofs.lemmas.Grind.{flat_map-append}
use Rattle.disk_model.specs.declared.meta.Meta.{Meta}
use Rattle.file_table.specs.declared.block.Block.{Block}
use Rattle.file_table.specs.Table.{Record, Column, records_of, column_blocks, positions_of, blocks_due, block_count}
use Rattle.file_table.specs.Valid.{AreColumns, IsColumn, IsRecord, ComesBefore, HasDigest}
use Rattle.content_file.proofs.Columns.{column_of, record_of}

pub All-left : {X : Type 0} (P : X → Type 0) (xs ys : List X) → All P (xs ++ ys) → All P xs
All-left P xs ys all k d lt =
    let within : k < length (xs ++ ys) = omega (arith, length-append xs ys) in
    subst P (get_or_append_left xs ys d k lt) (all k d within)

pub All-right : {X : Type 0} (P : X → Type 0) (xs ys : List X) → All P (xs ++ ys) → All P ys
All-right P xs ys all k d lt =
    let within : length xs + k < length (xs ++ ys) = omega (arith, length-append xs ys) in
    subst P (get_or-append-add xs ys k d) (all (length xs + k) d within)

pub AllPairs-left : {X : Type 0} (R : X → X → Type 0) (xs ys : List X) → AllPairs R (xs ++ ys) → AllPairs R xs
AllPairs-left R xs ys all i j d lt within =
    let inside : j < length (xs ++ ys) = omega (arith, length-append xs ys) in
    let before : i < length xs = omega arith in
    subst (R (get_or xs i d)) (get_or_append_left xs ys d j within) (subst (λ x. R x (get_or (xs ++ ys) j d)) (get_or_append_left xs ys d i before) (all i j d lt inside))

-- each of a list stands in this relation to the element behind it
pub AllPairs-last : {X : Type 0} (R : X → X → Type 0) (xs : List X) (y : X) → AllPairs R (xs ++ y ∷ []) → (k : ℕ) (d : X) → k < length xs → R (get_or xs k d) y
AllPairs-last R xs y all k d lt =
    let inside : length xs < length (xs ++ y ∷ []) = omega (arith, length-append xs (y ∷ [])) in
    subst (R (get_or xs k d)) (get_or_at xs y [] d (length xs) refl) (subst (λ x. R x (get_or (xs ++ y ∷ []) (length xs) d)) (get_or_append_left xs (y ∷ []) d k lt) (all k (length xs) d lt inside))

-- ---- the positions of a column

abbrev pub positions_in : List Record → List ℕ
positions_in records = positions_of (column_blocks (column_of [] records))

pub positions_in-append : (records more : List Record) → positions_in (records ++ more) ≡ positions_in records ++ positions_in more
positions_in-append records more =
    ap positions_of (flat_map-append (λ (r : Record). r.blocks) records more)
    ∙ map-append (λ (b : Block). b.position) (flat_map (λ (r : Record). r.blocks) records) (flat_map (λ (r : Record). r.blocks) more)

positions_in-one : (r : Record) → positions_in (r ∷ []) ≡ positions_of r.blocks
positions_in-one r = ap positions_of (append-nil r.blocks)

pub positions_in-push : (records : List Record) (r : Record) → positions_in (records ++ r ∷ []) ≡ positions_in records ++ positions_of r.blocks
positions_in-push records r = positions_in-append records (r ∷ []) ∙ ap (λ (ps : List ℕ). positions_in records ++ ps) (positions_in-one r)

pub positions_in-more : (records : List Record) (path : List ℕ) (meta : Meta) (blocks more : List Block)
    → positions_in (records ++ record_of path meta (blocks ++ more) ∷ []) ≡ positions_in (records ++ record_of path meta blocks ∷ []) ++ positions_of more
positions_in-more records path meta blocks more =
    positions_in-push records (record_of path meta (blocks ++ more))
    ∙ ap (λ (ps : List ℕ). positions_in records ++ ps) (map-append (λ (b : Block). b.position) blocks more)
    ∙ sym (append_assoc (positions_in records) (positions_of blocks) (positions_of more))
    ∙ ap (λ (ps : List ℕ). ps ++ positions_of more) (sym (positions_in-push records (record_of path meta blocks)))

-- ---- one column, cut short

pub records_cut : (the_length : ℕ) (name : List ℕ) (records more : List Record) → IsColumn the_length (column_of name (records ++ more)) → IsColumn the_length (column_of name records)
records_cut the_length name records more is = record {
  name = is.name;
  records = All-left IsRecord records more is.records;
  order = AllPairs-left ComesBefore records more is.order;
  below = All-left (λ p. p < the_length) _ _ (subst (All (λ p. p < the_length)) (positions_in-append records more) is.below);
  once = AllPairs-left (λ a b. a ≢ b) _ _ (subst (AllPairs (λ a b. a ≢ b)) (positions_in-append records more) is.once);
}

pub last_is : {X : Type 0} (P : X → Type 0) (xs : List X) (y : X) → All P (xs ++ y ∷ []) → P y
last_is P xs y all = All-right P xs (y ∷ []) all 0 y (omega arith)

pub blocks_cut : (the_length : ℕ) (name : List ℕ) (records : List Record) (path : List ℕ) (meta : Meta) (blocks more : List Block)
    → IsColumn the_length (column_of name (records ++ record_of path meta (blocks ++ more) ∷ [])) → IsColumn the_length (column_of name (records ++ record_of path meta blocks ∷ []))
blocks_cut the_length name records path meta blocks more is =
    let long = record_of path meta (blocks ++ more) in
    let short = record_of path meta blocks in
    let last : IsRecord long = last_is IsRecord records long is.records in
    record {
      name = is.name;
      records = All-push IsRecord records short (All-left IsRecord records (long ∷ []) is.records) (record { path = last.path; meta = last.meta; digests = All-left HasDigest blocks more last.digests });
      order = all_pairs_push ComesBefore records short (AllPairs-left ComesBefore records (long ∷ []) is.order)
          (λ k d lt. let before = AllPairs-last ComesBefore records long is.order k d lt in record { less = before.less; not_nested = before.not_nested });
      below = All-left (λ p. p < the_length) _ _ (subst (All (λ p. p < the_length)) (positions_in-more records path meta blocks more) is.below);
      once = AllPairs-left (λ a b. a ≢ b) _ _ (subst (AllPairs (λ a b. a ≢ b)) (positions_in-more records path meta blocks more) is.once);
    }

-- ---- columns, of which the last is cut short

pub due-append : (size : ℕ) (records more : List Record) → blocks_due size (records ++ more) ≡ blocks_due size records + blocks_due size more
due-append size records more = sum_by-append (λ (r : Record). block_count size r.meta.size) records more

pub columns_front : (the_length size : ℕ) (columns more : List Column) → AreColumns the_length size (columns ++ more) → AreColumns the_length size columns
columns_front the_length size columns more are =
    let all = flat_map-append (λ (c : Column). c.records) columns more in
    record {
      few = omega (arith, are.few, length-append columns more);
      each = All-left (IsColumn the_length) columns more are.each;
      names = AllPairs-left (λ (a b : Column). a.name ≢ b.name) columns more are.names;
      few_records = omega (arith, are.few_records, ap length all, length-append (records_of columns) (records_of more));
      few_blocks = omega (arith, are.few_blocks, ap (blocks_due size) all, due-append size (records_of columns) (records_of more));
    }
