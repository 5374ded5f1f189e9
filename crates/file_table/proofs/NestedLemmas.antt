-- When a record has a directory of a path for its path.
use Rattle.std.proofs.Common.{◌≡◌, ℕ, ◌+◌, ◌<◌, List, ◌∷◌, ◌++◌, length, get_or, take, drop, refl, sym, ap, ◌∙◌, arith, Option, Some, None, is_some, true, false, IfSome, length-append}
use Rattle.std.proofs.lemmas.List.{take-append-drop, drop_more, get_or_at, take_at, get_or_default}
use Rattle.file_table.specs.Table.{Record, Column, HasPath, record_in, no_record}
use Rattle.file_table.specs.Building.{IsNested}

-- the record whose path ends before a slash
nested_at : (column : Column) (path : List ℕ) (end i : ℕ) → end < length path → get_or path end 0 ≡ 47 → HasPath column i (take end path) → IsNested column path
nested_at column path end i within slash at =
    let kept : Record = record_in column i in
    let there : i < length column.records = at.within in
    let split : path ≡ take end path ++ get_or path end 0 ∷ drop (end + 1) path =
    sym (take-append-drop end path) ∙ ap (λ (rest : List ℕ). take end path ++ rest) (drop_more path end 0 within) in
    let joined : path ≡ kept.path ++ 47 ∷ drop (end + 1) path =
    split ∙ ap (λ (byte : ℕ). take end path ++ byte ∷ drop (end + 1) path) slash ∙ ap (λ (front : List ℕ). front ++ 47 ∷ drop (end + 1) path) (sym at.path_is) in
    (i, kept, there, get_or_default column.records i kept no_record there, (drop (end + 1) path, joined))

pub nested_found : (column : Column) (path : List ℕ) (end : ℕ) (found : Option ℕ) → end < length path → get_or path end 0 ≡ 47
    → IfSome found (λ i. HasPath column i (take end path)) → is_some found ≡ true → IsNested column path
nested_found column path end None within slash if_some some = absurd (cc)
nested_found column path end (Some i) within slash if_some some = nested_at column path end i within slash if_some

-- an answer is there or it is not
pub some_and_none : (found : Option ℕ) (i : ℕ) → found ≡ Some i → is_some found ≡ false → ⊥
some_and_none found i some none = cc

-- where no record's path ends before a slash, none is a directory
pub not_nested : (column : Column) (path : List ℕ) → ((k i : ℕ) → k < length path → get_or path k 0 ≡ 47 → ¬ (HasPath column i (take k path))) → ¬ (IsNested column path)
not_nested column path none nested =
    let (i, kept, within, is, directory) = nested in
    let (rest, joined) = directory in
    let end : ℕ = length kept.path in
    let long : length path ≡ length (kept.path ++ 47 ∷ rest) = ap length joined in
    let inside : end < length path = omega (arith, long, length-append kept.path (47 ∷ rest)) in
    let slash : get_or path end 0 ≡ 47 = ap (λ (bytes : List ℕ). get_or bytes end 0) joined ∙ get_or_at kept.path 47 rest 0 end refl in
    let front : take end path ≡ kept.path = ap (λ (bytes : List ℕ). take end bytes) joined ∙ take_at kept.path (47 ∷ rest) end refl in
    let read : record_in column i ≡ kept = get_or_default column.records i no_record kept within ∙ is in
    none end i inside slash (record { within = within; path_is = ap (λ (r : Record). r.path) read ∙ sym front })
