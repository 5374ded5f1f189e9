-- Fields of a table's spelling, and how much is left of it.
use Rattle.std.proofs.Common.{◌≡◌, ◌≢◌, ℕ, ◌+◌, ◌<◌, ◌≤◌, List, [], ◌∷◌, ◌++◌, length, get_or, take, drop, refl, sym, ap, ◌∙◌, append_assoc, take-append-drop, arith}
use Rattle.std.specs.List.{flat_map}
use Rattle.std.proofs.lemmas.List.{length-append, append-nil, drop-drop, take_more, get_or-drop}
use Rattle.std.proofs.lemmas.List.Concat.{flat_map-append}
use Rattle.file_table.specs.Table.{TableValue, column_at, record_at}
use Rattle.content_file.specs.Spelling.{body, record_bytes, block_bytes, column_bytes, info_bytes}
use Rattle.content_file.specs.Encoding.{from, stripes_from, columns_from, records_from}
use Rattle.content_file.specs.declared.place.Place.{Place}
use Rattle.content_file.specs.declared.place.Place.TheVariants as places

columns_left : (table : TableValue) (end : List ℕ) (d : ℕ) → length end ≤ length (columns_from table end d)
columns_left table end d =
    omega (arith, length-append (flat_map info_bytes (drop 0 table.infos)) end, length-append (flat_map column_bytes (drop d table.columns)) (stripes_from table end 0))

-- what stands at a place, but for the end, has all bytes behind the body
pub some_left : (table : TableValue) (end : List ℕ) (place : Place) → place ≢ places.End → length end ≤ length (from table end place)
some_left table end places.Head other = omega (arith, length-append (body table) end)
some_left table end (places.Column d) other = columns_left table end d
some_left table end (places.Record d i) other =
    let more = columns_left table end (d + 1) in
    omega (arith, more, length-append (flat_map record_bytes (drop i (column_at table.columns d).records)) (columns_from table end (d + 1)))
some_left table end (places.Blocks d i k) other =
    let more = columns_left table end (d + 1) in
    let records = length-append (flat_map record_bytes (drop (i + 1) (column_at table.columns d).records)) (columns_from table end (d + 1)) in
    omega (arith, more, records, length-append (flat_map block_bytes (drop k (record_at table.columns d i).blocks)) (records_from table end d (i + 1)))
some_left table end (places.Stripes s) other = omega (arith, length-append (flat_map info_bytes (drop s table.infos)) end)
some_left table end places.Digest other = omega arith
some_left table end places.End other = absurd (other refl)

-- what is spelled from a number on is what one field has of it, and what is spelled behind that
pub spelled_on : {X : Type 0} (f : X → List ℕ) (xs : List X) (k n : ℕ) (end : List ℕ)
    → flat_map f (drop k xs) ++ end ≡ flat_map f (take n (drop k xs)) ++ (flat_map f (drop (k + n) xs) ++ end)
spelled_on f xs k n end =
    ap (λ ys. flat_map f ys ++ end) (sym (take-append-drop n (drop k xs)))
    ∙ ap (λ ys. ys ++ end) (flat_map-append f (take n (drop k xs)) (drop n (drop k xs)))
    ∙ append_assoc (flat_map f (take n (drop k xs))) (flat_map f (drop n (drop k xs))) end
    ∙ ap (λ ys. flat_map f (take n (drop k xs)) ++ (flat_map f ys ++ end)) (drop-drop n k xs)

-- one more of a list's elements is spelled
pub one_more : {X : Type 0} (f : X → List ℕ) (xs : List X) (first k : ℕ) (d x : X) → k < length (drop first xs) → get_or xs (first + k) d ≡ x
    → flat_map f (take (k + 1) (drop first xs)) ≡ flat_map f (take k (drop first xs)) ++ f x
one_more f xs first k d x inside is =
    let ys = drop first xs in
    ap (flat_map f) (take_more ys k d inside) ∙ flat_map-append f (take k ys) (get_or ys k d ∷ [])
    ∙ ap (λ zs. flat_map f (take k ys) ++ zs) (append-nil (f (get_or ys k d)) ∙ ap f (get_or-drop first xs k d ∙ is))
