-- Kept files of a column beside its records.
use Rattle.std.proofs.Common.{◌≡◌, ℕ, ◌+◌, ◌<◌, List, [], ◌∷◌, ◌++◌, length, get_or, take, filter, cond, Bool, ap, sym, ◌∙◌, arith}
use Rattle.std.proofs.lemmas.List.{map-append, take_more}
use Rattle.std.proofs.lemmas.List.Elements.{filter-append}
use Rattle.disk_model.specs.Tree.{listed}
use Rattle.disk_model.specs.declared.meta.FileInfo.{FileInfo}
use Rattle.disk_model.specs.declared.meta.Meta.{Meta}
use Rattle.file_table.specs.Table.{Record, no_meta}
use Rattle.array_setup.specs.Keeps.{keeps}
use Rattle.array_setup.specs.Setup.{SetupValue}
use Rattle.folder_listing.specs.Kept.{ListedFile, is_kept, kept_files}
use Rattle.array_scan.specs.Fates.{record_of}
use Rattle.array_scan.specs.Own.{own_files}
use Rattle.array_scan.proofs.LawLemmas.{own_at, length-own}

-- one more file of a listing is kept, or it is not
pub kept_more : (setup : SetupValue) (d : ℕ) (files : List FileInfo) (k : ℕ) (file : FileInfo) (t : Bool) → k < length files → file ≡ get_or files k file → t ≡ keeps setup d file.path
    → kept_files setup d (listed (take (k + 1) files)) ≡ kept_files setup d (listed (take k files)) ++ cond t ((file.path, file.meta) ∷ []) []
kept_more setup d files k file t within is kept =
    ap (λ (fs : List FileInfo). kept_files setup d (listed fs)) (take_more files k file within ∙ ap (λ (f : FileInfo). take k files ++ f ∷ []) (sym is))
    ∙ ap (filter (is_kept setup d)) (map-append (λ (f : FileInfo). (f.path, f.meta)) (take k files) (file ∷ []))
    ∙ filter-append (is_kept setup d) (listed (take k files)) ((file.path, file.meta) ∷ [])
    ∙ ap (λ (b : Bool). kept_files setup d (listed (take k files)) ++ cond b ((file.path, file.meta) ∷ []) []) (sym kept)

-- one more record
pub own_more : (records : List Record) (rec : ℕ) (file : ListedFile) → rec < length records → (record_of records rec).path ≡ file.0 → (record_of records rec).meta ≡ file.1
    → take (rec + 1) (own_files records) ≡ take rec (own_files records) ++ file ∷ []
own_more records rec file within path meta =
    let at : get_or (own_files records) rec ([], no_meta) ≡ ((record_of records rec).path, (record_of records rec).meta) = own_at records rec within in
    take_more (own_files records) rec ([], no_meta) (omega (arith, within, length-own records))
    ∙ ap (λ (f : ListedFile). take rec (own_files records) ++ f ∷ []) (at ∙ ap (λ (p : List ℕ). (p, (record_of records rec).meta)) path ∙ ap (λ (m : Meta). (file.0, m)) meta)
