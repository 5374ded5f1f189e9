-- A vault whose levels have several parts is well formed where its base is.
use Rattle.std.proofs.Common.{◌≡◌, ⊎_elim, ℕ, zero, suc, ◌+◌, ◌-◌, ◌^◌, ◌<◌, List, [], ◌∷◌, ◌++◌, length, take, drop, map, get_or}
use Rattle.std.proofs.Common.{Bool, true, false, nat_lt, if◌then◌else◌, refl, sym, ◌∙◌, ap, subst, arith}
use Rattle.std.proofs.lemmas.List.{length-map, length-take, get_or-map, get_or-take, get_or-drop, get_or_past}
use Rattle.std.proofs.lemmas.List.Elements.{All-take}
use Rattle.std.proofs.lemmas.Bool.{cases_lt}
use Rattle.disk_model.specs.Bytes.{AreBytes}
use Rattle.disk_model.specs.Files.{Files, parity_of}
use Rattle.disk_model.specs.Vault.{VaultView, HasFiles, IsWellFormed}
use Rattle.disk_model.proofs.BytesLemmas.{no_bytes, bytes-append}
use Rattle.parity_split.specs.Joined.{joined, level_bytes, grouped, seen}
use Rattle.parity_split.specs.Split.{split_view}

pub length-grouped : (counts : List ℕ) (files : List (List ℕ)) → length (grouped counts files) ≡ length counts
length-grouped [] files = refl
length-grouped (count ∷ counts) files = ap suc (length-grouped counts (drop count files))

-- each list holds bytes
abbrev AllBytes : List (List ℕ) → Type 0
AllBytes files = (i : ℕ) → AreBytes (get_or files i [])

bytes_take : (n : ℕ) (files : List (List ℕ)) → AllBytes files → AllBytes (take n files)
bytes_take n files are i = ⊎_elim
    (λ low. subst AreBytes (sym (get_or-take n files i [] low)) (are i))
    (λ past. subst AreBytes (sym (get_or_past (take n files) i [] (let a = length-take n files in omega arith))) no_bytes)
    (cases_lt i n)

bytes_drop : (n : ℕ) (files : List (List ℕ)) → AllBytes files → AllBytes (drop n files)
bytes_drop n files are i = subst AreBytes (sym (get_or-drop n files i [])) (are (n + i))

bytes_grouped : (counts : List ℕ) (files : List (List ℕ)) → AllBytes files → (level : ℕ) → AllBytes (get_or (grouped counts files) level [])
bytes_grouped [] files are level i =
    subst (λ x. AreBytes (get_or x i [])) (sym (get_or_past (grouped [] files) level [] (omega arith)))
    (subst AreBytes (sym (get_or_past [] i [] (omega arith))) no_bytes)
bytes_grouped (count ∷ counts) files are zero i = bytes_take count files are i
bytes_grouped (count ∷ counts) files are (suc level) i = bytes_grouped counts (drop count files) (bytes_drop count files are) level i

bytes_of_either : (b : Bool) (x y : List ℕ) → AreBytes x → AreBytes y → AreBytes (if b then x else y)
bytes_of_either true x y one two = one
bytes_of_either false x y one two = two

bytes_joined : (K : ℕ) (parts : List (List ℕ)) → AllBytes parts → AreBytes (joined K parts)
bytes_joined K [] are = no_bytes
bytes_joined K (part ∷ []) are = are 0
bytes_joined K (part ∷ next ∷ rest) are = bytes_of_either (nat_lt (length part) K) part (take K part ++ joined K (next ∷ rest)) (are 0)
    (bytes-append (take K part) (joined K (next ∷ rest)) (All-take (λ byte. byte < 256) K part (are 0))
    (bytes_joined K (next ∷ rest) (λ i. are (suc i))))

bytes_seen : (counts : List ℕ) (K : ℕ) (files : Files) → ((level : ℕ) → AreBytes (parity_of files level)) → (level : ℕ)
    → AreBytes (parity_of (seen counts K files) level)
bytes_seen counts K files are level =
    let groups = grouped counts files.parities in
    let long = length-grouped counts files.parities in
    let parts = get_or groups level [] in
    ⊎_elim
    (λ low. subst AreBytes (sym (get_or-map (level_bytes K) groups level [] [] (omega arith)))
    (All-take (λ byte. byte < 256) (2 ^ 64 - 1) (joined K parts) (bytes_joined K parts (bytes_grouped counts files.parities are level))))
    (λ past. subst AreBytes
    (sym (get_or_past (map (level_bytes K) groups) level [] (let a = length-map groups (level_bytes K) in omega arith))) no_bytes)
    (cases_lt level (length counts))

files_seen : (counts : List ℕ) (K levels copies : ℕ) (files : Files) → HasFiles levels copies files
    → HasFiles (length counts) copies (seen counts K files)
files_seen counts K levels copies files has = record {
  parities = length-map (grouped counts files.parities) (level_bytes K) ∙ length-grouped counts files.parities;
  contents = has.contents;
  parity_bytes = bytes_seen counts K files has.parity_bytes;
  content_bytes = has.content_bytes;
}

pub split_well_formed : (counts : List ℕ) (K : ℕ) (v : VaultView) → IsWellFormed v → IsWellFormed (split_view counts K v)
split_well_formed counts K v formed = record {
  tells = formed.tells;
  shape = λ t.
      let s = formed.shape t in
      record {
        files = files_seen counts K v.levels (length v.drafts) v.files s.files;
        staged = s.staged;
        staged_bytes = s.staged_bytes;
      };
  leaves_shape = λ told t files left.
      subst (HasFiles (length counts) (length v.drafts)) (sym left.2)
      (files_seen counts K v.levels (length v.drafts) left.0 (formed.leaves_shape told t left.0 left.1));
  leaves_files = λ told. (v.files, formed.leaves_files told, refl);
  earlier = λ told t u files le left. (left.0, formed.earlier told t u left.0 le left.1, left.2);
}
