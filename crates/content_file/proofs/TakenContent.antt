-- What is read without a flaw is a valid table, and the bytes are its spelling.
use Rattle.std.proofs.Common.{◌≡◌, ℕ, ◌-◌, List, [], ◌∷◌, ◌++◌, length, take, None, refl, sym, ap, subst, ◌∙◌, arith, All, inl, inr}
use Rattle.std.specs.Prelude.{◌<◌}
use Rattle.std.specs.List.{flat_map}
use Rattle.std.proofs.lemmas.Bool.Decides.{Decides-eqb}
use Rattle.std.proofs.lemmas.Bool.{cases_lt}
use Rattle.std.proofs.lemmas.List.{append-nil, get_or_past}
use Rattle.std.proofs.lemmas.Slice.Eq.{bytes_eq-Decides}
use Rattle.sha2.specs.Sha256.{sha256}
use Rattle.file_table.specs.Table.{Column, TableValue, blocks_of, positions_of, end_of}
use Rattle.file_table.specs.Valid.{AreColumns, IsValid}
use Rattle.content_file.specs.declared.head.Head.{Head}
use Rattle.content_file.specs.Head.{head_bytes}
use Rattle.content_file.specs.Spelling.{column_bytes, info_bytes, body, spelling, IsContent}
use Rattle.content_file.specs.Flaw.{Read, Good, Bad, damage_of}
use Rattle.content_file.specs.FirstFlaw.{read_end, read_content, first_flaw}
use Rattle.content_file.proofs.Fields.{IsBytes, piece_takes}
use Rattle.content_file.proofs.Whole.{head_takes, head_of_table, body-parts, whole_read}
use Rattle.content_file.proofs.FlawLemmas.{good_is, good_then, found_is, passed_is}
use Rattle.content_file.proofs.TakenHead.{head_found}
use Rattle.content_file.proofs.TakenColumn.{columns_taken, infos_taken}

-- the digest stands last, and is that of the bytes before it
end_taken : (whole last digest : List ℕ) → IsBytes last → read_end whole last ≡ Good digest → last ≡ sha256 (take (length whole - length last) whole)
unfolding read_end
end_taken whole last digest fits e =
    good_then _ _ _ e (λ text e0 r0. good_then _ _ _ r0 (λ rest e1 r1.
    let t = piece_takes 32 last text.0 text.1 fits (found_is _ _ _ _ e0) in
    let same = passed_is _ _ _ _ _ e1 in
    let none : rest ≡ [] = no_more rest ((Decides-eqb (length rest) 0).0 (passed_is _ _ _ _ _ r1).0) in
    let alone : last ≡ text.0 = t.0.parts ∙ ap (λ (r : List ℕ). text.0 ++ r) (same.1 ∙ none) ∙ append-nil text.0 in
    alone ∙ (bytes_eq-Decides text.0 (sha256 (take (length whole - length last) whole))).0 same.0))
  where
    no_more : (rest : List ℕ) → length rest ≡ 0 → rest ≡ []
    no_more [] e = refl
    no_more (x ∷ rest) e = absurd (omega (arith, e))

pub content_taken : (bytes : List ℕ) (table : TableValue) → IsBytes bytes → read_content bytes ≡ Good table → IsValid table × (bytes ≡ spelling table)
unfolding read_content
content_taken bytes table fits e =
    good_then _ _ _ e (λ head e0 r0. good_then _ _ _ r0 (λ columns e1 r1. good_then _ _ _ r1 (λ stripes e2 r2. good_then _ _ _ r2 (λ infos e3 r3. good_then _ _ _ r3 (λ digest e4 r4.
    let t0 = head_takes bytes head fits (head_found bytes head e0) in
    let is_head = t0.1 in
    let t1 = columns_taken head.0 head.1 columns.0 columns.1 is_head.few_columns t0.0.rest_fits e1 in
    let l = passed_is _ _ _ _ _ e2 in
    let stripes_fit : IsBytes stripes = subst IsBytes l.1 t1.takes.rest_fits in
    let t2 = infos_taken columns.0 head.0.length stripes infos.0 infos.1 stripes_fit e3 in
    let made : TableValue = record { shape = head.0.shape; columns = columns.0; infos = infos.0 } in
    let n_columns : length columns.0 ≡ head.0.columns = ap length t1.all_is ∙ t1.as_many in
    let n_infos : length infos.0 ≡ head.0.length = ap length t2.all_is ∙ t2.as_many in
    let head_is : head.0 ≡ head_of_table made = ap (λ (p : ℕ × ℕ). let h : Head = record { shape = head.0.shape; length = p.0; columns = p.1 } in h) (pair_is _ _ _ _ (sym n_infos) (sym n_columns)) in
    let second : head.1 ≡ flat_map column_bytes columns.0 ++ columns.1 = t1.takes.parts ∙ ap (λ (cs : List Column). flat_map column_bytes cs ++ columns.1) (sym t1.all_is) in
    let third : columns.1 ≡ flat_map info_bytes infos.0 ++ infos.1 = l.1 ∙ t2.takes.parts ∙ ap (λ is. flat_map info_bytes is ++ infos.1) (sym t2.all_is) in
    let parts : bytes ≡ head_bytes head.0 ++ (flat_map column_bytes columns.0 ++ (flat_map info_bytes infos.0 ++ infos.1)) =
    t0.0.parts ∙ ap (λ (r : List ℕ). head_bytes head.0 ++ r) (second ∙ ap (λ (r : List ℕ). flat_map column_bytes columns.0 ++ r) third) in
    let whole : bytes ≡ body made ++ infos.1 =
    parts ∙ ap (λ (h : Head). head_bytes h ++ (flat_map column_bytes columns.0 ++ (flat_map info_bytes infos.0 ++ infos.1))) head_is ∙ sym (body-parts made infos.1) in
    let last = end_taken bytes infos.1 digest t2.takes.rest_fits e4 in
    let valid : IsValid made = record {
      shape = is_head.shape;
      some_column = omega (arith, is_head.some_column, n_columns);
      columns = subst (λ (n : ℕ). AreColumns n head.0.shape.block_size columns.0) (sym n_infos) t1.holds.columns;
      whole = t1.holds.whole;
      short = omega (arith, is_head.short, n_infos);
      length_is = n_infos ∙ (Decides-eqb head.0.length (end_of (positions_of (blocks_of columns.0)))).0 l.0;
      infos = t2.holds;
    } in
    subst (λ (t : TableValue). IsValid t × (bytes ≡ spelling t)) (good_is made table r4) (valid, whole_read bytes infos.1 made whole last))))))
  where
    pair_is : (a b c d : ℕ) → a ≡ b → c ≡ d → ◌≡◌ {A = ℕ × ℕ} (a, c) (b, d)
    pair_is a b c d p q = cc

-- bytes without a first wrong field were read
no_damage : {A : Type 0} (bytes : List ℕ) (r : Read A) → damage_of bytes r ≡ None → (x : A) × (r ≡ Good x)
no_damage bytes (Good x) e = (x, refl)
no_damage bytes (Bad why field) e = absurd cc

-- each number is below 256 within the list, and 0 past it
pub bytes_fit : (bytes : List ℕ) → All (λ byte. byte < 256) bytes → IsBytes bytes
bytes_fit bytes small i = elim (cases_lt i (length bytes)) [
  | inl within ↦ small i 0 within
  | inr past ↦ rw (get_or_past bytes i 0 past) (omega arith)
]

pub content_from_none : (bytes : List ℕ) → IsBytes bytes → first_flaw bytes ≡ None → IsContent bytes
content_from_none bytes fits e =
    let r = no_damage bytes (read_content bytes) e in
    let t = content_taken bytes r.0 fits r.1 in
    record { table = r.0; valid = t.0; spelled = t.1 }
