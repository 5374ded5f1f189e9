-- Stripes marked one after another.
use Rattle.std.proofs.Common.{◌≡◌, ℕ, ◌<◌, List, [], ◌∷◌, ◌++◌, length, inl, inr, refl, sym, ap, ◌∙◌, arith}
use Rattle.std.specs.Prelude.{slice_set}
use Rattle.std.proofs.lemmas.Bool.{cases_eq}
use Rattle.std.proofs.lemmas.List.{get_or-set_same, get_or-set_other, length-set}
use Rattle.file_table.specs.Table.{info_at, no_info}
use Rattle.file_table.specs.declared.info.Info.{Info}
use Rattle.file_table.specs.declared.info.Mark.TheVariants.{Synced}
use Rattle.snap_scrub.specs.declared.verdict.Verdict.{Verdict}
use Rattle.snap_scrub.specs.declared.verdict.Verdict.TheVariants.{Right, Wrong, Changed}
use Rattle.snap_scrub.specs.Marks.{info_by, marked}

-- one more
pub marked_more : (now : ℕ) (xs : List ℕ) (vs : List Verdict) (stripe : ℕ) (verdict : Verdict) (infos : List Info) → length vs ≡ length xs
    → marked now (xs ++ stripe ∷ []) (vs ++ verdict ∷ []) infos ≡ slice_set (marked now xs vs infos) stripe (info_by now verdict (info_at (marked now xs vs infos) stripe))
marked_more now [] [] stripe verdict infos many = refl
marked_more now [] (v ∷ vs) stripe verdict infos many = absurd (omega (arith, many))
marked_more now (x ∷ xs) [] stripe verdict infos many = absurd (omega (arith, many))
marked_more now (x ∷ xs) (v ∷ vs) stripe verdict infos many =
    marked_more now xs vs stripe verdict (slice_set infos x (info_by now v (info_at infos x))) (omega (arith, many))

pub length-marked : (now : ℕ) (xs : List ℕ) (vs : List Verdict) (infos : List Info) → length (marked now xs vs infos) ≡ length infos
length-marked now [] vs infos = refl
length-marked now (x ∷ xs) [] infos = refl
length-marked now (x ∷ xs) (v ∷ vs) infos = length-marked now xs vs (slice_set infos x (info_by now v (info_at infos x))) ∙ length-set infos x (info_by now v (info_at infos x))

-- a synced stripe stays synced
pub synced_by : (now : ℕ) (verdict : Verdict) (info : Info) → info.mark ≡ Synced → (info_by now verdict info).mark ≡ Synced
synced_by now Right info is = refl
synced_by now Wrong info is = is
synced_by now Changed info is = is

pub marked_synced : (now : ℕ) (xs : List ℕ) (vs : List Verdict) (infos : List Info) (stripe : ℕ) → stripe < length infos → (info_at infos stripe).mark ≡ Synced → (info_at (marked now xs vs infos) stripe).mark ≡ Synced
marked_synced now [] vs infos stripe within is = is
marked_synced now (x ∷ xs) [] infos stripe within is = is
marked_synced now (x ∷ xs) (v ∷ vs) infos stripe within is =
    let info = info_by now v (info_at infos x) in
    marked_synced now xs vs (slice_set infos x info) stripe (omega (arith, within, length-set infos x info))
    (elim (cases_eq stripe x) [
      | inl same ↦
          ap (λ (n : ℕ). (info_at (slice_set infos x info) n).mark) same
          ∙ ap (λ (it : Info). it.mark) (get_or-set_same infos x info no_info (omega (arith, within, same)))
          ∙ synced_by now v (info_at infos x) (ap (λ (n : ℕ). (info_at infos n).mark) (sym same) ∙ is)
      | inr other ↦ ap (λ (it : Info). it.mark) (get_or-set_other infos x stripe info no_info other) ∙ is
    ])
