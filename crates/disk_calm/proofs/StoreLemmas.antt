-- What a vault in memory holds stays bytes.
use Rattle.std.proofs.Common.{inl, inr, ℕ, List, [], length, get_or, set, replicate, Option, None, IfSome, sym, ◌∙◌, ap, subst, arith}
use Rattle.std.proofs.lemmas.List.{set_past, get_or-set_same, get_or-set_other, get_or-replicate, get_or_past, length-replicate}
use Rattle.std.proofs.lemmas.Bool.{cases_eq, cases_lt}
use Rattle.disk_model.specs.Bytes.{AreBytes}
use Rattle.disk_model.specs.declared.draft.Draft.{Draft}
use Rattle.disk_calm.specs.Held.{Held, HoldsBytes}
use Rattle.disk_calm.specs.Store.{with_level, with_copy, with_draft, nothing_held}
use Rattle.disk_calm.proofs.BytesLemmas.{no_bytes}

-- what each place of a list has, also past its end, each place has where one of them was set to such a value
pub each-set : {A : Type 0} (P : A → Type 0) (xs : List A) (at : ℕ) (x d : A) → ((k : ℕ) → P (get_or xs k d)) → P x → (k : ℕ) → P (get_or (set xs at x) k d)
each-set P xs at x d each has k = elim (cases_eq k at) [
  | inl same ↦ elim (cases_lt at (length xs)) [
    | inl within ↦ subst P (sym (ap (λ n. get_or (set xs at x) n d) same ∙ get_or-set_same xs at x d within)) has
    | inr past ↦ subst P (sym (ap (λ ys. get_or ys k d) (set_past xs at x past))) (each k)
  ]
  | inr other ↦ subst P (sym (get_or-set_other xs at k x d other)) (each k)
]

pub each-replicate : {A : Type 0} (P : A → Type 0) (n : ℕ) (x d : A) → P x → P d → (k : ℕ) → P (get_or (replicate n x) k d)
each-replicate P n x d has default k = elim (cases_lt k n) [
  | inl within ↦ subst P (sym (get_or-replicate n k x d within)) has
  | inr past ↦ subst P (sym (get_or_past (replicate n x) k d (omega (arith, past, length-replicate n x)))) default
]

pub bytes_level : (h : Held) (level : ℕ) (file : List ℕ) → HoldsBytes h → AreBytes file → HoldsBytes (with_level h level file)
bytes_level h level file holds are = record { parities = each-set AreBytes h.files.parities level file [] holds.parities are; contents = holds.contents; staged = holds.staged }

pub bytes_copy : (h : Held) (copy : ℕ) (content : Option (List ℕ)) → HoldsBytes h → IfSome content AreBytes → HoldsBytes (with_copy h copy content)
bytes_copy h copy content holds are = record { parities = holds.parities; contents = each-set (λ (c : Option (List ℕ)). IfSome c AreBytes) h.files.contents copy content None holds.contents are; staged = holds.staged }

pub bytes_draft : (h : Held) (copy : ℕ) (draft : Draft) (bytes : List ℕ) → HoldsBytes h → AreBytes bytes → HoldsBytes (with_draft h copy draft bytes)
bytes_draft h copy draft bytes holds are = record { parities = holds.parities; contents = holds.contents; staged = each-set AreBytes h.staged copy bytes [] holds.staged are }

pub bytes_none : (levels copies : ℕ) → HoldsBytes (nothing_held levels copies)
bytes_none levels copies = record {
  parities = each-replicate AreBytes levels [] [] no_bytes no_bytes;
  contents = each-replicate (λ (c : Option (List ℕ)). IfSome c AreBytes) copies None None tt tt;
  staged = each-replicate AreBytes copies [] [] no_bytes no_bytes;
}
