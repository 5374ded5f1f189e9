-- The first block of each hash and length, with one block more.
use Rattle.std.proofs.Common.{◌≡◌, ℕ, ◌&&◌, List, [], ◌∷◌, ◌++◌, cond, Bool, true, false, refl, sym, ap, ◌∙◌, subst, Option, None, Some}
use Rattle.std.specs.List.{find}
use Rattle.std.specs.Str.{bytes_eq}
use Rattle.std.specs.Option.{option_map, option_or}
use Rattle.std.specs.Map.{lookup}
use Rattle.std.specs.BTreeMap.{BTreeMap, get, is_at, Updates}
use Rattle.std.specs.Ordering.{nat_cmp, ordering_then, is_eq}
use Rattle.std.specs.Cmp.{tied_then, unsigned_tied}
use Rattle.std.specs.Cmp.Lexicographic.{slice_cmp}
use Rattle.std.proofs.lemmas.Bool.{eqb-true}
use Rattle.std.proofs.lemmas.Slice.Eq.{bytes_eq-Decides}
use Rattle.std.proofs.lemmas.List.Folds.{find-append}
use Rattle.std.proofs.lemmas.Map.Text.{is_eq-slice_cmp}
use Rattle.block_hash.specs.declared.Kind.{Kind}
use Rattle.block_hash.specs.declared.Kind.TheVariants.{Md5, Sha256}
use Rattle.hash_index.specs.declared.block_index.Hash.{Hash}
use Rattle.hash_index.specs.declared.block_index.Entry.{Entry}
use Rattle.hash_index.specs.Keeping.{Key, key_cmp, kind_cmp, same_kind, is_for, spot_of}

abbrev pub key_of : Entry → Key
key_of entry = (entry.hash, entry.length)

-- ---- keys

kind_tied : (a b : Kind) → is_eq (kind_cmp a b) ≡ same_kind a b
kind_tied Md5 Md5 = refl
kind_tied Md5 Sha256 = refl
kind_tied Sha256 Md5 = refl
kind_tied Sha256 Sha256 = refl

pub key_tied : (entry : Entry) (asked : Hash) (long : ℕ) → is_at (key_cmp (key_of entry)) (asked, long) ≡ is_for asked long entry
key_tied entry asked long =
    let kinds = kind_cmp entry.hash.kind asked.kind in
    let digests = slice_cmp nat_cmp entry.hash.digest.0 asked.digest.0 in
    let lengths = nat_cmp entry.length long in
    sym (tied_then (ordering_then kinds digests) lengths)
    ∙ ap (λ (t : Bool). t && is_eq lengths) (sym (tied_then kinds digests))
    ∙ ap (λ (t : Bool). (t && is_eq digests) && is_eq lengths) (kind_tied entry.hash.kind asked.kind)
    ∙ ap (λ (t : Bool). (same_kind entry.hash.kind asked.kind && t) && is_eq lengths) (is_eq-slice_cmp entry.hash.digest.0 asked.digest.0)
    ∙ ap (λ (t : Bool). (same_kind entry.hash.kind asked.kind && bytes_eq entry.hash.digest.0 asked.digest.0) && t) (unsigned_tied entry.length long)

both_true : (s t : Bool) → (s && t) ≡ true → (s ≡ true) × (t ≡ true)
both_true true t h = (refl, h)
both_true false t h = absurd cc

kind_is : (a b : Kind) → same_kind a b ≡ true → a ≡ b
kind_is Md5 Md5 h = refl
kind_is Md5 Sha256 h = absurd cc
kind_is Sha256 Md5 h = absurd cc
kind_is Sha256 Sha256 h = refl

-- an entry that is for a hash and a length has them
pub key_is : (entry : Entry) (asked : Hash) (long : ℕ) → is_for asked long entry ≡ true → key_of entry ≡ (let key : Key = (asked, long) in key)
key_is entry asked long h =
    let first = both_true _ _ h in
    let rest = both_true _ _ first.0 in
    let kind : entry.hash.kind ≡ asked.kind = kind_is entry.hash.kind asked.kind rest.0 in
    let digest : entry.hash.digest.0 ≡ asked.digest.0 = (bytes_eq-Decides entry.hash.digest.0 asked.digest.0).0 rest.1 in
    let length : entry.length ≡ long = eqb-true entry.length long first.1 in
    λ i. (record { kind = kind i; digest = record { 0 = digest i } }, length i)

-- ---- one more

or_none : {X : Type 0} (o : Option X) → option_or o None ≡ o
or_none None = refl
or_none (Some x) = refl

abbrev pub Kept : BTreeMap Key (ℕ × ℕ) → List Entry → Type 0
Kept firsts added = (asked : Hash) (long : ℕ) → get key_cmp firsts (asked, long) ≡ option_map spot_of (find (is_for asked long) added)

map_none : (o : Option Entry) → option_map spot_of o ≡ None → o ≡ None
map_none None h = refl
map_none (Some x) h = absurd cc

map_some : (o other : Option Entry) (spot : ℕ × ℕ) → option_map spot_of o ≡ Some spot → option_map spot_of o ≡ option_map spot_of (option_or o other)
map_some None other spot h = absurd cc
map_some (Some x) other spot h = refl

-- nothing was added
pub kept_same : (firsts firsts_new : BTreeMap Key (ℕ × ℕ)) (added : List Entry) → firsts_new.entries ≡ firsts.entries → Kept firsts added → Kept firsts_new added
kept_same firsts firsts_new added same kept asked long =
    ap (λ (entries : List (Key × (ℕ × ℕ))). lookup (is_at (key_cmp (asked, long))) entries) same ∙ kept asked long

-- its key was not there
pub kept_new : (firsts firsts_new : BTreeMap Key (ℕ × ℕ)) (added : List Entry) (entry : Entry) → get key_cmp firsts (key_of entry) ≡ None
    → Updates key_cmp firsts firsts_new (key_of entry) (Some (spot_of entry)) → Kept firsts added → Kept firsts_new (added ++ entry ∷ [])
kept_new firsts firsts_new added entry absent updates kept asked long =
    let found : get key_cmp firsts_new (asked, long) ≡ cond (is_for asked long entry) (Some (spot_of entry)) (get key_cmp firsts (asked, long)) =
    updates.0 (asked, long) ∙ ap (λ (t : Bool). cond t (Some (spot_of entry)) (get key_cmp firsts (asked, long))) (key_tied entry asked long) in
    let more : find (is_for asked long) (added ++ entry ∷ []) ≡ option_or (find (is_for asked long) added) (cond (is_for asked long entry) (Some entry) None) =
    find-append (is_for asked long) added (entry ∷ []) in
    found ∙ ((elim (is_for asked long entry) as (λ (t : Bool). is_for asked long entry ≡ t
    → cond t (Some (spot_of entry)) (get key_cmp firsts (asked, long)) ≡ option_map spot_of (option_or (find (is_for asked long) added) (cond t (Some entry) None))) [
      | true ↦ λ same.
          let none : find (is_for asked long) added ≡ None =
          map_none (find (is_for asked long) added) (sym (kept asked long) ∙ ap (get key_cmp firsts) (sym (key_is entry asked long same)) ∙ absent) in
          sym (ap (λ (o : Option Entry). option_map spot_of (option_or o (Some entry))) none)
      | false ↦ λ apart. kept asked long ∙ ap (option_map spot_of) (sym (or_none (find (is_for asked long) added)))
    ]) refl) ∙ ap (option_map spot_of) (sym more)

-- it was there
pub kept_old : (firsts : BTreeMap Key (ℕ × ℕ)) (added : List Entry) (entry : Entry) (spot : ℕ × ℕ) → get key_cmp firsts (key_of entry) ≡ Some spot
    → Kept firsts added → Kept firsts (added ++ entry ∷ [])
kept_old firsts added entry spot there kept asked long =
    let more : find (is_for asked long) (added ++ entry ∷ []) ≡ option_or (find (is_for asked long) added) (cond (is_for asked long entry) (Some entry) None) =
    find-append (is_for asked long) added (entry ∷ []) in
    kept asked long ∙ ((elim (is_for asked long entry) as (λ (t : Bool). is_for asked long entry ≡ t
    → option_map spot_of (find (is_for asked long) added) ≡ option_map spot_of (option_or (find (is_for asked long) added) (cond t (Some entry) None))) [
      | true ↦ λ same.
          map_some (find (is_for asked long) added) (Some entry) spot (sym (kept asked long) ∙ ap (get key_cmp firsts) (sym (key_is entry asked long same)) ∙ there)
      | false ↦ λ apart. ap (option_map spot_of) (sym (or_none (find (is_for asked long) added)))
    ]) refl) ∙ ap (option_map spot_of) (sym more)

-- ---- what is found

found_passes : (p : Entry → Bool) (added : List Entry) (entry : Entry) → find p added ≡ Some entry → p entry ≡ true
found_passes p [] entry h = absurd cc
found_passes p (one ∷ added) entry h =
    ((elim (p one) as (λ (t : Bool). p one ≡ t → cond t (Some one) (find p added) ≡ Some entry → p entry ≡ true) [
      | true ↦ λ passes same. let is : one ≡ entry = cc in subst (λ (e : Entry). p e ≡ true) is passes
      | false ↦ λ fails same. found_passes p added entry same
    ]) refl) h

spot_found : (o : Option Entry) (spot : ℕ × ℕ) → Some spot ≡ option_map spot_of o → (entry : Entry) × (o ≡ Some entry) × (spot ≡ spot_of entry)
spot_found None spot h = absurd cc
spot_found (Some entry) spot h = let same : spot ≡ spot_of entry = cc in (entry, refl, same)

pub found_is : (added : List Entry) (asked : Hash) (long : ℕ) (spot : ℕ × ℕ) → Some spot ≡ option_map spot_of (find (is_for asked long) added)
    → Some (let entry : Entry = record { hash = asked; length = long; file = spot.0; index = spot.1 } in entry) ≡ find (is_for asked long) added
found_is added asked long spot h =
    let found = spot_found (find (is_for asked long) added) spot h in
    let key = key_is found.0 asked long (found_passes (is_for asked long) added found.0 found.1) in
    sym (found.1 ∙ ap Some (λ i. record { hash = (key i).0; length = (key i).1; file = (sym found.2 i).0; index = (sym found.2 i).1 }))
