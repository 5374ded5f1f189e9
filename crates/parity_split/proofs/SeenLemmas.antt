-- How what a stop may leave of a base goes on as what it may leave of a vault of several parts a level.
use Rattle.std.proofs.Common.{◌≡◌, inl, inr, ⊎_elim, ℕ, zero, suc, ◌+◌, ◌-◌, ◌<◌, ◌≤◌, List, [], ◌∷◌, length, take, drop, map, get_or, set, Option, ◌^◌, Bool, true, false, IsTrue, refl, sym, ◌∙◌, ap, subst, arith}
use Rattle.std.proofs.lemmas.List.{get_or-map, map-set, drop-drop, take-take, drop-take}
use Rattle.std.specs.List.{sum}
use Rattle.std.proofs.lemmas.List.Sums.{sum_by-cons}
use Rattle.disk_model.specs.Bytes.{Torn, Stretched}
use Rattle.disk_model.specs.Cause.{WriteCount, Counts}
use Rattle.disk_model.specs.Files.{Files, parity_of, with_parity, TearsParity, StretchesParity}
use Rattle.disk_model.specs.Moments.{Images, LeavesBy, Remembers}
use Rattle.disk_model.specs.Vault.{VaultView, VaultDone, any_write, GoesOn, ChangesBy}
use Rattle.parity_split.specs.Joined.{level_bytes, grouped, seen}
use Rattle.parity_split.specs.Split.{seen_images, loosely, split_view, parts_at}
use Rattle.parity_split.specs.SplitLaws.{length-grouped}
use Rattle.parity_split.specs.Works.{OnParts, LevelBy, parts_in}
use Rattle.parity_split.proofs.PieceLemmas.{torn_take, stretched_take}

-- the parts of one level
pub group_at : (counts : List ℕ) (files : List (List ℕ)) (level : ℕ) → level < length counts → get_or (grouped counts files) level [] ≡ take (get_or counts level 0) (drop (sum (take level counts)) files)
group_at [] files level within = absurd (let w : level < 0 = within in omega arith)
group_at (count ∷ counts) files zero within = refl
group_at (count ∷ counts) files (suc level) within =
    let w : suc level < suc (length counts) = within in
    let e : sum (count ∷ take level counts) ≡ count + sum (take level counts) = sum_by-cons (λ x. x) count (take level counts) in
    group_at counts (drop count files) level (omega arith) ∙ ap (take (get_or counts level 0)) (drop-drop (sum (take level counts)) count files ∙ ap (λ n. drop n files) (sym e))

-- files that differ in the parts of one level alone
pub group_set : (counts : List ℕ) (old new : List (List ℕ)) (level : ℕ) → level < length counts → take (sum (take level counts)) new ≡ take (sum (take level counts)) old
    → drop (sum (take level counts) + get_or counts level 0) new ≡ drop (sum (take level counts) + get_or counts level 0) old
    → grouped counts new ≡ set (grouped counts old) level (take (get_or counts level 0) (drop (sum (take level counts)) new))
group_set [] old new level within before after = absurd (let w : level < 0 = within in omega arith)
group_set (count ∷ counts) old new zero within before after = ap (λ rest. take count new ∷ grouped counts rest) (let z : 0 + count ≡ count = omega arith in subst (λ n. drop n new ≡ drop n old) z after)
group_set (count ∷ counts) old new (suc level) within before after =
    let w : suc level < suc (length counts) = within in
    let s = sum (take level counts) in
    let c = get_or counts level 0 in
    let e : sum (count ∷ take level counts) ≡ count + s = sum_by-cons (λ x. x) count (take level counts) in
    let start : take (count + s) new ≡ take (count + s) old = subst (λ n. take n new ≡ take n old) e before in
    let end : drop (count + s + c) new ≡ drop (count + s + c) old = subst (λ n. drop (n + c) new ≡ drop (n + c) old) e after in
    let first : take count new ≡ take count old = sym (take-take count (count + s) new (omega arith)) ∙ ap (take count) start ∙ take-take count (count + s) old (omega arith) in
    let flat : count + s + c ≡ count + (s + c) = omega arith in
    let later : drop (count + (s + c)) new ≡ drop (count + (s + c)) old = subst (λ n. drop n new ≡ drop n old) flat end in
    let rest = group_set counts (drop count old) (drop count new) level (omega arith) (sym (drop-take count s new) ∙ ap (drop count) start ∙ drop-take count s old) (drop-drop (s + c) count new ∙ later ∙ sym (drop-drop (s + c) count old)) in
    ap (λ x. x ∷ grouped counts (drop count new)) first ∙ ap (λ y. take count old ∷ y) (rest ∙ ap (λ z. set (grouped counts (drop count old)) level (take c z)) (drop-drop s count new ∙ ap (λ n. drop n new) (sym e)))

abbrev made : List (List ℕ) → List (Option (List ℕ)) → Files
made parities contents = record { parities = parities; contents = contents }

module _ (counts : List ℕ) (capacity : ℕ) where
  pub seen_parity : (files : Files) (level : ℕ) → level < length counts → parity_of (seen counts capacity files) level ≡ level_bytes capacity (parts_in (parts_at counts capacity level) files)
  seen_parity files level within =
      get_or-map (level_bytes capacity) (grouped counts files.parities) level [] [] (omega (arith, length-grouped counts files.parities)) ∙ ap (level_bytes capacity) (group_at counts files.parities level within)

  pub seen_is : (step : List (List ℕ) → List (List ℕ) → Type 0) (level : ℕ) (old new : Files) → level < length counts → OnParts (parts_at counts capacity level) step old new
      → seen counts capacity new ≡ with_parity (seen counts capacity old) level (level_bytes capacity (parts_in (parts_at counts capacity level) new))
  seen_is step level old new within on =
      let group = group_set counts old.parities new.parities level within on.before on.after in
      let file = level_bytes capacity (parts_in (parts_at counts capacity level) new) in
      let parities : map (level_bytes capacity) (grouped counts new.parities) ≡ set (map (level_bytes capacity) (grouped counts old.parities)) level file =
      ap (map (level_bytes capacity)) group ∙ map-set (level_bytes capacity) (grouped counts old.parities) level (parts_in (parts_at counts capacity level) new) in
      ap (λ x. made x new.contents) parities ∙ ap (λ x. made (set (map (level_bytes capacity) (grouped counts old.parities)) level file) x) on.contents

  pub seen_tears : (level at n : ℕ) (old new : Files) → level < length counts → at + n ≤ 2 ^ 64 - 1 → LevelBy (parts_at counts capacity level) (Torn at n) old new → TearsParity level at n (seen counts capacity old) (seen counts capacity new)
  seen_tears level at n old new within room by = record {
    file = level_bytes capacity (parts_in (parts_at counts capacity level) new);
    torn = subst (λ x. Torn at n x (level_bytes capacity (parts_in (parts_at counts capacity level) new))) (sym (seen_parity old level within)) (torn_take (2 ^ 64 - 1) at n _ _ room by.inside);
    rest = seen_is _ level old new within by;
  }

  pub seen_stretches : (level len : ℕ) (old new : Files) → level < length counts → len ≤ 2 ^ 64 - 1 → LevelBy (parts_at counts capacity level) (Stretched len) old new → StretchesParity level len (seen counts capacity old) (seen counts capacity new)
  seen_stretches level len old new within room by = record {
    file = level_bytes capacity (parts_in (parts_at counts capacity level) new);
    stretched = subst (λ x. Stretched len x (level_bytes capacity (parts_in (parts_at counts capacity level) new))) (sym (seen_parity old level within)) (stretched_take (2 ^ 64 - 1) len _ _ room by.inside);
    rest = seen_is _ level old new within by;
  }

  pub leaves_seen : (step seen_step : Files → Files → Type 0) (old new : Images) → ((a b : Files) → step a b → seen_step (seen counts capacity a) (seen counts capacity b))
      → LeavesBy step old new → LeavesBy seen_step (seen_images counts capacity old) (seen_images counts capacity new)
  leaves_seen step seen_step old new go leaves = record {
    told = leaves.told;
    later = leaves.later;
    within = λ told t files le left. ⊎_elim
        (λ was. inl (left.0, was, left.2))
        (λ came. inr (seen counts capacity came.0, (came.0, came.1, refl), subst (λ x. seen_step (seen counts capacity came.0) x) (sym left.2) (go came.0 left.0 came.2)))
        (leaves.within told t left.0 le left.1);
    at_end = λ told files left.
        let came = leaves.at_end told left.0 left.1 in
        (seen counts capacity came.0, (came.0, came.1, refl), subst (λ x. seen_step (seen counts capacity came.0) x) (sym left.2) (go came.0 left.0 came.2));
  }

  pub changes_seen : (step seen_step : Files → Files → Type 0) (old new : VaultView) → ((a b : Files) → step a b → seen_step (seen counts capacity a) (seen counts capacity b))
      → ChangesBy step old new → ChangesBy seen_step (split_view counts capacity old) (split_view counts capacity new)
  changes_seen step seen_step old new go changes = record {
    reads = λ t. go _ _ (changes.reads t);
    leaves = leaves_seen step seen_step old.images new.images go changes.leaves;
  }

  pub remembers_seen : (old new : Images) → Remembers old new → Remembers (seen_images counts capacity old) (seen_images counts capacity new)
  remembers_seen old new remembers told t files le left = (left.0, remembers told t left.0 le left.1, left.2)

  -- one call seen, whatever calls of the base it was
  pub goes_on_seen : (old new : VaultView) (done call : List VaultDone) → Counts (any_write call) (loosely old.writes) (loosely new.writes) → GoesOn old new done
      → GoesOn (split_view counts capacity old) (split_view counts capacity new) call
  goes_on_seen old new done call writes on = record {
    later = on.later;
    writes = writes;
    levels = refl;
    copies = on.copies;
    tells = on.tells;
    calls = record { told = λ t. t; more = λ t. absurd (let clash : false ≡ true = t in cc) };
  }

-- the same call of the base
pub counts_same : {wrote : Bool} (x y : WriteCount) → Counts wrote x y → Counts wrote (loosely x) (loosely y)
counts_same x y counts = record { exact = refl; later = counts.later; stays = counts.stays; rose = λ exact wrote. absurd (let clash : false ≡ true = exact in cc) }

-- calls of the base that only read
pub counts_unwritten : (wrote : Bool) (x y : WriteCount) → y ≡ x → Counts wrote (loosely x) (loosely y)
counts_unwritten wrote x y same = record {
  exact = refl;
  later = let count = ap (λ (w : WriteCount). w.count) same in omega arith;
  stays = λ none. ap (λ (w : WriteCount). w.count) same;
  rose = λ exact wrote. absurd (let clash : false ≡ true = exact in cc);
}

-- calls of the base for one that writes
pub counts_written : {wrote : Bool} (x y : WriteCount) → Counts wrote x y → Counts true (loosely x) (loosely y)
counts_written x y counts = record {
  exact = refl;
  later = counts.later;
  stays = λ none. absurd (let clash : true ≡ false = none in cc);
  rose = λ exact wrote. absurd (let clash : false ≡ true = exact in cc);
}
