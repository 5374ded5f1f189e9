-- The array's own names, hidden files, and paths of records.
use Rattle.std.proofs.Common.{◌≡◌, ◌≢◌, ℕ, ◌≤◌, List, [], ◌∷◌, ◌++◌, length, take, drop, map, Bool, true, false, ◌==◌, ◌&&◌, ◌||◌, not, nat_le, nat_eq, bytes_eq, codes, option_to_list, IsTrue, ◌↔◌, IsUtf8, refl, sym, ap, ◌∙◌, arith, append_assoc, Decides}
use Rattle.std.proofs.lemmas.Bool.Decides.{nat_tests, Decides-eqb}
use Rattle.std.proofs.lemmas.List.{append_cancel_right}
use Rattle.std.proofs.lemmas.Slice.Eq.{bytes_eq-Decides, ends_is}
use Rattle.std.specs.List.{list_all, list_any, ends_with, AllByRecursion}
use Rattle.disk_model.specs.Path.{components, IsValidPath, IsRecordPath, EndsWith, lost_suffix}
use Rattle.array_setup.proofs.BoolLemmas.{same_tests, not_Decides}
use Rattle.array_setup.proofs.ComponentsLemmas.{components-alone, components-slash}
use Rattle.array_setup.specs.Keeps.{is_recordable, draft_name, own_names, has_name, starts_with_dot, is_hidden}
use Rattle.array_setup.specs.Pattern.{has_byte}
use Rattle.array_setup.specs.Setup.{SetupValue}
use Rattle.array_setup.specs.Walk.{IsCut}

-- ---- names

pub any-append : {A : Type 0} (test : A → Bool) (xs ys : List A) → list_any test (xs ++ ys) ≡ list_any test xs || list_any test ys
any-append test [] ys = refl
any-append test (x ∷ xs) ys = rw (any-append test xs ys) (or_assoc (test x) (list_any test xs) (list_any test ys))
  where
    or_assoc : (a b c : Bool) → a || (b || c) ≡ (a || b) || c
    or_assoc true b c = refl
    or_assoc false b c = refl

-- a name is a front and a back just where it begins with the front and goes on as the back
pub bytes_eq-append : (name front back : List ℕ) → bytes_eq name (front ++ back) ≡ (bytes_eq (take (length front) name) front && bytes_eq (drop (length front) name) back)
bytes_eq-append name [] back = refl
bytes_eq-append [] (f ∷ front) back = refl
bytes_eq-append (n ∷ name) (f ∷ front) back = rw (bytes_eq-append name front back) (and_assoc (n == f) _ _)
  where
    and_assoc : (a b c : Bool) → (a && (b && c)) ≡ ((a && b) && c)
    and_assoc true b c = refl
    and_assoc false b c = refl

pub full-begins : (name front back : List ℕ) → bytes_eq (take (length front) name) front ≡ true → bytes_eq name (front ++ back) ≡ bytes_eq (drop (length front) name) back
full-begins name front back begins = bytes_eq-append name front back ∙ ap (λ b. b && bytes_eq (drop (length front) name) back) begins

pub full-other : (name front back : List ℕ) → bytes_eq (take (length front) name) front ≡ false → bytes_eq name (front ++ back) ≡ false
full-other name front back other = bytes_eq-append name front back ∙ ap (λ b. b && bytes_eq (drop (length front) name) back) other

draft_name-same : (content name : List ℕ) → bytes_eq (draft_name content) (name ++ codes ".tmp") ≡ bytes_eq content name
draft_name-same content name =
    same_tests _ _ (bytes_eq-Decides (draft_name content) (name ++ codes ".tmp")) (bytes_eq-Decides content name)
    (append_cancel_right content name (codes ".tmp")) (ap (λ front. front ++ codes ".tmp"))

-- a path that ends as drafts do is a draft's just where it is a content file's without the ending
pub drafts-same : (contents : List (List ℕ)) (name : List ℕ) → has_name (map draft_name contents) (name ++ codes ".tmp") ≡ has_name contents name
drafts-same [] name = refl
drafts-same (content ∷ contents) name = rw (draft_name-same content name, drafts-same contents name) refl

pub drafts-behind : (contents : List (List ℕ)) (dir path content : List ℕ) → path ≡ content ++ codes ".tmp"
    → has_name (map draft_name contents) (dir ++ 47 ∷ path) ≡ has_name contents (dir ++ 47 ∷ content)
drafts-behind contents dir path content same =
    ap (λ p. has_name (map draft_name contents) (dir ++ 47 ∷ p)) same ∙ ap (has_name (map draft_name contents)) (sym (append_assoc dir (47 ∷ content) (codes ".tmp")))
    ∙ drafts-same contents (dir ++ 47 ∷ content)

apart : (x y : ℕ) (xs ys : List ℕ) → x ≢ y → x ∷ xs ≡ y ∷ ys → ⊥
apart x y xs ys other same = other (cc)

tails : (x y : ℕ) (xs ys : List ℕ) → x ∷ xs ≡ y ∷ ys → xs ≡ ys
tails x y xs ys same = cc

nothing : (y : ℕ) (ys : List ℕ) → [] ≡ y ∷ ys → ⊥
nothing y ys same = cc

-- what ends with four bytes that aren't slashes has them behind its slash
behind_slash : (a b c d : ℕ) → a ≢ 47 → b ≢ 47 → c ≢ 47 → d ≢ 47 → (dir content path : List ℕ) → content ++ a ∷ b ∷ c ∷ d ∷ [] ≡ dir ++ 47 ∷ path
    → (name : List ℕ) × (path ≡ name ++ a ∷ b ∷ c ∷ d ∷ [])
behind_slash a b c d na nb nc nd [] [] path same = absurd (apart a 47 _ _ na same)
behind_slash a b c d na nb nc nd [] (x ∷ content) path same = (content, sym (tails x 47 _ _ same))
behind_slash a b c d na nb nc nd (e ∷ []) [] path same = absurd (apart b 47 _ _ nb (tails a e _ _ same))
behind_slash a b c d na nb nc nd (e ∷ f ∷ []) [] path same = absurd (apart c 47 _ _ nc (tails b f _ _ (tails a e _ _ same)))
behind_slash a b c d na nb nc nd (e ∷ f ∷ g ∷ []) [] path same = absurd (apart d 47 _ _ nd (tails c g _ _ (tails b f _ _ (tails a e _ _ same))))
behind_slash a b c d na nb nc nd (e ∷ f ∷ g ∷ h ∷ []) [] path same = absurd (nothing 47 path (tails d h _ _ (tails c g _ _ (tails b f _ _ (tails a e _ _ same)))))
behind_slash a b c d na nb nc nd (e ∷ f ∷ g ∷ h ∷ i ∷ dir) [] path same = absurd (nothing i _ (tails d h _ _ (tails c g _ _ (tails b f _ _ (tails a e _ _ same)))))
behind_slash a b c d na nb nc nd (e ∷ dir) (x ∷ content) path same = behind_slash a b c d na nb nc nd dir content path (tails x e _ _ same)

-- behind a slash a draft's name ends as drafts do
draft_end : (dir content path : List ℕ) → content ++ codes ".tmp" ≡ dir ++ 47 ∷ path → (name : List ℕ) × (path ≡ name ++ codes ".tmp")
draft_end dir content path same = behind_slash 46 116 109 112 (λ is. omega (arith, is)) (λ is. omega (arith, is)) (λ is. omega (arith, is)) (λ is. omega (arith, is)) dir content path same

pub no_draft : (contents : List (List ℕ)) (dir path : List ℕ) → ((name : List ℕ) → path ≢ name ++ codes ".tmp") → has_name (map draft_name contents) (dir ++ 47 ∷ path) ≡ false
no_draft [] dir path none = refl
no_draft (content ∷ contents) dir path none =
    let other : bytes_eq (draft_name content) (dir ++ 47 ∷ path) ≡ false =
    same_tests _ false (bytes_eq-Decides (draft_name content) (dir ++ 47 ∷ path)) ((λ (wrong : false ≡ true). cc), λ (wrong : ⊥). absurd wrong)
    (λ same. let found = draft_end dir content path same in none found.0 found.1) (λ wrong. absurd wrong) in
    rw (other, no_draft contents dir path none) refl

pub own_any : (setup : SetupValue) (name : List ℕ)
    → has_name (own_names setup) name ≡ has_name setup.parities name || (has_name setup.contents name || (has_name (map draft_name setup.contents) name || has_name (option_to_list setup.log) name))
own_any setup name =
    let is : List ℕ → Bool = λ own. bytes_eq own name in
    rw (
      any-append is setup.parities (setup.contents ++ (map draft_name setup.contents ++ option_to_list setup.log)),
      any-append is setup.contents (map draft_name setup.contents ++ option_to_list setup.log),
      any-append is (map draft_name setup.contents) (option_to_list setup.log),
    ) refl

-- ---- hidden files

pub record IsHiddenLeft (path rest : List ℕ) : Type 0 where
  pub rest_text : IsUtf8 rest
  pub same : is_hidden path ≡ is_hidden rest

hidden_cut : (rest part after : List ℕ) → IsCut 47 rest part after → is_hidden rest ≡ starts_with_dot part || is_hidden after
hidden_cut rest part after cut = rw (cut.spelled, components-slash part after, components-alone part cut.first) refl

dot_cut : (part after : List ℕ) → starts_with_dot (part ++ 47 ∷ after) ≡ starts_with_dot part
dot_cut [] after = refl
dot_cut (b ∷ part) after = refl

pub hidden-next : (path rest part after : List ℕ) → IsHiddenLeft path rest → starts_with_dot rest ≡ false → IsCut 47 rest part after → IsHiddenLeft path after
hidden-next path rest part after is plain cut =
    let here : starts_with_dot part ≡ false = sym (dot_cut part after) ∙ ap starts_with_dot (sym cut.spelled) ∙ plain in
    record { rest_text = cut.back; same = is.same ∙ hidden_cut rest part after cut ∙ ap (λ b. b || is_hidden after) here }

pub hidden-done : (path rest : List ℕ) → IsHiddenLeft path rest → starts_with_dot rest ≡ false → has_byte 47 rest ≡ false → is_hidden path ≡ false
hidden-done path rest is plain none = is.same ∙ rw (components-alone rest none, plain) refl

dot_first : (path : List ℕ) → starts_with_dot path ≡ true → is_hidden path ≡ true
dot_first [] dot = absurd (cc)
dot_first (b ∷ path) dot =
    let is : b ≡ 46 = grind (arith, nat_tests) in
    rw is (front (components path))
  where
    front : (parts : List (List ℕ)) → list_any starts_with_dot (Rattle.disk_model.specs.Path.with_front 46 parts) ≡ true
    front [] = refl
    front (part ∷ parts) = refl

pub hidden-here : (path rest : List ℕ) → IsHiddenLeft path rest → starts_with_dot rest ≡ true → is_hidden path ≡ true
hidden-here path rest is dot = is.same ∙ dot_first rest dot

-- ---- paths of records

part_Decides : (part : List ℕ) → Decides (not (ends_with nat_eq part lost_suffix)) (¬ (EndsWith lost_suffix part))
part_Decides part =
    let end = ends_is Decides-eqb part lost_suffix (ends_with nat_eq part lost_suffix) refl in
    not_Decides _ ((λ e. (_, end.0 e), λ h. end.1 h.0 h.1))

parts_Decides : (parts : List (List ℕ)) → Decides (list_all (λ part. not (ends_with nat_eq part lost_suffix)) parts) (AllByRecursion (λ (part : List ℕ). ¬ (EndsWith lost_suffix part)) parts)
parts_Decides [] = ((λ _. tt), λ _. refl)
parts_Decides (part ∷ parts) = cases (not (ends_with nat_eq part lost_suffix)) (list_all (λ p. not (ends_with nat_eq p lost_suffix)) parts) (part_Decides part) (parts_Decides parts)
  where
    cases : {P Q : Type 0} (a b : Bool) → Decides a P → Decides b Q → Decides (a && b) (P × Q)
    cases true true p q = ((λ _. (p.0 refl, q.0 refl)), λ _. refl)
    cases true false p q = ((λ (wrong : false ≡ true). cc), λ both. q.1 both.1)
    cases false b p q = ((λ (wrong : false ≡ true). cc), λ both. p.1 both.0)

pub recordable : (path : List ℕ) (r : Bool) → (IsTrue r ↔ IsRecordPath path) → IsValidPath path → r ≡ is_recordable path
recordable path true is valid =
    let all = (is.0 refl).not_lost in
    let short : length path ≤ 4082 = (is.0 refl).short in
    let parts : list_all (λ part. not (ends_with nat_eq part lost_suffix)) (components path) ≡ true = (parts_Decides (components path)).1 all in
    let within : nat_le (length path) 4082 ≡ true = grind (arith, nat_tests) in
    rw (within, parts) refl
recordable path false is valid = cases (nat_le (length path) 4082) refl (list_all (λ part. not (ends_with nat_eq part lost_suffix)) (components path)) (parts_Decides (components path))
  where
    cases : (a : Bool) → nat_le (length path) 4082 ≡ a → (b : Bool) → Decides b (AllByRecursion (λ (part : List ℕ). ¬ (EndsWith lost_suffix part)) (components path)) → false ≡ a && b
    cases true short true all =
        let within : length path ≤ 4082 = grind (arith, nat_tests) in
        let wrong : IsTrue false = is.1 (record { valid = valid; short = within; not_lost = all.0 refl }) in
        absurd (cc)
    cases true short false all = refl
    cases false short b all = refl
