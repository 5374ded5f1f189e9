-- More bytes behind those that were read change nothing, but for a field that was cut off.
use Rattle.std.proofs.Common.{◌≡◌, ◌≢◌, ℕ, zero, suc, ◌≤◌, Bool, true, false, cond, ltb, List, [], ◌∷◌, ◌++◌, length, take, drop, Option, Some, None, refl, sym, ap, subst, arith}
use Rattle.std.specs.Int.{Width, w16, byte_len, from_le_bytes}
use Rattle.std.proofs.lemmas.Bool.{ltb-false, le-ltb}
use Rattle.std.proofs.lemmas.List.{length-append, take-append-le, drop-append-le}
use Rattle.content_file.specs.Reading.{byte_at, number_at, piece_at, short_text_at, long_text_at}
use Rattle.content_file.specs.Flaw.{Flaw, Short, Read, Good, Bad, ◌>>=◌, and_then, found_or, passed_or}
use Rattle.content_file.specs.FirstFlaw.{read_many}
use Rattle.content_file.proofs.Fields.{bind_some, guard_false, some_is}

-- what was read, and the bytes after it with more behind
abbrev pub with_more : {X : Type 0} → List ℕ → X × List ℕ → X × List ℕ
with_more more x = (x.0, x.1 ++ more)

-- the longer reading finds the same, and the same flaw unless that was a field cut off
unfoldable pub Stays : {A : Type 0} → (A → A) → List ℕ → Read A → Read A → Type 0
Stays extended more (Good x) longer = longer ≡ Good (extended x)
Stays extended more (Bad why field) longer = why ≢ Short → longer ≡ Bad why (field ++ more)

-- the longer reading finds the same flaw, unless that was a field cut off
unfoldable pub KeepsFlaw : {A : Type 0} → List ℕ → Read A → Read A → Type 0
KeepsFlaw more (Good x) longer = Unit {0}
KeepsFlaw more (Bad why field) longer = why ≢ Short → longer ≡ Bad why (field ++ more)

-- ---- steps

pub stays_good : {A : Type 0} (extended : A → A) (more : List ℕ) (x : A) → Stays extended more (Good x) (Good (extended x))
unfolding Stays
stays_good extended more x = refl

pub stays_then : {A B : Type 0} (extended : A → A) (after : B → B) (more : List ℕ) (r s : Read A) (f g : A → Read B) → Stays extended more r s
    → ((x : A) → Stays after more (f x) (g (extended x))) → Stays after more (r >>= f) (s >>= g)
unfolding Stays and_then
stays_then extended after more (Good x) s f g e go = subst (λ t. Stays after more (f x) (t >>= g)) (sym e) (go x)
stays_then extended after more (Bad why field) s f g e go = λ other. ap (λ t. t >>= g) (e other)

pub keeps_then : {A B : Type 0} (extended : A → A) (more : List ℕ) (r s : Read A) (f g : A → Read B) → Stays extended more r s
    → ((x : A) → r ≡ Good x → KeepsFlaw more (f x) (g (extended x))) → KeepsFlaw more (r >>= f) (s >>= g)
unfolding Stays KeepsFlaw and_then
keeps_then extended more (Good x) s f g e go = subst (λ t. KeepsFlaw more (f x) (t >>= g)) (sym e) (go x refl)
keeps_then extended more (Bad why field) s f g e go = λ other. ap (λ t. t >>= g) (e other)

pub keeps_last : {A B : Type 0} (more : List ℕ) (r s : Read A) (y : B) → KeepsFlaw more r s → KeepsFlaw more (r >>= λ _. Good y) (s >>= λ _. Good y)
unfolding KeepsFlaw and_then
keeps_last more (Good x) s y e = tt
keeps_last more (Bad why field) s y e = λ other. ap (λ t. t >>= λ _. Good y) (e other)

-- a field that may be cut off, and fields that are tested
abbrev pub FindsMore : {A : Type 0} → (A → A) → Option A → Option A → Type 0
FindsMore {A} extended found longer = (x : A) → found ≡ Some x → longer ≡ Some (extended x)

pub stays_found : {A : Type 0} (extended : A → A) (more field after : List ℕ) (found longer : Option A) → FindsMore extended found longer
    → Stays extended more (found_or Short field found) (found_or Short after longer)
unfolding Stays found_or
stays_found extended more field after (Some x) longer finds = ap (found_or Short after) (finds x refl)
stays_found extended more field after None longer finds = λ other. absurd (other refl)

pub stays_known : {A : Type 0} (more : List ℕ) (why : Flaw) (field : List ℕ) (found : Option A) → Stays (λ x. x) more (found_or why field found) (found_or why (field ++ more) found)
unfolding Stays found_or
stays_known more why field (Some x) = refl
stays_known more why field None = λ _. refl

pub stays_allowed : {A : Type 0} (extended : A → A) (more : List ℕ) (why : Flaw) (field : List ℕ) (refused : Bool) (x : A)
    → Stays extended more (found_or why field (cond refused None (Some x))) (found_or why (field ++ more) (cond refused None (Some (extended x))))
unfolding Stays found_or
stays_allowed extended more why field true x = λ _. refl
stays_allowed extended more why field false x = refl

pub stays_passed : {A : Type 0} (extended : A → A) (more : List ℕ) (why : Flaw) (field : List ℕ) (passes : Bool) (x : A)
    → Stays extended more (passed_or why field passes x) (passed_or why (field ++ more) passes (extended x))
unfolding Stays passed_or
stays_passed extended more why field true x = refl
stays_passed extended more why field false x = λ _. refl

-- the same, where test and place are known by equations
pub stays_tested : {A : Type 0} (extended : A → A) (more : List ℕ) (why : Flaw) (field after : List ℕ) (passes again : Bool) (x : A) → after ≡ field ++ more → again ≡ passes
    → Stays extended more (passed_or why field passes x) (passed_or why after again (extended x))
stays_tested extended more why field after passes again x place test =
    subst (λ (f : List ℕ). Stays extended more (passed_or why field passes x) (passed_or why f again (extended x))) (sym place)
    (subst (λ (b : Bool). Stays extended more (passed_or why field passes x) (passed_or why (field ++ more) b (extended x))) (sym test) (stays_passed extended more why field passes x))

pub many_stay : {A : Type 0} (more : List ℕ) (next : List A → List ℕ → Read (A × List ℕ)) → ((before : List A) (bytes : List ℕ) → Stays (with_more more) more (next before bytes) (next before (bytes ++ more)))
    → (n : ℕ) (before : List A) (bytes : List ℕ) → Stays (with_more more) more (read_many next n before bytes) (read_many next n before (bytes ++ more))
unfolding read_many
many_stay more next step zero before bytes = stays_good (with_more more) more (before, bytes)
many_stay more next step (suc n) before bytes =
    stays_then (with_more more) (with_more more) more _ _ _ _ (step before bytes) (λ part. many_stay more next step n (before ++ part.0 ∷ []) part.1)

-- ---- what stands at the front of more bytes

pub byte_more : (bytes more : List ℕ) → FindsMore (with_more more) (byte_at bytes) (byte_at (bytes ++ more))
byte_more [] more x e = absurd cc
byte_more (byte ∷ bytes) more x e = ap (λ (p : ℕ × List ℕ). Some (with_more more p)) (some_is (byte, bytes) x e)

pub number_more : (w : Width) (bytes more : List ℕ) → FindsMore (with_more more) (number_at w bytes) (number_at w (bytes ++ more))
number_more w bytes more x e =
    let g = guard_false (ltb (length bytes) (byte_len w)) (from_le_bytes w (take (byte_len w) bytes), drop (byte_len w) bytes) x e in
    let long : byte_len w ≤ length bytes = ltb-false _ _ g.0 in
    let longer : ltb (length (bytes ++ more)) (byte_len w) ≡ false = le-ltb _ _ (omega (arith, long, length-append bytes more)) in
    rw (longer, take-append-le (byte_len w) bytes more long, drop-append-le (byte_len w) bytes more long) (ap (λ (p : ℕ × List ℕ). Some (with_more more p)) g.1)

pub piece_more : (n : ℕ) (bytes more : List ℕ) → FindsMore (with_more more) (piece_at n bytes) (piece_at n (bytes ++ more))
piece_more n bytes more x e =
    let g = guard_false (ltb (length bytes) n) (take n bytes, drop n bytes) x e in
    let long : n ≤ length bytes = ltb-false _ _ g.0 in
    let longer : ltb (length (bytes ++ more)) n ≡ false = le-ltb _ _ (omega (arith, long, length-append bytes more)) in
    rw (longer, take-append-le n bytes more long, drop-append-le n bytes more long) (ap (λ (p : List ℕ × List ℕ). Some (with_more more p)) g.1)

pub short_text_more : (bytes more : List ℕ) → FindsMore (with_more more) (short_text_at bytes) (short_text_at (bytes ++ more))
unfolding short_text_at
short_text_more bytes more x e =
    let a = bind_some (byte_at bytes) (λ n. piece_at n.0 n.1) x e in
    rw (byte_more bytes more a.0 a.1) (piece_more a.0.0 a.0.1 more x a.2)

pub long_text_more : (bytes more : List ℕ) → FindsMore (with_more more) (long_text_at bytes) (long_text_at (bytes ++ more))
unfolding long_text_at
long_text_more bytes more x e =
    let a = bind_some (number_at w16 bytes) (λ n. piece_at n.0 n.1) x e in
    rw (number_more w16 bytes more a.0 a.1) (piece_more a.0.0 a.0.1 more x a.2)
