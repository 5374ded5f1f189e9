-- Lemmas on tests.
use Rattle.std.proofs.Common.{◌≡◌, Bool, true, false, ◌&&◌, ◌||◌, not, Decides, refl, sym}

pub first_false : (a b : Bool) → a || b ≡ false → a ≡ false
first_false true b h = h
first_false false b h = refl

pub rest_false : (a b : Bool) → a || b ≡ false → b ≡ false
rest_false true b h = absurd (cc)
rest_false false b h = h

pub and_false : (a : Bool) → (a && false) ≡ false
and_false true = refl
and_false false = refl

pub and_swap : (a b c : Bool) → (a && (b && c)) ≡ (b && (a && c))
and_swap true b c = refl
and_swap false true c = refl
and_swap false false c = refl

pub or_true : (a : Bool) → (a || true) ≡ true
or_true true = refl
or_true false = refl

pub or_less : (a b : Bool) → (b ≡ true → a ≡ true) → (a || b) ≡ a
or_less true b implies = refl
or_less false true implies = sym (implies refl)
or_less false false implies = refl

-- one test and either of two
pub and_or : (a b n d : Bool) → ((a && b) || (n && (a && d))) ≡ (a && (b || (n && d)))
and_or true b n d = refl
and_or false b true d = refl
and_or false b false d = refl

pub or_and : (a b d : Bool) → ((b && a) || (d && a)) ≡ ((b || d) && a)
or_and a true d = rest a d
  where
    rest : (a d : Bool) → (a || (d && a)) ≡ a
    rest true d = refl
    rest false true = refl
    rest false false = refl
or_and a false d = refl

pub and_assoc : (a b c : Bool) → (a && (b && c)) ≡ ((a && b) && c)
and_assoc true b c = refl
and_assoc false b c = refl

-- two tests that tell the same
pub same_tests : {P Q : Type 0} (a b : Bool) → Decides a P → Decides b Q → (P → Q) → (Q → P) → a ≡ b
same_tests true b p q onward back = sym (q.1 (onward (p.0 refl)))
same_tests false true p q onward back = p.1 (back (q.0 refl))
same_tests false false p q onward back = refl

-- the other test
pub not_Decides : {P : Type 0} (b : Bool) → Decides b P → Decides (not b) (¬ P)
not_Decides true is = ((λ (wrong : false ≡ true). absurd (cc)), λ none. absurd (none (is.0 refl)))
not_Decides false is = ((λ _. λ holds. let wrong : false ≡ true = is.1 holds in cc), λ _. refl)

pub not_true : (b : Bool) → (b ≡ true → ⊥) → b ≡ false
not_true true wrong = absurd (wrong refl)
not_true false wrong = refl
