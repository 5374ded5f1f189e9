-- Stripes in ascending order: the first ones of them come before the others.
use Rattle.std.proofs.Common.{ℕ, ◌<◌, List, ◌++◌, length, sym, subst}
use Rattle.std.proofs.Math.Seq.{take-append_seam}
use Rattle.std.proofs.lemmas.List.Elements.{Contains-append_left}
use Rattle.std.proofs.lemmas.List.{map-append}
use Rattle.file_table.proofs.ListFacts.{AllPairs-take}
use Rattle.stripe_examiner.specs.Facts.{StripeFacts}
use Rattle.snap_fix.specs.FixRun.{AreAscending}
use Rattle.stripe_examiner.specs.Looking.{numbers_of}
use Rattle.snap_fix.proofs.FixAllLemmas.{precede}
use Rattle.snap_fix.proofs.MendedVaultLemmas.{Precede}

-- the first numbers ascend as all do
pub front_ascending : (front back : List ℕ) → AreAscending (front ++ back) → AreAscending front
front_ascending front back ascending = subst AreAscending (take-append_seam front back) (AllPairs-take (λ (a b : ℕ). a < b) (length front) (front ++ back) ascending)

-- of ascending stripes the first ones come before those behind the next ones
pub precede_ahead : (xs ys zs : List StripeFacts) → AreAscending ((numbers_of xs ++ numbers_of ys) ++ numbers_of zs) → Precede xs zs
precede_ahead xs ys zs ascending one other first second =
    precede (xs ++ ys) zs (subst (λ (its : List ℕ). AreAscending (its ++ numbers_of zs)) (sym (map-append (λ (it : StripeFacts). it.stripe) xs ys)) ascending)
    one other (Contains-append_left xs ys one first) second
