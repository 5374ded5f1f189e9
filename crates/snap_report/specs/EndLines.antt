-- The last lines of the commands; that of `sync` is in Text. The words stay as they are for the number 1.
use Rattle.std.specs.Prelude.{ℕ, List, [], ◌∷◌, codes}
use Rattle.std.specs.Fmt.{decimal}
use Rattle.snap_report.specs.EventLines.{joined}

-- how many stripes were checked, and how many findings there are
abbrev pub scrub_text : ℕ → ℕ → List ℕ
scrub_text checked findings = joined (codes "scrub: " ∷ decimal checked ∷ codes " stripes checked, " ∷ decimal findings ∷ codes " findings\n" ∷ [])

abbrev pub check_text : ℕ → List ℕ
check_text findings = joined (codes "check: " ∷ decimal findings ∷ codes " findings\n" ∷ [])

-- how many blocks of files and of levels were written anew, and how many findings are left
abbrev pub fix_text : ℕ → ℕ → ℕ → List ℕ
fix_text blocks parities left = joined (codes "fix: " ∷ decimal blocks ∷ codes " blocks and " ∷ decimal parities ∷ codes " parities fixed, "
    ∷ decimal left ∷ codes " findings left\n" ∷ [])
