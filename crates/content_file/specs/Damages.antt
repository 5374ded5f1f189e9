-- The damaged copies of a content file: the number of each, from 0, and its first wrong field.
use Rattle.std.specs.Prelude.{ℕ, zero, suc, List, [], ◌∷◌, ◌++◌, Option, None, Some}
use Rattle.disk_model.specs.Files.{Files, content_of}
use Rattle.content_file.specs.Flaw.{Short, Damage}
use Rattle.content_file.specs.FirstFlaw.{first_flaw}

-- what stands for a damaged copy that is not listed
abbrev pub no_damage : ℕ × Damage
no_damage = (0, record { offset = 0; why = Short })

-- a copy that holds these bytes, or none, where they have a wrong field
abbrev pub with_flaw : ℕ → Option Damage → List (ℕ × Damage)
with_flaw copy None = []
with_flaw copy (Some damage) = (copy, damage) ∷ []

abbrev pub damage_in : ℕ → Option (List ℕ) → List (ℕ × Damage)
damage_in copy None = []
damage_in copy (Some bytes) = with_flaw copy (first_flaw bytes)

-- the damaged ones of the first copies, in order
abbrev pub damages_below : ℕ → Files → List (ℕ × Damage)
damages_below zero files = []
damages_below (suc n) files = damages_below n files ++ damage_in n (content_of files n)
