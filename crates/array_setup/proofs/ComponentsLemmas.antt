-- The components and the directories of a path, cut at a slash.
use Rattle.std.proofs.Common.{◌≡◌, ℕ, List, [], ◌∷◌, ◌++◌, map, Bool, true, false, ◌==◌, if◌then◌else◌, refl, sym, ap}
use Rattle.disk_model.specs.Path.{components, with_front}
use Rattle.array_setup.proofs.BoolLemmas.{first_false, rest_false}
use Rattle.array_setup.specs.Matching.{last_part, parts_before_last, directories}
use Rattle.array_setup.specs.Pattern.{has_byte}

-- the components of a path are at least one
pub first_component : (path : List ℕ) → (part : List ℕ) × (parts : List (List ℕ)) × (components path ≡ part ∷ parts)
first_component [] = ([], [], refl)
first_component (b ∷ path) = cases (b == 47) (components path) (first_component path)
  where
    front : (parts : List (List ℕ)) → (part : List ℕ) × (more : List (List ℕ)) × (with_front b parts ≡ part ∷ more)
    front [] = (b ∷ [], [], refl)
    front (part ∷ parts) = (b ∷ part, parts, refl)

    cases : (is : Bool) (parts : List (List ℕ)) → (part : List ℕ) × (more : List (List ℕ)) × (parts ≡ part ∷ more)
        → (part : List ℕ) × (more : List (List ℕ)) × ((if is then [] ∷ parts else with_front b parts) ≡ part ∷ more)
    cases true parts some = ([], parts, refl)
    cases false parts some = front parts

front-append : (b : ℕ) (path : List ℕ) (parts : List (List ℕ)) → with_front b (components path) ++ parts ≡ with_front b (components path ++ parts)
front-append b path parts = let some = first_component path in rw some.2 refl

pub components-slash : (path rest : List ℕ) → components (path ++ 47 ∷ rest) ≡ components path ++ components rest
components-slash [] rest = refl
components-slash (b ∷ path) rest = rw (components-slash path rest) (cases (b == 47))
  where
    cases : (is : Bool) → (if is then [] ∷ (components path ++ components rest) else with_front b (components path ++ components rest))
        ≡ (if is then [] ∷ components path else with_front b (components path)) ++ components rest
    cases true = refl
    cases false = sym (front-append b path (components rest))

pub components-alone : (path : List ℕ) → has_byte 47 path ≡ false → components path ≡ path ∷ []
components-alone [] none = refl
components-alone (b ∷ path) none =
    let other : b == 47 ≡ false = first_false (b == 47) (has_byte 47 path) none in
    rw (other, components-alone path (rest_false (b == 47) (has_byte 47 path) none)) refl

-- the last part of a list, and those before it
last_part-append : (parts : List (List ℕ)) (part : List ℕ) → last_part (parts ++ part ∷ []) ≡ part
last_part-append [] part = refl
last_part-append (first ∷ []) part = refl
last_part-append (first ∷ second ∷ parts) part = last_part-append (second ∷ parts) part

pub last_component : (path rest : List ℕ) → has_byte 47 rest ≡ false → last_part (components (path ++ 47 ∷ rest)) ≡ rest
last_component path rest none = rw (components-slash path rest, components-alone rest none) (last_part-append (components path) rest)

pub last_component-alone : (path : List ℕ) → has_byte 47 path ≡ false → last_part (components path) ≡ path
last_component-alone path none = rw (components-alone path none) refl

pub before_last-alone : (path : List ℕ) → has_byte 47 path ≡ false → parts_before_last (components path) ≡ []
before_last-alone path none = rw (components-alone path none) refl

pub before_last-slash : (path rest : List ℕ) → has_byte 47 path ≡ false → parts_before_last (components (path ++ 47 ∷ rest)) ≡ path ∷ parts_before_last (components rest)
before_last-slash path rest none =
    let some = first_component rest in
    rw (components-slash path rest, components-alone path none, some.2) refl

-- the directories of a path
pub directories-alone : (path : List ℕ) → has_byte 47 path ≡ false → directories path ≡ []
directories-alone [] none = refl
directories-alone (b ∷ path) none =
    let other : b == 47 ≡ false = first_false (b == 47) (has_byte 47 path) none in
    rw (other, directories-alone path (rest_false (b == 47) (has_byte 47 path) none)) refl

pub directories-slash : (path rest : List ℕ) → has_byte 47 path ≡ false → directories (path ++ 47 ∷ rest) ≡ path ∷ map (λ d. path ++ 47 ∷ d) (directories rest)
directories-slash [] rest none = refl
directories-slash (b ∷ path) rest none =
    let other : b == 47 ≡ false = first_false (b == 47) (has_byte 47 path) none in
    rw (other, directories-slash path rest (rest_false (b == 47) (has_byte 47 path) none)) (ap (λ ds. (b ∷ path) ∷ ds) (map_map (directories rest)))
  where
    map_map : (ds : List (List ℕ)) → map (λ d. b ∷ d) (map (λ d. path ++ 47 ∷ d) ds) ≡ map (λ d. (b ∷ path) ++ 47 ∷ d) ds
    map_map [] = refl
    map_map (d ∷ ds) = ap (λ more. ((b ∷ path) ++ 47 ∷ d) ∷ more) (map_map ds)
