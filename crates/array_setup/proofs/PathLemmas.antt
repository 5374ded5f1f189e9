-- The steps along a path.
use Rattle.std.proofs.Common.{◌≡◌, ◌≢◌, ℕ, ◌+◌, ◌<◌, List, [], ◌∷◌, ◌++◌, length, get_or, take, drop, true, false, ◌==◌, ◌&&◌, ◌||◌, None, Some, IsUtf8, IsCharBoundary, refl, sym, ap, ◌∙◌, arith, add-one, length-drop, get_or-drop, drop-cons}
use Rattle.memchr.specs.Find.{IsLastByte, is_byte}
use Rattle.std.proofs.lemmas.Bool.Decides.{nat_tests}
use Rattle.std.proofs.lemmas.List.{take-append-drop}
use Rattle.std.proofs.lemmas.Str.{IsCharBoundary-after_ascii}
use Rattle.std.specs.List.{list_any}
use Rattle.disk_model.specs.Path.{components}
use Rattle.array_setup.proofs.ComponentsLemmas.{before_last-alone, before_last-slash, last_component, last_component-alone}
use Rattle.array_setup.proofs.MatchingLemmas.{IsPart, below-last, below-next, below-short, below-long, below-alone}
use Rattle.array_setup.proofs.TextLemmas.{has_byte-reads}
use Rattle.array_setup.specs.Glob.{fits_text}
use Rattle.array_setup.specs.Matching.{last_part, parts_before_last, matches_below}
use Rattle.array_setup.specs.Pattern.{has_byte}
use Rattle.array_setup.specs.Walk.{IsCut}

-- what is left has a directory that fits just where the whole has
pub record IsDirectoryLeft (pattern path rest : List ℕ) : Type 0 where
  pub rest_text : IsUtf8 rest
  pub same : list_any (fits_text pattern) (parts_before_last (components path)) ≡ list_any (fits_text pattern) (parts_before_last (components rest))

directory_step : (pattern path rest component after : List ℕ) → IsDirectoryLeft pattern path rest → IsCut 47 rest component after
    → list_any (fits_text pattern) (parts_before_last (components path)) ≡ fits_text pattern component || list_any (fits_text pattern) (parts_before_last (components after))
directory_step pattern path rest component after is cut = is.same ∙ rw (cut.spelled, before_last-slash component after cut.first) refl

pub directory-fits : (pattern path rest component after : List ℕ) → IsDirectoryLeft pattern path rest → IsCut 47 rest component after → fits_text pattern component ≡ true
    → list_any (fits_text pattern) (parts_before_last (components path)) ≡ true
directory-fits pattern path rest component after is cut fits = directory_step pattern path rest component after is cut ∙ ap (λ b. b || list_any (fits_text pattern) (parts_before_last (components after))) fits

pub directory-next : (pattern path rest component after : List ℕ) → IsDirectoryLeft pattern path rest → IsCut 47 rest component after → fits_text pattern component ≡ false
    → IsDirectoryLeft pattern path after
directory-next pattern path rest component after is cut fits =
    record { rest_text = cut.back; same = directory_step pattern path rest component after is cut ∙ ap (λ b. b || list_any (fits_text pattern) (parts_before_last (components after))) fits }

pub directory-done : (pattern path rest : List ℕ) → IsDirectoryLeft pattern path rest → has_byte 47 rest ≡ false
    → list_any (fits_text pattern) (parts_before_last (components path)) ≡ false
directory-done pattern path rest is none = is.same ∙ rw (before_last-alone rest none) refl

-- what is left of a pattern below the root matches what is left of the path just where the whole does
pub record IsBelowLeft (pattern path wanted rest : List ℕ) : Type 0 where
  pub wanted_text : IsUtf8 wanted
  pub rest_text : IsUtf8 rest
  pub some : wanted ≢ []
  pub same : matches_below pattern path ≡ matches_below wanted rest

front : (whole part after : List ℕ) → IsCut 47 whole part after → IsPart part
front whole part after cut = record { text = cut.front; plain = cut.first }

pub below_left-done : (pattern path wanted rest : List ℕ) → IsBelowLeft pattern path wanted rest → has_byte 47 wanted ≡ false → matches_below pattern path ≡ fits_text wanted rest
below_left-done pattern path wanted rest is none = is.same ∙ below-alone wanted rest none

pub below_left-short : (pattern path wanted rest component after : List ℕ) → IsBelowLeft pattern path wanted rest → has_byte 47 wanted ≡ false → IsCut 47 rest component after
    → matches_below pattern path ≡ false
below_left-short pattern path wanted rest component after is none cut =
    is.same ∙ ap (matches_below wanted) cut.spelled ∙ below-short wanted component after (record { text = is.wanted_text; plain = none }) (front rest component after cut)

pub below_left-long : (pattern path wanted rest part after : List ℕ) → IsBelowLeft pattern path wanted rest → IsCut 47 wanted part after → has_byte 47 rest ≡ false
    → matches_below pattern path ≡ false
below_left-long pattern path wanted rest part after is cut none =
    is.same ∙ ap (λ w. matches_below w rest) cut.spelled ∙ below-long part after rest (front wanted part after cut) (record { text = is.rest_text; plain = none })

pub below_left-last : (pattern path wanted rest part component after : List ℕ) → IsBelowLeft pattern path wanted rest → IsCut 47 wanted part [] → IsCut 47 rest component after
    → matches_below pattern path ≡ fits_text part component
below_left-last pattern path wanted rest part component after is cut cut' =
    is.same ∙ rw (cut.spelled, cut'.spelled) (below-last part component after (front wanted part [] cut) (front rest component after cut'))

below_step : (pattern path wanted rest part wanted_after component after : List ℕ) → IsBelowLeft pattern path wanted rest → IsCut 47 wanted part wanted_after → wanted_after ≢ []
    → IsCut 47 rest component after → matches_below pattern path ≡ (fits_text part component && matches_below wanted_after after)
below_step pattern path wanted rest part wanted_after component after is cut some cut' =
    is.same ∙ rw (cut.spelled, cut'.spelled) (below-next part wanted_after component after (front wanted part wanted_after cut) (front rest component after cut') cut.back some)

pub below_left-next : (pattern path wanted rest part wanted_after component after : List ℕ) → IsBelowLeft pattern path wanted rest → IsCut 47 wanted part wanted_after → wanted_after ≢ []
    → IsCut 47 rest component after → fits_text part component ≡ true → IsBelowLeft pattern path wanted_after after
below_left-next pattern path wanted rest part wanted_after component after is cut some cut' fits =
    record {
      wanted_text = cut.back;
      rest_text = cut'.back;
      some = some;
      same = below_step pattern path wanted rest part wanted_after component after is cut some cut' ∙ ap (λ b. b && matches_below wanted_after after) fits;
    }

-- where the first parts don't fit, nothing does
pub below_left-other : (pattern path wanted rest part wanted_after component after : List ℕ) → IsBelowLeft pattern path wanted rest → IsCut 47 wanted part wanted_after
    → IsCut 47 rest component after → fits_text part component ≡ false → matches_below pattern path ≡ false
below_left-other pattern path wanted rest part [] component after is cut cut' fits = below_left-last pattern path wanted rest part component after is cut cut' ∙ fits
below_left-other pattern path wanted rest part (b ∷ wanted_after) component after is cut cut' fits =
    below_step pattern path wanted rest part (b ∷ wanted_after) component after is cut (λ wrong. cc) cut' ∙ ap (λ x. x && matches_below (b ∷ wanted_after) after) fits

-- ---- the last slash of a path

-- where the last slash stands, and that none follows
pub record IsLastSlash (path : List ℕ) (slash : ℕ) : Type 0 where
  pub within : slash < length path
  pub here : get_or path slash 0 ≡ 47
  pub last : has_byte 47 (drop (slash + 1) path) ≡ false

pub no_slash : (path : List ℕ) → IsLastByte (is_byte 47) path None → has_byte 47 path ≡ false
no_slash path nowhere = has_byte-reads 47 path (λ i below is. nowhere i (omega arith) below (rw is refl))

pub last_slash : (path : List ℕ) (slash : ℕ) → IsLastByte (is_byte 47) path (Some slash) → IsLastSlash path slash
last_slash path slash found =
    record {
      within = found.0.high;
      here = let passes : get_or path slash 0 == 47 ≡ true = found.1 in grind (arith, nat_tests);
      last = has_byte-reads 47 (drop (slash + 1) path) (λ i below is.
          let within : slash + 1 + i < length path = omega (arith, below, length-drop (slash + 1) path) in
          let there : get_or path (slash + 1 + i) 0 ≡ 47 = sym (get_or-drop (slash + 1) path i 0) ∙ is in
          found.0.after (slash + 1 + i) (omega arith) within (rw there refl));
    }

pub boundary : (path : List ℕ) (slash : ℕ) → IsUtf8 path → IsLastSlash path slash → IsCharBoundary path (slash + 1)
boundary path slash utf8 is = IsCharBoundary-after_ascii path slash utf8 is.within (omega (arith, is.here))

-- what follows the last slash is the last component
pub behind_last : (path : List ℕ) (slash : ℕ) → IsLastSlash path slash → drop (slash + 1) path ≡ last_part (components path)
behind_last path slash is =
    let spelled : path ≡ take slash path ++ 47 ∷ drop (slash + 1) path =
    sym (take-append-drop slash path) ∙ ap (λ rest. take slash path ++ rest) (drop-cons path slash 0 is.within ∙ rw (is.here, add-one) refl) in
    sym (ap (λ p. last_part (components p)) spelled ∙ last_component (take slash path) (drop (slash + 1) path) is.last)

pub alone : (path : List ℕ) → has_byte 47 path ≡ false → path ≡ last_part (components path)
alone path none = sym (last_component-alone path none)
