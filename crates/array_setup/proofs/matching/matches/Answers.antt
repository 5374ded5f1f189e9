use Rattle.std.proofs.Common.{◌≡◌, ◌≢◌, ℕ, List, [], ◌∷◌, ◌++◌, Some, None, IsTrue, sym, ap, ◌∙◌, subst, arith}
use Rattle.std.proofs.lemmas.Str.Pattern.{strip_prefix_char, strip_suffix_char}
use Rattle.std.specs.List.{list_any}
use Rattle.disk_model.specs.Path.{components}
use Rattle.array_setup.specs.Glob.{fits_text}
use Rattle.array_setup.specs.Matching.{matches, matches_below, matches_name, parts_before_last}
use Rattle.array_setup.specs.Pattern.{is_pattern}
use Rattle.array_setup.proofs.MatchingLemmas.{more_than_slash, matches-root, matches-directory, matches-name}
use Rattle.array_setup.proofs.matching.matches.Goals as goal

pub returns-in-Some : goal.returns-in-Some
returns-in-Some c =
    let below = c.in-Some.below.now in
    let spelled : c.args.pattern.now ≡ 47 ∷ below =
    sym c.as_str-text.ensures.value ∙ strip_prefix_char 47 c.as_str-text.result.now (Some c.in-Some.below) c.in-Some.ensures.cases (omega arith) in
    let some : below ≢ [] = more_than_slash below (subst (λ p. IsTrue (is_pattern p)) spelled c.as_str-text.ensures.valid) in
    c.fits_below.ensures ∙ ap (matches_below below) c.as_str-path.ensures.value ∙ sym (ap (λ p. matches p c.args.path.now) spelled ∙ matches-root below c.args.path.now some)

pub returns-in-Some-strip_suffix : goal.returns-in-Some-strip_suffix
returns-in-Some-strip_suffix c =
    let text = c.as_str-text.result.now in
    let front = c.in-Some-strip_suffix.directory.now in
    let none : (rest : List ℕ) → text ≢ 47 ∷ rest = strip_prefix_char 47 text None c.in-None.ensures.cases (omega arith) in
    let spelled : text ≡ front ++ 47 ∷ [] = strip_suffix_char 47 text (Some c.in-Some-strip_suffix.directory) c.in-Some-strip_suffix.ensures.cases (omega arith) in
    c.fits_directory.ensures ∙ ap (λ p. list_any (fits_text front) (parts_before_last (components p))) c.as_str-path.ensures.value
    ∙ sym (matches-directory text front c.args.path.now none spelled) ∙ ap (λ p. matches p c.args.path.now) c.as_str-text.ensures.value

pub returns-in-None-strip_suffix : goal.returns-in-None-strip_suffix
returns-in-None-strip_suffix c =
    let text = c.as_str-text.result.now in
    let none : (rest : List ℕ) → text ≢ 47 ∷ rest = strip_prefix_char 47 text None c.in-None.ensures.cases (omega arith) in
    let none' : (front : List ℕ) → text ≢ front ++ 47 ∷ [] = strip_suffix_char 47 text None c.in-None-strip_suffix.ensures.cases (omega arith) in
    c.fits.ensures ∙ ap (fits_text text) c.last_component.ensures.value ∙ ap (matches_name text) c.as_str-path.ensures.value
    ∙ sym (matches-name text c.args.path.now none none') ∙ ap (λ p. matches p c.args.path.now) c.as_str-text.ensures.value
