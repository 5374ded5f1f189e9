-- What one line makes of a builder.
use Rattle.std.proofs.Common.{◌≡◌, ℕ, List, true, false, if◌then◌else◌, Ok, Err, IsUtf8, refl, sym, ap, ◌∙◌}
use Rattle.std.proofs.lemmas.Str.{IsUtf8-from_is_utf8, is_utf8-from_IsUtf8}
use Rattle.std.specs.Str.{is_utf8}
use Rattle.array_setup.proofs.BoolLemmas.{not_true}
use Rattle.snap_config.specs.Builder.{BuilderValue, take_content, take_line}
use Rattle.snap_config.specs.Line.{content_of, is_skipped}
use Rattle.snap_config.specs.declared.why.Why.TheVariants.{Utf8}

pub line-not_utf8 : (line : List ℕ) (builder : BuilderValue) → (IsUtf8 line → ⊥) → take_line line builder ≡ Err Utf8
line-not_utf8 line builder wrong = rw (not_true (is_utf8 line) (λ is. wrong (IsUtf8-from_is_utf8 line is))) refl

line_text : (line : List ℕ) (builder : BuilderValue) → IsUtf8 line → take_line line builder ≡ (if is_skipped (content_of line) then Ok builder else take_content (content_of line) builder)
line_text line builder utf8 = rw (is_utf8-from_IsUtf8 line utf8) refl

pub line-skipped : (line text content : List ℕ) (builder : BuilderValue) → IsUtf8 line → text ≡ line → content ≡ content_of text → is_skipped content ≡ true → take_line line builder ≡ Ok builder
line-skipped line text content builder utf8 same is skipped =
    line_text line builder utf8 ∙ ap (λ b. if b then Ok builder else take_content (content_of line) builder) (ap is_skipped (sym (is ∙ ap content_of same)) ∙ skipped)

pub line-content : (line text content : List ℕ) (builder : BuilderValue) → IsUtf8 line → text ≡ line → content ≡ content_of text → is_skipped content ≡ false
    → take_line line builder ≡ take_content content builder
line-content line text content builder utf8 same is some =
    let whole : content ≡ content_of line = is ∙ ap content_of same in
    line_text line builder utf8 ∙ ap (λ b. if b then Ok builder else take_content (content_of line) builder) (ap is_skipped (sym whole) ∙ some)
    ∙ ap (λ c. take_content c builder) (sym whole)
