-- Reading the head, and coming to the digest.
use Rattle.std.proofs.Common.{◌≡◌, inl, inr, ℕ, false, List, ◌++◌, length, Option, None, refl, sym, ap, subst, ◌∙◌, arith}
use Rattle.std.proofs.lemmas.List.{length-append}
use Rattle.std.proofs.lemmas.List.Elements.{All-nil}
use Rattle.file_table.specs.Table.{TableValue}
use Rattle.file_table.specs.Valid.{IsWhole}
use Rattle.file_table.specs.Building.{BuildingValue, IsBuilding, new_building}
use Rattle.content_file.specs.declared.head.Head.{Head}
use Rattle.content_file.specs.ReadingOn.{BodyValue}
use Rattle.content_file.specs.declared.fault.Refusal.{Refusal}
use Rattle.content_file.specs.declared.fault.Refusal.TheVariants as refusals
use Rattle.content_file.specs.Head.{head_bytes, IsHead}
use Rattle.content_file.specs.Flaw.{Good, ◌>>=◌}
use Rattle.content_file.specs.Giving.{Refuses}
use Rattle.content_file.specs.FirstFlaw.{read_head, read_end}
use Rattle.content_file.specs.ReadingOn.{read_stripes, read_whole}
use Rattle.content_file.specs.Body.{IsEnded, IsReading, GoesOn, StopsAt, IsAtEnd, StartsWith}
use Rattle.content_file.proofs.Fields.{IsBytes}
use Rattle.content_file.proofs.Whole.{head_takes}
use Rattle.content_file.proofs.TakenHead.{head_found}
use Rattle.content_file.proofs.Stays.{with_more}
use Rattle.content_file.proofs.FlawStays.{head_stays, head_long}
use Rattle.content_file.proofs.Rests.{ends_then}
use Rattle.content_file.proofs.StepLemmas.{then_is, then_bad, stays_is, stripes_end, body_no_records}
use Rattle.content_file.proofs.Steps.{past_on, length_fits}

-- what a head that was read is
pub head_read : (bytes : List ℕ) (head : Head) (rest : List ℕ) → IsBytes bytes → read_head bytes ≡ Good (head, rest) → IsHead head
head_read bytes head rest fits e = (head_takes bytes (head, rest) fits (head_found bytes (head, rest) e)).1

pub head_stop : (bytes : List ℕ) (refusal : Refusal) → Refuses refusal (read_head bytes) → StopsAt None bytes refusal
unfolding read_whole
head_stop bytes (refusals.Flawed why field) read = λ whole. then_bad _ _ why field.now read
head_stop bytes refusals.Length read = absurd read
head_stop bytes refusals.Memory read = tt

abbrev first_body : Head → BuildingValue → BodyValue
first_body head built = record { head = head; builder = built; columns = head.columns; named = false; records = 0; blocks = 0; stripes = head.length; read = 0 }

pub head_starts : (bytes : List ℕ) (head : Head) (rest : List ℕ) (built : BuildingValue) → IsBytes bytes → read_head bytes ≡ Good (head, rest) → built ≡ new_building head.shape head.length → IsBuilding built
    → StartsWith bytes (first_body head built) rest
unfolding read_whole
head_starts bytes head rest built fits read new building =
    let taken = head_takes bytes (head, rest) fits (head_found bytes (head, rest) read) in
    let made = new_building head.shape head.length in
    let longer = length-append (head_bytes head) rest in
    let long = head_long head taken.1.shape.seed.sixteen in
    let start : StartsWith bytes (first_body head made) rest = record {
      reading = record {
        building = subst IsBuilding new building;
        shape = refl;
        same_length = refl;
        lacking = λ some. absurd (omega (arith, some));
        whole = λ _. All-nil (IsWhole head.shape.block_size);
        column = λ either. elim either [ inl named ↦ absurd cc | inr some ↦ absurd (omega (arith, some)) ];
        some = omega (arith, taken.1.some_column);
        room = omega (arith, taken.1.few_columns);
        read = refl;
        few = λ _. omega arith;
        stripes = omega arith;
        infos = inl refl;
      };
      goes_on = record {
        goes = λ whole more.
            then_is _ _ (head, rest ++ more) (stays_is (with_more more) more _ _ (head, rest) (head_stays bytes more) read)
            ∙ sym (body_no_records (first_body head made) whole (rest ++ more) refl refl refl);
        ends = record { before = head_bytes head; parts = taken.0.parts };
      };
      long = omega (arith, ap length taken.0.parts, longer, long);
    } in
    subst (λ (b : BuildingValue). StartsWith bytes (first_body head b) rest) (sym new) start

-- ---- the whole body

pub goes_then : (a b c : Option BodyValue) (x y z : List ℕ) → GoesOn a x b y → GoesOn b y c z → GoesOn a x c z
goes_then a b c x y z first second = record { goes = λ whole more. first.goes whole more ∙ second.goes whole more; ends = ends_then x y z first.ends second.ends }

pub comes_to_end : (body : BodyValue) (rest : List ℕ) → IsReading body → IsEnded body → IsAtEnd body rest
comes_to_end body rest reading ended = record {
  ended = ended;
  ends = λ whole.
      past_on body whole rest ended.done.past
      ∙ ap (λ (n : ℕ). read_stripes body.head body.builder.columns n body.builder.infos whole rest) ended.done.stripes
      ∙ stripes_end body.head body.builder.columns body.builder.infos whole rest (length_fits body reading ended.fits)
      ∙ ap (λ s. read_end whole rest >>= λ digest. Good (let t : TableValue = record { shape = s; columns = body.builder.columns; infos = body.builder.infos } in t)) (sym reading.shape);
}
