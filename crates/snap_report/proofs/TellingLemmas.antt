-- One text after another.
use Rattle.std.proofs.Common.{◌≡◌, ℕ, ◌+◌, ◌<◌, List, [], ◌++◌, ◌≤◌, length, take, get_or, Bool, true, false, arith, refl, sym, ◌∙◌, ap, subst, append_assoc}
use Rattle.std.proofs.lemmas.List.{append-nil, append_cancel_left, take_more, flat_map_more}
use Rattle.std.specs.List.{flat_map}
use Rattle.disk_model.specs.Cause.{Rose}
use Rattle.disk_model.specs.Sink.{AppendsPart}
use Rattle.snap_report.specs.Telling.{Written, Tells}

-- nothing is a front of each text
pub nothing_appended : (text written : List ℕ) → AppendsPart text written written
nothing_appended text written = record { front = []; rest = text; whole = refl; appended = sym (append-nil written) }

pub part_of_first : (held front back old mid : List ℕ) → AppendsPart (held ++ front) old mid → AppendsPart (held ++ (front ++ back)) old mid
part_of_first held front back old mid part = record {
  front = part.front;
  rest = part.rest ++ back;
  whole = sym (append_assoc part.front part.rest back) ∙ ap (λ xs. xs ++ back) part.whole ∙ append_assoc held front back;
  appended = part.appended;
}

-- what went to the sink and what is held are what was held and told
went_and_held : (held text old new kept went : List ℕ) → new ++ kept ≡ old ++ (held ++ text) → new ≡ old ++ went → went ++ kept ≡ held ++ text
went_and_held held text old new kept went whole appended =
    append_cancel_left old (went ++ kept) (held ++ text) (sym (append_assoc old went kept) ∙ ap (λ xs. xs ++ kept) (sym appended) ∙ whole)

pub part_of_both : (held front back old mid kept new : List ℕ) → mid ++ kept ≡ old ++ (held ++ front) → AppendsPart (held ++ front) old mid → AppendsPart (kept ++ back) mid new → AppendsPart (held ++ (front ++ back)) old new
part_of_both held front back old mid kept new whole one two = record {
  front = one.front ++ two.front;
  rest = two.rest;
  whole = append_assoc one.front two.front two.rest ∙ ap (λ xs. one.front ++ xs) two.whole ∙ sym (append_assoc one.front kept back)
      ∙ ap (λ xs. xs ++ back) (went_and_held held front old mid kept one.front whole one.appended) ∙ append_assoc held front back;
  appended = two.appended ∙ ap (λ xs. xs ++ two.front) one.appended ∙ append_assoc old one.front two.front;
}

whole_of_both : (held front back old mid kept new left : List ℕ) → mid ++ kept ≡ old ++ (held ++ front) → new ++ left ≡ mid ++ (kept ++ back) → new ++ left ≡ old ++ (held ++ (front ++ back))
whole_of_both held front back old mid kept new left one two =
    two ∙ sym (append_assoc mid kept back) ∙ ap (λ xs. xs ++ back) one ∙ append_assoc old (held ++ front) back ∙ ap (λ xs. old ++ xs) (append_assoc held front back)

rose_after : (a b c : ℕ) → a ≤ b → Rose b c → Rose a c
rose_after a b c later rose = omega (arith, later, rose)

-- after the first of two texts, by whether its writing failed
by_first : (front back : List ℕ) (old mid new : Written) (failed : Bool) → mid.failed ≡ failed → Tells front old mid → Tells back mid new → Tells (front ++ back) old new
by_first front back old mid new true failed one two =
    let same : new ≡ mid = two.stays failed in
    subst (λ w. Tells (front ++ back) old w) (sym same) (record {
      goes_on = one.goes_on;
      stays = one.stays;
      unfailed = λ no. absurd (let e : true ≡ false = sym failed ∙ no in cc);
      cause = one.cause;
      whole = λ no. absurd (let e : true ≡ false = sym failed ∙ no in cc);
      part = λ told. part_of_first old.held front back old.sink.written mid.sink.written (one.part told);
    })
by_first front back old mid new false failed one two =
    let tells = one.goes_on.tells in
    record {
      goes_on = record { later = omega (arith, one.goes_on.later, two.goes_on.later); tells = two.goes_on.tells ∙ tells };
      stays = λ was. absurd (let e : false ≡ true = sym failed ∙ ap (λ w. w.failed) (one.stays was) ∙ was in cc);
      unfailed = λ no. two.unfailed no ∙ one.unfailed failed;
      cause = λ _ now. rose_after _ _ _ one.goes_on.later (two.cause failed now);
      whole = λ no told. whole_of_both old.held front back old.sink.written mid.sink.written mid.held new.sink.written new.held (one.whole failed told) (two.whole no (tells ∙ told));
      part = λ told. part_of_both old.held front back old.sink.written mid.sink.written mid.held new.sink.written (one.whole failed told) (one.part told) (two.part (tells ∙ told));
    }

-- one text, and then another
pub tells_then : (front back : List ℕ) (old mid new : Written) → Tells front old mid → Tells back mid new → Tells (front ++ back) old new
tells_then front back old mid new one two = by_first front back old mid new mid.failed refl one two

-- no text
pub tells_nothing : (w : Written) → Tells [] w w
tells_nothing w = record {
  goes_on = record { later = omega arith; tells = refl };
  stays = λ _. refl;
  unfailed = λ _. refl;
  cause = λ no yes. absurd (let e : false ≡ true = sym no ∙ yes in cc);
  whole = λ _ _. ap (λ xs. w.sink.written ++ xs) (sym (append-nil w.held));
  part = λ _. record { front = []; rest = w.held; whole = sym (append-nil w.held); appended = sym (append-nil w.sink.written) };
}

-- the texts of one item more
pub tells_one_more : {X : Type 0} (f : X → List ℕ) (xs : List X) (i : ℕ) (d : X) (old mid new : Written) → i < length xs → Tells (flat_map f (take i xs)) old mid → Tells (f (get_or xs i d)) mid new → Tells (flat_map f (take (i + 1) xs)) old new
tells_one_more f xs i d old mid new lt one two =
    subst (λ t. Tells t old new) (flat_map_more f [] (take i xs) (get_or xs i d) ∙ ap (λ ys. flat_map f ys) (sym (take_more xs i d lt)))
    (tells_then (flat_map f (take i xs)) (f (get_or xs i d)) old mid new one two)

-- the same text in other words
pub tells_same : (s t : List ℕ) (old new : Written) → Tells s old new → s ≡ t → Tells t old new
tells_same s t old new told same = subst (λ x. Tells x old new) same told
