-- What the record of calls tells after one more.
use Rattle.std.proofs.Common.{◌≡◌, [], ◌∷◌, ◌++◌, map, Bool, true, false, not, IsTrue, Option, None, Some, IfSome, IfNone, refl, sym, ◌∙◌, ap}
use Rattle.std.proofs.lemmas.List.{map-append}
use Rattle.disk_model.specs.Cause.{Grows}
use Rattle.disk_model.specs.declared.answer.Answer.{Answer}
use Rattle.disk_model.specs.declared.answer.Answer.TheVariants.{Failed}
use Rattle.disk_memory.specs.Past.{made, Notes, Loses, Ends}
use Rattle.disk_memory.specs.declared.past.Made.{Made}
use Rattle.disk_memory.specs.declared.past.Past.{Past}

kept : (lost : Bool) → IsTrue (not lost) → lost ≡ false
kept true t = absurd (untrue t)
  where
    untrue : IsTrue false → ⊥
    untrue told = cc
kept false t = refl

telling : (lost : Bool) → lost ≡ false → IsTrue (not lost)
telling lost is = ap not is

-- an entry with what became of it, as a trait tells it
abbrev told_as : {C E D : Type 0} → (C → E) → (E → Answer → D) → Made C → D
told_as call_of done m = done (call_of m.call) m.answer

-- the call that was written down failed
pub grows_failed : {C E D : Type 0} (call_of : C → E) (done : E → Answer → D) (entry : Option C) (call : E) (old new : Past C)
    → IfSome entry (λ c. Notes c Failed old new) → IfNone entry (Loses old new) → IfSome entry (λ c. call_of c ≡ call)
    → Grows (not old.lost) (map (told_as call_of done) old.made.items) (not new.lost) (map (told_as call_of done) new.made.items) (done call Failed ∷ [])
grows_failed call_of done None call old new noted refused is = record { told = λ t. absurd (gone t); more = λ t. absurd (gone t) }
  where
    gone : IsTrue (not new.lost) → ⊥
    gone t = let a = kept new.lost t in let b = refused.lost in cc
grows_failed call_of done (Some c) call old new noted refused is = record {
  told = λ t. telling old.lost (noted.told (kept new.lost t));
  more = λ t. ap (map (told_as call_of done)) (noted.entry (kept new.lost t)) ∙ map-append (told_as call_of done) old.made.items (made c Failed ∷ [])
      ∙ ap (λ e. map (told_as call_of done) old.made.items ++ done e Failed ∷ []) is;
}

-- the call that was written down did not fail
pub grows_done : {C E D : Type 0} {answer : Answer} (call_of : C → E) (done : E → Answer → D) (entry : Option C) (call : E) (old mid new : Past C)
    → IfSome entry (λ c. Notes c Failed old mid) → IfNone entry (Loses old mid) → Ends answer mid new → IfSome entry (λ c. call_of c ≡ call)
    → Grows (not old.lost) (map (told_as call_of done) old.made.items) (not new.lost) (map (told_as call_of done) new.made.items) (done call answer ∷ [])
grows_done call_of done None call old mid new noted refused ends is = record { told = λ t. absurd (gone t); more = λ t. absurd (gone t) }
  where
    gone : IsTrue (not new.lost) → ⊥
    gone t = let a = kept new.lost t in let b = refused.lost in let e = ends.lost in cc
grows_done {answer = answer} call_of done (Some c) call old mid new noted refused ends is = record {
  told = λ t. telling old.lost (noted.told (sym ends.lost ∙ kept new.lost t));
  more = λ t.
      let entry = noted.entry (sym ends.lost ∙ kept new.lost t) in
      ap (map (told_as call_of done)) (ends.last (kept new.lost t) old.made.items c entry) ∙ map-append (told_as call_of done) old.made.items (made c answer ∷ [])
      ∙ ap (λ e. map (told_as call_of done) old.made.items ++ done e answer ∷ []) is;
}
