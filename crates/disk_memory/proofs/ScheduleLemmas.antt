-- A call that is answered by whether it did its work obeys its schedule.
use Rattle.std.proofs.Common.{◌≡◌, ◌⊎◌, inl, inr, ⊎_elim, ◌↔◌, Bool, true, false, not, IsTrue, refl, sym, ◌∙◌, ap, subst}
use Rattle.disk_memory.specs.Schedule.{Plan, IsDue, counted, ObeysOnRecord, ObeysExactly, ObeysUnless}

turned : (b : Bool) → not b ≡ true → b ≡ false
turned true is = absurd (let clash : false ≡ true = is in cc)
turned false is = refl

turned_back : (b : Bool) → not b ≡ false → b ≡ true
turned_back true is = refl
turned_back false is = absurd (let clash : true ≡ false = is in cc)

module _ (fails done failed : Bool) (old mid new : Plan) (lost lost_now : Bool) (is : failed ≡ not done) (counts : mid ≡ counted old) (stays : new ≡ mid) (due : IsTrue fails ↔ IsDue mid)
    (refused : not fails ≡ false → done ≡ false) (unrecorded : lost ≡ false → lost_now ≡ true → done ≡ false) where
  pub obeys_on_record : ObeysOnRecord failed old new (not lost) (not lost_now)
  obeys_on_record = record {
    obeys = record {
      counts = stays ∙ counts;
      due = λ now. is ∙ ap not (refused (ap not (due.1 (subst IsDue (sym counts) now))));
    };
    lost = λ told untold. is ∙ ap not (unrecorded (turned lost told) (turned_back lost_now untold));
  }

  caused : (not fails ≡ false) ⊎ ((lost ≡ false) × (lost_now ≡ true)) → IsDue (counted old) ⊎ ((not lost ≡ true) × (not lost_now ≡ false))
  caused cause = ⊎_elim
      (λ refused. inl (subst IsDue counts (due.0 (turned_back fails refused))))
      (λ gone. inr (ap not gone.0, ap not gone.1))
      cause

  pub obeys_exactly : (done ≡ false → (not fails ≡ false) ⊎ ((lost ≡ false) × (lost_now ≡ true))) → ObeysExactly failed old new (not lost) (not lost_now)
  obeys_exactly only = record { obeys = obeys_on_record; only = λ failing. caused (only (turned done (sym is ∙ failing))) }

  pub obeys_unless : (P : Type 0) → (done ≡ false → ((not fails ≡ false) ⊎ ((lost ≡ false) × (lost_now ≡ true))) ⊎ P) → ObeysUnless P failed old new (not lost) (not lost_now)
  obeys_unless P only = record { obeys = obeys_on_record; only = λ failing. ⊎_elim (λ cause. inl (caused cause)) (λ p. inr p) (only (turned done (sym is ∙ failing))) }
