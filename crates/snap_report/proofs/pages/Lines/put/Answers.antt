use Rattle.std.proofs.Common.{◌≡◌, [], refl, ◌∙◌, subst}
use Rattle.snap_report.specs.Telling.{Tells}
use Rattle.snap_report.specs.State.{state_of}
use Rattle.snap_report.proofs.TellingLemmas.{tells_then}
use Rattle.snap_report.proofs.pages.Lines.put.Goals as goal

pub returns-then-not-hold : goal.returns-then-not-hold
returns-then-not-hold g c =
    let first : state_of g.W.Sink.view c.hold.new.self ≡ state_of g.W.Sink.view c.args.self.now = c.if-hold.ensures.full refl in
    let second : state_of g.W.Sink.view c.hold-2.new.self ≡ state_of g.W.Sink.view c.hand_on.new.self = c.if-not-hold.ensures.full refl in
    record {
      same_reference = c.write.ensures.puts.same_reference ∙ c.if-not-hold.ensures.same_reference ∙ c.hand_on.ensures.puts.same_reference ∙ c.if-hold.ensures.same_reference;
      tells = subst (λ w. Tells c.args.bytes.now w (state_of g.W.Sink.view c.write.new.self)) first
          (tells_then [] _ _ _ _ c.hand_on.ensures.puts.tells (subst (λ w. Tells c.args.bytes.now w (state_of g.W.Sink.view c.write.new.self)) second c.write.ensures.puts.tells));
    }

pub returns-else-not-hold : goal.returns-else-not-hold
returns-else-not-hold g c =
    let first : state_of g.W.Sink.view c.hold.new.self ≡ state_of g.W.Sink.view c.args.self.now = c.if-hold.ensures.full refl in
    record {
      same_reference = c.if-not-hold.ensures.same_reference ∙ c.hand_on.ensures.puts.same_reference ∙ c.if-hold.ensures.same_reference;
      tells = subst (λ w. Tells c.args.bytes.now w (state_of g.W.Sink.view c.hold-2.new.self)) first
          (tells_then [] _ _ _ _ c.hand_on.ensures.puts.tells (c.if-not-hold.ensures.tells refl));
    }
