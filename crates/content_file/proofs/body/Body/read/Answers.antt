use Rattle.std.proofs.Common.{Some, true, false, ◌≡◌, sym, subst, ◌∙◌}
use Rattle.content_file.specs.ReadingOn.{BodyValue}
use Rattle.content_file.specs.BodyState.{body_of}
use Rattle.content_file.specs.Body.{IsDone, IsAtEnd, StopsAt}
use Rattle.content_file.specs.declared.fault.Refusal.TheVariants as refusals
use Rattle.content_file.proofs.Steps.{length_stop, length_differs}
use Rattle.content_file.proofs.Starts.{goes_then, comes_to_end}
use Rattle.content_file.proofs.body.Body.read.Goals as goal

pub loop-alloc-preserved : goal.loop-alloc-preserved
loop-alloc-preserved c =
    goes_then (Some c.args.self.now) (Some c.loop-alloc.self) (Some c.read_next.new.self) c.args.bytes.now c.loop-alloc.rest.now c.in-Ok.after.now c.loop-alloc.invariant c.in-Ok.ensures.ok.goes_on

pub returns-then-not-length_fits-clause-stops : goal.returns-then-not-length_fits-clause-stops
returns-then-not-length_fits-clause-stops c =
    let body = body_of c.self.inside in
    let done : IsDone body = subst IsDone (sym c.self.view_is) (c.is_done.ensures.0 c.loop-alloc-test.false) in
    subst (λ (v : BodyValue). StopsAt (Some v) c.loop-alloc.rest.now refusals.Length) c.self.view_is
    (length_stop body c.loop-alloc.rest.now done.past (length_differs body c.self.invariant (λ fits. let e : true ≡ false = sym (c.length_fits.ensures.1 fits) ∙ c.if-not-length_fits.true in cc)))

pub returns-clause-stops : goal.returns-clause-stops
returns-clause-stops c =
    let body = body_of c.self.inside in
    let done : IsDone body = subst IsDone (sym c.self.view_is) (c.is_done.ensures.0 c.loop-alloc-test.false) in
    subst (λ (v : BodyValue). IsAtEnd v c.loop-alloc.rest.now) c.self.view_is
    (comes_to_end body c.loop-alloc.rest.now c.self.invariant (record { done = done; fits = c.length_fits.ensures.0 c.if-not-length_fits.false }))
