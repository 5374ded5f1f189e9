-- A script goes on to a call, and a call is refused.
use Rattle.std.proofs.Common.{◌≡◌, inl, inr, ℕ, ◌+◌, ◌≤◌, List, [], ◌∷◌, length, Bool, true, false, not, Option, None, if◌then◌else◌, refl, sym, ◌∙◌, ap, subst, arith}
use Rattle.disk_model.specs.Folder.{FolderView, FolderCall, Rename, IsFolderCall}
use Rattle.disk_model.specs.Tree.{Tree, File, file_of, path_of}
use Rattle.disk_model.specs.Writing.{MayDo, moved, IsFolderWrite}
use Rattle.disk_model.specs.Answer.{is_failure}
use Rattle.disk_model.specs.declared.answer.Answer.{Answer}
use Rattle.disk_model.specs.declared.answer.Answer.TheVariants.{Failed}
use Rattle.disk_memory.specs.declared.folder.MemFolder.{MemFolder}
use Rattle.disk_memory.specs.Folder.{folder_view, folder_plan, FolderObeysExactly, FolderObeysUnless}
use Rattle.disk_memory.specs.Schedule.{Plan, ObeysExactly, ObeysUnless, counted}
use Rattle.disk_memory.specs.Scripted.{after_event, tree_at, left_at, is_due, with_tree, turned_at, turned, next_call, untold, scripted_view, Plays}
use Rattle.disk_memory.specs.declared.scripted.Event.{Event}
use Rattle.disk_memory.specs.declared.scripted.ScriptedFolder.{ScriptedFolder}

-- events happened, each at its turn, and no more than steps were made
pub record Turning (old new : ScriptedFolder) (steps most : ℕ) : Type 0 where
  pub calls : new.calls ≡ old.calls
  pub plan : folder_plan new.base ≡ folder_plan old.base
  pub same : turned_at old.calls new ≡ turned_at old.calls old
  pub left : left_at old.calls new.script.items ≡ left_at old.calls old.script.items
  pub few : length new.script.items + steps ≤ most

tree_stays : (call : ℕ) (script : List Event) (tree : Tree) → is_due call script ≡ false → tree_at call script tree ≡ tree
tree_stays call [] tree over = refl
tree_stays call (event ∷ script) tree over = ap (λ b. if b then tree_at call script (after_event event tree) else tree) over

left_stays : (call : ℕ) (script : List Event) → is_due call script ≡ false → left_at call script ≡ script
left_stays call [] over = refl
left_stays call (event ∷ script) over = ap (λ b. if b then left_at call script else (event ∷ script)) over

none_due : (call : ℕ) (script : List Event) → length script ≤ 0 → is_due call script ≡ false
none_due call [] none = refl
none_due call (event ∷ script) none = absurd (omega (arith, none))

module _ (old new : ScriptedFolder) (steps most : ℕ) (turning : Turning old new steps most) where
  -- nothing more is due
  pub turned_over : is_due old.calls new.script.items ≡ false → folder_view new.base ≡ turned_at old.calls old
  turned_over over = sym (ap (with_tree (folder_view new.base)) (tree_stays old.calls new.script.items (folder_view new.base).tree over)) ∙ turning.same

  pub script_over : is_due old.calls new.script.items ≡ false → new.script.items ≡ left_at old.calls old.script.items
  script_over over = sym (left_stays old.calls new.script.items over) ∙ turning.left

  -- no event is left
  pub all_over : most ≤ steps → is_due old.calls new.script.items ≡ false
  all_over all = none_due old.calls new.script.items (omega (arith, all, turning.few))

-- nothing is said of the tree of a call
pub as_untold : (call : FolderCall) (answer : Answer) (f : ScriptedFolder) (mid new : FolderView) → mid ≡ turned f → IsFolderCall call answer mid new
    → IsFolderWrite call answer (scripted_view f) (untold new)
as_untold call answer f mid new is called = subst (λ (v : FolderView). IsFolderWrite call answer v (untold new)) (ap untold is) (record {
  called = record {
    goes_on = record { later = called.goes_on.later; writes = called.goes_on.writes; keeps = called.goes_on.keeps; closed = called.goes_on.closed; tells = refl; calls = called.goes_on.calls };
    cause = called.cause;
  };
  does = λ unfailed (told : false ≡ true). absurd (cc);
  may = λ failed (told : false ≡ true). absurd (cc);
})

-- a call that was refused did nothing
pub refused : (call : FolderCall) (mid new : FolderView) → IsFolderCall call Failed mid new → new.tree ≡ mid.tree
    → MayDo mid.keeps call mid.tree mid.tree → IsFolderWrite call Failed mid new
refused call mid new called same may = record {
  called = called;
  does = λ (no : true ≡ false). absurd (cc);
  may = λ failed told. subst (λ (tree : Tree). MayDo mid.keeps call mid.tree tree) (sym same) may;
}

-- a file that is not there was not put under its other name
pub missed : (path : List ℕ) (lost : Bool) (answer : Answer) (mid new : FolderView) → IsFolderCall (Rename path lost) answer mid new → new.tree ≡ mid.tree
    → file_of mid.tree (path_of path (not lost)) ≡ None → IsFolderWrite (Rename path lost) answer mid new
missed path lost answer mid new called same none = record {
  called = called;
  does = λ unfailed told. same ∙ sym (ap (λ (o : Option File). moved o (path_of path (not lost)) (path_of path lost) mid.tree) none);
  may = λ failed told. inl same;
}

-- the script went on to a call
pub record Went (old mid : ScriptedFolder) : Type 0 where
  pub calls : mid.calls ≡ next_call old
  pub view : folder_view mid.base ≡ turned old
  pub script : mid.script.items ≡ left_at mid.calls old.script.items
  pub plan : folder_plan mid.base ≡ folder_plan old.base

-- and the call of the folder below came after it
module _ (old mid : ScriptedFolder) (went : Went old mid) (step : FolderView → FolderView → Type 0) (answer : Answer) (base : MemFolder) where
  told : not mid.base.past.lost ≡ not old.base.past.lost
  told = ap (λ (v : FolderView). v.tells_calls) went.view

  pub plays_exactly : step (folder_view mid.base) (folder_view base) → FolderObeysExactly answer mid.base base → Plays step (FolderObeysExactly answer) old (record { base = base; calls = mid.calls; script = mid.script })
  plays_exactly made obeys = record {
    counts = went.calls;
    script = went.script;
    made = subst (λ (v : FolderView). step v (folder_view base)) went.view made;
    scheduled = subst (λ (t : Bool). ObeysExactly (is_failure answer) (folder_plan old.base) (folder_plan base) t (not base.past.lost)) told
        (subst (λ (p : Plan). ObeysExactly (is_failure answer) p (folder_plan base) (not mid.base.past.lost) (not base.past.lost)) went.plan obeys);
  }

  pub plays_unless : (P : Tree → Type 0) → step (folder_view mid.base) (folder_view base) → FolderObeysUnless (P (folder_view mid.base).tree) answer mid.base base
      → Plays step (FolderObeysUnless (P (turned old).tree) answer) old (record { base = base; calls = mid.calls; script = mid.script })
  plays_unless P made obeys = record {
    counts = went.calls;
    script = went.script;
    made = subst (λ (v : FolderView). step v (folder_view base)) went.view made;
    scheduled = subst (λ (v : FolderView). ObeysUnless (P v.tree) (is_failure answer) (folder_plan old.base) (folder_plan base) (not old.base.past.lost) (not base.past.lost)) went.view
        (subst (λ (t : Bool). ObeysUnless (P (folder_view mid.base).tree) (is_failure answer) (folder_plan old.base) (folder_plan base) t (not base.past.lost)) told
        (subst (λ (p : Plan). ObeysUnless (P (folder_view mid.base).tree) (is_failure answer) p (folder_plan base) (not mid.base.past.lost) (not base.past.lost)) went.plan obeys));
  }

-- a call that failed only where P
pub failed_where : (P : Type 0) → P → (old new : MemFolder) → folder_plan new ≡ counted (folder_plan old) → FolderObeysUnless P Failed old new
failed_where P p old new counts = record {
  obeys = record { obeys = record { counts = counts; due = λ due. refl }; lost = λ told gone. refl };
  only = λ failing. inr p;
}
