-- A folder that answers its calls stands, as it reads, among what a stop within them may leave.
use Rattle.std.proofs.Common.{◌≡◌, inl, inr, ℕ, List, [], ◌∷◌, ◌++◌, length, Option, None, Some, Bool, true, false, if◌then◌else◌, IsTrue, refl, sym, ◌∙◌, ap, subst, slice_index}
use Rattle.std.proofs.lemmas.List.{get_or_past}
use Rattle.std.specs.FinMap as map
use Rattle.disk_model.specs.Bytes.{Torn}
use Rattle.disk_model.specs.Answer.{is_failure}
use Rattle.disk_model.specs.declared.answer.Answer.{Answer}
use Rattle.disk_model.specs.Folder.{FolderView, FolderCall, FolderDone, ListFiles, Look, ReadAt, Make, WriteAt, SetSize, SetStamp, Rename, IsFolder, IsFolderReading}
use Rattle.disk_model.specs.Stopped.{MayBeLeft, IsAnswered, AreAnswered}
use Rattle.disk_model.specs.Tree.{Tree, File, file_of, IsTree}
use Rattle.disk_model.specs.Writing.{ChangesFile, Writes, WritesPart, Does, MayDo, IsFolderWrite}
use Rattle.disk_model.specs.declared.meta.Stamp.{Stamp}
use Rattle.disk_model.proofs.BytesLemmas.{torn_by_put, torn_not, put_gap}
use Rattle.disk_model.proofs.TreeLemmas.{set_here, set_same}
use Rattle.disk_model.proofs.StoppedLemmas.{found_here}

writes_none : (at n : ℕ) (file : File) → WritesPart at n file file
writes_none at n file = record { torn = torn_not file.bytes at n; zeros = λ i past low. get_or_past file.bytes i 0 past }

changes_none : (path : List ℕ) (step : File → File → Type 0) (tree : Tree) → ((file : File) → step file file) → ChangesFile path step tree tree
changes_none path step tree same = record { none = λ is. refl; some = λ before there. (before, same before, sym (set_same tree path before there)) }

-- where a stamp is not kept, a call that sets it changes nothing
pub no_stamp_set : (keeps : Stamp → Bool) (path : List ℕ) (stamp : Stamp) (old new : Tree) → keeps stamp ≡ false → Does keeps (SetStamp path stamp) old new → new ≡ old
no_stamp_set keeps path stamp old new lost does = by (file_of old path) refl
  where
    by : (o : Option File) → file_of old path ≡ o → new ≡ old
    by None is = does.none is
    by (Some before) is =
        let to = does.some before is in
        let same : to.0 ≡ before = to.1 ∙ ap (λ (k : Bool). record before { stamp = (if k then stamp else before.stamp) }) lost in
        to.2 ∙ ap (map.insert old path) same ∙ set_same old path before is

-- the file that a write, a cut and a stamp leave
pub file_after : (path : List ℕ) (step : File → File → Type 0) (old new : Tree) (before : File) → file_of old path ≡ Some before → ChangesFile path step old new → (after : File) × step before after × (file_of new path ≡ Some after)
file_after path step old new before there change = let to = change.some before there in (to.0, to.1, ap (λ (t : Tree). file_of t path) to.2 ∙ set_here old path to.0)

-- a call may do nothing
may_stay : (keeps : Stamp → Bool) (call : FolderCall) (tree : Tree) → MayDo keeps call tree tree
may_stay keeps ListFiles tree = refl
may_stay keeps (Look path lost) tree = refl
may_stay keeps (ReadAt path lost at n) tree = refl
may_stay keeps (Make path) tree = inl refl
may_stay keeps (WriteAt path at bytes) tree = changes_none path (WritesPart at (length bytes)) tree (writes_none at (length bytes))
may_stay keeps (SetSize path size) tree = inl refl
may_stay keeps (SetStamp path stamp) tree = inl refl
may_stay keeps (Rename path lost) tree = inl refl

writes_all : (at : ℕ) (bytes : List ℕ) (before after : File) → Writes at bytes before after → WritesPart at (length bytes) before after
writes_all at bytes before after is = record {
  torn = subst (λ (bs : List ℕ). Torn at (length bytes) before.bytes bs) (sym is) (torn_by_put before.bytes at bytes);
  zeros = λ i past low. ap (λ (bs : List ℕ). slice_index bs i) is ∙ put_gap before.bytes at bytes i past low;
}

-- and all that it does where it doesn't fail
pub does_may : (keeps : Stamp → Bool) (call : FolderCall) (old new : Tree) → Does keeps call old new → MayDo keeps call old new
does_may keeps ListFiles old new does = does
does_may keeps (Look path lost) old new does = does
does_may keeps (ReadAt path lost at n) old new does = does
does_may keeps (Make path) old new does = inr does
does_may keeps (WriteAt path at bytes) old new does = record {
  none = does.none;
  some = λ before there. let to = does.some before there in (to.0, writes_all at bytes before to.0 to.1, to.2);
}
does_may keeps (SetSize path size) old new does = inr does
does_may keeps (SetStamp path stamp) old new does = inr does
does_may keeps (Rename path lost) old new does = inr does

one_left : (keeps : Stamp → Bool) (done : FolderDone) (old new : Tree) → IsTree new → MayDo keeps done.call old new → MayBeLeft keeps (done ∷ []) old new
one_left keeps done old new tree may = (new, tree, (false, subst (λ (call : FolderCall). MayDo keeps call old new) (sym (found_here done.call)) may), refl)

abbrev done_of : FolderCall → Answer → FolderDone
done_of call answer = record { call = call; answer = answer }

-- what a writing call leaves that answers
pub write_is_left : (call : FolderCall) (answer : Answer) (old new : FolderView) → IsTrue old.tells → IsFolder new → IsFolderWrite call answer old new
    → MayBeLeft old.keeps (done_of call answer ∷ []) old.tree new.tree
write_is_left call answer old new told folder write = one_left old.keeps (done_of call answer) old.tree new.tree (folder.tree (write.called.goes_on.tells ∙ told)) (by (is_failure answer) refl)
  where
    by : (b : Bool) → is_failure answer ≡ b → MayDo old.keeps call old.tree new.tree
    by false is = does_may old.keeps call old.tree new.tree (write.does is told)
    by true is = write.may is told

-- and a reading one
pub reading_is_left : (call : FolderCall) (answer : Answer) (old new : FolderView) → IsTrue old.tells → IsFolder new → IsFolderReading call answer old new
    → MayBeLeft old.keeps (done_of call answer ∷ []) old.tree new.tree
reading_is_left call answer old new told folder reading = one_left old.keeps (done_of call answer) old.tree new.tree (folder.tree (reading.called.goes_on.tells ∙ told))
    (subst (λ (t : Tree). MayDo old.keeps call old.tree t) (sym (reading.tree told)) (may_stay old.keeps call old.tree))

-- more calls
pub left_then : (keeps : Stamp → Bool) (first more : List FolderDone) (old mid new : Tree) → MayBeLeft keeps first old mid → MayBeLeft keeps more mid new → MayBeLeft keeps (first ++ more) old new
left_then keeps [] more old mid new one two = subst (λ (t : Tree). MayBeLeft keeps more t new) one two
left_then keeps (done ∷ first) more old mid new one two = (one.0, one.1, one.2, left_then keeps first more one.0 mid new one.3 two)

left_same : (keeps : Stamp → Bool) (calls : List FolderDone) (tree : Tree) → IsTree tree → MayBeLeft keeps calls tree tree
left_same keeps [] tree is = refl
left_same keeps (done ∷ calls) tree is = (tree, is, (false, subst (λ (call : FolderCall). MayDo keeps call tree tree) (sym (found_here done.call)) (may_stay keeps done.call tree)), left_same keeps calls tree is)

-- what is left is a tree
pub left_is_tree : (keeps : Stamp → Bool) (calls : List FolderDone) (old new : Tree) → IsTree old → MayBeLeft keeps calls old new → IsTree new
left_is_tree keeps [] old new is left = subst IsTree (sym left) is
left_is_tree keeps (done ∷ calls) old new is left = left_is_tree keeps calls left.0 new left.1 left.3

-- what a stop might leave it might leave after more calls
pub left_later : (keeps : Stamp → Bool) (first more : List FolderDone) (old new : Tree) → IsTree old → MayBeLeft keeps first old new → MayBeLeft keeps (first ++ more) old new
left_later keeps first more old new is left = left_then keeps first more old new new left (left_same keeps more new (left_is_tree keeps first old new is left))

-- one call that was answered, and what may be left by more
one_answered : (done : FolderDone) (calls : List FolderDone) (old mid new : FolderView) → IsTrue old.tells → IsFolder mid → IsAnswered done old mid
    → (mid.tells ≡ old.tells → mid.keeps ≡ old.keeps → MayBeLeft old.keeps calls mid.tree new.tree) → MayBeLeft old.keeps (done ∷ calls) old.tree new.tree
one_answered done calls old mid new told folder (inl reading) rest =
    left_then old.keeps (done ∷ []) calls old.tree mid.tree new.tree (reading_is_left done.call done.answer old mid told folder reading) (rest reading.called.goes_on.tells reading.called.goes_on.keeps)
one_answered done calls old mid new told folder (inr write) rest =
    left_then old.keeps (done ∷ []) calls old.tree mid.tree new.tree (write_is_left done.call done.answer old mid told folder write) (rest write.called.goes_on.tells write.called.goes_on.keeps)

-- a folder that answers its calls stands among what a stop may leave
pub answered_is_left : (calls : List FolderDone) (old new : FolderView) → IsTrue old.tells → AreAnswered calls old new → MayBeLeft old.keeps calls old.tree new.tree
answered_is_left [] old new told same = ap (λ (v : FolderView). v.tree) same
answered_is_left (done ∷ calls) old new told answered = one_answered done calls old answered.0 new told answered.1 answered.2
    (λ tells keeps. subst (λ b. MayBeLeft b calls answered.0.tree new.tree) keeps (answered_is_left calls answered.0 new (tells ∙ told) answered.3))
