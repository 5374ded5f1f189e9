-- The rooms of the stripes of a window stand at the front of all rooms.
use Rattle.std.proofs.Common.{◌≡◌, ℕ, ◌+◌, ◌<◌, ◌≤◌, List, ◌++◌, length, drop, get_or, sym, ap, ◌∙◌, subst, arith}
use Rattle.std.specs.List.{All}
use Rattle.std.proofs.lemmas.List.{get_or-drop, get_or-map, get_or_append_left, length-drop, length-map}
use Rattle.std.proofs.lemmas.List.Elements.{All-append}
use Rattle.disk_model.specs.Vault.{VaultView}
use Rattle.file_table.specs.Table.{TableValue}
use Rattle.stripe_reader.specs.WindowValue.{WindowValue}
use Rattle.stripe_examiner.specs.declared.room.StripeRoom.{StripeRoom}
use Rattle.stripe_examiner.specs.Facts.{StripeFacts}
use Rattle.stripe_examiner.specs.Looking.{LevelsAreRead, facts_at, no_facts, numbers_of}
use Rattle.stripe_examiner.specs.MarkedWindow.{ReadsLevelsOf, number_at}
use Rattle.stripe_examiner.specs.Marks.{levels_read}
use Rattle.repair_scope.specs.Plan.{FixPlan, is_searched}
use Rattle.stripe_examiner.specs.Room.{AreRoomsFor, IsStripeRoomFor}
use Rattle.stripe_examiner.specs.Shown.{ShowsStripe}
use Rattle.stripe_examiner.specs.Spare.{SpareView}
use Rattle.stripe_examiner.specs.WindowExamined.{ExaminesRead}
use Rattle.stripe_examiner.proofs.ReadSteps.{levels_same}
use Rattle.stripe_examiner.proofs.WindowShown.{some_room}

numbers_long : (xs : List StripeFacts) (numbers : List ℕ) → numbers_of xs ≡ numbers → length xs ≡ length numbers
numbers_long xs numbers are = sym (length-map xs (λ (it : StripeFacts). it.stripe)) ∙ ap (λ (ns : List ℕ). length ns) are

number_of : (xs : List StripeFacts) (numbers : List ℕ) → numbers_of xs ≡ numbers → (k : ℕ) → k < length xs → (facts_at xs k).stripe ≡ number_at numbers k
number_of xs numbers are k below =
    sym (get_or-map (λ (it : StripeFacts). it.stripe) xs k no_facts 0 below) ∙ ap (λ (ns : List ℕ). get_or ns k 0) are

-- the rooms at the front show the facts of the stripes
pub shown_in_front : (plan : FixPlan) (numbers : List ℕ) (read after : WindowValue) (olds rooms rest : List StripeRoom) (spare later : SpareView)
    → (ex : ExaminesRead plan numbers read after olds rooms spare later) → (k : ℕ) (other : StripeRoom) → k < length ex.stripes
    → ShowsStripe plan (facts_at ex.stripes k) k after (get_or (rooms ++ rest) k other)
shown_in_front plan numbers read after olds rooms rest spare later ex k other below =
    let many : length ex.stripes ≡ length numbers = numbers_long ex.stripes numbers ex.numbers_are in
    subst (ShowsStripe plan (facts_at ex.stripes k) k after) (sym (get_or_append_left rooms rest other k (omega (arith, below, many, ex.rooms_are.as_many))))
    (ex.each k other below)

-- and the others stay as they were
pub all_rooms : (table : TableValue) (n : ℕ) (rooms all : List StripeRoom) → AreRoomsFor table n rooms → n ≤ length all → All (IsStripeRoomFor table) all
    → All (IsStripeRoomFor table) (rooms ++ drop n all)
all_rooms table n rooms all are within each =
    All-append (IsStripeRoomFor table) rooms (drop n all) are.each
    (λ k other inside. subst (IsStripeRoomFor table) (sym (get_or-drop n all k other)) (each (n + k) other (omega (arith, inside, within, length-drop n all))))

-- the levels of the stripes are those that were read into their rooms
pub levels_as_read : (plan : FixPlan) (numbers : List ℕ) (stripes : List StripeFacts) (olds : List StripeRoom) (old new : VaultView) → length olds ≡ length numbers
    → numbers_of stripes ≡ numbers
    → ((k : ℕ) (other : StripeRoom) → k < length numbers → (facts_at stripes k).levels ≡ levels_read (is_searched plan (number_at numbers k)) (get_or olds k other).levels)
    → ReadsLevelsOf plan numbers olds old new → LevelsAreRead plan stripes old new
levels_as_read plan numbers stripes olds old new many are levels reads =
    let long = numbers_long reads.stripes numbers reads.numbers_are in
    levels_same plan reads.stripes stripes old new (long ∙ sym (numbers_long stripes numbers are))
    (λ k below.
    let within : k < length numbers = omega (arith, below, long) in
    let other : StripeRoom = some_room olds k (omega (arith, within, many)) in (
      number_of reads.stripes numbers reads.numbers_are k below ∙ sym (number_of stripes numbers are k (omega (arith, within, numbers_long stripes numbers are))),
      reads.are k other within ∙ sym (levels k other within),
    ))
    reads.read
