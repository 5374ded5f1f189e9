-- A missing cell is one.
use Rattle.std.proofs.Common.{◌≡◌, Bool, true, false, Option, None, Some, refl}
use Rattle.std.specs.Prelude.{is_some}
use Rattle.stripe_reader.specs.SlotValue.{SlotValue}
use Rattle.stripe_examiner.specs.declared.marking.ColumnMark.{ColumnMark}
use Rattle.stripe_examiner.specs.declared.marking.ColumnMark.TheVariants.{Right, Given, Missing}
use Rattle.file_table.specs.Cells.{CellView}
use Rattle.file_table.specs.declared.shape.Shape.{Shape}
use Rattle.stripe_examiner.specs.Marks.{is_marked_missing, IsMarked}

pub missing_is_some : (searched : Bool) (shape : Shape) (seen : Option CellView) (before after : SlotValue) (mark : ColumnMark)
    → is_marked_missing mark ≡ true → IsMarked searched shape seen before mark after → is_some seen ≡ true
missing_is_some searched shape (Some cell) before after mark missing is = refl
missing_is_some searched shape None before after Right missing is = absurd cc
missing_is_some searched shape None before after Given missing is = absurd cc
missing_is_some searched shape None before after Missing missing is = let both : false ≡ true = is.0 in absurd cc
