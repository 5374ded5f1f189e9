-- The builder refuses no table without files of a configuration that was accepted.
use Rattle.std.proofs.Common.{◌≡◌, ◌≢◌, ℕ, ◌<◌, ◌≤◌, List, [], ◌∷◌, length, map, take, get_or, true, false, IsTrue, Result, Ok, Err, IfErr, refl, sym, ap, ◌∙◌, subst, arith, length-take}
use Rattle.std.proofs.lemmas.List.{length-map, get_or-take, get_or_default}
use Rattle.std.proofs.lemmas.List.Elements.{All-map}
use Rattle.disk_model.specs.Name.{IsName}
use Rattle.file_table.specs.Building.{BuildingValue, LacksBlock, IsNewName, IsLength, is_disk_fault, is_finish_fault}
use Rattle.file_table.specs.Table.{Column, records_of, blocks_of, positions_of, end_of}
use Rattle.file_table.specs.declared.fault.BuildFault.{BuildFault}
use Rattle.file_table.specs.declared.fault.BuildFault.TheVariants.{Name, Order, Nested, Range, Repeated, Blocks, Full, Length, Hash, State, Memory}
use Rattle.array_setup.specs.Setup.{SetupValue, IsSetup}
use Rattle.array_setup.specs.declared.setup.Disk.{Disk}
use Rattle.snap_top.specs.Array.{empty_column}

no_records : (disks : List Disk) → records_of (map empty_column disks) ≡ []
no_records [] = refl
no_records (disk ∷ disks) = no_records disks

no_blocks : (disks : List Disk) → blocks_of (map empty_column disks) ≡ []
no_blocks [] = refl
no_blocks (disk ∷ disks) = no_blocks disks

pub lacks_none : (building : BuildingValue) (disks : List Disk) → building.columns ≡ map empty_column disks → LacksBlock building → ⊥
lacks_none building disks columns lacks =
    let none : length (records_of building.columns) ≡ 0 = ap (λ (cs : List Column). length (records_of cs)) columns ∙ ap length (no_records disks) in
    omega (arith, none, lacks.some)

pub ends_at_none : (building : BuildingValue) (disks : List Disk) → building.columns ≡ map empty_column disks → building.length ≡ 0 → IsLength building
ends_at_none building disks columns length_is = length_is ∙ sym (ap (λ (cs : List Column). end_of (positions_of (blocks_of cs))) columns ∙ ap (λ bs. end_of (positions_of bs)) (no_blocks disks))

-- the name of the next disk is new
pub next_name : (setup : SetupValue) → IsSetup setup → (i : ℕ) (disk : Disk) → i < length setup.disks → disk ≡ get_or setup.disks i disk → IsNewName (map empty_column (take i setup.disks)) disk.name
next_name setup is i disk within here = record {
  allowed = subst (λ (d : Disk). IsName d.name) (sym here) (is.names i disk within);
  new = All-map (λ (column : Column). column.name ≢ disk.name) empty_column (take i setup.disks) (λ k d below.
      let before : k < i = omega (arith, below, length-take i setup.disks) in
      subst (λ (front : Disk). front.name ≢ disk.name) (sym (get_or-take i setup.disks k d before))
      (subst (λ (last : Disk). (get_or setup.disks k d).name ≢ last.name) (same_place d) (is.distinct k i d before within)));
  room = omega (arith, within, is.few_disks, length-map (take i setup.disks) empty_column, length-take i setup.disks);
}
  where
    same_place : (d : Disk) → get_or setup.disks i d ≡ disk
    same_place d = get_or_default setup.disks i d disk within ∙ sym here

-- by which fault a call was refused
pub disk_fault : (fault : BuildFault) → IsTrue (is_disk_fault fault) → (fault ≡ Blocks → ⊥) → (fault ≡ Name → ⊥) → fault ≡ Memory
disk_fault Memory among blocks name = refl
disk_fault Blocks among blocks name = absurd (blocks refl)
disk_fault Name among blocks name = absurd (name refl)
disk_fault Order among blocks name = absurd (let clash : false ≡ true = among in cc)
disk_fault Nested among blocks name = absurd (let clash : false ≡ true = among in cc)
disk_fault Range among blocks name = absurd (let clash : false ≡ true = among in cc)
disk_fault Repeated among blocks name = absurd (let clash : false ≡ true = among in cc)
disk_fault Full among blocks name = absurd (let clash : false ≡ true = among in cc)
disk_fault Length among blocks name = absurd (let clash : false ≡ true = among in cc)
disk_fault Hash among blocks name = absurd (let clash : false ≡ true = among in cc)
disk_fault State among blocks name = absurd (let clash : false ≡ true = among in cc)

pub finish_fault : (fault : BuildFault) → IsTrue (is_finish_fault fault) → (fault ≡ Name → ⊥) → (fault ≡ Blocks → ⊥) → (fault ≡ State → ⊥) → (fault ≡ Length → ⊥) → fault ≡ Memory
finish_fault Memory among name blocks state last = refl
finish_fault Name among name blocks state last = absurd (name refl)
finish_fault Blocks among name blocks state last = absurd (blocks refl)
finish_fault State among name blocks state last = absurd (state refl)
finish_fault Length among name blocks state last = absurd (last refl)
finish_fault Order among name blocks state last = absurd (let clash : false ≡ true = among in cc)
finish_fault Nested among name blocks state last = absurd (let clash : false ≡ true = among in cc)
finish_fault Range among name blocks state last = absurd (let clash : false ≡ true = among in cc)
finish_fault Repeated among name blocks state last = absurd (let clash : false ≡ true = among in cc)
finish_fault Full among name blocks state last = absurd (let clash : false ≡ true = among in cc)
finish_fault Hash among name blocks state last = absurd (let clash : false ≡ true = among in cc)

pub push_memory : {T : Type 0} (fault : BuildFault) (result : Result T BuildFault) → result ≡ Err fault → IsTrue (is_disk_fault fault) → (result ≡ Err Blocks → ⊥) → (result ≡ Err Name → ⊥) → fault ≡ Memory
push_memory fault result is among blocks name = disk_fault fault among (λ same. blocks (is ∙ ap Err same)) (λ same. name (is ∙ ap Err same))

pub finish_memory : {T : Type 0} (result : Result T BuildFault) → IfErr result (λ fault. IsTrue (is_finish_fault fault)) → (result ≡ Err Name → ⊥) → (result ≡ Err Blocks → ⊥) → (result ≡ Err State → ⊥) → (result ≡ Err Length → ⊥)
    → IfErr result (λ fault. fault ≡ Memory)
finish_memory (Ok table) among name blocks state last = tt
finish_memory (Err fault) among name blocks state last =
    finish_fault fault among (λ same. name (ap Err same)) (λ same. blocks (ap Err same)) (λ same. state (ap Err same)) (λ same. last (ap Err same))

-- the same, by the disks as they are gone through
pub next_is_new : (setup : SetupValue) → IsSetup setup → (items : List Disk) (i : ℕ) (disk : Disk) (columns : List Column) (name : List ℕ) → items ≡ setup.disks → i < length items → disk ≡ get_or items i disk
    → columns ≡ map empty_column (take i items) → name ≡ disk.name → IsNewName columns name
next_is_new setup is items i disk columns name same within here columns_are name_is =
    let all = ap length same in
    let there : disk ≡ get_or setup.disks i disk = here ∙ ap (λ ds. get_or ds i disk) same in
    let new = next_name setup is i disk (omega (arith, within, all)) there in
    subst (λ n. IsNewName columns n) (sym name_is) (subst (λ cs. IsNewName cs disk.name) (sym (columns_are ∙ ap (λ ds. map empty_column (take i ds)) same)) new)

pub some_columns : (columns : List Column) (items : List Disk) (at : ℕ) → columns ≡ map empty_column (take at items) → columns ≡ [] → length items ≤ at → 1 ≤ length items → ⊥
some_columns columns items at are none whole some =
    let count = ap length are in
    let zero_long = ap length none in
    omega (arith, count, zero_long, whole, some, length-map (take at items) empty_column, length-take at items)
