use Rattle.std.proofs.Common.{◌≡◌, ◌∙◌, ◌<◌, ℕ, List, length, get_or, take, subst, sym, ap, arith, true, false}
use Rattle.file_table.specs.Table.{HasPath}
use Rattle.file_table.specs.Building.{IsNested}
use Rattle.file_table.proofs.NestedLemmas.{nested_found}
use Rattle.file_table.proofs.PartingLemmas.{no_directory, found_where_nested, parts_of_files}
use Rattle.file_table.proofs.disk.Disk.has_directory_of.Goals as goal
use Rattle.file_table.proofs.disk.Disk.has_directory_of.Goals.{then-end-bytes-via-then-end-bytes, then-end-bytes-via-else-end-bytes+then-bytes-end-ne-SLASH}

pub returns-then-end-bytes : goal.returns-then-end-bytes
returns-then-end-bytes c =
    let column = c.args.self.now in
    let path : List ℕ = c.args.path.now in
    let end : ℕ = c.common_prefix-end.result in
    let is_path : c.as_bytes-bytes.result.now ≡ path = c.as_bytes-bytes.ensures.value ∙ c.as_str.ensures.value in
    let last = parts_of_files c.self.inside column c.deref.result.now c.in-Some.last.now c.as_bytes.result.now c.as_bytes-bytes.result.now path end c.self.view_is c.deref.ensures.value c.in-Some.ensures.value
    (c.as_bytes.ensures.value ∙ c.as_str-2.ensures.value) is_path c.common_prefix-end.ensures in
    let none = no_directory column path end c.requires.order (c.requires.greatest last.0) last.1 (λ below slash i held. elim c.then-end-bytes.branch [
      | then-end-bytes-via-then-end-bytes w ↦ omega (arith, w.if-end-bytes.true, ap length is_path)
      | then-end-bytes-via-else-end-bytes+then-bytes-end-ne-SLASH w ↦ w.if-bytes-end-ne-SLASH.true (subst (λ (bytes : List ℕ). get_or bytes end 0 ≡ 47) (sym is_path) slash)
    ]) in
    (λ (is : false ≡ true). absurd (cc), λ nested. absurd (none nested))

pub returns : goal.returns
returns c =
    let column = c.args.self.now in
    let path : List ℕ = c.args.path.now in
    let bytes : List ℕ = c.as_bytes-bytes.result.now in
    let end : ℕ = c.common_prefix-end.result in
    let is_path : bytes ≡ path = c.as_bytes-bytes.ensures.value ∙ c.as_str.ensures.value in
    let last = parts_of_files c.self.inside column c.deref.result.now c.in-Some.last.now c.as_bytes.result.now bytes path end c.self.view_is c.deref.ensures.value c.in-Some.ensures.value
    (c.as_bytes.ensures.value ∙ c.as_str-2.ensures.value) is_path c.common_prefix-end.ensures in
    let below : end < length bytes = omega (arith, c.common_prefix-end.ensures.within_other, c.if-end-bytes.false) in (
      λ some. subst (IsNested column) is_path (nested_found column bytes end c.find.result below c.if-bytes-end-ne-SLASH.false c.find.ensures.found (sym c.is_some.ensures ∙ some)),
      λ nested. c.is_some.ensures ∙ found_where_nested column path end c.find.result c.requires.order (c.requires.greatest last.0) last.1
          (λ i held. c.find.ensures.only i (subst (λ (bs : List ℕ). HasPath column i (take end bs)) (sym is_path) held)) nested,
    )
