-- A table stays valid when what is known of a stripe is set.
use Rattle.std.proofs.Common.{◌≡◌, inl, inr, ℕ, ◌<◌, ◌≤◌, length, get_or, set, sym, ap, ◌∙◌, subst, arith}
use Rattle.std.proofs.lemmas.List.{length-set, get_or-set_same, get_or-set_other}
use Rattle.std.proofs.lemmas.List.Elements.{All-set}
use Rattle.std.proofs.lemmas.Bool.Decides.{eqb_tells}
use Rattle.file_table.specs.declared.info.Info.{Info}
use Rattle.file_table.specs.declared.info.Mark.TheVariants.{Synced}
use Rattle.file_table.specs.Table.{TableValue, no_info}
use Rattle.file_table.specs.Valid.{IsValid, IsInfo, IsHashedAt, AreColumns, most_blocks}

pub valid-set_info : (table : TableValue) (stripe : ℕ) (info : Info) → IsValid table → stripe < length table.infos → IsInfo info → (info.mark ≡ Synced → IsHashedAt table.columns stripe) → IsValid (record table { infos = set table.infos stripe info })
valid-set_info table stripe info is within info_is hashed =
    let long : length (set table.infos stripe info) ≡ length table.infos = length-set table.infos stripe info in
    record {
      shape = is.shape;
      some_column = is.some_column;
      columns = subst (λ (n : ℕ). AreColumns n table.shape.block_size table.columns) (sym long) is.columns;
      whole = is.whole;
      short = subst (λ (n : ℕ). n ≤ most_blocks) (sym long) is.short;
      length_is = long ∙ is.length_is;
      infos = record {
        each = All-set IsInfo table.infos stripe info info_is is.infos.each;
        hashed = λ other below synced. elim (eqb_tells other stripe) [
          | inl same ↦
              let here : get_or (set table.infos stripe info) other no_info ≡ info = ap (λ (n : ℕ). get_or (set table.infos stripe info) n no_info) same.1 ∙ get_or-set_same table.infos stripe info no_info within in
              subst (IsHashedAt table.columns) (sym same.1) (hashed (ap (λ (i : Info). i.mark) (sym here) ∙ synced))
          | inr apart ↦ is.infos.hashed other (omega arith) (ap (λ (i : Info). i.mark) (sym (get_or-set_other table.infos stripe other info no_info apart.1)) ∙ synced)
        ];
      };
    }
