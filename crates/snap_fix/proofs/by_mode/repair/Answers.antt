use Rattle.std.proofs.Common.{◌≡◌, map, sym, ap, ◌∙◌, subst}
use Rattle.std.proofs.lemmas.List.{length-map}
use Rattle.array_setup.specs.Setup.{setup_value}
use Rattle.repair_scope.specs.declared.scope.Mode.{Mode}
use Rattle.snap_fix.specs.Beginning.{BeginsNot}
use Rattle.snap_fix.specs.ByMode.{AreOpenFor}
use Rattle.snap_fix.specs.Course.{outside}
use Rattle.repair_scope.specs.Plan.{names_of}
use Rattle.snap_fix.proofs.ByModeLemmas.{checked, fix_caused, fix_leaves, fixed, leaves_all, nested, not_caused, not_checked, not_fixed}
use Rattle.snap_fix.proofs.by_mode.repair.Goals as goal

pub fix-requires-clause-open : goal.fix-requires-clause-open
fix-requires-clause-open g c κs within =
    subst (λ (m : Mode). AreOpenFor m c.args.table.now (map g.F.Folder.view c.args.folders.now)) c.in-Fix.is c.requires.open

pub returns-in-Check : goal.returns-in-Check
returns-in-Check g c =
    let old = outside (map g.F.Folder.view c.args.folders.now) (g.V.Vault.view c.args.vault.now) (g.P.Spare.holding c.args.spare.now) c.args.lines.now c.args.reports.now.items in
    let new = outside (map g.F.Folder.view c.check.new.folders) (g.V.Vault.view c.check.new.vault) (g.P.Spare.holding c.check.new.spare) c.check.new.lines c.check.new.reports.items in
    let names = names_of (setup_value c.args.setup.now) in
    let same_vault = c.check.new.vault ≡ c.args.vault.now in
    let same_spare = c.check.new.spare ≡ c.args.spare.now in
    let same_lines = c.check.new.lines ≡ c.args.lines.now in
    let same_reports = c.check.new.reports ≡ c.args.reports.now in
    let untouched = same_vault × same_spare × same_lines × same_reports in
    let begun = nested c.check.result (BeginsNot old.folders new.folders) same_vault same_spare same_lines same_reports c.check.ensures.failed in
    let many = length-map c.check.new.folders g.F.Folder.view ∙ c.check.auto.folders ∙ sym (length-map c.args.folders.now g.F.Folder.view) in
    record {
      repairs = checked _ _ _ c.args.selection.now names c.args.table.now old new c.check.result c.args.mode c.in-Check.is c.check.ensures.checks;
      failed = not_checked _ _ _ c.args.selection.now names c.args.table.now old new c.check.result untouched c.args.mode c.in-Check.is begun;
      leaves = leaves_all _ _ _ c.args.selection.now names c.args.table.now old new c.check.result untouched c.args.mode c.in-Check.is many (λ still. ap g.V.Vault.view still.0) c.check.ensures.checks begun;
      cause = not_caused c.args.mode old.folders new.folders untouched c.check.result begun;
    }

pub returns-in-Fix : goal.returns-in-Fix
returns-in-Fix g c =
    let old = outside (map g.F.Folder.view c.args.folders.now) (g.V.Vault.view c.args.vault.now) (g.P.Spare.holding c.args.spare.now) c.args.lines.now c.args.reports.now.items in
    let new = outside (map g.F.Folder.view c.fix.new.folders) (g.V.Vault.view c.fix.new.vault) (g.P.Spare.holding c.fix.new.spare) c.fix.new.lines c.fix.new.reports.items in
    let names = names_of (setup_value c.args.setup.now) in
    record {
      repairs = fixed _ _ _ c.args.selection.now names c.args.table.now old new c.fix.result c.args.mode c.in-Fix.is c.fix.ensures.fixes;
      failed = not_fixed _ _ _ c.args.selection.now names c.args.table.now old new c.fix.result _ c.args.mode c.in-Fix.is c.fix.ensures.failed;
      leaves = fix_leaves c.args.mode _ _ _ _ c.in-Fix.is;
      cause = fix_caused c.args.mode c.fix.result c.in-Fix.is;
    }
