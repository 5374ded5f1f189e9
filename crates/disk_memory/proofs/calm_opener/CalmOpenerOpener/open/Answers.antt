use Rattle.std.proofs.Common.{◌≡◌, ◌<◌, length, Some, IfSome, sym, ◌∙◌, subst, arith}
use Rattle.disk_model.specs.declared.opener.Opened.{Opened}
use Rattle.disk_calm.specs.Calm.{calm_folder_view, calm_vault_view}
use Rattle.disk_memory.specs.Given.{CanGive}
use Rattle.disk_calm.specs.declared.folder.CalmFolder.{CalmFolder}
use Rattle.disk_calm.specs.declared.vault.CalmVault.{CalmVault}
use Rattle.disk_memory.proofs.OpenerLemmas.{given_as_held}
use Rattle.disk_memory.proofs.calm_opener.CalmOpenerOpener.open.Goals as goal

pub returns-in-Some-clause-folders : goal.returns-in-Some-clause-folders
returns-in-Some-clause-folders c = λ column below.
    let opened = c.in-Some.opened in
    let is : c.args.self.now.held ≡ Some opened = sym c.take.ensures.value ∙ c.in-Some.is in
    let can : CanGive calm_folder_view opened.folders.items (calm_vault_view opened.vault) = subst (λ h. IfSome h (λ o. CanGive calm_folder_view o.folders.items (calm_vault_view o.vault))) is c.args.self.now.can_give in
    let within : column < length opened.folders.items = omega (arith, below, opened.folders.ok.0) in
    given_as_held calm_folder_view (λ (o : Opened CalmFolder CalmVault). o.folders.items) c.args.self.now.held opened is can.are_open column within
