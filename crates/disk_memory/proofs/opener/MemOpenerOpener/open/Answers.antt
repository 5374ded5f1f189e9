use Rattle.std.proofs.Common.{◌≡◌, ◌<◌, length, Some, IfSome, refl, sym, ◌∙◌, subst, arith, rules, true, inl, inr}
use Rattle.std.specs.Vec.{vec_len}
use Rattle.disk_model.specs.Answer.{is_failure}
use Rattle.disk_model.specs.declared.answer.Answer.{Answer}
use Rattle.disk_model.specs.Opener.{OpenerCall, OpenerDone, Open}
use Rattle.disk_model.specs.Vault.{copies_of}
use Rattle.disk_model.specs.declared.opener.Opened.{Opened}
use Rattle.disk_memory.specs.Given.{AreSoMany, CanGive}
use Rattle.disk_memory.specs.Calls.{opener_call}
use Rattle.disk_memory.proofs.PastLemmas.{grows_failed, grows_done}
use Rattle.disk_memory.proofs.OpenerLemmas.{given_as_held}
use Rattle.disk_memory.proofs.opener.MemOpenerOpener.open.Goals as goal
use Rattle.disk_memory.proofs.opener.MemOpenerOpener.open.Goals.{in-Some, in-None, then-not-may-via-then-not-may, then-not-may-via-else-not-may+then-not-fits}

pub returns-in-Some-take-clause-folders : goal.returns-in-Some-take-clause-folders
returns-in-Some-take-clause-folders g c = λ column below.
    let opened = c.in-Some-take.opened in
    let is : c.args.self.now.held ≡ Some opened = elim c.match-self.branch [
      | in-Some w ↦ sym (rw w.self-is at c.take.ensures.value) ∙ c.in-Some-take.is
      | in-None w ↦ sym (rw w.self-is at c.take.ensures.value) ∙ c.in-Some-take.is
    ] in
    let can : CanGive g.F.Folder.view opened.folders.items (g.V.Vault.view opened.vault) = subst (λ h. IfSome h (λ o. CanGive g.F.Folder.view o.folders.items (g.V.Vault.view o.vault))) is c.args.self.now.can_give in
    let within : column < length opened.folders.items = omega (arith, below, opened.folders.ok.0) in
    given_as_held g.F.Folder.view (λ (o : Opened g.row.F.Denot g.row.V.Denot). o.folders.items) c.args.self.now.held opened is can.are_open column within

abbrev done : OpenerCall → Answer → OpenerDone
done call answer = record { call = call; failed = is_failure answer }

pub returns-then-not-may-clause-call : goal.returns-then-not-may-clause-call
returns-then-not-may-clause-call g c =
    let places = c.args.places.now in
    let call = Open places.dirs.items places.parities.items places.contents.items in
    let grows = grows_failed opener_call done c.open_entry-entry.result call c.args.self.now.past c.begin-may.new.past c.begin-may.ensures.noted c.begin-may.ensures.refused c.open_entry-entry.ensures in
    record { goes_on = record { later = search rules; tells = refl; calls = grows }; cause = search rules }

pub returns-in-Some-take-clause-call : goal.returns-in-Some-take-clause-call
returns-in-Some-take-clause-call g c =
    let places = c.args.places.now in
    let call = Open places.dirs.items places.parities.items places.contents.items in
    let grows = grows_done opener_call done c.open_entry-entry.result call c.args.self.now.past c.begin-may.new.past c.end.new.self c.begin-may.ensures.noted c.begin-may.ensures.refused c.end.ensures c.open_entry-entry.ensures in
    record { goes_on = record { later = search rules; tells = refl; calls = grows }; cause = search rules }

pub returns-then-not-may-clause-scheduled : goal.returns-then-not-may-clause-scheduled
returns-then-not-may-clause-scheduled g c =
    let places = c.args.places.now in
    record {
      obeys = search rules;
      only = λ failed. elim c.then-not-may.branch [
        | then-not-may-via-then-not-may w ↦ inl (search rules)
        | then-not-may-via-else-not-may+then-not-fits w ↦ inr (λ fits. elim c.match-self.branch [
          | in-Some v ↦
              let many : AreSoMany places (vec_len v.in-Some.held.folders) (g.V.Vault.view v.in-Some.held.vault).levels (copies_of (g.V.Vault.view v.in-Some.held.vault)) = rw v.in-Some.is at fits in
              let seen : AreSoMany places v.len.result v.levels-levels.result v.copies.result = record { folders_are = v.len.ensures ∙ many.folders_are; levels_are = v.levels-levels.ensures ∙ many.levels_are; copies_are = v.copies.ensures ∙ many.copies_are } in
              let found : v.are_so_many-fits.result ≡ true = v.are_so_many-fits.ensures.1 seen in
              cc
          | in-None v ↦ rw v.in-None.is at fits
        ])
      ];
    }
