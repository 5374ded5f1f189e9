use Rattle.std.proofs.Common.{List, [], ◌∷◌, ℕ, map, string_bytes, refl, ap}
use Rattle.disk_model.specs.Sink.{SinkView}
use Rattle.snap_top_refusals.proofs.exercised.run_over_nothing.Goals as goal

pub returns : goal.returns
returns g c =
    let made = c.run-outcome in
    record {
      run = record {
        texts = map string_bytes c.args.words.now;
        opener = c.new-opener.result;
        opener_new = made.new.opener;
        out = c.new-out.result;
        out_new = made.new.out;
        moment = 100;
        seed = 97 ∷ 98 ∷ 99 ∷ 100 ∷ 101 ∷ 102 ∷ 103 ∷ 104 ∷ 105 ∷ 106 ∷ 107 ∷ 108 ∷ 109 ∷ 110 ∷ 111 ∷ 112 ∷ [];
        folders = made.result.folders.items;
        vault = made.result.vault;
        status = made.result.status;
      };
      texts_are = refl;
      status_is = refl;
      out_is = refl;
      tells = refl;
      account = made.ensures.account;
      complete = made.ensures.complete;
      out_begins = ap (λ (s : SinkView). s.written) c.new-out.ensures.view;
    }
