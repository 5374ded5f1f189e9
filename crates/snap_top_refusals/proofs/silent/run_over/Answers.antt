use Rattle.std.proofs.Common.{◌≤◌, List, [], ◌∷◌, ℕ, map, string_bytes, refl, ap, ◌∙◌, arith}
use Rattle.disk_model.specs.Sink.{SinkView}
use Rattle.snap_top_refusals.proofs.silent.run_over.Goals as goal

pub returns : goal.returns
returns g c =
    let made = c.run-outcome in
    let few : made.result.status ≤ 1 = omega (arith, c.if-outcome-gt1.false) in
    record {
      run = record {
        texts = map string_bytes c.args.words.now;
        opener = c.args.opener.now;
        opener_new = made.new.opener;
        out = c.new-out.result;
        out_new = made.new.out;
        moment = 100;
        seed = 97 ∷ 98 ∷ 99 ∷ 100 ∷ 101 ∷ 102 ∷ 103 ∷ 104 ∷ 105 ∷ 106 ∷ 107 ∷ 108 ∷ 109 ∷ 110 ∷ 111 ∷ 112 ∷ [];
        folders = made.result.folders.items;
        vault = made.result.vault;
        status = made.result.status;
      };
      err = c.new-err.result;
      err_new = made.new.err;
      end = made.ensures.ended.end;
      ends_by = made.ensures.ended.status_is;
      said = made.ensures.ended.said;
      tells = ap (λ (s : SinkView). s.tells) c.new-err.ensures.view;
      begins = ap (λ (s : SinkView). s.written) c.new-err.ensures.view;
      few = few;
      printed_some = λ same. c.says_else.ensures c.if-not-says_else.false (c.bytes.ensures ∙ same ∙ ap (λ (s : SinkView). s.written) c.new-out.ensures.view);
      silent = made.ensures.silent few (ap (λ (s : SinkView). s.tells) c.new-err.ensures.view);
      status_is = refl;
    }
