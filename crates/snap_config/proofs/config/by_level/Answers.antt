use Rattle.std.proofs.Common.{◌≡◌, ◌++◌, length, map, option_to_list, sym, ap, ◌∙◌, arith}
use Rattle.std.specs.List.{flat_map}
use Rattle.std.proofs.lemmas.List.{map-append}
use Rattle.std.proofs.lemmas.List.Concat.{flat_map-append}
use Rattle.snap_config.specs.Config.{files_of}
use Rattle.snap_config.proofs.ConfigLemmas.{files_below, files_below-none, files_below-next, files_below-all}
use Rattle.snap_config.proofs.config.by_level.Goals as goal

pub loop-level-init : goal.loop-level-init
loop-level-init c = record {
  files = c.new-files.ensures.items ∙ sym (ap (flat_map (λ files. files)) (files_below-none c.args.parities.now));
  parts = c.new-parts.ensures.items ∙ sym (ap (map length) (files_below-none c.args.parities.now));
}

pub loop-level-preserved : goal.loop-level-preserved
loop-level-preserved c =
    let before = files_below c.args.parities.now c.loop-level.level in
    let here = option_to_list (files_of c.args.parities.now c.loop-level.level) in
    let next = files_below-next c.args.parities.now c.loop-level.level (omega arith) in
    record {
      files = c.in_ok-push_level.ensures.files ∙ ap (λ files. files ++ flat_map (λ files. files) here) c.loop-level.invariant.files
          ∙ sym (flat_map-append (λ files. files) before here) ∙ ap (flat_map (λ files. files)) (sym next);
      parts = c.in_ok-push_level.ensures.parts ∙ ap (λ parts. parts ++ map length here) c.loop-level.invariant.parts
          ∙ sym (map-append length before here) ∙ ap (map length) (sym next);
    }

pub returns-clause-files : goal.returns-clause-files
returns-clause-files c =
    let six : c.loop-level.level ≡ 6 = omega arith in
    c.loop-level.invariant.files ∙ ap (λ n. flat_map (λ files. files) (files_below c.args.parities.now n)) six ∙ ap (flat_map (λ files. files)) (files_below-all c.args.parities.now)

pub returns-clause-parts : goal.returns-clause-parts
returns-clause-parts c =
    let six : c.loop-level.level ≡ 6 = omega arith in
    c.loop-level.invariant.parts ∙ ap (λ n. map length (files_below c.args.parities.now n)) six ∙ ap (map length) (files_below-all c.args.parities.now)
